-- Where all that the client sent to a sound node was taken, its view has reached each part of the session that is served.
use Rattle.std.proofs.Common.{◌≡◌, ◌∙◌, inl, inr, ℕ, zero, suc, ◌+◌, ◌<◌, ◌≤◌, ◌&&◌, ◌||◌, Bool, true, false, if◌then◌else◌, List, [], ◌++◌, reverse, length, Option, sym, ap, ap₂, subst, arith}
use Rattle.std.specs.Prelude.{IfSome}
use Rattle.std.proofs.lemmas.Bool.{true≢false, cases_lt}
use Rattle.std.proofs.lemmas.Option.{same_Some}
use Rattle.salus_types.specs.Volume.{Shape}
use Rattle.salus_types.specs.declared.names.NodeName.{NodeName}
use Rattle.salus_types.specs.declared.names.Sender.{Sender}
use Rattle.salus_types.specs.declared.names.Sender.TheVariants as sender
use Rattle.salus_types.specs.declared.records.Record.{Record}
use Rattle.schedule_text.specs.Limits.{IsOfVolume, IsWithinLimits}
use Rattle.schedule_text.specs.declared.schedule.Volume.{Volume}
use Rattle.schedule_text.specs.declared.schedule.Event.{Event}
use Rattle.volume_model.specs.Groups.{is_client, same_party}
use Rattle.volume_model.specs.Parts.{Session, touches, batch_at, number_of}
use Rattle.salus_model.specs.declared.trace.TraceStep.{TraceStep}
use Rattle.salus_model.specs.Judge.{Judge, known_at}
use Rattle.salus_model.specs.Following.{Posted, Follows}
use Rattle.salus_model.specs.Forgery.{IsPartOf, NoForgery}
use Rattle.salus_model.specs.Guarding.{is_lied_for}
use Rattle.salus_model.specs.Hearing.{judge_of}
use Rattle.salus_model.specs.Due.{history_from}
use Rattle.salus_model.specs.Seen.{strings_of, NoCollision}
use Rattle.salus_model.specs.Complete.{Rooms, IsSound, AllTaken, is_between, was_taken}
use Rattle.client_rules.specs.State as state
use Rattle.client_rules.specs.Rules.{new_client}
use Rattle.replica_rules.specs.Nodes.{Memory}
use Rattle.run_rules.specs.Calm.{Calm}
use Rattle.run_rules.specs.Rooms.{rooms_of}
use Rattle.run_rules.specs.Run.{IsByRules, formatted_first}
use Rattle.run_rules.specs.Running.{formatted}
use Rattle.run_rules.specs.Serving.{client_of}
use Rattle.list_lemmas.proofs.Tests.{by_bool}
use Rattle.law_lemmas.proofs.Named.{node-itself}
use Rattle.law_lemmas.proofs.Numbered.{IsSized, number_of-more}
use Rattle.law_lemmas.proofs.Settled.{now-known}
use Rattle.law_history.proofs.Steps.{steps_of_all}
use Rattle.law_answers.specs.Turning.{IsInTurn, HasCome, ComesIn}
use Rattle.law_reads.specs.Chained.{IsViewOf, IsLastView}
use Rattle.law_reads.proofs.Sessions.{last_reached}
use Rattle.law_asked.proofs.Run.{first_along, run_given}
use Rattle.law_served.proofs.Extending.{part-number}
use Rattle.law_served.proofs.Fronts.{AtFront, IsServed, fronts}
use Rattle.law_served.proofs.Come.{PartCame, AllCome, all_come}
use Rattle.law_complete.specs.Beginning.{node_after, HasReachedAll}

-- ---- the region's number reaches each batch that touches it

module _ (shape : Shape) (known : Session) (sized : IsSized shape known) (g s : ℕ) (own : known.base < s) (touched : touches shape (batch_at known s) g ≡ true) where
  up_to : (n : ℕ) → s ≤ n → n ≤ length known.list → s ≤ number_of shape known n g
  up_to zero low within = absurd (omega (arith, own, low))
  up_to (suc n) low within =
      let more : number_of shape known (n + 1) g ≡ (if touches shape (batch_at known (n + 1)) g then n + 1 else number_of shape known n g) =
      number_of-more shape known sized n g (omega (arith, own, low)) (omega (arith, within)) in
      let next : n + 1 ≡ suc n = omega arith in
      subst (λ (k : ℕ). s ≤ number_of shape known k g) next
      (by_bool (touches shape (batch_at known (n + 1)) g) (s ≤ number_of shape known (n + 1) g)
      (λ hit. (let here : number_of shape known (n + 1) g ≡ n + 1 = more ∙ ap (λ (t : Bool). if t then n + 1 else number_of shape known n g) hit in omega (arith, here, low)))
      (λ miss.
      let here : number_of shape known (n + 1) g ≡ number_of shape known n g = more ∙ ap (λ (t : Bool). if t then n + 1 else number_of shape known n g) miss in
      elim (cases_lt n s) [
        | inl above ↦ absurd (true≢false (sym touched ∙ (ap (λ (k : ℕ). touches shape (batch_at known k) g) (same above) ∙ miss)))
        | inr below ↦ (let was : s ≤ number_of shape known n g = up_to n below (omega (arith, within)) in omega (arith, here, was))
      ]))
    where
      same : n < s → s ≡ n + 1
      same above = omega (arith, above, low)

-- ---- at the end of a front part

module _ (volume : Volume) (events : List Event) (posts : List Posted) (name : NodeName) (is_full : Rooms) (inside : IsOfVolume volume.geometry name) (done : List TraceStep) (here : AtFront volume events posts name done)
    (taken : AllTaken posts is_full done name) (come : AllCome volume events posts is_full name done) (s : state.Serving) (client_is : client_of volume posts (new_client volume.geometry) done ≡ state.Serves s) where
  abbrev shape : Shape
  shape = volume.geometry

  abbrev judge : Judge
  judge = judge_of volume.geometry events (history_from volume events posts [] done)

  now : IsServed volume judge s
  now = here.now s client_is

  turn : IsInTurn (IsPartOf shape volume.key judge.now name.region) (IsViewOf shape judge.now name.region) here.stands.m.replica
  turn =
      subst (λ (k : Session). IsInTurn (IsPartOf shape volume.key k name.region) (IsViewOf shape k name.region) here.stands.m.replica)
      (same_Some here.stands.known judge.now (sym here.stands.at ∙ (ap (known_at judge) (here.served s client_is ∙ now.session) ∙ now-known judge))) here.stands.turn

  has_come : (rec : Record) → PartCame posts is_full name done (node_after volume posts name done).memory rec → HasCome rec here.stands.m.replica
  has_come rec came =
      let between : is_between name came.post ≡ true =
      ap₂ (λ (a b : Sender). (is_client a && same_party b (sender.Node name)) || (same_party a (sender.Node name) && is_client b)) came.from came.to ∙ ap (λ (w : Bool). w || false) (node-itself name) in
      let was : was_taken is_full (reverse done) came.k ≡ true = (subst (λ (o : Option Posted). IfSome o (λ m. is_between name m ≡ true → was_taken is_full (reverse done) came.k ≡ true)) came.at (taken came.k)) between in
      subst (λ (o : Option Memory). ComesIn rec o) here.stands.there (came.came was)

  last : IsLastView shape judge.now name.region here.stands.m.replica.view
  last = last_reached shape volume.key judge.now now.sized name.region inside.0 here.stands.m.replica turn (λ rec part. has_come rec (come rec part))

  reached_by : (rec : Record) → IsPartOf shape volume.key judge.now name.region rec → rec.header.seq ≤ here.stands.m.replica.view.number
  reached_by rec part =
      let seq : rec.header.seq ≡ part.s = ap (λ (r : Record). r.header.seq) part.is ∙ part-number shape volume.key name.region judge.now part.s in
      let number : here.stands.m.replica.view.number ≡ number_of shape judge.now (length judge.now.list) name.region = last.number in
      let up : part.s ≤ number_of shape judge.now (length judge.now.list) name.region =
      up_to shape judge.now now.sized name.region part.s part.own part.touched (length judge.now.list) part.within (omega arith) in
      omega (arith, seq, number, up)

  pub reached_all : HasReachedAll volume posts judge.now name done
  reached_all m is rec part =
      subst (λ (k : Memory). rec.header.seq ≤ k.replica.view.number) (same_Some here.stands.m m (sym here.stands.there ∙ is)) (reached_by rec part)

-- THE LAW.
pub parts_reached : (volume : Volume) (events : List Event) (posts : List Posted) (trace : List TraceStep) → IsWithinLimits (record { volume = volume; events = events })
    → Follows events posts trace → NoCollision volume events posts trace → NoForgery volume events posts trace → Calm events trace → IsByRules volume (formatted_first volume) posts trace
    → is_lied_for events sender.Client ≡ false → (name : NodeName) → IsOfVolume volume.geometry name → IsSound events trace name → (done rest : List TraceStep) → trace ≡ done ++ rest
    → (s : state.Serving) → client_of volume posts (new_client volume.geometry) done ≡ state.Serves s → AllTaken posts (rooms_of volume.geometry posts (formatted volume)) done name
    → HasReachedAll volume posts (judge_of volume.geometry events (history_from volume events posts [] done)).now name done
parts_reached volume events posts trace limits follows apart unforged calm by unlied name inside sound done rest whole s is taken =
    let strings : List (List ℕ) = strings_of volume.geometry (history_from volume events posts [] trace) in
    let none = steps_of_all volume events posts trace apart in
    let right = by.nodes name in
    let before = first_along volume events posts trace limits strings none unlied name sound right in
    let given = run_given volume events posts trace limits follows apart unforged by unlied name sound in
    reached_all volume events posts name (rooms_of volume.geometry posts (formatted volume)) inside done
    (fronts volume events posts trace limits strings none unlied name sound right inside before given calm done rest whole) taken
    (all_come volume events posts trace limits follows apart unforged calm by unlied name inside sound done rest whole s is) s is
