-- Each part of the session that the client serves was posted to the node, and where it was taken it has come.
use Rattle.std.proofs.Common.{◌≡◌, ◌∙◌, ℕ, true, false, List, [], ◌++◌, reverse, Option, Some, sym, ap, subst}
use Rattle.std.proofs.lemmas.List.{reverse-reverse}
use Rattle.salus_types.specs.declared.names.NodeName.{NodeName}
use Rattle.salus_types.specs.declared.names.Sender.TheVariants as sender
use Rattle.salus_types.specs.declared.records.Record.{Record}
use Rattle.schedule_text.specs.Limits.{IsOfVolume, IsWithinLimits}
use Rattle.schedule_text.specs.declared.schedule.Volume.{Volume}
use Rattle.schedule_text.specs.declared.schedule.Event.{Event}
use Rattle.merkle_region.specs.Tree.{NoTwoCollide}
use Rattle.salus_model.specs.declared.trace.TraceStep.{TraceStep}
use Rattle.salus_model.specs.Judge.{Judge, known_at}
use Rattle.salus_model.specs.Following.{Posted, posted_at, sent_by, Follows}
use Rattle.salus_model.specs.Forgery.{IsPartOf, NoForgery}
use Rattle.salus_model.specs.Guarding.{is_lied_for}
use Rattle.salus_model.specs.Hearing.{Past, judge_of}
use Rattle.salus_model.specs.Due.{history_from}
use Rattle.salus_model.specs.Seen.{strings_of, NoCollision}
use Rattle.salus_model.specs.Complete.{Rooms, IsSound, was_taken}
use Rattle.client_rules.specs.State as state
use Rattle.client_rules.specs.Rules.{new_client}
use Rattle.replica_rules.specs.Nodes.{Memory}
use Rattle.run_rules.specs.Calm.{CalmFrom, Calm}
use Rattle.run_rules.specs.Knowing.{KnownNode, fresh}
use Rattle.run_rules.specs.Rooms.{rooms_of}
use Rattle.run_rules.specs.Run.{IsByRules, formatted_first}
use Rattle.run_rules.specs.Running.{known_of, AllSteps, formatted}
use Rattle.run_rules.specs.Serving.{client_of}
use Rattle.law_lemmas.proofs.Settled.{now-known}
use Rattle.law_history.specs.Handing.{steps_in}
use Rattle.law_history.proofs.Steps.{steps_of_all}
use Rattle.law_answers.specs.Turning.{ComesIn}
use Rattle.law_asked.proofs.Along.{AreGiven}
use Rattle.law_asked.proofs.Run.{first_along, run_given}
use Rattle.law_served.proofs.Fronts.{AtFront, node_listed, first_on, fronts}
use Rattle.law_served.proofs.Coming.{AllSent, IsEnd, first_coming, end_of}

-- one of the messages brings the part to the node; and if it was taken in these steps, the part has come
pub record PartCame (posts : List Posted) (is_full : Rooms) (name : NodeName) (done : List TraceStep) (memory : Option Memory) (rec : Record) : Type 0 where
  pub k : ℕ
  pub post : Posted
  pub at : posted_at posts k ≡ Some post
  pub from : post.from ≡ sender.Client
  pub to : post.to ≡ sender.Node name
  pub came : was_taken is_full (reverse done) k ≡ true → ComesIn rec memory

abbrev pub AllCome : Volume → List Event → List Posted → Rooms → NodeName → List TraceStep → Type 0
AllCome volume events posts is_full name done =
    (rec : Record) → IsPartOf volume.geometry volume.key (judge_of volume.geometry events (history_from volume events posts [] done)).now name.region rec
    → PartCame posts is_full name done (known_of volume.geometry posts name (fresh volume.geometry name.region (formatted volume name)) done).state.memory rec

module _ (volume : Volume) (events : List Event) (posts : List Posted) (trace : List TraceStep) (limits : IsWithinLimits (record { volume = volume; events = events })) (strings : List (List ℕ)) (none : NoTwoCollide strings)
    (unlied : is_lied_for events sender.Client ≡ false) (name : NodeName) (sound : IsSound events trace name)
    (right : AllSteps volume.geometry posts name (fresh volume.geometry name.region (formatted volume name)) 0 trace) (inside : IsOfVolume volume.geometry name) (done : List TraceStep) where
  abbrev history : List Past
  history = history_from volume events posts [] done

  abbrev judge : Judge
  judge = judge_of volume.geometry events history

  abbrev rooms : Rooms
  rooms = rooms_of volume.geometry posts (formatted volume)

  abbrev End : Type 0
  End = IsEnd volume events posts trace limits strings none unlied name sound right inside (node_listed volume.geometry name inside) done history

  come_of : AtFront volume events posts name done → End → (s : state.Serving) → client_of volume posts (new_client volume.geometry) done ≡ state.Serves s → AllCome volume events posts rooms name done
  come_of at end s is rec part =
      let serves : end.c ≡ state.Serves s = sym end.before.client_is ∙ is in
      let parts = subst (λ (d : state.Client). AllSent volume events posts trace limits strings none unlied name sound right inside (node_listed volume.geometry name inside) judge d (sent_by (steps_in history))) serves end.coming.parts in
      let was = parts rec part in
      let session : end.known.state.held.session ≡ judge.now.session = subst (λ (k : KnownNode). k.state.held.session ≡ s.session) end.before.known_is (at.served s is) ∙ (at.now s is).session in
      let known : known_at judge end.known.state.held.session ≡ Some judge.now = ap (known_at judge) session ∙ now-known judge in
      let order : steps_in history ≡ reverse done = sym (reverse-reverse (steps_in history)) ∙ ap reverse end.coming.order in
      let there : end.known.state.memory ≡ Some end.on.stands.m = end.on.stands.there in
      record {
        k = was.k;
        post = was.post;
        at = was.at;
        from = was.from;
        to = was.to;
        came = λ taken.
            subst (λ (k : KnownNode). ComesIn rec k.state.memory) (sym end.before.known_is)
            (subst (λ (o : Option Memory). ComesIn rec o) (sym there)
            (end.coming.come judge.now known end.on.stands.m there was.k (subst (λ (l : List TraceStep). was_taken rooms l was.k ≡ true) (sym order) taken) was.post was.at was.from was.to rec was.reads part));
      }

pub all_come : (volume : Volume) (events : List Event) (posts : List Posted) (trace : List TraceStep) → IsWithinLimits (record { volume = volume; events = events })
    → Follows events posts trace → NoCollision volume events posts trace → NoForgery volume events posts trace → Calm events trace → IsByRules volume (formatted_first volume) posts trace
    → is_lied_for events sender.Client ≡ false → (name : NodeName) → IsOfVolume volume.geometry name → IsSound events trace name → (done rest : List TraceStep) → trace ≡ done ++ rest
    → (s : state.Serving) → client_of volume posts (new_client volume.geometry) done ≡ state.Serves s → AllCome volume events posts (rooms_of volume.geometry posts (formatted volume)) name done
all_come volume events posts trace limits follows apart unforged calm by unlied name inside sound done rest whole s is =
    let strings : List (List ℕ) = strings_of volume.geometry (history_from volume events posts [] trace) in
    let none = steps_of_all volume events posts trace apart in
    let right = by.nodes name in
    let start : KnownNode = fresh volume.geometry name.region (formatted volume name) in
    let before = first_along volume events posts trace limits strings none unlied name sound right in
    let given = run_given volume events posts trace limits follows apart unforged by unlied name sound in
    come_of volume events posts trace limits strings none unlied name sound right inside done
    (fronts volume events posts trace limits strings none unlied name sound right inside before given calm done rest whole)
    (end_of volume events posts trace limits strings none unlied name sound right inside (node_listed volume.geometry name inside) done rest [] [] 1 1 (new_client volume.geometry) start before
    (first_on volume events posts trace limits strings none unlied name sound right inside)
    (first_coming volume events posts trace limits strings none unlied name sound right inside (node_listed volume.geometry name inside))
    (subst (λ (l : List TraceStep). AreGiven volume events posts trace limits strings none unlied name sound right [] 1 2 (new_client volume.geometry) start [] l) whole given)
    (subst (λ (l : List TraceStep). CalmFrom events [] l) whole calm)) s is
