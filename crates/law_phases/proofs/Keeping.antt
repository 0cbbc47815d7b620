-- A restart's choice keeps every acknowledged batch, and there is always one.
use Rattle.std.proofs.Common.{◌≡◌, ◌⊎◌, ℕ, zero, ◌<◌, ◌≤◌, ◌∙◌, true, min, List, ◌∷◌, length, take, take-take, length-take, Option, None, Some, is_some, inl, inr, refl, ap, sym, subst, arith}
use Rattle.std.specs.Prelude.{IsSomeAnd}
use Rattle.std.proofs.lemmas.Bool.{cases_eq}
use Rattle.std.proofs.lemmas.Option.{none-some, same_Some}
use Rattle.salus_types.specs.Volume.{Shape, regions}
use Rattle.salus_types.specs.declared.records.Header.{Header}
use Rattle.schedule_text.specs.declared.schedule.Volume.{Volume}
use Rattle.schedule_text.specs.declared.schedule.Event.{Event}
use Rattle.printed_lines.specs.declared.line.Line.TheVariants as line
use Rattle.volume_model.specs.Parts.{Session}
use Rattle.volume_model.specs.Recovering.{choice_of}
use Rattle.salus_model.specs.Judge.{Judge, known_at, last_number, judged, IsPrefixOf, KeepsAll}
use Rattle.salus_model.specs.Hearing.{News, Past, judge_of, news_since, begins, Gathering, phase_of}
use Rattle.salus_model.specs.Opening.{Reply, replies_to, all_replied, pool_of}
use Rattle.law_lemmas.proofs.Settled.{now-known}
use Rattle.law_prefix.specs.Numbers.{Mem}
use Rattle.law_prefix.specs.World as abstract
use Rattle.law_prefix.specs.World.{World, Guarded}
use Rattle.law_prefix.specs.Steps.{AllReplied, IsChoice, Kept}
use Rattle.law_prefix.proofs.Choosing.{Recovers, recovers}
use Rattle.law_prefix.proofs.Staging.{kept}
use Rattle.kept_model.specs.Batches.{touching, list_of, list_at}
use Rattle.kept_model.specs.Nodes.{volume_as, node_number}
use Rattle.kept_model.specs.Phases.{asked_of, IsKnown}
use Rattle.law_records.specs.Replying.{IsOfSound, KnowsSame}
use Rattle.law_records.proofs.Numbers.{length-touching}
use Rattle.law_records.proofs.Recovered.{region-number}
use Rattle.law_records.proofs.Choosing.{is_choice, is_found}
use Rattle.law_phases.specs.Fronts.{AreFronts}
use Rattle.law_phases.specs.Hearing.{AllHeardIn}
use Rattle.law_phases.specs.Moving.{OpensAsked}
use Rattle.law_phases.specs.Opening.{IsBefore}
use Rattle.law_phases.proofs.Told.{heard_since, honest-inside, pool_as, IsPooled, pooled, replies_heard}
use Rattle.law_phases.proofs.Moving.{phase_now}
use Rattle.law_phases.proofs.Sees.{stage_comes}

-- ---- front parts

module _ (judge : Judge) (fronts : AreFronts judge) where
  -- the first batches of a session that isn't below the one served are those of the one served
  pub same_front : (from : Session) (f s : ℕ) → known_at judge f ≡ Some from → judge.now.session ≤ f → s ≤ length from.list → take s from.list ≡ take s judge.now.list
  same_front from f s at up within = elim (cases_eq f judge.now.session) [
    | inl served ↦
        let same : from ≡ judge.now = same_Some from judge.now (sym at ∙ (ap (known_at judge) served ∙ now-known judge)) in
        ap (λ (k : Session). take s k.list) same
    | inr other ↦
        let above : judge.now.session < f = omega (arith, up, other) in
        let front : from.list ≡ take from.base judge.now.list = fronts.each from f at above in
        let long : length from.list ≡ min from.base (length judge.now.list) = ap length front ∙ length-take from.base judge.now.list in
        let low : s ≤ from.base = omega (arith, within, long) in
        ap (take s) front ∙ take-take s from.base judge.now.list low
  ]

  -- one more is staged from such a session
  pub fronts_staged : (shape : Shape) (events : List Event) (e f s : ℕ) (legal : IsPrefixOf events judge e f s) → judge.now.session ≤ f → AreFronts (judged events judge (line.Stage e f s))
  fronts_staged shape events e f s legal up = record {
    each = λ known k at above. elim (stage_comes shape events judge e f s legal known k at) [
      | inl old ↦ fronts.each known k old above
      | inr new ↦
          ap (λ (x : Session). x.list) new.1 ∙ (same_front legal.from f s legal.known up legal.within ∙ ap (λ (x : Session). take x.base judge.now.list) (sym new.1))
    ];
  }

-- where no session above the one served is known
pub fronts_none : (judge : Judge) → ((known : Session) (f : ℕ) → known_at judge f ≡ Some known → f ≤ judge.now.session) → AreFronts judge
fronts_none judge none = record { each = λ known f at above. absurd (let low = none known f at in omega (arith, low, above)) }

-- the session that is opened is the one that was asked for
pub opened_as : (volume : Volume) (events : List Event) (history : List Past) (u : ℕ) (x : News) (w : World) → IsBefore volume events history u x w → (e : ℕ) → phase_of history ≡ Gathering e
    → w.client.asked ≡ e
opened_as volume events history u x w b e at = b.client.asked ∙ subst (λ ph. OpensAsked ph (asked_of history)) at b.opening

-- ---- the choice

module _ (volume : Volume) (events : List Event) (many : 0 < volume.geometry.replicas) (history : List Past) (u : ℕ) (x : News) (w : World) (b : IsBefore volume events history u x w)
    (e : ℕ) (at : phase_of history ≡ Gathering e) (opening : w.client.asked ≡ e) (all : all_replied volume.geometry (replies_to e (x ∷ news_since begins history)) ≡ true) where
  abbrev shape : Shape
  shape = volume.geometry

  abbrev v : abstract.Volume
  v = volume_as shape events

  abbrev judge : Judge
  judge = judge_of shape events history

  abbrev news : List News
  news = x ∷ news_since begins history

  abbrev replies : List Reply
  replies = replies_to e news

  abbrev pool : List abstract.Reply
  pool = pool_as shape many events w e replies

  pub gathering : w.client.phase ≡ abstract.Gathering
  gathering = b.client.phase ∙ phase_now shape history (Gathering e) at

  heard : AllHeardIn shape events w news
  heard = heard_since shape many events w history x begins b.heard_before b.heard_now

  pub replied : AllReplied v w pool
  replied = replies_heard shape many events w e news heard opening all

  same : KnowsSame shape judge w.client
  same = record { lists = b.client.lists; starts = b.client.starts; known = b.client.known_back }

  sound : (r : abstract.Reply) → Mem r pool → IsOfSound shape volume.key judge replies e r
  sound r among =
      let from : IsPooled shape many events w e replies r = pooled shape many events w e replies r among in
      record {
        reply = from.reply;
        is = from.is;
        sound = record {
          among = from.among;
          inside = subst (λ g. g < regions shape) (region-number shape from.reply.name from.low) (honest-inside shape many events (node_number shape from.reply.name) from.honest);
          replica = from.low;
          held = b.sound e from.reply from.among from.low from.honest;
        };
      }

  pub chosen : (h : Header) → choice_of shape (pool_of shape volume.key replies) ≡ Some h → IsChoice v w pool h.session h.seq
  chosen h is = is_choice volume events judge news e b.told w pool same sound h is

  found : Recovers v w b.good b.guarded gathering pool replied
  found = recovers v w b.good b.guarded gathering pool replied

  -- nothing is lost
  pub never_lost : is_some (choice_of shape (pool_of shape volume.key replies)) ≡ true
  never_lost =
      let up : zero < w.client.served = b.good.client.served_up in
      is_found volume events judge news e b.told w pool same sound found.session found.number (by found.enough up) found.is
    where
      by : (w.client.served < found.session) ⊎ (found.session ≡ w.client.served) × (w.client.acked ≤ found.number) → zero < w.client.served → zero < found.session
      by (inl later) up = omega (arith, later, up)
      by (inr here) up = let is = here.0 in omega (arith, is, up)

  -- the choice isn't of a session below the one served
  pub not_below : (h : Header) → choice_of shape (pool_of shape volume.key replies) ≡ Some h → judge.now.session ≤ h.session
  not_below h is =
      let served : w.client.served ≡ judge.now.session = b.client.served in
      by found.enough ((chosen h is).greatest found.session found.number found.is) served
    where
      by : (w.client.served < found.session) ⊎ (found.session ≡ w.client.served) × (w.client.acked ≤ found.number)
          → (found.session < h.session) ⊎ (found.session ≡ h.session) × (found.number ≤ h.seq) → w.client.served ≡ judge.now.session → judge.now.session ≤ h.session
      by (inl later) (inl above) served = omega (arith, later, above, served)
      by (inl later) (inr here) served = let is = here.0 in omega (arith, later, is, served)
      by (inr first) (inl above) served = let is = first.0 in omega (arith, is, above, served)
      by (inr first) (inr here) served = let one = first.0 in let two = here.0 in omega (arith, one, two, served)

  -- and it keeps every acknowledged batch
  pub choice_kept : AreFronts judge → (h : Header) → choice_of shape (pool_of shape volume.key replies) ≡ Some h → IsSomeAnd (known_at judge h.session) (λ from. KeepsAll judge h.seq from)
  choice_kept fronts h is = by (known_at judge h.session) refl where
    choice : IsChoice v w pool h.session h.seq
    choice = chosen h is

    keeps : Kept w.client h.session h.seq
    keeps = kept v w b.good pool h.session h.seq choice b.guarded gathering replied

    unknown : known_at judge h.session ≡ None → IsKnown judge h.session → ⊥
    unknown none (inl zero_is) =
        let up : zero < w.client.served = b.good.client.served_up in
        let served : w.client.served ≡ judge.now.session = b.client.served in
        let low = not_below h is in
        absurd (omega (arith, zero_is, up, served, low))
    unknown none (inr known) = none-some known.0 (sym none ∙ known.1)

    by : (o : Option Session) → known_at judge h.session ≡ o → IsSomeAnd o (λ from. KeepsAll judge h.seq from)
    by None none = absurd (unknown none (b.client.known_there h.session choice.known))
    by (Some from) here =
        let front : w.client.lists w.client.served ≡ touching shape judge.now.list = b.client.lists w.client.served ∙ (ap (list_at shape judge) b.client.served ∙ ap (list_of shape) (now-known judge)) in
        let long : length (w.client.lists w.client.served) ≡ last_number judge = ap length front ∙ length-touching shape judge.now.list in
        let whole : w.client.lists h.session ≡ touching shape from.list = b.client.lists h.session ∙ ap (list_of shape) here in
        let size : length (w.client.lists h.session) ≡ length from.list = ap length whole ∙ length-touching shape from.list in
        record {
          within = subst (λ n. h.seq ≤ n) long keeps.within;
          same = same_front judge fronts from h.session h.seq here (not_below h is) (subst (λ n. h.seq ≤ n) size choice.within);
          acknowledged = subst (λ n. n ≤ h.seq) b.client.acked keeps.acked;
        }
