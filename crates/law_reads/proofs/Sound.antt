-- A sound server: in its steps no call fails and nothing is loaded, so it speaks.
use Rattle.std.proofs.Common.{◌≡◌, ◌∙◌, ⊎_elim, ℕ, ◌-◌, nat_lt, Bool, true, false, ◌&&◌, not, if◌then◌else◌, List, [], ◌∷◌, Option, None, Some, refl, sym, ap, ap₂, subst}
use Rattle.std.specs.Prelude.{slice_get}
use Rattle.std.specs.Option.{option_map_or}
use Rattle.std.specs.List.{list_any, range_with_len}
use Rattle.std.proofs.lemmas.Bool.{true≢false}
use Rattle.salus_types.specs.Volume.{Shape}
use Rattle.salus_types.specs.declared.names.NodeName.{NodeName}
use Rattle.salus_types.specs.declared.names.Sender.{Sender}
use Rattle.salus_types.specs.declared.names.Sender.TheVariants as sender
use Rattle.salus_types.specs.declared.records.Held.{Held}
use Rattle.schedule_text.specs.declared.schedule.Event.{Event}
use Rattle.schedule_text.specs.declared.schedule.Event.TheVariants as event
use Rattle.merkle_region.specs.Tree.{IsAmong}
use Rattle.volume_model.specs.Groups.{same_party}
use Rattle.salus_model.specs.declared.trace.Handed.{Handed}
use Rattle.salus_model.specs.declared.trace.Handed.TheVariants as handed
use Rattle.salus_model.specs.declared.trace.TraceStep.{TraceStep}
use Rattle.salus_model.specs.Following.{Posted}
use Rattle.salus_model.specs.Judge.{event_at}
use Rattle.salus_model.specs.Guarding.{is_lied_for, names_replaced}
use Rattle.salus_model.specs.Complete.{names_harmed, is_stop, IsSound}
use Rattle.replica_rules.specs.Rules.{Input, handled}
use Rattle.run_rules.specs.Knowing.{KnownNode, after_input, input_of, known_to, LoadsRight}
use Rattle.run_rules.specs.Running.{IsNodeStep}
use Rattle.run_rules.specs.Calm.{names_failing, is_failing_by, is_harmed, is_harmed_party, MayFail}
use Rattle.list_lemmas.proofs.Lists.{get_among}
use Rattle.list_lemmas.proofs.Members.{any_from, any_among}
use Rattle.list_lemmas.proofs.Tests.{by_bool, and_left}
use Rattle.law_lemmas.proofs.Named.{node-itself}
use Rattle.law_reads.proofs.Events.{OfHanded}

-- ---- no event harms it

fails_not : (name : NodeName) (e : Event) → names_failing name (Some e) ≡ true → names_harmed name e ≡ true
fails_not name (event.Fail node call) is = is
fails_not name (event.Crash node keep fill) is = absurd (true≢false (sym is))
fails_not name (event.Write batch) is = absurd (true≢false (sym is))
fails_not name (event.Read block) is = absurd (true≢false (sym is))
fails_not name event.Barrier is = absurd (true≢false (sym is))
fails_not name (event.Deliver k) is = absurd (true≢false (sym is))
fails_not name (event.Settle count) is = absurd (true≢false (sym is))
fails_not name (event.Drop k) is = absurd (true≢false (sym is))
fails_not name (event.Lie from to bytes) is = absurd (true≢false (sym is))
fails_not name (event.Stop k calls keep fill) is = absurd (true≢false (sym is))
fails_not name (event.Replace node) is = absurd (true≢false (sym is))
fails_not name event.ClientCrash is = absurd (true≢false (sym is))
fails_not name (event.Restart session) is = absurd (true≢false (sym is))
fails_not name (event.Reassign session region) is = absurd (true≢false (sym is))
fails_not name (event.Tick party) is = absurd (true≢false (sym is))

some_among : (b : Bool) (o : Option Event) (e : Event) → (if b then o else None) ≡ Some e → o ≡ Some e
some_among true o e is = is
some_among false o e is = absurd (cc)

named_harmed : (events : List Event) (name : NodeName) (u : ℕ) (o : Option Event) → event_at events u ≡ o → names_failing name o ≡ true → list_any (names_harmed name) events ≡ true
named_harmed events name u None at is = absurd (true≢false (sym is))
named_harmed events name u (Some e) at is =
    any_from (names_harmed name) e events (get_among events (u - 1) e (some_among (nat_lt 0 u) (slice_get events (u - 1)) e at)) (fails_not name e is)

harmed_named : (events : List Event) (earlier : List TraceStep) (n : ℕ) (name : NodeName) → is_harmed events earlier n name ≡ true → list_any (names_harmed name) events ≡ true
harmed_named events earlier n name is =
    let u = any_among (λ u. is_failing_by events earlier name u) (range_with_len 1 (n - 1)) is in
    named_harmed events name u.0 (event_at events u.0) refl (and_left (names_failing name (event_at events u.0)) _ u.2)

module _ (events : List Event) (posts : List Posted) (trace : List TraceStep) (name : NodeName) (sound : IsSound events trace name) where
  not_stopped : (t : TraceStep) → IsAmong t trace → t.party ≡ sender.Node name → is_stop t.handed ≡ false
  not_stopped t among party =
      by_bool (is_stop t.handed) (is_stop t.handed ≡ false)
      (λ stop. absurd (true≢false (sym (any_from (λ (s : TraceStep). is_stop s.handed && same_party s.party (sender.Node name)) t trace among
      (ap (λ (w : Bool). w && same_party t.party (sender.Node name)) stop ∙ (ap (λ (w : Sender). same_party w (sender.Node name)) party ∙ node-itself name))) ∙ sound.unstopped)))
      (λ e. e)

  -- no call fails
  pub calm_step : (earlier : List TraceStep) (t : TraceStep) → IsAmong t trace → t.party ≡ sender.Node name → (t.failed ≡ true → MayFail events earlier t) → t.failed ≡ false
  calm_step earlier t among party may =
      by_bool t.failed (t.failed ≡ false)
      (λ failed. absurd (⊎_elim (λ (stop : is_stop t.handed ≡ true). true≢false (sym stop ∙ not_stopped t among party))
      (λ (harmed : is_harmed_party events earlier t.event t.party ≡ true).
      true≢false (sym (harmed_named events earlier t.event name (ap (λ (w : Sender). is_harmed_party events earlier t.event w) (sym party) ∙ harmed)) ∙ sound.unharmed)) (may failed)))
      (λ e. e)

  not_replaced : list_any (λ e. names_replaced name e) events ≡ false
  not_replaced = by_bool (list_any (λ e. names_replaced name e) events) (list_any (λ e. names_replaced name e) events ≡ false)
      (λ is. absurd (true≢false (sym sound.right ∙ ap (λ (w : Bool). not (is_lied_for events (sender.Node name)) && not w) is ∙ never (not (is_lied_for events (sender.Node name))))))
      (λ e. e)
    where
      never : (b : Bool) → (b && false) ≡ false
      never true = refl
      never false = refl

  same_one : (node : NodeName) → sender.Node name ≡ sender.Node node → name ≡ node
  same_one node is = cc

  -- nothing is loaded
  loaded_none : (shape : Shape) (known : KnownNode) (what : Handed) (failed : Bool) (loaded : Option Held) → OfHanded events posts (sender.Node name) what → is_stop what ≡ false
      → LoadsRight shape name.region posts known what failed loaded → loaded ≡ None
  loaded_none shape known (handed.Deliver k) failed loaded of runs right = right
  loaded_none shape known (handed.Lie from bytes) failed loaded of runs right = right
  loaded_none shape known handed.Tick failed loaded of runs right = right
  loaded_none shape known (handed.Stop k) failed loaded of runs right = absurd (true≢false runs)
  loaded_none shape known (handed.Asked r) failed loaded of runs right = right.1
  loaded_none shape known handed.ClientCrash failed loaded of runs right = right.1
  loaded_none shape known handed.Crash failed loaded of runs right =
      absurd (true≢false (sym of.2 ∙ (ap (λ (n : NodeName). list_any (names_harmed n) events) (sym (same_one of.0 of.1)) ∙ sound.unharmed)))
  loaded_none shape known handed.Replace failed loaded of runs right =
      absurd (true≢false (sym of.2 ∙ (ap (λ (n : NodeName). list_any (λ e. names_replaced n e) events) (sym (same_one of.0 of.1)) ∙ not_replaced)))

  pub unloaded_step : (shape : Shape) (known : KnownNode) (before : ℕ) (t : TraceStep) → IsAmong t trace → t.party ≡ sender.Node name → OfHanded events posts t.party t.handed
      → IsNodeStep shape posts name known before t → t.loaded ≡ None
  unloaded_step shape known before t among party of by =
      loaded_none shape known t.handed t.failed t.loaded (subst (λ (w : Sender). OfHanded events posts w t.handed) party of) (not_stopped t among party) by.loads

-- so it goes on speaking
speaks_input : (shape : Shape) (posts : List Posted) (g : ℕ) (known : KnownNode) (o : Option Input) → known.silent ≡ false → (option_map_or (λ input. after_input shape g known input false) o known).silent ≡ false
speaks_input shape posts g known None speaks = speaks
speaks_input shape posts g known (Some input) speaks =
    ap (λ (w : Bool). (if w then known else record { state = (handled shape g known.state input).node; silent = false; contents = (handled shape g known.state input).node.held ∷ [] }).silent) speaks

pub speaks_then : (shape : Shape) (posts : List Posted) (g : ℕ) (known : KnownNode) (what : Handed) (failed : Bool) (loaded : Option Held) → known.silent ≡ false → failed ≡ false → loaded ≡ None
    → (known_to shape g posts known what failed loaded).silent ≡ false
speaks_then shape posts g known what failed loaded speaks calm unloaded =
    ap₂ (λ (f : Bool) (o : Option Held). (known_to shape g posts known what f o).silent) calm unloaded ∙ speaks_input shape posts g known (input_of posts what) speaks
