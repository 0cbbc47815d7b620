-- A node that has handled an input is as its rules leave it.
use Rattle.std.proofs.Common.{◌≡◌, ◌∙◌, inl, Bool, true, false, ◌||◌, List, [], ◌∷◌, map, Option, None, Some, Result, Ok, Err, refl, sym, ap, subst}
use Rattle.std.proofs.lemmas.Bool.{cond-true, cond-false, true≢false}
use Rattle.salus_types.specs.Volume.{Shape}
use Rattle.salus_types.specs.declared.names.NodeName.{NodeName}
use Rattle.salus_types.specs.declared.records.Held.{Held}
use Rattle.salus_types.specs.declared.records.Out.{Out}
use Rattle.disk_model.specs.Disk.{History, Now, EachImage, Through}
use Rattle.disk_model.proofs.Passing.{now_map, through_now, through_same}
use Rattle.datanode_store.specs.Live.{MeansLive, MeansOneLive}
use Rattle.holding_model.specs.Changing.{contents_through}
use Rattle.replica_rules.specs.Nodes.{NodeState}
use Rattle.replica_rules.specs.Rules.{Sending, Input, Handled, handled}
use Rattle.run_rules.specs.Knowing.{KnownNode, speaking, silenced, after_handling, after_input, during, outs_of}
use Rattle.posting.specs.Sendings.{out_of_sending}
use Rattle.open_session.specs.Kept.{KeptSession}
use Rattle.replica_node.specs.declared.error.NodeError.{NodeError}
use Rattle.replica_node.specs.declared.error.NodeError.TheVariants.{Device, NoMemory}
use Rattle.replica_node.specs.Errors.{says_device}
use Rattle.replica_node.specs.Standing.{IsNode, IsHandled}
use Rattle.replica_node.proofs.Witness.{memory_for, memory_stands}
use Rattle.disk_node.specs.declared.outcome.Outcome.{Outcome}
use Rattle.disk_node.specs.Loadable.{AllLoadable}
use Rattle.disk_node.specs.Knowing.{Seen, FitsSeen, Hands, Tells, IsAnsweredBy}
use Rattle.disk_node.proofs.Readable.{meant_loadable}

by_bool : (b : Bool) (P : Type 0) → (b ≡ true → P) → (b ≡ false → P) → P
by_bool true P if_true if_false = if_true refl
by_bool false P if_true if_false = if_false refl

outs_told : Result (List Out) NodeError → List Out
outs_told (Ok outs) = outs
outs_told (Err e) = []

same_Ok : (a b : List Out) → ◌≡◌ {A = Result (List Out) NodeError} (Ok a) (Ok b) → a ≡ b
unfolding outs_told
same_Ok a b same = ap (λ (r : Result (List Out) NodeError). outs_told r) same

err_not_ok : (e : NodeError) (outs : List Out) → ◌≡◌ {A = Result (List Out) NodeError} (Err e) (Ok outs) → ⊥
err_not_ok e outs same = cc

-- whether a call of the device failed is what is told
pub failed_told : (result : Result (List Out) NodeError) (outcome : Outcome) → Tells result outcome → outcome.failed ≡ says_device result
failed_told (Ok outs) outcome told = told.1
failed_told (Err Device) outcome told = told.1
failed_told (Err NoMemory) outcome told = absurd told

-- the one thing that each image means
pub one_image : (held here : Held) (h : History) → here ≡ held → Now h (λ now. EachImage now (MeansLive here)) → Now h (λ now. EachImage now (MeansOneLive (held ∷ [])))
one_image held here h same means =
    now_map (λ now. EachImage now (MeansLive here)) (λ now. EachImage now (MeansOneLive (held ∷ []))) (λ now each file is. inl (subst (λ (one : Held). MeansLive one file) same (each file is))) h means

module _ (shape : Shape) (name : NodeName) (known : KnownNode) (input : Input) (old new : Seen) (fits : FitsSeen shape name known old) where
  abbrev by_rules : NodeState → Handled
  by_rules state = handled shape name.region state input

  abbrev ours : Handled
  ours = by_rules known.state

  same_rules : (state : NodeState) → handled old.shape old.name.region state input ≡ by_rules state
  same_rules state = λ i. handled (fits.shape_is i) (fits.name_is i).region state input

  same_contents : (state : NodeState) → contents_through old.shape state.held (handled old.shape old.name.region state input).changes ≡ contents_through shape state.held (by_rules state).changes
  same_contents state = λ i. contents_through (fits.shape_is i) state.held (handled (fits.shape_is i) (fits.name_is i).region state input).changes

  -- a node that is silent stays as it is
  still : (outcome : Outcome) → known.silent ≡ true → new ≡ old → outcome.outs ≡ [] → outcome.failed ≡ false → IsAnsweredBy shape name known input outcome new
  still outcome is same none calm =
      let rests : after_input shape name.region known input outcome.failed ≡ known = cond-true known.silent known (after_handling shape known.state ours outcome.failed) is in
      let tests : (known.silent || outcome.failed) ≡ true = ap (λ (b : Bool). b || outcome.failed) is in
      let sent : outs_of shape name.region known input outcome.failed ≡ [] = cond-true (known.silent || outcome.failed) [] ours.outs tests in
      record {
        fits = subst (λ (k : KnownNode). FitsSeen shape name k new) (sym rests) (subst (λ (s : Seen). FitsSeen shape name known s) (sym same) fits);
        outs = none ∙ ap (λ (l : List Sending). map out_of_sending l) (sym sent);
        quiet = λ silent. calm;
      }

  -- one that speaks is as the rules leave it
  spoke : (outcome : Outcome) → known.silent ≡ false → outcome.failed ≡ false → new.shape ≡ old.shape → new.name ≡ old.name → new.silent ≡ false → IsHandled new.held new.session outcome.outs ours
      → Now new.moments (λ now. EachImage now (MeansLive new.held)) → IsAnsweredBy shape name known input outcome new
  spoke outcome is calm same_shape same_name speaks by means =
      let goes_on : after_input shape name.region known input outcome.failed ≡ speaking ours.node =
      cond-false known.silent known (after_handling shape known.state ours outcome.failed) is ∙ cond-false outcome.failed (silenced shape known.state ours.changes) (speaking ours.node) calm in
      let tests : (known.silent || outcome.failed) ≡ false = ap (λ (b : Bool). b || outcome.failed) is ∙ calm in
      let sent : outs_of shape name.region known input outcome.failed ≡ ours.outs = cond-false (known.silent || outcome.failed) [] ours.outs tests in
      record {
        fits = subst (λ (k : KnownNode). FitsSeen shape name k new) (sym goes_on) (record {
          shape_is = same_shape ∙ fits.shape_is;
          name_is = same_name ∙ fits.name_is;
          silent_is = speaks;
          state = λ goes. by.node;
          images = one_image ours.node.held new.held new.moments by.node.held means;
        });
        outs = by.outs ∙ ap (λ (l : List Sending). map out_of_sending l) (sym sent);
        quiet = λ silent. calm;
      }

  -- and one in which a call failed is silent
  fell : (outcome : Outcome) → known.silent ≡ false → outcome.failed ≡ true → outcome.outs ≡ [] → new.shape ≡ old.shape → new.name ≡ old.name → new.silent ≡ true
      → Through old.moments new.moments (MeansOneLive (contents_through shape known.state.held ours.changes)) → IsAnsweredBy shape name known input outcome new
  fell outcome is failed none same_shape same_name silent passed =
      let falls : after_input shape name.region known input outcome.failed ≡ silenced shape known.state ours.changes =
      cond-false known.silent known (after_handling shape known.state ours outcome.failed) is ∙ cond-true outcome.failed (silenced shape known.state ours.changes) (speaking ours.node) failed in
      let tests : (known.silent || outcome.failed) ≡ true = ap (λ (b : Bool). b || outcome.failed) is ∙ failed in
      let sent : outs_of shape name.region known input outcome.failed ≡ [] = cond-true (known.silent || outcome.failed) [] ours.outs tests in
      record {
        fits = subst (λ (k : KnownNode). FitsSeen shape name k new) (sym falls) (record {
          shape_is = same_shape ∙ fits.shape_is;
          name_is = same_name ∙ fits.name_is;
          silent_is = silent;
          state = λ speaks. absurd (true≢false speaks);
          images = through_now old.moments new.moments (MeansOneLive (contents_through shape known.state.held ours.changes)) passed;
        });
        outs = none ∙ ap (λ (l : List Sending). map out_of_sending l) (sym sent);
        quiet = λ was. absurd (true≢false (sym was ∙ is));
      }

  passes : (result : Result (List Out) NodeError) → Hands input result old new → known.silent ≡ false → Through old.moments new.moments (MeansOneLive (contents_through shape known.state.held ours.changes))
  passes result hands is =
      subst (λ (l : List Held). Through old.moments new.moments (MeansOneLive l)) (same_contents known.state) (hands.any_moment known.state (fits.state is) (fits.silent_is ∙ is))

  pub answered : (result : Result (List Out) NodeError) (outcome : Outcome) → Hands input result old new → Tells result outcome → IsAnsweredBy shape name known input outcome new
  answered (Ok outs) outcome hands told =
      by_bool known.silent (IsAnsweredBy shape name known input outcome new)
      (λ is.
      let quiet = hands.quiet (fits.silent_is ∙ is) in
      let none : outs ≡ [] = same_Ok outs [] quiet.1 in
      still outcome is quiet.0 (told.0 ∙ none) told.1)
      (λ is.
      let was : old.silent ≡ false = fits.silent_is ∙ is in
      let speaks : new.silent ≡ false = hands.silent ∙ ap (λ (b : Bool). b || false) was in
      let by : IsHandled new.held new.session outs ours = subst (λ (h : Handled). IsHandled new.held new.session outs h) (same_rules known.state) (hands.rules known.state (fits.state is) was) in
      spoke outcome is told.1 hands.place.0 hands.place.1 speaks (subst (λ (l : List Out). IsHandled new.held new.session l ours) (sym told.0) by) (hands.durable speaks))
  answered (Err Device) outcome hands told =
      by_bool known.silent (IsAnsweredBy shape name known input outcome new)
      (λ is. absurd (err_not_ok Device [] (hands.quiet (fits.silent_is ∙ is)).1))
      (λ is.
      let was : old.silent ≡ false = fits.silent_is ∙ is in
      let silent : new.silent ≡ true = hands.silent ∙ ap (λ (b : Bool). b || true) was in
      fell outcome is told.1 told.0 hands.place.0 hands.place.1 silent (passes (Err Device) hands is))
  answered (Err NoMemory) outcome hands told = absurd told

  -- at each moment
  pub moments_pass : (result : Result (List Out) NodeError) → Hands input result old new → Through old.moments new.moments (MeansOneLive (during shape name.region known input))
  moments_pass result hands =
      let all : List Held = contents_through shape known.state.held ours.changes in
      by_bool known.silent (Through old.moments new.moments (MeansOneLive (during shape name.region known input)))
      (λ is.
      subst (λ (l : List Held). Through old.moments new.moments (MeansOneLive l)) (sym (cond-true known.silent known.contents all is))
      (subst (λ (s : Seen). Through old.moments s.moments (MeansOneLive known.contents)) (sym (hands.quiet (fits.silent_is ∙ is)).0) (through_same old.moments (MeansOneLive known.contents) fits.images)))
      (λ is. subst (λ (l : List Held). Through old.moments new.moments (MeansOneLive l)) (sym (cond-false known.silent known.contents all is)) (passes result hands is))

-- ---- what can be loaded stays so

-- some node of the rules that the program's stands for
state_for : Held → Option KeptSession → NodeState
state_for held None = record { held = held; memory = None }
state_for held (Some kept) = record { held = held; memory = Some (memory_for kept) }

state_stands : (held : Held) (session : Option KeptSession) → IsNode held session (state_for held session)
unfolding state_for
state_stands held None = record { held = refl; memory = tt }
state_stands held (Some kept) = record { held = refl; memory = memory_stands kept }

pub stays_loadable : (input : Input) (result : Result (List Out) NodeError) (old new : Seen) → Hands input result old new → AllLoadable old.moments → AllLoadable new.moments
stays_loadable input result old new hands can =
    by_bool old.silent (AllLoadable new.moments)
    (λ is. subst (λ (s : Seen). AllLoadable s.moments) (sym (hands.quiet is).0) can)
    (λ is.
    let state : NodeState = state_for old.held old.session in
    let all : List Held = contents_through old.shape state.held (handled old.shape old.name.region state input).changes in
    meant_loadable all new.moments
    (through_now old.moments new.moments (MeansOneLive all) (hands.any_moment state (state_stands old.held old.session) is)))
