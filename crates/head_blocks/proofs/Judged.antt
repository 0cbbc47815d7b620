-- What the rules tell of an answer, from what it is worth and what has become of the head's questions.
use Rattle.std.proofs.Common.{◌≡◌, ◌∙◌, ℕ, Bool, true, false, if◌then◌else◌, List, [], ◌∷◌, ◌++◌, map, None, Some, inl, inr, refl, sym, ap, subst, append-nil}
use Rattle.std.proofs.lemmas.Option.{none-some, same_Some}
use Rattle.list_lemmas.proofs.Tests.{same_either}
use Rattle.salus_types.specs.declared.names.NodeName.{NodeName}
use Rattle.salus_types.specs.declared.strike.Strike.{Strike}
use Rattle.salus_message.specs.declared.replies.Answer.{Answer}
use Rattle.schedule_text.specs.declared.schedule.Volume.{Volume}
use Rattle.printed_lines.specs.declared.line.Line.TheVariants as line
use Rattle.volume_model.specs.Contents.{region_of, region_root}
use Rattle.salus_model.specs.Answering.{Verdict, Stale, Good, Struck, verdict_at, is_fitting, all_struck}
use Rattle.client_rules.specs.State.{Open, Serving, Serves, Told, Letter, ignored, to_all}
use Rattle.client_rules.specs.Tables.{ask_of, closed_at, number_at, open_at, struck, struck_at, worth}
use Rattle.client_rules.specs.Serving.{head_answered, head_faulted, head_judged, head_known}
use Rattle.posting.specs.Letters.{out_of_letter}
use Rattle.verified_read.specs.Table.{Table, HaveOwnNumbers}
use Rattle.verified_read.specs.Judging.{AnswersOne}
use Rattle.verified_read.proofs.CallerLemmas.{fits, open-named, unanswered}
use Rattle.pruned_volume.specs.Trees.{KeptTrees, AgreesAll}
use Rattle.client_asking.specs.declared.step.Step.{Step}
use Rattle.head_blocks.specs.declared.headway.Headway.{Headway}
use Rattle.head_blocks.specs.declared.headway.Headway.TheVariants as headway
use Rattle.head_blocks.specs.Advancing.{head_told, WaitsOn, IsTold}
use Rattle.head_blocks.specs.Weighing.{IsGrafted, IsJudged, IsStale, IsStruck, IsUnknown}
use Rattle.head_blocks.specs.Ending.{IsEnding, fault_in, headway_of}
use Rattle.head_blocks.proofs.Questions.{some_of, struck_fault}

-- ---- the head waits on

-- nothing but the questions and the answers that count is another
waits_on : (c : Serving) (told : Told) (left : List Open) (known : List Answer) (before after : Step) → told ≡ ignored (Serves (record c { asked = left; known = known }))
    → after.outs.items ≡ before.outs.items → after.lines.items ≡ before.lines.items → WaitsOn c told left before after
waits_on c told left known before after is outs lines = subst (λ t. WaitsOn c t left before after) (sym is) (record {
  known = known;
  client = refl;
  adds = record { outs = outs ∙ sym (append-nil before.outs.items); lines = lines ∙ sym (append-nil before.lines.items) };
})

-- the questions are those of before
as_before : (c : Serving) (left : List Open) → left ≡ c.asked → c ≡ record c { asked = left; known = c.known }
as_before c left same = ap (λ asked. record c { asked = asked; known = c.known }) (sym same)

asks_on : (c : Serving) (told : Told) (letters : List Letter) (left : List Open) (before after : Step) → told ≡ record { client = Serves c; outs = letters; lines = [] } → left ≡ c.asked
    → after.outs.items ≡ before.outs.items ++ map out_of_letter letters → after.lines.items ≡ before.lines.items → WaitsOn c told left before after
asks_on c told letters left before after is same outs lines = subst (λ t. WaitsOn c t left before after) (sym is) (record {
  known = c.known;
  client = ap Serves (as_before c left same);
  adds = record { outs = outs; lines = lines ∙ sym (append-nil before.lines.items) };
})

-- ---- what the rules say

module _ (volume : Volume) (c : Serving) (name : NodeName) (a : Answer) (k : KeptTrees) (t : Table) (shaped : t.shape ≡ volume.geometry) (same : t.asked ≡ c.asked) where
  told_none : (AnswersOne t name a → ⊥) → head_told volume c name a ≡ ignored (Serves c)
  told_none none = elim (unanswered t name a none) [
    | inl unfit ↦ ap (λ b. if b then head_answered volume c name a (open_at a c.asked) else ignored (Serves c)) (sym (ap (λ s. is_fitting s name a) shaped) ∙ unfit)
    | inr free ↦
        ap (λ o. if is_fitting volume.geometry name a then head_answered volume c name a o else ignored (Serves c)) (sym (ap (open_at a) same) ∙ free)
        ∙ same_either (is_fitting volume.geometry name a) (ignored (Serves c))
  ]

  fitting : AnswersOne t name a → is_fitting volume.geometry name a ≡ true
  fitting one = sym (ap (λ s. is_fitting s name a) shaped) ∙ fits t name a one

  module _ (number : ℕ) (high : k.shape ≡ volume.geometry) (agrees : AgreesAll k c.contents) (numbered : number ≡ number_at c name.region) where
    worth_is : (v : Verdict) → IsJudged k t name number a v → worth volume.geometry c a ≡ v
    worth_is v judged =
        let there : name.region ≡ region_of volume.geometry a.block = judged.one.group ∙ ap (λ s. region_of s a.block) shaped in
        ap (λ n. verdict_at volume.geometry (region_root volume.geometry c.contents (region_of volume.geometry a.block)) n a) (sym (numbered ∙ ap (number_at c) there))
        ∙ sym (ap (λ s. verdict_at s (region_root s c.contents (region_of s a.block)) number a) high) ∙ judged.worth c.contents agrees

    told_one : (v : Verdict) (o : Open) → IsJudged k t name number a v → open_at a t.asked ≡ Some o → head_told volume c name a ≡ head_judged volume c name a o v
    told_one v o judged found =
        ap (λ b. if b then head_answered volume c name a (open_at a c.asked) else ignored (Serves c)) (fitting judged.one)
        ∙ ap (head_answered volume c name a) (sym (ap (open_at a) same) ∙ found)
        ∙ ap (head_judged volume c name a o) (worth_is v judged)

-- ---- and what has become of the head

module _ (volume : Volume) (c : Serving) (name : NodeName) (a : Answer) (k l : KeptTrees) (t : Table) (left : List Open) (shaped : t.shape ≡ volume.geometry) (same : t.asked ≡ c.asked) where
  pub unknown_told : IsUnknown k l t left name a → (step : Step) → WaitsOn c (head_told volume c name a) left step step
  unknown_told unknown step =
      let is : left ≡ c.asked = unknown.same.asked ∙ same in
      waits_on c (head_told volume c name a) left c.known step step
      (told_none volume c name a k t shaped same unknown.none ∙ ap (λ x. ignored (Serves x)) (as_before c left is)) refl refl

  module _ (number : ℕ) (high : k.shape ≡ volume.geometry) (agrees : AgreesAll k c.contents) (numbered : number ≡ number_at c name.region) where
    pub stale_told : IsStale k l t left name number a → (before after : Step)
        → ((o : Open) → open_at a left ≡ Some o → after.outs.items ≡ before.outs.items ++ map out_of_letter (to_all (name ∷ []) (ask_of volume.geometry c o.question)))
        → after.lines.items ≡ before.lines.items → WaitsOn c (head_told volume c name a) left before after
    stale_told stale before after asked lines =
        let one = some_of (open_at a t.asked) stale.judged.one.asked in
        asks_on c (head_told volume c name a) (to_all (name ∷ []) (ask_of volume.geometry c one.0.question)) left before after
        (told_one volume c name a k t shaped same number high agrees numbered Stale one.0 stale.judged one.1)
        (stale.same.asked ∙ same) (asked one.0 (ap (open_at a) stale.same.asked ∙ one.1)) lines

    -- a strike ends the head, or doesn't
    struck_ends : (o : Open) (s : Strike) (h : Headway) (m : KeptTrees) (last : List Open) (before after : Step) (b : Bool)
        → head_told volume c name a ≡ (if b then head_faulted volume.geometry c (line.Fault o.question.event o.question.block (struck name.replica s o).strikes) c.line
        else ignored (Serves (record c { asked = struck_at a name.replica s c.asked })))
        → left ≡ struck_at a name.replica s c.asked
        → IsEnding h l m left last (if b then Some (line.Fault o.question.event o.question.block (struck name.replica s o).strikes) else None) before after
        → IsTold h volume c (head_told volume c name a) last before after
    struck_ends o s headway.Waits m last before after true told is ending = absurd (none-some _ (sym ending.none))
    struck_ends o s headway.Waits m last before after false told is ending =
        waits_on c (head_told volume c name a) last c.known before after
        (told ∙ ap (λ x. ignored (Serves (record c { asked = x; known = c.known }))) (sym (ending.stay ∙ is))) ending.outs ending.lines
    struck_ends o s headway.Known m last before after b told is ending = absurd ending
    struck_ends o s headway.Faulted m last before after true told is ending = record {
      line = ending.line;
      ended = told ∙ ap (λ x. head_faulted volume.geometry c x c.line) (same_Some _ _ ending.found);
      outs = ending.outs;
      lines = ending.lines;
    }
    struck_ends o s headway.Faulted m last before after false told is ending = absurd (none-some _ ending.found)

    pub struck_told : HaveOwnNumbers t.asked → IsStruck k l t left name number a → (h : Headway) (m : KeptTrees) (last : List Open) (before after : Step)
        → IsEnding h l m left last (fault_in a.read left) before after
        → IsTold h volume c (head_told volume c name a) last before after
    struck_told own struck_it h m last before after ending =
        let one = some_of (open_at a t.asked) struck_it.judged.one.asked in
        let s = struck_it.strike in
        let fault = ap (fault_in a.read) struck_it.asked ∙ struck_fault a name.replica s t.asked one.0 own one.1 in
        struck_ends one.0 s h m last before after (all_struck (struck name.replica s one.0).strikes)
        (told_one volume c name a k t shaped same number high agrees numbered (Struck s) one.0 struck_it.judged one.1)
        (struck_it.asked ∙ ap (struck_at a name.replica s) same)
        (subst (λ f. IsEnding h l m left last f before after) fault ending)

    -- a block is known, and is the last that is asked for or isn't
    known_by : (last : List Open) (step : Step) → head_told volume c name a ≡ head_known volume c a last → IsTold (headway_of last) volume c (head_told volume c name a) last step step
    known_by [] step told = record { submitted = told; outs = refl; lines = refl }
    known_by (o ∷ last) step told = waits_on c (head_told volume c name a) (o ∷ last) (c.known ++ a ∷ []) step step told refl refl

    pub grafted_told : IsGrafted k l t left name number a → (step : Step) → IsTold (headway_of left) volume c (head_told volume c name a) left step step
    grafted_told grafted step =
        let one = some_of (open_at a t.asked) grafted.judged.one.asked in
        let closed : closed_at one.0.question.number c.asked ≡ left =
        ap (λ n. closed_at n c.asked) (sym (open-named a t.asked one.0 one.1).0) ∙ ap (closed_at a.read) (sym same) ∙ sym grafted.asked in
        known_by left step (told_one volume c name a k t shaped same number high agrees numbered Good one.0 grafted.judged one.1 ∙ ap (head_known volume c a) closed)
