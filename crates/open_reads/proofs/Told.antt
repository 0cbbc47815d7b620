-- What the rules tell of an answer to an open read, verdict by verdict.
use Rattle.std.proofs.Common.{◌≡◌, ◌≢◌, ◌∙◌, ℕ, ◌<◌, Bool, true, false, if◌then◌else◌, List, [], ◌∷◌, ◌++◌, map, Option, Some, None, IsSome, is_some, refl, sym, ap, subst, true≢false, inl, inr, append-nil}
use Rattle.std.proofs.lemmas.Bool.{cond-true, cond-false}
use Rattle.std.proofs.lemmas.Option.{same_Some}
use Rattle.std.specs.Option.{option_map}
use Rattle.salus_types.specs.Volume.{Shape}
use Rattle.salus_types.specs.declared.names.NodeName.{NodeName}
use Rattle.salus_types.specs.declared.strike.Strike.{Strike}
use Rattle.salus_types.specs.declared.strike.Strike.TheVariants as strike
use Rattle.merkle_region.specs.Tree.{Verifies}
use Rattle.salus_message.specs.declared.replies.Answer.{Answer}
use Rattle.printed_lines.specs.declared.line.Line.{Line}
use Rattle.printed_lines.specs.declared.line.Line.TheVariants as line
use Rattle.volume_model.specs.Contents.{region_of, place_of, region_root}
use Rattle.salus_model.specs.Waiting.{Question}
use Rattle.salus_model.specs.Answering.{Verdict, Stale, Good, Struck, verdict_at, is_fitting, all_struck}
use Rattle.client_rules.specs.State.{Open, Serving, Serves, Told, ignored, to_all}
use Rattle.client_rules.specs.Tables.{ask_of, number_at, open_at, closed_at, struck, struck_at, worth}
use Rattle.client_rules.specs.Serving.{read_answered, read_judged, read_ended, read_struck, asked_again}
use Rattle.client_pipeline.specs.Pipeline.{KeptPipeline}
use Rattle.client_pipeline.specs.Standing.{StandsFor}
use Rattle.posting.specs.Letters.{out_of_letter}
use Rattle.verified_read.specs.Table.{Table, HaveOwnNumbers, fault_at, question_at}
use Rattle.verified_read.specs.Judging.{AnswersOne, IsPresent, reached}
use Rattle.verified_read.proofs.CallerLemmas.{fits, unanswered, open-named, question-open, closed-struck, fault-struck, verdict-stale, verdict-past, verdict-good, verdict-bad}
use Rattle.client_asking.specs.declared.step.Step.{Step}
use Rattle.client_asking.specs.Leaving.{Bears}
use Rattle.open_reads.specs.Ending.{IsFaulted, fault_lines, open_after}
use Rattle.open_reads.specs.Telling.{Adds, IsReadTold, told_of_read}

-- ---- a step to which that is added

-- told is what is added, and the client's reads are these then
abbrev IsTold : Serving → Told → Step → List Open → Step → Type 0
IsTold c told before reads after = Adds before after told × (told.client ≡ Serves (record c { reads = reads }))

is_told : (shape : Shape) (c : Serving) (name : NodeName) (a : Answer) (told : Told) (before : Step) (reads : List Open) (after : Step)
    → told_of_read shape c name a ≡ told → IsTold c told before reads after → IsReadTold shape c name a before reads after
is_told shape c name a told before reads after same is = record {
  adds = subst (λ t. Adds before after t) (sym same) is.0;
  client = ap (λ (t : Told). t.client) same ∙ is.1;
}

-- its reads are as they were
same_reads : (c : Serving) (reads : List Open) → reads ≡ c.reads → Serves c ≡ Serves (record c { reads = reads })
same_reads c reads same = ap (λ rs. Serves (record c { reads = rs })) (sym same)

-- nothing is added
nothing_told : (c : Serving) (before after : Step) (reads : List Open) → reads ≡ c.reads → after.outs.items ≡ before.outs.items → after.lines.items ≡ before.lines.items
    → IsTold c (ignored (Serves c)) before reads after
nothing_told c before after reads same outs lines =
    (record { outs = outs ∙ sym (append-nil before.outs.items); lines = lines ∙ sym (append-nil before.lines.items) }, same_reads c reads same)

-- ---- an answer to none of the questions

either_ignored : (fits : Bool) (c : Serving) → (if fits then ignored (Serves c) else ignored (Serves c)) ≡ ignored (Serves c)
either_ignored true c = refl
either_ignored false c = refl

none_told : (t : Table) (c : Serving) (name : NodeName) (a : Answer) → t.asked ≡ c.reads → (AnswersOne t name a → ⊥) → told_of_read t.shape c name a ≡ ignored (Serves c)
none_told t c name a same none = elim (unanswered t name a none) [
  | inl unfit ↦ cond-false _ _ _ unfit
  | inr closed ↦
      ap (λ o. if is_fitting t.shape name a then read_answered t.shape c name a o else ignored (Serves c)) (ap (open_at a) (sym same) ∙ closed)
      ∙ either_ignored (is_fitting t.shape name a) c
]

pub told_none : (shape : Shape) (t : Table) (c : Serving) (p : KeptPipeline) (name : NodeName) (a : Answer) (before after : Step) (reads : List Open)
    → t.shape ≡ shape → Bears p t.asked c → (AnswersOne t name a → ⊥) → reads ≡ t.asked → after.outs.items ≡ before.outs.items → after.lines.items ≡ before.lines.items
    → IsReadTold shape c name a before reads after
told_none shape t c p name a before after reads of bears none same outs lines =
    is_told shape c name a (ignored (Serves c)) before reads after
    (subst (λ s. told_of_read s c name a ≡ ignored (Serves c)) of (none_told t c name a bears.same none)) (nothing_told c before after reads (same ∙ bears.same) outs lines)

-- no question has that number
unasked : (a : Answer) (asked : List Open) (o : Option Open) → HaveOwnNumbers asked → open_at a asked ≡ o → option_map (λ (x : Open). x.question) (question_at a.read asked) ≡ None → IsSome o → ⊥
unasked a asked None own found none some = true≢false (sym some)
unasked a asked (Some o) own found none some =
    true≢false (ap is_some (sym (ap (option_map (λ (x : Open). x.question)) (question-open a asked o own found)) ∙ none))

pub none_asked : (t : Table) (name : NodeName) (a : Answer) → HaveOwnNumbers t.asked → option_map (λ (x : Open). x.question) (question_at a.read t.asked) ≡ None → AnswersOne t name a → ⊥
none_asked t name a own none one = unasked a t.asked (open_at a t.asked) own refl none one.asked

-- ---- an answer to one of them

-- A question is open under the answer's number, and the number and the root are those of the sender's region.
pub record IsBeside (p : KeptPipeline) (t : Table) (name : NodeName) (a : Answer) (q : Question) (number : ℕ) (root : List ℕ) : Type 0 where
  pub shape : t.shape ≡ p.window.shape
  pub own : HaveOwnNumbers t.asked
  pub named : option_map (λ (o : Open). o.question) (question_at a.read t.asked) ≡ Some q
  pub numbered : (c : Serving) → StandsFor p c → number ≡ number_at c name.region
  pub rooted : (c : Serving) → StandsFor p c → root ≡ region_root p.window.shape c.contents name.region

module _ (p : KeptPipeline) (t : Table) (name : NodeName) (a : Answer) (q : Question) (number : ℕ) (root : List ℕ) (beside : IsBeside p t name a q number root) (one : AnswersOne t name a) where
  with_open : (P : Type 0) → ((o : Open) → open_at a t.asked ≡ Some o → q ≡ o.question → P) → P
  with_open P go = by_open (open_at a t.asked) refl one.asked
    where
      by_open : (x : Option Open) → open_at a t.asked ≡ x → IsSome x → P
      by_open None found some = absurd (true≢false (sym some))
      by_open (Some o) found some =
          go o found (same_Some q o.question (sym beside.named ∙ ap (option_map (λ (x : Open). x.question)) (question-open a t.asked o beside.own found)))

  -- the question's block is of the sender's region
  pub asked_there : region_of p.window.shape q.block ≡ name.region
  asked_there =
      with_open (region_of p.window.shape q.block ≡ name.region)
      (λ o found same. ap (λ s. region_of s q.block) (sym beside.shape) ∙ ap (region_of t.shape) (ap (λ (x : Question). x.block) same ∙ sym (open-named a t.asked o found).1) ∙ sym one.group)

  module _ (c : Serving) (bears : Bears p t.asked c) (before after : Step) (reads : List Open) where
    told_by : (o : Open) → open_at a t.asked ≡ Some o → (v : Verdict) → verdict_at t.shape root number a ≡ v
        → told_of_read p.window.shape c name a ≡ read_judged p.window.shape c name a o v
    told_by o found v is =
        let rooted : region_root t.shape c.contents (region_of t.shape a.block) ≡ root =
        ap (λ g. region_root t.shape c.contents g) (sym one.group) ∙ ap (λ s. region_root s c.contents name.region) beside.shape ∙ sym (beside.rooted c bears.stands) in
        let numbered : number_at c (region_of t.shape a.block) ≡ number = ap (λ g. number_at c g) (sym one.group) ∙ sym (beside.numbered c bears.stands) in
        let worth_is : worth t.shape c a ≡ v = (λ j. verdict_at t.shape (rooted j) (numbered j) a) ∙ is in
        subst (λ s. told_of_read s c name a ≡ read_judged s c name a o v) beside.shape
        (cond-true _ _ _ (fits t name a one) ∙ ap (λ rs. read_answered t.shape c name a (open_at a rs)) (sym bears.same)
        ∙ ap (read_answered t.shape c name a) found ∙ ap (read_judged t.shape c name a o) worth_is)

    with_reads : (others : List Open) → reads ≡ others → Serves (record c { reads = others }) ≡ Serves (record c { reads = reads })
    with_reads others same = ap (λ rs. Serves (record c { reads = rs })) (sym same)

    -- it is asked for again
    pub told_again : a.at < number → reads ≡ t.asked
        → after.outs.items ≡ before.outs.items ++ map out_of_letter (to_all (name ∷ []) (ask_of p.window.shape c q)) → after.lines.items ≡ before.lines.items
        → IsReadTold p.window.shape c name a before reads after
    told_again older left outs lines =
        with_open (IsReadTold p.window.shape c name a before reads after)
        (λ o found same. is_told p.window.shape c name a (asked_again p.window.shape c name o) before reads after (told_by o found Stale (verdict-stale t.shape number root a older)) (
          record {
            outs = outs ∙ ap (λ x. before.outs.items ++ map out_of_letter (to_all (name ∷ []) (ask_of p.window.shape c x))) same;
            lines = lines ∙ sym (append-nil before.lines.items);
          },
          same_reads c reads (left ∙ bears.same),
        ))

    -- the read ends with its block
    pub told_block : IsPresent t name a number × Verifies root t.shape.height (place_of t.shape a.block) a.bytes a.path → reads ≡ closed_at a.read t.asked
        → after.outs.items ≡ before.outs.items → after.lines.items ≡ before.lines.items ++ line.Read q.event q.block a.bytes ∷ []
        → IsReadTold p.window.shape c name a before reads after
    told_block good left outs lines =
        with_open (IsReadTold p.window.shape c name a before reads after)
        (λ o found same. is_told p.window.shape c name a (read_ended c o (line.Read o.question.event o.question.block a.bytes)) before reads after (told_by o found Good (verdict-good t.shape number root a good.0.1 good.1)) (
          record {
            outs = outs ∙ sym (append-nil before.outs.items);
            lines = lines ∙ ap (λ (x : Question). before.lines.items ++ line.Read x.event x.block a.bytes ∷ []) same;
          },
          with_reads (closed_at o.question.number c.reads) (left ∙ (λ j. closed_at ((open-named a t.asked o found).0 j) (bears.same j))),
        ))

    -- its replica is struck; where it is the last one of the group, the read ends with a fault
    module _ (s : Strike) (asked : List Open) (struck_is : asked ≡ struck_at a name.replica s t.asked) (outs : after.outs.items ≡ before.outs.items) (ended : IsFaulted q asked before.lines.items reads after.lines.items)
        (o : Open) (found : open_at a t.asked ≡ Some o) (same : q ≡ o.question) where
      numbered : q.number ≡ a.read
      numbered = ap (λ (x : Question). x.number) same ∙ sym (open-named a t.asked o found).0

      left_by_fault : (f : Option (List (Option Strike))) → fault_at q.number asked ≡ f → reads ≡ open_after q.number f (struck_at a name.replica s t.asked)
      left_by_fault f fault = ended.closed ∙ (λ j. open_after q.number (fault j) (struck_is j))

      by_all : (all : Bool) → fault_at q.number asked ≡ (if all then Some (struck name.replica s o).strikes else None)
          → IsTold c
          (if all then read_ended c o (line.Fault o.question.event o.question.block (struck name.replica s o).strikes) else ignored (Serves (record c { reads = struck_at a name.replica s c.reads })))
          before reads after
      by_all true fault = (
        record {
          outs = outs ∙ sym (append-nil before.outs.items);
          lines = ended.told ∙ ap (λ f. before.lines.items ++ fault_lines q f) fault
              ∙ ap (λ (x : Question). before.lines.items ++ line.Fault x.event x.block (struck name.replica s o).strikes ∷ []) same;
        },
        with_reads (closed_at o.question.number c.reads)
            (left_by_fault (Some (struck name.replica s o).strikes) fault ∙ ap (λ n. closed_at n (struck_at a name.replica s t.asked)) numbered
            ∙ closed-struck a name.replica s t.asked ∙ (λ j. closed_at ((open-named a t.asked o found).0 j) (bears.same j))),
      )
      by_all false fault = (
        record { outs = outs ∙ sym (append-nil before.outs.items); lines = ended.told ∙ ap (λ f. before.lines.items ++ fault_lines q f) fault },
        with_reads (struck_at a name.replica s c.reads) (left_by_fault None fault ∙ ap (λ rs. struck_at a name.replica s rs) bears.same),
      )

      fault_is : fault_at q.number asked ≡ (if all_struck (struck name.replica s o).strikes then Some (struck name.replica s o).strikes else None)
      fault_is = (λ j. fault_at (numbered j) (struck_is j)) ∙ fault-struck a name.replica s t.asked o beside.own found

      struck_open : verdict_at t.shape root number a ≡ Struck s → IsReadTold p.window.shape c name a before reads after
      struck_open is =
          is_told p.window.shape c name a (read_struck c name a o s) before reads after (told_by o found (Struck s) is)
          (by_all (all_struck (struck name.replica s o).strikes) fault_is)

    told_struck : (s : Strike) (asked : List Open) → verdict_at t.shape root number a ≡ Struck s → asked ≡ struck_at a name.replica s t.asked
        → after.outs.items ≡ before.outs.items → IsFaulted q asked before.lines.items reads after.lines.items → IsReadTold p.window.shape c name a before reads after
    told_struck s asked is struck_is outs ended =
        with_open (IsReadTold p.window.shape c name a before reads after) (λ o found same. struck_open s asked struck_is outs ended o found same is)

    pub told_past : (at : ℕ) (asked : List Open) → (number < a.at) × (at ≡ a.at) → asked ≡ struck_at a name.replica (strike.Past at number) t.asked
        → after.outs.items ≡ before.outs.items → IsFaulted q asked before.lines.items reads after.lines.items → IsReadTold p.window.shape c name a before reads after
    told_past at asked past struck_is outs ended =
        told_struck (strike.Past at number) asked (verdict-past t.shape number root a past.0 ∙ ap (λ n. Struck (strike.Past n number)) (sym past.1)) struck_is outs ended

    pub told_bad : (held got : List ℕ) (asked : List Open) → a.at ≡ number → (reached t a ≢ root) × (held ≡ root) × (got ≡ reached t a)
        → asked ≡ struck_at a name.replica (strike.Bad held got) t.asked
        → after.outs.items ≡ before.outs.items → IsFaulted q asked before.lines.items reads after.lines.items → IsReadTold p.window.shape c name a before reads after
    told_bad held got asked now bad struck_is outs ended =
        told_struck (strike.Bad held got) asked (verdict-bad t.shape number root a now bad.0 ∙ (λ j. Struck (strike.Bad (sym bad.1 j) (sym bad.2 j)))) struck_is outs ended

-- ---- a fault ends its question

pub ends_faulted : (q seen : Question) (asked left : List Open) (lines more : List Line) (strikes copied : List (Option Strike)) → seen ≡ q → copied ≡ strikes
    → Some strikes ≡ fault_at seen.number asked → left ≡ closed_at seen.number asked → more ≡ lines ++ line.Fault seen.event seen.block copied ∷ []
    → IsFaulted q asked lines left more
ends_faulted q seen asked left lines more strikes copied same copy fault closed told =
    subst (λ x. IsFaulted x asked lines left more) same (record {
      closed = closed ∙ ap (λ f. open_after seen.number f asked) fault;
      told = told ∙ ap (λ s. lines ++ line.Fault seen.event seen.block s ∷ []) copy ∙ ap (λ f. lines ++ fault_lines seen f) fault;
    })
