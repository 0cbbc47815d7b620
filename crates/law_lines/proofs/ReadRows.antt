-- An answer to an open read gives the lines due.
use Rattle.std.proofs.Common.{◌≡◌, ℕ, ◌+◌, ◌<◌, true, false, not, ◌∙◌, nat_le, if◌then◌else◌, List, [], ◌∷◌, map, Option, refl, ap, ap₂, sym, subst, eq-eqb}
use Rattle.std.specs.List.{list_any, list_all}
use Rattle.std.proofs.lemmas.List.Folds.{list_all-append}
use Rattle.std.proofs.lemmas.Bool.{and_parts}
use Rattle.salus_types.specs.Volume.{Shape, regions}
use Rattle.salus_types.specs.declared.names.NodeName.{NodeName}
use Rattle.salus_types.specs.declared.strike.Strike.{Strike}
use Rattle.salus_message.specs.declared.replies.Answer.{Answer}
use Rattle.salus_message.specs.declared.wire.Message.TheVariants as message
use Rattle.schedule_text.specs.declared.schedule.Volume.{Volume}
use Rattle.schedule_text.specs.declared.schedule.Event.{Event}
use Rattle.printed_lines.specs.declared.line.Line.{Line}
use Rattle.printed_lines.specs.declared.line.Line.TheVariants as line
use Rattle.salus_model.specs.declared.trace.TraceStep.{TraceStep}
use Rattle.volume_model.specs.Contents.{region_of, region_root}
use Rattle.salus_model.specs.Judge.{Judge, last_number, judged_all}
use Rattle.salus_model.specs.Hearing.{Says, Past, since, opens}
use Rattle.salus_model.specs.Waiting.{left_of, live, all_taken, Question, questions, is_asked}
use Rattle.salus_model.specs.Answering.{Verdict, Stale, Good, Struck, verdict_at, verdict_of, present_root, is_answer, is_known, all_struck}
use Rattle.salus_model.specs.Due.{barriers_due, with_barriers, others_known, due_struck, due_verdict}
use Rattle.client_rules.specs.State as state
use Rattle.client_rules.specs.State.{ignored}
use Rattle.client_rules.specs.Tables.{line_of, read_questions, head_questions, struck, struck_at, worth, claim_of}
use Rattle.client_rules.specs.Serving.{asked_again, read_ended, read_struck, read_judged}
use Rattle.list_lemmas.proofs.Tests.{by_test}
use Rattle.list_lemmas.proofs.Lists.{filter_same, list_any_same}
use Rattle.law_lines.specs.Mirror.{open_of, MirrorsCounts, MirrorsLine, IsInOrder}
use Rattle.law_lines.specs.Mirrors.{Holds, AsDue}
use Rattle.law_lines.proofs.Settled.{without, unended-more, unended-twice}
use Rattle.law_lines.proofs.Histories.{past, AreWork, work_lines}
use Rattle.law_lines.proofs.Keeping.{before-serving, claims-plain}
use Rattle.law_lines.proofs.Committed.{said-live, said-phase, ignored_as_due}
use Rattle.law_lines.proofs.Hitting.{is_ours, hits, agree-stale, known-struck, struck-table, struck-strikes, off-open, off-filter}
use Rattle.law_lines.proofs.Finding.{FoundRead}
use Rattle.law_lines.proofs.Numbering.{all-asked}
use Rattle.law_lines.proofs.OpenReads.{with_ended, ended-one, no-answer, untouched-after, others, no-dues, ended_as_due}

-- the client's number and root of the block's region are the present ones
pub same-worth : (shape : Shape) (judge : Judge) (c : state.Serving) (a : Answer) → MirrorsCounts shape judge c → region_of shape a.block < regions shape
    → worth shape c a ≡ verdict_of shape judge a
unfolding present_root
same-worth shape judge c a counts inside =
    ap₂ (λ root number. verdict_at shape root number a) (ap (λ blocks. region_root shape blocks (region_of shape a.block)) counts.contents) (counts.numbers (region_of shape a.block) inside)

module _ (volume : Volume) (events : List Event) (history : List Past) (judge : Judge) (n m : ℕ) (c : state.Serving) (step : TraceStep) (name : NodeName) (a : Answer)
    (h : Holds volume history judge n m (state.Serves c)) (ours : is_ours volume.geometry judge name a ≡ true) where
  abbrev pub after : List Line → List Past
  after due = past step (Says name (message.Answer a)) judge due ∷ history

  abbrev pub Row : List Line → state.Told → Type 0
  Row due told = AsDue volume (after due) (judged_all events judge due) n m due told

  -- a stale answer
  pub stale_as_due : verdict_of volume.geometry judge a ≡ Stale → (o : state.Open) → Row [] (asked_again volume.geometry c name o)
  unfolding judged_all
  stale_as_due stale o =
      let same = ignored_as_due volume events history judge n m c step name h (message.Answer a) (agree-stale volume.geometry history judge step name a [] stale) (λ s who. refl) in
      record { same = refl; holds = same.holds }

  abbrev rq : List Question
  rq = read_questions (left_of (live history judge))

  abbrev hq : List Question
  hq = head_questions volume.geometry (line_of (live history judge))

  pub asked-parts : (list_all (λ q. is_asked volume.geometry history judge q) rq ≡ true) × (list_all (λ q. is_asked volume.geometry history judge q) hq ≡ true)
  asked-parts =
      and_parts _ _ (sym (list_all-append (λ q. is_asked volume.geometry history judge q) rq hq) ∙ all-asked volume.geometry history judge h.mirrors.serves)

  -- a strike that is not the last: the table of reads, or that of the head, has it
  module _ (s : Strike) (strikes : verdict_of volume.geometry judge a ≡ Struck s) where
    known_same : (q : Question) → is_known volume.geometry q (after []) ≡ is_known volume.geometry q history
    known_same q = known-struck volume.geometry history judge step name a [] s strikes q

    struck_order : IsInOrder volume.geometry (after []) judge (live history judge) n
    struck_order = record {
      rises = h.mirrors.order.rises;
      later = h.mirrors.order.later;
      inside = h.mirrors.order.inside;
      waiting = h.mirrors.order.waiting;
      unknown = list_any_same (λ q. is_known volume.geometry q (after [])) (λ q. is_known volume.geometry q history) known_same rq ∙ h.mirrors.order.unknown;
      untouched = untouched-after volume events history judge n m c step name a h ours [];
      front = h.mirrors.order.front;
    }

    pub struck_as_due : (next : state.Serving) → next.claims ≡ c.claims → MirrorsCounts volume.geometry judge next
        → MirrorsLine volume.geometry (after []) judge (live history judge) next → Row [] (ignored (state.Serves next))
    unfolding judged_all
    struck_as_due next same counts table =
        let work : AreWork [] = work_lines [] refl in
        let lives : live (after []) judge ≡ live history judge = said-live volume events history judge n m c step name h (message.Answer a) [] work judge in
        record {
          same = refl;
          holds = record {
            before = before-serving volume.geometry (after []) judge (live history judge) n struck_order h.before.ended;
            young = h.young;
            mirrors = record {
              serves = said-phase volume events history judge n m c step name h (message.Answer a) [] work;
              counts = counts;
              table = subst (λ rs. MirrorsLine volume.geometry (after []) judge rs next) (sym lives) table;
              order = subst (λ rs. IsInOrder volume.geometry (after []) judge rs n) (sym lives) struck_order;
              claims = λ who k up. ap (λ cs. nat_le k (claim_of who cs)) same
                  ∙ claims-plain history (past step (Says name (message.Answer a)) judge []) judge c refl (λ x y. refl) h.mirrors.claims who k up;
            };
          };
        }

  module _ (q : Question) (f : FoundRead a (left_of (live history judge)) q) (head_off : list_any (hits a) hq ≡ false) where
    head_no : list_any (λ x. is_answer volume.geometry judge x name a) hq ≡ false
    head_no = no-answer volume events history judge n m c step name a h ours hq head_off

    struck_read : (s : Strike) → verdict_of volume.geometry judge a ≡ Struck s → Row [] (ignored (state.Serves (record c { reads = struck_at a name.replica s c.reads })))
    struck_read s strikes =
        struck_as_due s strikes (record c { reads = struck_at a name.replica s c.reads }) refl
        (record {
          session = h.mirrors.counts.session;
          last = h.mirrors.counts.last;
          acked = h.mirrors.counts.acked;
          contents = h.mirrors.counts.contents;
          numbers = h.mirrors.counts.numbers;
          leaders = h.mirrors.counts.leaders;
          within = h.mirrors.counts.within;
          based = h.mirrors.counts.based;
          leads = h.mirrors.counts.leads;
        })
        (record {
          line = h.mirrors.table.line;
          reads = ap (struck_at a name.replica s) h.mirrors.table.reads
              ∙ struck-table volume.geometry history judge step name a [] s strikes ours rq asked-parts.0;
          asked = h.mirrors.table.asked
              ∙ ap (map (open_of volume.geometry history)) (filter_same _ _ (λ x. ap not (sym (known-struck volume.geometry history judge step name a [] s strikes x))) hq)
              ∙ sym (off-open volume.geometry history judge step name a [] _ (off-filter volume.geometry history judge step name a [] (λ x. not (is_known volume.geometry x (after []))) hq head_no));
          barriers = h.mirrors.table.barriers;
        })

    -- with a fault no barrier is due
    fault_alone : (strikes : List (Option Strike)) → with_barriers events judge (live history judge) (line.Fault q.event q.block strikes ∷ []) ≡ line.Fault q.event q.block strikes ∷ []
    unfolding judged_all live
    fault_alone strikes =
        ap (λ rs. line.Fault q.event q.block strikes ∷ barriers_due (with_ended judge q.event) rs)
        (unended-more judge (with_ended judge q.event) (q.event ∷ []) (ended-one judge q.event) (live history judge)
        ∙ ap (without (q.event ∷ [])) (unended-twice judge (all_taken (since opens history)))
        ∙ others volume events history judge n m c step name a h ours q f head_off)
        ∙ ap (λ ls. line.Fault q.event q.block strikes ∷ ls) (no-dues volume events history judge n m c step name a h ours q f head_off)

    pub read_judged_as_due : (v : Verdict) → verdict_of volume.geometry judge a ≡ v
        → Row (due_verdict volume.geometry events history judge q name.replica a v) (read_judged volume.geometry c name a (open_of volume.geometry history q) v)
    read_judged_as_due Stale is = stale_as_due is (open_of volume.geometry history q)
    read_judged_as_due Good is =
        subst (λ ls. Row ls (read_ended c (open_of volume.geometry history q) (line.Read q.event q.block a.bytes)))
        (sym (ap (λ t. if t then line.Read q.event q.block a.bytes ∷ []
        else (if others_known volume.geometry history (questions volume.geometry (live history judge)) q
        then with_barriers events judge (live history judge) (line.Submit q.event (last_number judge + 1) ∷ []) else [])) (eq-eqb q.number q.event f.number)))
        (ended_as_due volume events history judge n m c step name a h ours q f head_off (line.Read q.event q.block a.bytes) refl refl (open_of volume.geometry history q) refl)
    read_judged_as_due (Struck s) is =
        let strikes : List (Option Strike) = (struck name.replica s (open_of volume.geometry history q)).strikes in
        subst (λ xs. Row (due_struck events history judge q xs) (read_struck c name a (open_of volume.geometry history q) s))
        (struck-strikes volume.geometry history judge step name a [] s q)
        (by_test (λ t. Row (if t then with_barriers events judge (live history judge) (line.Fault q.event q.block strikes ∷ []) else [])
        (if t then read_ended c (open_of volume.geometry history q) (line.Fault q.event q.block strikes) else ignored (state.Serves (record c { reads = struck_at a name.replica s c.reads }))))
        (all_struck strikes)
        (λ _. subst (λ ls. Row ls (read_ended c (open_of volume.geometry history q) (line.Fault q.event q.block strikes))) (sym (fault_alone strikes))
        (ended_as_due volume events history judge n m c step name a h ours q f head_off (line.Fault q.event q.block strikes) refl refl (open_of volume.geometry history q) refl))
        (λ _. struck_read s is))
