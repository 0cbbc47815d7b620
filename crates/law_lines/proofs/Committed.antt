-- A claim to a serving client gives the lines due.
use Rattle.std.proofs.Common.{◌≡◌, ℕ, ◌<◌, true, false, ◌&&◌, ◌==◌, ◌∙◌, nat_le, if◌then◌else◌, List, [], ◌∷◌, drop, refl, ap, sym, subst, arith}
use Rattle.std.specs.List.{list_any}
use Rattle.salus_types.specs.Volume.{Shape}
use Rattle.salus_types.specs.declared.names.NodeName.{NodeName}
use Rattle.salus_message.specs.declared.small.Committed.{Committed}
use Rattle.salus_message.specs.declared.wire.Message.{Message}
use Rattle.salus_message.specs.declared.wire.Message.TheVariants as message
use Rattle.schedule_text.specs.declared.schedule.Volume.{Volume}
use Rattle.schedule_text.specs.declared.schedule.Event.{Event}
use Rattle.printed_lines.specs.declared.line.Line.{Line}
use Rattle.salus_model.specs.declared.trace.TraceStep.{TraceStep}
use Rattle.salus_model.specs.Judge.{Judge, judged_all}
use Rattle.volume_model.specs.Groups.{same_node}
use Rattle.salus_model.specs.Hearing.{News, Says, Past, news_since, since, opens, phase_of, Serving}
use Rattle.salus_model.specs.Waiting.{Taken, all_taken, live, unended, Question}
use Rattle.salus_model.specs.Due.{is_claim, acks_due, due_serving}
use Rattle.client_rules.specs.State as state
use Rattle.client_rules.specs.State.{ignored}
use Rattle.client_rules.specs.Serving.{claimed, acks, acked_told, committed_here}
use Rattle.list_lemmas.proofs.Tests.{by_test, and_false}
use Rattle.law_lines.specs.Mirror.{MirrorsCounts, MirrorsLine, MirrorsServing, IsInOrder}
use Rattle.law_lines.specs.Mirrors.{Holds, AsDue}
use Rattle.law_lines.proofs.Settled.{unended-twice}
use Rattle.law_lines.proofs.Histories.{past, AreWork, work_lines, live-plain, news-plain, AgreeOn, agree-quiet}
use Rattle.law_lines.proofs.Keeping.{IsNoClaim, table-same, order-same, before-serving, serving-same}
use Rattle.law_lines.proofs.Claiming.{claims-with}
use Rattle.law_lines.proofs.Acking.{Acknowledges, acks_law}

module _ (volume : Volume) (events : List Event) (history : List Past) (judge : Judge) (n m : ℕ) (c : state.Serving) (step : TraceStep) (name : NodeName)
    (h : Holds volume history judge n m (state.Serves c)) where
  abbrev pub said : Message → List Line → Past
  said what due = past step (Says name what) judge due

  abbrev pub Row : Message → List Line → state.Told → Type 0
  Row what due told = AsDue volume (said what due ∷ history) (judged_all events judge due) n m due told

  pub said-live : (what : Message) (due : List Line) → AreWork due → (j : Judge) → live (said what due ∷ history) j ≡ live history j
  said-live what due work j = live-plain history (said what due) j work.opens_not (rw work.refuses_not refl)

  pub said-phase : (what : Message) (due : List Line) → AreWork due → phase_of (said what due ∷ history) ≡ Serving
  unfolding phase_of
  said-phase what due work = work.phase (phase_of history) ∙ h.mirrors.serves

  -- a message that is worth nothing
  pub ignored_as_due : (what : Message) → ((q : Question) → AgreeOn volume.geometry q (said what [] ∷ history) history) → IsNoClaim judge.now.session (Says name what)
      → Row what [] (ignored (state.Serves c))
  unfolding judged_all
  ignored_as_due what agree unclaimed =
      let work : AreWork [] = work_lines [] refl in
      let s : MirrorsServing volume.geometry (said what [] ∷ history) judge n c =
      serving-same volume.geometry history (said what []) judge n n c (omega arith) agree (said-phase what [] work ∙ sym h.mirrors.serves)
      (said-live what [] work judge) refl unclaimed h.mirrors in
      record {
        same = refl;
        holds = record { before = before-serving volume.geometry _ judge _ n s.order h.before.ended; young = h.young; mirrors = s };
      }

  claimed_as_due : (m1 : Committed) → (m1.session == judge.now.session) ≡ true
      → Row (message.Committed m1)
      (acks_due volume.geometry events (live history judge) (Says name (message.Committed m1) ∷ news_since opens history) judge (drop judge.acked judge.now.list))
      (acked_told (acks volume.geometry (claimed c name m1.front) c.unacked))
  unfolding live
  claimed_as_due m1 this =
      let shape : Shape = volume.geometry in
      let news : List News = Says name (message.Committed m1) ∷ news_since opens history in
      let taken : List Taken = all_taken (since opens history) in
      let due : List Line = acks_due shape events (live history judge) news judge (drop judge.acked judge.now.list) in
      let next : List Past = said (message.Committed m1) due ∷ history in
      let agree : (q : Question) → AgreeOn shape q next history = agree-quiet shape history (said (message.Committed m1) due) (λ q. refl) in
      let counts : MirrorsCounts shape judge (claimed c name m1.front) = record {
        session = h.mirrors.counts.session;
        last = h.mirrors.counts.last;
        acked = h.mirrors.counts.acked;
        contents = h.mirrors.counts.contents;
        numbers = h.mirrors.counts.numbers;
        leaders = h.mirrors.counts.leaders;
        within = h.mirrors.counts.within;
        based = h.mirrors.counts.based;
        leads = h.mirrors.counts.leads;
      } in
      let before_table : MirrorsLine shape next judge (unended judge taken) c = table-same shape history next agree judge (live history judge) c h.mirrors.table in
      let start : Acknowledges shape next events news (live history judge) taken n judge (claimed c name m1.front) c.unacked (drop judge.acked judge.now.list) = record {
        counts = counts;
        table = record { line = before_table.line; reads = before_table.reads; asked = before_table.asked; barriers = before_table.barriers };
        order = order-same shape history next agree judge (live history judge) n h.mirrors.order;
        ended = h.before.ended;
        same = unended-twice judge taken;
        left = refl;
        batches_left = refl;
        claims = claims-with judge.now.session name m1 c.claims (news_since opens history) this h.mirrors.claims;
      } in
      let done = acks_law shape next events news (live history judge) taken n c.unacked (drop judge.acked judge.now.list) judge (claimed c name m1.front) h.mirrors.counts.leaders start in
      let work : AreWork due = work_lines due done.work in
      let lives : live next (judged_all events judge due) ≡ unended (judged_all events judge due) taken = said-live (message.Committed m1) due work (judged_all events judge due) in
      let told : state.Serving = (acks shape (claimed c name m1.front) c.unacked).client in
      record {
        same = done.same_lines;
        holds = record {
          before = before-serving shape next (judged_all events judge due) (unended (judged_all events judge due) taken) n done.at_end.order done.at_end.ended;
          young = subst (λ e. e < m) (sym done.session_same) h.young;
          mirrors = record {
            serves = said-phase (message.Committed m1) due work;
            counts = done.at_end.counts;
            table = subst (λ rs. MirrorsLine shape next (judged_all events judge due) rs told) (sym lives) done.at_end.table;
            order = subst (λ rs. IsInOrder shape next (judged_all events judge due) rs n) (sym lives) done.at_end.order;
            claims = λ who s up. done.at_end.claims who s up
                ∙ ap (list_any (λ x. is_claim (judged_all events judge due).now.session s who x)) (sym (news-plain history (said (message.Committed m1) due) work.opens_not));
          };
        };
      }

  not_claimed : (m1 : Committed) → (m1.session == judge.now.session) ≡ false → IsNoClaim judge.now.session (Says name (message.Committed m1))
  not_claimed m1 other s who = ap (λ t. t && nat_le s m1.front) (ap (λ t. same_node name who && t) other ∙ and_false (same_node name who))

  pub committed_as_due : (m1 : Committed)
      → Row (message.Committed m1) (due_serving volume.geometry events history judge name (message.Committed m1)) (committed_here volume.geometry c name m1.session m1.front)
  unfolding committed_here
  committed_as_due m1 =
      subst (λ t. Row (message.Committed m1) (due_serving volume.geometry events history judge name (message.Committed m1))
      (if t then acked_told (acks volume.geometry (claimed c name m1.front) c.unacked) else ignored (state.Serves c)))
      (ap (λ e. m1.session == e) (sym h.mirrors.counts.session))
      (by_test (λ t. (m1.session == judge.now.session) ≡ t → Row (message.Committed m1)
      (if t then acks_due volume.geometry events (live history judge) (Says name (message.Committed m1) ∷ news_since opens history) judge (drop judge.acked judge.now.list) else [])
      (if t then acked_told (acks volume.geometry (claimed c name m1.front) c.unacked) else ignored (state.Serves c)))
      (m1.session == judge.now.session)
      (λ _ this. claimed_as_due m1 this)
      (λ _ other. ignored_as_due (message.Committed m1) (agree-quiet volume.geometry history (said (message.Committed m1) []) (λ q. refl)) (not_claimed m1 other)) refl)
