-- Each message by which a client opens a session gives the lines due.
use Rattle.std.proofs.Common.{◌≡◌, ℕ, ◌<◌, true, false, ◌||◌, ◌==◌, ◌∙◌, if◌then◌else◌, List, [], ◌∷◌, ◌++◌, Option, None, Some, refl, ap, sym, subst, arith, append-nil}
use Rattle.std.specs.Prelude.{filter, flat_map, IfSome}
use Rattle.std.proofs.lemmas.Grind.{flat_map-append}
use Rattle.std.proofs.lemmas.List.Elements.{filter-append}
use Rattle.std.proofs.lemmas.List.Folds.{list_any-append}
use Rattle.salus_types.specs.Volume.{Shape}
use Rattle.salus_types.specs.declared.names.NodeName.{NodeName}
use Rattle.salus_types.specs.declared.records.Held.{Held}
use Rattle.salus_types.specs.declared.records.Header.{Header}
use Rattle.salus_message.specs.declared.carried.Gathered.{Gathered}
use Rattle.salus_message.specs.declared.wire.Message.TheVariants as message
use Rattle.schedule_text.specs.declared.schedule.Volume.{Volume}
use Rattle.schedule_text.specs.declared.schedule.Event.{Event}
use Rattle.printed_lines.specs.declared.line.Line.{Line}
use Rattle.printed_lines.specs.declared.line.Line.TheVariants as line
use Rattle.salus_model.specs.declared.trace.TraceStep.{TraceStep}
use Rattle.volume_model.specs.Contents.{blocks_in}
use Rattle.salus_model.specs.Judge.{Judge, judged_all}
use Rattle.salus_model.specs.Hearing.{News, Says, Past, news_since, begins, is_serving, phase_of, Closed, Gathering}
use Rattle.volume_model.specs.Groups.{same_node, all_nodes}
use Rattle.volume_model.specs.Recovering.{base_counts, record_counts, recovered, choice_of}
use Rattle.salus_model.specs.Opening.{Reply, has_replied, with_reply, replies_to, all_replied, headers_in, pool_of}
use Rattle.salus_model.specs.Due.{due_choice, due_replies, due_gathering}
use Rattle.client_rules.specs.State as state
use Rattle.client_rules.specs.State.{ignored}
use Rattle.client_rules.specs.Opening.{has_answered, with_held, with_reply_of, joined_blocks, chosen, gathered_all, gathered_here, staged_from}
use Rattle.list_lemmas.proofs.Tests.{by_test}
use Rattle.list_lemmas.proofs.Lists.{list_all_same}
use Rattle.law_lines.specs.Mirrors.{Holds, AsDue, IsFrontOf, ChoiceHolds}
use Rattle.law_lines.proofs.Histories.{past}
use Rattle.law_lines.proofs.Away.{before-away, news-begins, replies-kept}
use Rattle.law_lines.proofs.Openings.{HasNodes, staged_as_due}

-- what counts of one reply more
pool-more : (shape : Shape) (key : List ℕ) (replies : List Reply) (name : NodeName) (held : Held)
    → with_held shape key held (pool_of shape key replies) ≡ pool_of shape key (replies ++ record { name = name; held = held } ∷ [])
unfolding pool_of
pool-more shape key replies name held = λ i. record {
  bases = bases_same i;
  parts = parts_same i;
  headers = headers_same i;
}
  where
    one : Reply
    one = record { name = name; held = held }

    bases_same : filter (λ base. base_counts shape key base) (flat_map (λ r. r.held.bases) replies) ++ filter (λ base. base_counts shape key base) held.bases
        ≡ filter (λ base. base_counts shape key base) (flat_map (λ r. r.held.bases) (replies ++ one ∷ []))
    bases_same = sym (ap (filter (λ base. base_counts shape key base)) (flat_map-append (λ r. r.held.bases) replies (one ∷ []) ∙ ap (λ l. flat_map (λ r. r.held.bases) replies ++ l) (append-nil held.bases))
        ∙ filter-append (λ base. base_counts shape key base) (flat_map (λ r. r.held.bases) replies) held.bases)

    parts_same : filter (λ rec. record_counts shape key rec) (flat_map (λ r. r.held.parts) replies) ++ filter (λ rec. record_counts shape key rec) held.parts
        ≡ filter (λ rec. record_counts shape key rec) (flat_map (λ r. r.held.parts) (replies ++ one ∷ []))
    parts_same = sym (ap (filter (λ rec. record_counts shape key rec)) (flat_map-append (λ r. r.held.parts) replies (one ∷ []) ∙ ap (λ l. flat_map (λ r. r.held.parts) replies ++ l) (append-nil held.parts))
        ∙ filter-append (λ rec. record_counts shape key rec) (flat_map (λ r. r.held.parts) replies) held.parts)

    headers_same : flat_map (λ r. headers_in shape key r.held) replies ++ headers_in shape key held ≡ flat_map (λ r. headers_in shape key r.held) (replies ++ one ∷ [])
    headers_same = sym (flat_map-append (λ r. headers_in shape key r.held) replies (one ∷ []) ∙ ap (λ l. flat_map (λ r. headers_in shape key r.held) replies ++ l) (append-nil (headers_in shape key held)))

-- the client after a reply mirrors the replies with it
pub record MirrorsReplies (volume : Volume) (g : state.Gathering) (replies : List Reply) : Type 0 where
  pub answered : (name : NodeName) → has_answered name g.answered ≡ has_replied name replies
  pub pool : g.pool ≡ pool_of volume.geometry volume.key replies

pub reply-more : (volume : Volume) (g : state.Gathering) (replies : List Reply) (name : NodeName) (held : Held) → MirrorsReplies volume g replies
    → MirrorsReplies volume (with_reply_of volume name held g) (with_reply replies (record { name = name; held = held } ∷ []))
reply-more volume g replies name held m =
    subst (λ t. MirrorsReplies volume (if t then g else record g { answered = g.answered ++ name ∷ []; pool = with_held volume.geometry volume.key held g.pool })
    (with_reply replies (record { name = name; held = held } ∷ []))) (sym (m.answered name))
    (by_test (λ t. MirrorsReplies volume (if t then g else record g { answered = g.answered ++ name ∷ []; pool = with_held volume.geometry volume.key held g.pool })
    (if t then replies else replies ++ record { name = name; held = held } ∷ [])) (has_replied name replies)
    (λ _. m)
    (λ _. record {
      answered = λ who. list_any-append (λ x. same_node x who) g.answered (name ∷ []) ∙ ap (λ t. t || (same_node name who || false)) (m.answered who)
          ∙ sym (list_any-append (λ r. same_node r.name who) replies (record { name = name; held = held } ∷ []));
      pool = ap (with_held volume.geometry volume.key held) m.pool ∙ pool-more volume.geometry volume.key replies name held;
    }))

module _ (volume : Volume) (events : List Event) (history : List Past) (judge : Judge) (n m : ℕ) (step : TraceStep) (name : NodeName) (nodes : HasNodes volume.geometry) where
  -- ---- gathering

  module _ (g : state.Gathering) (h : Holds volume history judge n m (state.Gathers g)) (msg : Gathered) where
    abbrev x : News
    x = Says name (message.Gathered msg)

    abbrev replies : List Reply
    replies = replies_to g.session (news_since begins history)

    abbrev more : List Reply
    more = with_reply replies (record { name = name; held = msg.held } ∷ [])

    more_is : (due : List Line) → (msg.session == g.session) ≡ true → replies_to g.session (news_since begins (past step x judge due ∷ history)) ≡ more
    unfolding replies_to
    more_is due this = ap (replies_to g.session) (news-begins history (past step x judge due) refl) ∙ ap (λ t. with_reply replies (if t then record { name = name; held = msg.held } ∷ [] else [])) this

    due_more : (msg.session == g.session) ≡ true → replies_to g.session (x ∷ news_since begins history) ≡ more
    unfolding replies_to
    due_more this = ap (λ t. with_reply replies (if t then record { name = name; held = msg.held } ∷ [] else [])) this

    abbrev next : state.Gathering
    next = with_reply_of volume name msg.held g

    next_mirrors : MirrorsReplies volume next more
    next_mirrors = reply-more volume g replies name msg.held (record { answered = h.mirrors.answered; pool = h.mirrors.pool })

    session_kept : next.session ≡ g.session
    session_kept = by_test (λ t. (if t then g else record g { answered = g.answered ++ name ∷ []; pool = with_held volume.geometry volume.key msg.held g.pool }).session ≡ g.session) (has_answered name g.answered) (λ _. refl) (λ _. refl)

    abbrev Row : List Line → state.Told → Type 0
    Row due told = AsDue volume (past step x judge due ∷ history) (judged_all events judge due) n m due told

    away : is_serving (phase_of history) ≡ false
    away = ap is_serving h.mirrors.phase

    same_phase : phase_of (past step x judge [] ∷ history) ≡ phase_of history
    unfolding phase_of
    same_phase = refl

    -- the client goes on gathering
    gathers : (g2 : state.Gathering) → g2.session ≡ g.session → MirrorsReplies volume g2 (replies_to g.session (news_since begins (past step x judge [] ∷ history)))
        → Row [] (ignored (state.Gathers g2))
    unfolding judged_all
    gathers g2 session r = record {
      same = refl;
      holds = record {
        before = before-away volume.geometry history _ judge judge n n away (omega arith) (λ v is. is) refl h.before;
        young = subst (λ e. (judge.now.session < e) × (e < m)) (sym session) h.young;
        mirrors = record {
          phase = same_phase ∙ h.mirrors.phase ∙ ap Gathering (sym session);
          answered = λ who. r.answered who ∙ ap (λ e. has_replied who (replies_to e (news_since begins (past step x judge [] ∷ history)))) (sym session);
          pool = r.pool ∙ ap (λ e. pool_of volume.geometry volume.key (replies_to e (news_since begins (past step x judge [] ∷ history)))) (sym session);
        };
      };
    }

    lost_phase : phase_of (past step x judge (line.Lost g.session ∷ []) ∷ history) ≡ Closed
    unfolding phase_of
    lost_phase = refl

    lost_as_due : Row (line.Lost g.session ∷ []) (record { client = state.Closed; outs = []; lines = line.Lost next.session ∷ [] })
    unfolding judged_all
    lost_as_due = record {
      same = ap (λ e. line.Lost e ∷ []) session_kept;
      holds = record {
        before = before-away volume.geometry history _ judge judge n n away (omega arith) (λ v is. is) refl h.before;
        young = let a = h.young.0 in let b = h.young.1 in omega (arith, a, b);
        mirrors = lost_phase;
      };
    }

    chosen_as_due : (o : Option Header) → choice_of volume.geometry (pool_of volume.geometry volume.key more) ≡ o
        → IfSome o (λ hd. IsFrontOf volume judge (pool_of volume.geometry volume.key more) hd) → Row (due_choice g.session o) (chosen volume next o)
    chosen_as_due None is front = lost_as_due
    chosen_as_due (Some hd) is front =
        subst (λ e. Row (line.Stage g.session hd.session hd.seq ∷ []) (staged_from volume e hd.session hd.seq (joined_blocks (recovered volume.geometry next.pool hd))
        (λ r. blocks_in volume.geometry (joined_blocks (recovered volume.geometry next.pool hd)) r))) (sym session_kept)
        (staged_as_due volume events history judge n m step x nodes h.before away g.session hd.session hd.seq front.from _ _ h.young front.at front.within
        (ap (λ pool. joined_blocks (recovered volume.geometry pool hd)) next_mirrors.pool ∙ front.contents))

    replied_as_due : (msg.session == g.session) ≡ true → ChoiceHolds volume judge more → Row (due_replies volume g.session more) (gathered_all volume next)
    replied_as_due this choice =
        subst (λ t. Row (due_replies volume g.session more) (if t then chosen volume next (choice_of volume.geometry next.pool) else ignored (state.Gathers next)))
        (sym (list_all_same _ _ (λ who. next_mirrors.answered who) (all_nodes volume.geometry)))
        (by_test (λ t. all_replied volume.geometry more ≡ t
        → Row (if t then due_choice g.session (choice_of volume.geometry (pool_of volume.geometry volume.key more)) else [])
        (if t then chosen volume next (choice_of volume.geometry next.pool) else ignored (state.Gathers next)))
        (all_replied volume.geometry more)
        (λ _ all. subst (λ pool. Row (due_choice g.session (choice_of volume.geometry (pool_of volume.geometry volume.key more))) (chosen volume next (choice_of volume.geometry pool)))
        (sym next_mirrors.pool) (chosen_as_due _ refl (choice all)))
        (λ _ _. gathers next session_kept (subst (λ rs. MirrorsReplies volume next rs) (sym (more_is [] this)) next_mirrors)) refl)

    pub gathered_as_due : ChoiceHolds volume judge (replies_to g.session (x ∷ news_since begins history))
        → Row (due_gathering volume history g.session name (message.Gathered msg)) (gathered_here volume g name msg)
    unfolding gathered_here
    gathered_as_due choice =
        by_test (λ t. (msg.session == g.session) ≡ t → Row (if t then due_replies volume g.session (replies_to g.session (x ∷ news_since begins history)) else [])
        (if t then gathered_all volume next else ignored (state.Gathers g)))
        (msg.session == g.session)
        (λ _ this. subst (λ rs. Row (due_replies volume g.session rs) (gathered_all volume next)) (sym (due_more this))
        (replied_as_due this (subst (λ rs. ChoiceHolds volume judge rs) (due_more this) choice)))
        (λ _ other. gathers g refl (subst (λ rs. MirrorsReplies volume g rs)
        (sym (replies-kept history (past step x judge []) g.session refl (ap (λ t. if t then record { name = name; held = msg.held } ∷ [] else []) other)))
        (record { answered = h.mirrors.answered; pool = h.mirrors.pool }))) refl
