-- The rules of an open session: each keeps what stands, and its changes are those of the abstract model.
use Rattle.std.proofs.Common.{◌≡◌, ◌∙◌, ◌⊎◌, inl, inr, ℕ, zero, suc, ◌+◌, ◌-◌, ◌^◌, ◌<◌, ◌≤◌, ◌==◌, ◌&&◌, not, nat_lt, nat_le, Bool, true, false, if◌then◌else◌, List, [], ◌∷◌, ◌++◌, length, map, Option, None, Some, refl, sym, ap, subst, arith, append_assoc}
use Rattle.std.specs.Prelude.{filter, flat_map}
use Rattle.std.specs.Option.{option_map_or}
use Rattle.std.specs.List.{AllByRecursion, list_any}
use Rattle.std.proofs.lemmas.Bool.{eqb-true, eq-eqb, leb-true}
use Rattle.std.proofs.lemmas.List.{append-nil}
use Rattle.salus_types.specs.Volume.{Shape}
use Rattle.salus_types.specs.declared.names.NodeName.{NodeName}
use Rattle.salus_types.specs.declared.names.Sender.TheVariants as sender
use Rattle.salus_types.specs.declared.records.Header.{Header}
use Rattle.salus_types.specs.declared.records.Record.{Record}
use Rattle.salus_types.specs.declared.records.Held.{Held}
use Rattle.salus_message.specs.declared.small.Prepared.{Prepared}
use Rattle.salus_message.specs.declared.small.Committed.{Committed}
use Rattle.salus_message.specs.declared.small.Ask.{Ask}
use Rattle.salus_message.specs.declared.small.Dump.{Dump}
use Rattle.salus_message.specs.declared.wire.Message.{Message}
use Rattle.salus_message.specs.declared.wire.Message.TheVariants as message
use Rattle.merkle_region.specs.Tree.{IsAmong}
use Rattle.volume_model.specs.Groups.{group_of, all_nodes}
use Rattle.holding_model.specs.Changing.{Change, AddsPart, FoldsTo, changed, after_changes}
use Rattle.replica_rules.specs.Views.{View, view_of_base, view_after, view_root, is_accepted, has_right_shape, led_by}
use Rattle.replica_rules.specs.Voting.{with_vote, lesser, greatest_of, with_claim, committed}
use Rattle.replica_rules.specs.Replicas.{Replica, with_view, PartAnswer, Foreign, Known, Early, Full, Differs, Next, PartTaken, left_as, is_for, has_early, kept_early, tried, take_part, KeptTaken, next_kept, without_kept, take_out, take_kept, Applied, no_more, after_part, kept_in_turn, all_kept_in_turn, take_ask, AskTaken, is_asked_here, is_due, answer_to, with_ask, due_answers}
use Rattle.replica_rules.specs.Leading.{Leader, noted_with, all_certified, front_after}
use Rattle.replica_rules.specs.Nodes.{Memory}
use Rattle.replica_rules.specs.Rules.{Sending, Turn, quiet, vote_for, votes_for, claim_of, claims_of, then_claims, stored, voted_again, part_answered, then_answers, by_part, ask_taken, by_ask, same_record, dumped, by_dump, with_leader, by_vote, fold_number, folds, after_fold, then_fold, by_claim, is_at_start, by_tick, is_carried}
use Rattle.list_lemmas.proofs.Each.{either_way, all_both, all_filter, all_map, all_then, all_each, all_flat, some_way, flat_of_all, all_zip}
use Rattle.list_lemmas.proofs.Members.{among_all, found_among}
use Rattle.list_lemmas.proofs.Tests.{way_with, and_left, and_right}
use Rattle.law_prefix.specs.Numbers.{Mem}
use Rattle.law_prefix.specs.World.{Client, Vote, Claim, Volume}
use Rattle.law_prefix.specs.Steps.{Changes, IsBatch}
use Rattle.kept_model.specs.Nodes.{node_of}
use Rattle.kept_model.specs.Images.{open_place, later_sessions, image_of}
use Rattle.law_refined.specs.Bringing.{PartFits, VotedFor, ClaimedFor}
use Rattle.law_refined.specs.Standing.{ChainOn, Chain, Opened, HeldStands, Certain, LeaderStands, BegunBy, EarlyFits, MemoryStands}
use Rattle.law_refined.proofs.Chains.{goes_from, chain_fits, chain_sessions}
use Rattle.law_refined.proofs.Opens.{PartMore, part_more, FoldedTo, fold_to}
use Rattle.law_refined.proofs.Leads.{leader_more, sure_more, all_sure, front_moved, vote_more, claim_more, noted_more}

not_false : (b : Bool) → not b ≡ false → b ≡ true
not_false true e = refl
not_false false e = absurd (cc)

module _ (shape : Shape) (v : Volume) (g : ℕ) (c : Client) (votes : List Vote) (claims : List Claim) where
  -- each of the changes is one of the abstract model, and what is held stands after it
  unfoldable pub Reaches : Held → List Change → Type 0
  Reaches held [] = Unit {0}
  Reaches held (change ∷ changes) = Changes c g (image_of held) (image_of (changed shape held change)) × HeldStands shape g c (changed shape held change) × Reaches (changed shape held change) changes

  abbrev pub Sure : Held → ℕ → Type 0
  Sure now x = Certain v c votes claims now.session (open_place now) x

  -- what stands behind a message, by what is held after it; behind a vote stands something else
  abbrev pub OutFits : Held → Message → Type 0
  OutFits now (message.Committed m) = (m.session ≡ now.session) × (Sure now m.front ⊎ (m.front ≤ open_place now) × IsBatch c now.session (m.front - 1))
  OutFits now (message.Staged m) = Mem m.session (later_sessions now) × Mem m.session c.known × (m.session < 2 ^ 64)
  OutFits now (message.Switched m) = now.session ≡ m.session
  OutFits now (message.Gathered m) = (m.held ≡ now) × (m.session ≤ c.asked) × (m.session < 2 ^ 64) × (is_carried m.held ≡ true)
  OutFits now other = Unit {0}

  abbrev pub AllFit : Held → List Sending → Type 0
  AllFit now outs = AllByRecursion (λ out. OutFits now out.message) outs

  abbrev pub Remembers : Held → Memory → Type 0
  Remembers held m = MemoryStands shape v g c votes claims held m

  pub record TurnStands (held : Held) (turn : Turn) : Type 0 where
    pub reaches : Reaches held turn.changes
    pub holds : HeldStands shape g c (after_changes shape held turn.changes)
    pub memory : Remembers (after_changes shape held turn.changes) turn.memory
    pub outs : AllFit (after_changes shape held turn.changes) turn.outs

  pub quiet_stands : (held : Held) (m : Memory) → HeldStands shape g c held → Remembers held m → TurnStands held (quiet m)
  unfolding after_changes Reaches
  quiet_stands held m holds memory = record { reaches = tt; holds = holds; memory = memory; outs = tt }

  -- ---- messages

  votes_fit : (now : Held) (rec : Record) → AllFit now (votes_for shape rec)
  votes_fit now rec =
      all_map (λ out. OutFits now out.message) (λ name. record { to = sender.Node name; message = vote_for rec }) (group_of shape (led_by rec.header)) (all_each (λ name. OutFits now (vote_for rec)) (group_of shape (led_by rec.header)) (λ name. tt))

  all_votes_fit : (now : Held) (parts : List Record) → AllFit now (flat_map (λ rec. votes_for shape rec) parts)
  all_votes_fit now parts = all_flat (λ out. OutFits now out.message) (λ rec. votes_for shape rec) parts (votes_fit now)

  claims_fit : (now : Held) (e x : ℕ) → OutFits now (claim_of e x) → AllFit now (claims_of shape e x)
  claims_fit now e x fits = (
    fits,
    all_map (λ out. OutFits now out.message) (λ name. record { to = sender.Node name; message = claim_of e x }) (all_nodes shape) (all_each (λ name. OutFits now (claim_of e x)) (all_nodes shape) (λ name. fits)),
  )

  sure_claims : (now : Held) (e : ℕ) → e ≡ now.session → (headers : List Header) → AllByRecursion (λ h. Sure now h.seq) headers → AllFit now (flat_map (λ h. claims_of shape e h.seq) headers)
  sure_claims now e same headers all =
      flat_of_all (λ out. OutFits now out.message) (λ h. claims_of shape e h.seq) headers
      (all_then (λ h. Sure now h.seq) (λ h. AllFit now (claims_of shape e h.seq)) (λ h sure. claims_fit now e h.seq (same, inl sure)) headers all)

  led_by_other : (held : Held) (m : Memory) (l : Leader) → Remembers held m → LeaderStands shape v c votes claims held.session (open_place held) l → l.base ≡ m.leader.base → Remembers held (record m { leader = l })
  led_by_other held m l r leads same = record {
    positive = r.positive;
    session = r.session;
    parts = r.parts;
    whole = r.whole;
    early = r.early;
    opened = r.opened;
    leads = leads;
    begun = subst (λ x. BegunBy c held.session x m.begun) (sym same) r.begun;
  }

  module _ (numbered : (r : ℕ) → v.honest r ≡ true → IsAmong (node_of shape r) (group_of shape (v.region r))) where
    pub claims_turn : (held : Held) (turn : Turn) → TurnStands held turn → TurnStands held (then_claims shape turn)
    claims_turn held turn stands =
        let now : Held = after_changes shape held turn.changes in
        let m : Memory = turn.memory in
        let r : Remembers now m = stands.memory in
        record {
          reaches = stands.reaches;
          holds = stands.holds;
          memory = led_by_other now m (record m.leader { front = front_after m.leader.front (all_certified shape m.leader) }) r
              (front_moved shape v c votes claims numbered now.session (open_place now) m.leader r.leads) refl;
          outs = all_both (λ out. OutFits now out.message) turn.outs (flat_map (λ h. claims_of shape m.replica.session h.seq) (all_certified shape m.leader)) stands.outs
              (sure_claims now m.replica.session r.session (all_certified shape m.leader) (all_sure shape v c votes claims numbered now.session (open_place now) m.leader r.leads));
        }

    answers_turn : (held : Held) (turn : Turn) → TurnStands held turn → TurnStands held (then_answers shape turn)
    answers_turn held turn stands =
        let now : Held = after_changes shape held turn.changes in
        let r : Remembers now turn.memory = stands.memory in
        record {
          reaches = stands.reaches;
          holds = stands.holds;
          memory = record { positive = r.positive; session = r.session; parts = r.parts; whole = r.whole; early = r.early; opened = r.opened; leads = r.leads; begun = r.begun };
          outs = all_both (λ out. OutFits now out.message) turn.outs (map (λ answer. record { to = sender.Client; message = message.Answer answer }) (due_answers shape turn.memory.replica)) stands.outs
              (all_map (λ out. OutFits now out.message) (λ answer. record { to = sender.Client; message = message.Answer answer }) (due_answers shape turn.memory.replica)
              (all_each (λ answer. Unit {0}) (due_answers shape turn.memory.replica) (λ answer. tt)));
        }

    -- ---- the kept parts in their turn

    pub record AppliedStands (e : ℕ) (view : View) (applied : Applied) : Type 0 where
      pub kept : AllByRecursion (EarlyFits shape g c e) applied.replica.early
      pub session : applied.replica.session ≡ e
      pub chain : Chain shape g c e view applied.parts applied.replica.view

    abbrev NextView : ℕ → View → Option Record → View → Type 0
    NextView e view None now = now ≡ view
    NextView e view (Some rec) now = ChainOn shape g c e view rec × (now ≡ view_after shape view rec)

    record KeptStands (e : ℕ) (view : View) (taken : KeptTaken) : Type 0 where
      pub kept : AllByRecursion (EarlyFits shape g c e) taken.replica.early
      pub session : taken.replica.session ≡ e
      pub now : NextView e view taken.part taken.replica.view

    on_of : (e : ℕ) (view : View) (rec : Record) → EarlyFits shape g c e rec → rec.header.previous ≡ view.number → is_accepted shape view rec ≡ true → ChainOn shape g c e view rec
    on_of e view rec fits starts accepted = record { session = fits.session; goes = goes_from shape g view rec fits.region fits.shaped starts accepted; fits = fits.fits }

    take_kept_stands : (e : ℕ) (r : Replica) → AllByRecursion (EarlyFits shape g c e) r.early → r.session ≡ e → KeptStands e r.view (take_kept shape r)
    unfolding take_kept
    take_kept_stands e r kept same =
        let less : AllByRecursion (EarlyFits shape g c e) (without_kept r).early = all_filter (EarlyFits shape g c e) (λ rec. not (rec.header.previous == r.view.number)) r.early kept in
        some_way (λ rec. IsAmong rec r.early × ((rec.header.previous == r.view.number) ≡ true)) (KeptStands e r.view) (λ rec. take_out shape r rec) (record { replica = r; part = None }) (next_kept r)
        (found_among (λ rec. rec.header.previous == r.view.number) r.early)
        (λ rec found.
        let mine : EarlyFits shape g c e rec = among_all (EarlyFits shape g c e) r.early rec found.0 kept in
        let starts : rec.header.previous ≡ r.view.number = eqb-true rec.header.previous r.view.number found.1 in
        way_with (is_accepted shape r.view rec) (record { replica = with_view (without_kept r) (view_after shape r.view rec); part = Some rec }) (record { replica = without_kept r; part = None }) (KeptStands e r.view)
        (λ accepted. record { kept = less; session = same; now = (on_of e r.view rec mine starts accepted, refl) })
        (λ differs. record { kept = less; session = same; now = refl }))
        (record { kept = kept; session = same; now = refl })

    one_more : (e : ℕ) (view : View) (taken : KeptTaken) (more : Applied) → KeptStands e view taken → AppliedStands e taken.replica.view more
        → AppliedStands e view (option_map_or (λ rec. after_part rec more) taken.part (no_more taken.replica))
    unfolding Chain
    one_more e view taken more from rest = of_part taken.part from.now where
      of_part : (o : Option Record) → NextView e view o taken.replica.view → AppliedStands e view (option_map_or (λ rec. after_part rec more) o (no_more taken.replica))
      of_part None is = record { kept = from.kept; session = from.session; chain = sym is }
      of_part (Some rec) to = record { kept = rest.kept; session = rest.session; chain = (to.0, subst (λ (w : View). Chain shape g c e w more.parts more.replica.view) to.1 rest.chain) }

    kept_in_turn_stands : (e n : ℕ) (r : Replica) → AllByRecursion (EarlyFits shape g c e) r.early → r.session ≡ e → AppliedStands e r.view (kept_in_turn shape n r)
    unfolding kept_in_turn Chain
    kept_in_turn_stands e zero r kept same = record { kept = kept; session = same; chain = refl }
    kept_in_turn_stands e (suc n) r kept same =
        let from : KeptStands e r.view (take_kept shape r) = take_kept_stands e r kept same in
        one_more e r.view (take_kept shape r) (kept_in_turn shape n (take_kept shape r).replica) from (kept_in_turn_stands e n (take_kept shape r).replica from.kept from.session)

    next_applied : (e : ℕ) (view : View) (rec : Record) (r : Replica) → AllByRecursion (EarlyFits shape g c e) r.early → r.session ≡ e → ChainOn shape g c e view rec → r.view ≡ view_after shape view rec
        → AppliedStands e view (after_part rec (all_kept_in_turn shape r))
    unfolding Chain
    next_applied e view rec r kept same on is =
        let more : AppliedStands e r.view (all_kept_in_turn shape r) = kept_in_turn_stands e (length r.early) r kept same in
        record { kept = more.kept; session = more.session; chain = (on, subst (λ (w : View). Chain shape g c e w (all_kept_in_turn shape r).parts (all_kept_in_turn shape r).replica.view) is more.chain) }

    -- ---- a part

    abbrev ByAnswer : ℕ → View → Record → View → PartAnswer → Type 0
    ByAnswer e view rec now Next = ChainOn shape g c e view rec × (now ≡ view_after shape view rec)
    ByAnswer e view rec now Early = now ≡ view
    ByAnswer e view rec now Known = Unit {0}
    ByAnswer e view rec now Foreign = Unit {0}
    ByAnswer e view rec now Full = Unit {0}
    ByAnswer e view rec now (Differs root got) = Unit {0}

    record PartStands (e : ℕ) (view : View) (rec : Record) (taken : PartTaken) : Type 0 where
      pub kept : AllByRecursion (EarlyFits shape g c e) taken.replica.early
      pub session : taken.replica.session ≡ e
      pub now : ByAnswer e view rec taken.replica.view taken.answer

    take_part_stands : (e : ℕ) (r : Replica) (rec : Record) → PartFits c rec → AllByRecursion (EarlyFits shape g c e) r.early → r.session ≡ e → PartStands e r.view rec (take_part shape g r rec)
    unfolding take_part
    take_part_stands e r rec fits kept same =
        let P : PartTaken → Type 0 = PartStands e r.view rec in
        way_with (not (is_for shape g r rec)) (left_as r Foreign) (if nat_le rec.header.seq r.view.number then left_as r Known else (if rec.header.previous == r.view.number then tried shape r rec else kept_early r rec)) P
        (λ foreign. record { kept = kept; session = same; now = tt })
        (λ ours_not.
        let ours : is_for shape g r rec ≡ true = not_false (is_for shape g r rec) ours_not in
        let both : ((rec.header.session == r.session) && (rec.header.region == g)) ≡ true = and_left ((rec.header.session == r.session) && (rec.header.region == g)) (has_right_shape shape g rec) ours in
        let mine : EarlyFits shape g c e rec = record {
          session = eqb-true rec.header.session r.session (and_left (rec.header.session == r.session) (rec.header.region == g) both) ∙ same;
          region = eqb-true rec.header.region g (and_right (rec.header.session == r.session) (rec.header.region == g) both);
          shaped = and_right ((rec.header.session == r.session) && (rec.header.region == g)) (has_right_shape shape g rec) ours;
          fits = fits;
        } in
        either_way (nat_le rec.header.seq r.view.number) (left_as r Known) (if rec.header.previous == r.view.number then tried shape r rec else kept_early r rec) P (record { kept = kept; session = same; now = tt })
        (way_with (rec.header.previous == r.view.number) (tried shape r rec) (kept_early r rec) P
        (λ next.
        let starts : rec.header.previous ≡ r.view.number = eqb-true rec.header.previous r.view.number next in
        way_with (is_accepted shape r.view rec) (left_as (with_view r (view_after shape r.view rec)) Next) (left_as r (Differs rec.header.root (view_root shape (view_after shape r.view rec)))) P
        (λ accepted. record { kept = kept; session = same; now = (on_of e r.view rec mine starts accepted, refl) }) (λ differs. record { kept = kept; session = same; now = tt }))
        (λ early.
        either_way (has_early r.early rec.header.previous) (left_as r Early) (if nat_lt (length r.early) 16 then left_as (record r { early = r.early ++ rec ∷ [] }) Early else left_as r Full) P
        (record { kept = kept; session = same; now = refl })
        (either_way (nat_lt (length r.early) 16) (left_as (record r { early = r.early ++ rec ∷ [] }) Early) (left_as r Full) P
        (record { kept = all_both (EarlyFits shape g c e) r.early (rec ∷ []) kept (mine, tt); session = same; now = refl }) (record { kept = kept; session = same; now = tt })))))

    -- ---- parts are added

    pub record AddedTo (held : Held) (parts : List Record) (now : View) (next : Held) : Type 0 where
      pub reaches : Reaches held (map (λ rec. AddsPart rec) parts)
      pub holds : HeldStands shape g c next
      pub opened : Opened shape g c next now
      pub session : next.session ≡ held.session
      pub place : open_place next ≡ open_place held
      pub parts_are : next.parts ≡ held.parts ++ parts

    pub added_to : (held : Held) (view : View) (parts : List Record) (now : View) → HeldStands shape g c held → 0 < held.session → Opened shape g c held view → Chain shape g c held.session view parts now
        → AddedTo held parts now (after_changes shape held (map (λ rec. AddsPart rec) parts))
    unfolding Chain Reaches after_changes changed
    added_to held view [] now holds positive o chain =
        record { reaches = tt; holds = holds; opened = subst (λ (w : View). Opened shape g c held w) chain o; session = refl; place = refl; parts_are = sym (append-nil held.parts) }
    added_to held view (rec ∷ parts) now holds positive o chain =
        let more : PartMore shape g c held rec (view_after shape view rec) (changed shape held (AddsPart rec)) = part_more shape g c held view rec holds positive o chain.0 in
        let rest : AddedTo (changed shape held (AddsPart rec)) parts now (after_changes shape (changed shape held (AddsPart rec)) (map (λ r. AddsPart r) parts)) =
        added_to (changed shape held (AddsPart rec)) (view_after shape view rec) parts now more.holds positive more.opened chain.1 in
        record {
          reaches = (inr (inl more.image), more.holds, rest.reaches);
          holds = rest.holds;
          opened = rest.opened;
          session = rest.session;
          place = rest.place;
          parts_are = rest.parts_are ∙ append_assoc held.parts (rec ∷ []) parts;
        }

    stored_stands : (held : Held) (m : Memory) (applied : Applied) → HeldStands shape g c held → Remembers held m → AppliedStands held.session m.replica.view applied → TurnStands held (stored shape g m applied)
    stored_stands held m applied holds r from =
        let next : Held = after_changes shape held (map (λ rec. AddsPart rec) applied.parts) in
        let added : AddedTo held applied.parts applied.replica.view next = added_to held m.replica.view applied.parts applied.replica.view holds r.positive r.opened from.chain in
        let l : Leader = record m.leader { noted = noted_with g m.leader.noted applied.parts } in
        let kept : AllByRecursion (λ rec. PartFits c rec × (rec.header.session ≡ held.session)) applied.parts =
        all_zip (PartFits c) (λ rec. rec.header.session ≡ held.session) applied.parts (chain_fits shape g c held.session m.replica.view applied.parts applied.replica.view from.chain)
        (chain_sessions shape g c held.session m.replica.view applied.parts applied.replica.view from.chain) in
        let leads : LeaderStands shape v c votes claims held.session (open_place held) l = noted_more shape v c votes claims held.session (open_place held) g m.leader applied.parts r.leads kept in
        record {
          reaches = added.reaches;
          holds = added.holds;
          memory = record {
            positive = subst (λ e. 0 < e) (sym added.session) r.positive;
            session = from.session ∙ sym added.session;
            parts = ap (λ (p : List Record). p ++ applied.parts) r.parts ∙ sym added.parts_are;
            whole = r.whole;
            early = subst (λ e. AllByRecursion (EarlyFits shape g c e) applied.replica.early) (sym added.session) from.kept;
            opened = added.opened;
            leads = subst (λ e. LeaderStands shape v c votes claims e (open_place next) l) (sym added.session)
                (subst (λ p. LeaderStands shape v c votes claims held.session p l) (sym added.place) leads);
            begun = subst (λ e. BegunBy c e m.leader.base m.begun) (sym added.session) r.begun;
          };
          outs = all_votes_fit next applied.parts;
        }

    again_stands : (held : Held) (m : Memory) (rec : Record) → HeldStands shape g c held → Remembers held m → TurnStands held (voted_again shape m rec)
    unfolding after_changes Reaches
    again_stands held m rec holds r = record {
      reaches = tt;
      holds = holds;
      memory = r;
      outs = either_way (list_any (λ other. same_record other rec) m.parts) (votes_for shape rec) [] (AllFit held) (votes_fit held rec) tt;
    }

    answered_stands : (held : Held) (m : Memory) (rec : Record) (r : Replica) (answer : PartAnswer) → HeldStands shape g c held → Remembers held m → PartStands held.session m.replica.view rec (record { replica = r; answer = answer })
        → TurnStands held (part_answered shape g m rec r answer)
    answered_stands held m rec r Next holds memory from =
        stored_stands held m (after_part rec (all_kept_in_turn shape r)) holds memory (next_applied held.session m.replica.view rec r from.kept from.session from.now.0 from.now.1)
    answered_stands held m rec r Known holds memory from = again_stands held m rec holds memory
    answered_stands held m rec r Early holds memory from =
        quiet_stands held (record m { replica = r }) holds
        (record {
          positive = memory.positive;
          session = from.session;
          parts = memory.parts;
          whole = memory.whole;
          early = from.kept;
          opened = subst (λ (w : View). Opened shape g c held w) (sym from.now) memory.opened;
          leads = memory.leads;
          begun = memory.begun;
        })
    answered_stands held m rec r Foreign holds memory from = quiet_stands held m holds memory
    answered_stands held m rec r Full holds memory from = quiet_stands held m holds memory
    answered_stands held m rec r (Differs root got) holds memory from = quiet_stands held m holds memory

    pub part_stands : (held : Held) (rec : Record) (m : Memory) → HeldStands shape g c held → Remembers held m → PartFits c rec → TurnStands held (by_part shape g rec m)
    unfolding by_part
    part_stands held rec m holds memory fits =
        let taken : PartTaken = take_part shape g m.replica rec in
        let turn : Turn = part_answered shape g m rec taken.replica taken.answer in
        claims_turn held (then_answers shape turn) (answers_turn held turn (answered_stands held m rec taken.replica taken.answer holds memory (take_part_stands held.session m.replica rec fits memory.early memory.session)))

    -- ---- asks and dumps

    pub ask_stands : (held : Held) (ask : Ask) (m : Memory) → HeldStands shape g c held → Remembers held m → TurnStands held (by_ask shape g ask m)
    unfolding by_ask take_ask after_changes Reaches
    ask_stands held ask m holds r =
        let p : Replica = m.replica in
        let P : AskTaken → Type 0 = λ t. TurnStands held (ask_taken m t) in
        let none : P (record { replica = p; answer = None }) = record { reaches = tt; holds = holds; memory = r; outs = tt } in
        either_way (not (is_asked_here shape g p ask)) (record { replica = p; answer = None })
        (if is_due p.view ask then record { replica = p; answer = Some (answer_to shape p.view ask) } else record { replica = record p { asks = with_ask p.asks ask }; answer = None }) P none
        (either_way (is_due p.view ask) (record { replica = p; answer = Some (answer_to shape p.view ask) }) (record { replica = record p { asks = with_ask p.asks ask }; answer = None }) P
        (record { reaches = tt; holds = holds; memory = r; outs = (tt, tt) })
        (record {
          reaches = tt;
          holds = holds;
          memory = record { positive = r.positive; session = r.session; parts = r.parts; whole = r.whole; early = r.early; opened = r.opened; leads = r.leads; begun = r.begun };
          outs = tt;
        }))

    pub dump_stands : (held : Held) (dump : Dump) (m : Memory) → HeldStands shape g c held → Remembers held m → TurnStands held (by_dump g dump m)
    unfolding by_dump after_changes Reaches
    dump_stands held dump m holds r =
        either_way ((dump.session == m.replica.session) && (dump.region == g)) (dumped g m) (quiet m) (TurnStands held) (record { reaches = tt; holds = holds; memory = r; outs = (tt, tt) }) (quiet_stands held m holds r)

    -- ---- votes and claims

    pub vote_stands : (held : Held) (name : NodeName) (vote : Prepared) (m : Memory) → HeldStands shape g c held → Remembers held m → VotedFor shape v votes vote.session vote.seq name → TurnStands held (by_vote shape name vote m)
    unfolding by_vote
    vote_stands held name vote m holds r fits =
        let l : Leader = record m.leader { votes = with_vote m.leader.votes name vote.seq vote.root } in
        way_with ((vote.session == m.replica.session) && (vote.region == name.region)) (then_claims shape (quiet (with_leader m l))) (quiet m) (TurnStands held)
        (λ pass.
        let same : vote.session ≡ held.session = eqb-true vote.session m.replica.session (and_left (vote.session == m.replica.session) (vote.region == name.region) pass) ∙ r.session in
        let leads : LeaderStands shape v c votes claims held.session (open_place held) l =
        vote_more shape v c votes claims held.session (open_place held) m.leader name vote.seq vote.root r.leads (subst (λ e. VotedFor shape v votes e vote.seq name) same fits) in
        claims_turn held (quiet (with_leader m l)) (quiet_stands held (with_leader m l) holds (led_by_other held m l r leads refl)))
        (λ fail. quiet_stands held m holds r)

    -- ---- a fold

    greatest_among : (parts : List Record) → 0 < greatest_of (map (λ rec. rec.header.seq) parts) → (rec : Record) × IsAmong rec parts × (rec.header.seq ≡ greatest_of (map (λ rec. rec.header.seq) parts))
    unfolding greatest_of
    greatest_among [] up = absurd (omega arith)
    greatest_among (rec ∷ parts) up =
        let rest : ℕ = greatest_of (map (λ r. r.header.seq) parts) in
        (way_with (nat_le rec.header.seq rest) rest rec.header.seq (λ x. 0 < x → (k : Record) × IsAmong k (rec ∷ parts) × (k.header.seq ≡ x))
        (λ low more. let found = greatest_among parts more in (found.0, inr found.1, found.2))
        (λ high more. (rec, inl refl, refl))) up

    -- one of them is at most the number
    low_among : (n : ℕ) (parts : List Record) → 0 < length (filter (λ rec. nat_le rec.header.seq n) parts) → (rec : Record) × IsAmong rec parts × (rec.header.seq ≤ n)
    low_among n [] some = absurd (omega arith)
    low_among n (rec ∷ parts) some =
        (way_with (nat_le rec.header.seq n) (rec ∷ filter (λ r. nat_le r.header.seq n) parts) (filter (λ r. nat_le r.header.seq n) parts) (λ l. 0 < length l → (k : Record) × IsAmong k (rec ∷ parts) × (k.header.seq ≤ n))
        (λ low more. (rec, inl refl, leb-true rec.header.seq n low))
        (λ high more. let found = low_among n parts more in (found.0, inr found.1, found.2))) some

    -- what is folded stays 16 behind the newest part
    pub record Newest (parts : List Record) (n : ℕ) : Type 0 where
      pub rec : Record
      pub among : IsAmong rec parts
      pub room : n + 16 ≤ rec.header.seq

    newest_of : (m : Memory) → AllByRecursion (PartFits c) m.parts → folds shape m ≡ true → Newest m.parts (fold_number shape m)
    newest_of m fits pass =
        let n : ℕ = fold_number shape m in
        let top : ℕ = greatest_of (map (λ rec. rec.header.seq) m.parts) in
        let many : 8 ≤ length (filter (λ rec. nat_le rec.header.seq n) m.parts) = leb-true 8 (length (filter (λ rec. nat_le rec.header.seq n) m.parts)) (and_right m.whole (nat_le 8 (length (filter (λ rec. nat_le rec.header.seq n) m.parts))) pass) in
        let some : 0 < length (filter (λ rec. nat_le rec.header.seq n) m.parts) = omega arith in
        let low = low_among n m.parts some in
        let counted : 0 < low.0.header.seq = (among_all (PartFits c) m.parts low.0 low.1 fits).counted in
        let under : low.0.header.seq ≤ n = low.2 in
        let most : n ≤ top - 16 = lesser_right (committed shape m.leader.claims) (top - 16) in
        let up : 0 < top = omega arith in
        let found = greatest_among m.parts up in
        let is : found.0.header.seq ≡ top = found.2 in
        record { rec = found.0; among = found.1; room = omega arith }
      where
        lesser_right : (a b : ℕ) → lesser a b ≤ b
        lesser_right a b = way_with (nat_le a b) a b (λ x. x ≤ b) (λ low. leb-true a b low) (λ high. omega arith)

    fold_claims : (held : Held) (m : Memory) → HeldStands shape g c held → Remembers held m → TurnStands held (then_fold shape (then_claims shape (quiet m)))
    unfolding after_changes Reaches
    fold_claims held m holds r =
        let turn : Turn = then_claims shape (quiet m) in
        let stands : TurnStands held turn = claims_turn held (quiet m) (quiet_stands held m holds r) in
        let k : Memory = turn.memory in
        let now : Remembers held k = stands.memory in
        let n : ℕ = fold_number shape k in
        let next : Held = changed shape held (FoldsTo n) in
        let to : FoldedTo shape g c held k.replica.view n next = fold_to shape g c held k.replica.view n holds now.positive now.opened in
        let headers : List Header = all_certified shape m.leader in
        way_with (folds shape k) (record { memory = after_fold k n; outs = turn.outs; changes = turn.changes ++ FoldsTo n ∷ [] }) turn (TurnStands held)
        (λ pass.
        let fits : AllByRecursion (PartFits c) held.parts = chain_fits shape g c held.session (view_of_base now.opened.base) held.parts k.replica.view now.opened.chain in
        let newest : Newest k.parts n = newest_of k (subst (λ (l : List Record). AllByRecursion (PartFits c) l) (sym now.parts) fits) pass in
        record {
          reaches = (to.image newest.rec (subst (λ (l : List Record). IsAmong newest.rec l) now.parts newest.among) newest.room, to.holds, tt);
          holds = to.holds;
          memory = record {
            positive = subst (λ e. 0 < e) (sym to.session) now.positive;
            session = now.session ∙ sym to.session;
            parts = ap (λ (l : List Record). filter (λ rec. nat_lt n rec.header.seq) l) now.parts ∙ sym to.parts;
            whole = now.whole;
            early = subst (λ e. AllByRecursion (EarlyFits shape g c e) k.replica.early) (sym to.session) now.early;
            opened = to.opened;
            leads = subst (λ e. LeaderStands shape v c votes claims e (open_place next) k.leader) (sym to.session)
                (leader_more shape v c votes claims held.session (open_place held) (open_place next) k.leader to.up now.leads);
            begun = subst (λ e. BegunBy c e k.leader.base k.begun) (sym to.session) now.begun;
          };
          outs = sure_claims next m.replica.session (r.session ∙ sym to.session) headers
              (all_then (λ h. Sure held h.seq) (λ h. Sure next h.seq)
              (λ h sure. subst (λ e. Certain v c votes claims e (open_place next) h.seq) (sym to.session) (sure_more shape v c votes claims held.session (open_place held) (open_place next) h.seq to.up sure))
              headers (all_sure shape v c votes claims numbered held.session (open_place held) m.leader r.leads));
        })
        (λ fail. stands)

    pub claim_stands : (held : Held) (name : NodeName) (claim : Committed) (m : Memory) → HeldStands shape g c held → Remembers held m → ClaimedFor shape v claims claim.session claim.front name → TurnStands held (by_claim shape name claim m)
    unfolding by_claim
    claim_stands held name claim m holds r fits =
        let l : Leader = record m.leader { claims = with_claim m.leader.claims name claim.front } in
        way_with (claim.session == m.replica.session) (then_fold shape (then_claims shape (quiet (with_leader m l)))) (quiet m) (TurnStands held)
        (λ pass.
        let same : claim.session ≡ held.session = eqb-true claim.session m.replica.session pass ∙ r.session in
        let leads : LeaderStands shape v c votes claims held.session (open_place held) l =
        claim_more shape v c votes claims held.session (open_place held) m.leader name claim.front r.leads (subst (λ e. ClaimedFor shape v claims e claim.front name) same fits) in
        fold_claims held (with_leader m l) holds (led_by_other held m l r leads refl))
        (λ fail. quiet_stands held m holds r)

    -- ---- a tick

    pub tick_stands : (held : Held) (m : Memory) → HeldStands shape g c held → Remembers held m → TurnStands held (by_tick shape m)
    unfolding by_tick after_changes Reaches
    tick_stands held m holds r =
        let parts : List Record = filter (λ rec. nat_lt (committed shape m.leader.claims) rec.header.seq) m.parts in
        let l : Leader = m.leader in
        let last : List Sending = if is_at_start l.front m.begun then [] else claims_of shape m.replica.session l.front in
        record {
          reaches = tt;
          holds = holds;
          memory = r;
          outs = all_both (λ out. OutFits held out.message) (flat_map (λ rec. votes_for shape rec) parts) last (all_votes_fit held parts)
              (way_with (is_at_start l.front m.begun) [] (claims_of shape m.replica.session l.front) (AllFit held) (λ start. tt)
              (λ past. claims_fit held m.replica.session l.front (r.session, front_fits held l.base l.front m.begun r.begun r.leads.low r.leads.front past)));
        }
      where
        differ : true ≡ false → ⊥
        differ e = cc

        front_fits : (now : Held) (base front : ℕ) (begun : Option ℕ) → BegunBy c now.session base begun → base ≤ open_place now → (front ≡ base) ⊎ Sure now front → is_at_start front begun ≡ false
            → Sure now front ⊎ (front ≤ open_place now) × IsBatch c now.session (front - 1)
        front_fits now base front None batch low (inl same) past = inr (subst (λ x. x ≤ open_place now) (sym same) low, subst (λ x. IsBatch c now.session (x - 1)) (sym same) batch)
        front_fits now base front (Some begun) is low (inl same) past = absurd (differ (sym (eq-eqb front begun (same ∙ sym is)) ∙ past))
        front_fits now base front begun is low (inr sure) past = inl sure
