-- A part that is handed to a session.
use Rattle.std.proofs.Common.{◌≡◌, ◌∙◌, ℕ, ◌-◌, ◌≤◌, ◌+◌, Bool, true, false, if◌then◌else◌, List, [], ◌∷◌, ◌++◌, map, drop, length, Option, None, Result, Ok, Err, IfOk, OnOk, All, refl, sym, ap, subst, append-nil, arith, length-append}
use Rattle.std.specs.Prelude.{flat_map}
use Rattle.std.specs.List.{AllByRecursion, list_any}
use Rattle.std.proofs.lemmas.List.{map-append, drop_all}
use Rattle.std.proofs.lemmas.List.Elements.{All-from_recursion}
use Rattle.std.proofs.Math.Seq.{drop-append_seam}
use Rattle.salus_types.specs.Volume.{Shape, regions}
use Rattle.salus_types.specs.declared.names.Sender.TheVariants as sender
use Rattle.salus_types.specs.declared.memory.NoMemory.{NoMemory}
use Rattle.salus_types.specs.declared.records.Header.{Header}
use Rattle.salus_types.specs.declared.records.Record.{Record}
use Rattle.salus_types.specs.declared.records.Out.{Out}
use Rattle.salus_message.specs.declared.replies.Answer.{Answer}
use Rattle.salus_message.specs.declared.wire.Message.TheVariants as message
use Rattle.client_tag.specs.Ranges.{IsRecord}
use Rattle.holding_model.specs.Changing.{AddsPart}
use Rattle.replica_rules.specs.Leading.{Leader, all_certified, front_after, noted_with}
use Rattle.replica_rules.specs.Replicas.{Replica, PartAnswer as RuleAnswer, Foreign as IsForeign, Known as IsKnown, Early as IsEarly, Full as IsFull, Differs as RootDiffers, Next as IsApplied, PartTaken, take_part, Applied, after_part, all_kept_in_turn, due_answers, without_due}
use Rattle.replica_rules.specs.Nodes.{Memory}
use Rattle.replica_rules.specs.Rules.{Turn as RuleTurn, quiet, votes_for, claims_of, then_claims, then_answers, stored, voted_again, part_answered, same_record, by_part}
use Rattle.region_replica.specs.declared.answer.PartAnswer.{PartAnswer}
use Rattle.region_replica.specs.declared.answer.PartAnswer.TheVariants.{Foreign, Known, Early, Full, Differs, Next}
use Rattle.region_replica.specs.Serving.{Serving, now_as}
use Rattle.region_replica.specs.Answering.{IsTaken, told_as}
use Rattle.region_replica.proofs.PartTelling.{by-way, own-shape}
use Rattle.pipelined_commit.specs.Standing.{KeptLeader, StandsFor as LeaderStands, Follows}
use Rattle.posting.specs.Posting.{out_to}
use Rattle.posting.specs.Sendings.{out_of_sending}
use Rattle.open_session.specs.declared.turn.Turn.{Turn}
use Rattle.open_session.specs.Kept.{KeptSession, kept_of, serving_of, KeepsRecords, StaysOwn}
use Rattle.open_session.specs.Applying.{CanBeTaken, AreTaken, IsStored, AreNewest}
use Rattle.open_session.specs.Turning.{HasTurned, IsTurn, by_answer}
use Rattle.open_session.specs.Claiming.{claims_out}
use Rattle.open_session.specs.Voting.{ballot_of, ballots}
use Rattle.open_session.proofs.Noting.{touches-few}
use Rattle.open_session.proofs.Sent.{all-claims-sent, votes-sent, map_after}
use Rattle.open_session.proofs.Staying.{for-same, stays-same}
use Rattle.open_session.proofs.VotesTaken.{none_added}
use Rattle.list_lemmas.proofs.Each.{all_then, all_both}

-- each of the replica's own parts touches few regions
few_each : (s : Serving) (parts : List Record) → regions s.shape ≤ 16 → AllByRecursion (CanBeTaken s) parts → AllByRecursion (λ (rec : Record). length rec.header.touched ≤ 16) parts
few_each s parts few own = all_then (CanBeTaken s) (λ (rec : Record). length rec.header.touched ≤ 16) (λ rec can. touches-few s.shape s.region rec few (own-shape s rec can.1)) parts own

pub few-all : (s : Serving) (shape : Shape) (count : ℕ) (parts : List Record) → s.shape ≡ shape → count ≡ regions shape → count ≤ 16 → AllByRecursion (CanBeTaken s) parts → All (λ (rec : Record). length rec.header.touched ≤ 16) parts
few-all s shape count parts at is few own =
    let here : regions s.shape ≤ 16 = subst (λ n. n ≤ 16) (is ∙ ap (λ (sh : Shape). regions sh) (sym at)) few in
    All-from_recursion (λ (rec : Record). length rec.header.touched ≤ 16) parts (few_each s parts here own)

-- ---- the newest parts

pub newest-are : {A : Type 0} (old new : List A) (count : ℕ) → count ≡ length new → drop (length (old ++ new) - count) (old ++ new) ≡ new
newest-are old new count is =
    let back : length (old ++ new) - count ≡ length old = omega (arith, length-append old new, is) in
    ap (λ n. drop n (old ++ new)) back ∙ drop-append_seam old new

pub newest-none : {A : Type 0} (parts : List A) (count : ℕ) → count ≡ 0 → drop (length parts - count) parts ≡ []
newest-none parts count none = drop_all (length parts - count) parts (omega (arith, none))

pub none-newest : (s : Serving) (parts : List Record) (count : ℕ) → count ≡ 0 → AreNewest s parts count
none-newest s parts count none = record { within = omega (arith, none); own = subst (λ l. AllByRecursion (CanBeTaken s) l) (sym (newest-none parts count none)) tt }

-- the same replica's own
pub taken-as : (s t : Serving) (parts : List Record) → StaysOwn s t → AllByRecursion (CanBeTaken t) parts → AllByRecursion (CanBeTaken s) parts
taken-as s t parts stays own = all_then (CanBeTaken t) (CanBeTaken s) (λ rec can. (can.0, for-same s t rec stays can.1)) parts own

-- the other way round
pub stays-back : (s t : Serving) → StaysOwn s t → KeepsRecords s → StaysOwn t s
stays-back s t stays records = record { shape = sym stays.shape; region = sym stays.region; session = sym stays.session; records = λ all. records }

pub can-after : (s t : Serving) (rec : Record) → StaysOwn s t → KeepsRecords s → CanBeTaken s rec → CanBeTaken t rec
can-after s t rec stays records can = (can.0, for-same t s rec (stays-back s t stays records) can.1)

pub newest-after : (s t : Serving) (parts : List Record) (count : ℕ) → StaysOwn s t → KeepsRecords s → AreNewest s parts count → AreNewest t parts count
newest-after s t parts count stays records newest =
    record { within = newest.within; own = all_then (CanBeTaken s) (CanBeTaken t) (λ rec can. can-after s t rec stays records can) (drop (length parts - count) parts) newest.own }

pub stored-newest : (r s t : Serving) (first : Record) (led leads : KeptLeader) (old new : List Record) (sent outs : List Out) (count : ℕ) → StaysOwn r s
    → IsStored s first t led leads old new sent outs count → AreNewest r new count
stored-newest r s t first led leads old new sent outs count stays st =
    let same : drop (length new - count) new ≡ st.applied = ap (λ l. drop (length l - count) l) st.parts ∙ newest-are old st.applied count st.count_is in
    let long : length new ≡ length old + length st.applied = ap (λ l. length l) st.parts ∙ length-append old st.applied in
    record { within = omega (arith, long, st.count_is); own = subst (λ l. AllByRecursion (CanBeTaken r) l) (sym same) (taken-as r s st.applied stays st.own) }

-- ---- the three ways of a part

answer_is : (shape : Shape) (g : ℕ) (rec : Record) (m : Memory) (answer : RuleAnswer) → (take_part shape g m.replica rec).answer ≡ answer
    → by_answer shape g rec m ≡ part_answered shape g m rec (take_part shape g m.replica rec).replica answer
unfolding by_answer
answer_is shape g rec m answer is = ap (λ a. part_answered shape g m rec (take_part shape g m.replica rec).replica a) is

told_next : (a : RuleAnswer) (rec given : Record) → Next given ≡ told_as a rec → (a ≡ IsApplied) × (given ≡ rec)
told_next IsForeign rec given is = cc
told_next IsKnown rec given is = cc
told_next IsEarly rec given is = cc
told_next IsFull rec given is = cc
told_next (RootDiffers held got) rec given is = cc
told_next IsApplied rec given is = (refl, cc)

told_known : (a : RuleAnswer) (rec : Record) → Known ≡ told_as a rec → a ≡ IsKnown
told_known IsForeign rec is = cc
told_known IsKnown rec is = refl
told_known IsEarly rec is = cc
told_known IsFull rec is = cc
told_known (RootDiffers held got) rec is = cc
told_known IsApplied rec is = cc

-- the memory's replica is the one that took the part
abbrev seen_as : Shape → ℕ → Memory → Serving
seen_as shape g m = record { shape = shape; region = g; replica = m.replica }

-- it is applied
pub answer-next : (shape : Shape) (before mid after : Serving) (rec given : Record) (led leads : KeptLeader) (old new : List Record) (outs : List Out) (count : ℕ) (begun : Option ℕ) (whole : Bool)
    → before.shape ≡ shape → led.region ≡ before.region → IsTaken before rec mid (Next given) → StaysOwn mid after → IsStored mid given after led leads old new [] outs count
    → IsTurn (by_answer shape before.region rec) (kept_of before led old begun whole) (kept_of after leads new begun whole) (record { outs = outs; added = count; fold = None })
answer-next shape before mid after rec given led leads old new outs count begun whole at here taken stays st m stands =
    let g : ℕ = before.region in
    let told = told_next (take_part before.shape g before.replica rec).answer rec given taken.answer in
    let rep : before.replica ≡ m.replica = stands.replica in
    let same : take_part before.shape g before.replica rec ≡ take_part shape g m.replica rec = ap (λ sh. take_part sh g before.replica rec) at ∙ ap (λ r. take_part shape g r rec) rep in
    let applied : (take_part shape g m.replica rec).answer ≡ IsApplied = sym (ap (λ (t : PartTaken). t.answer) same) ∙ told.0 in
    let r : Replica = (take_part shape g m.replica rec).replica in
    let mid_is : mid ≡ now_as before r = taken.state ∙ ap (λ (t : PartTaken). now_as before t.replica) same in
    let mid_shape : mid.shape ≡ shape = ap (λ (s : Serving). s.shape) mid_is ∙ at in
    let all : Applied = after_part rec (all_kept_in_turn shape r) in
    let taken_all : record { replica = after.replica; parts = st.applied } ≡ all =
    st.taken.applied ∙ ap (λ x. after_part x (all_kept_in_turn mid.shape mid.replica)) told.1
    ∙ ap (λ sh. after_part rec (all_kept_in_turn sh mid.replica)) mid_shape ∙ ap (λ (s : Serving). after_part rec (all_kept_in_turn shape s.replica)) mid_is in
    let parts : st.applied ≡ all.parts = ap (λ (a : Applied). a.parts) taken_all in
    let turn : by_answer shape g rec m ≡ stored shape g m all = answer_is shape g rec m IsApplied applied in
    let added : drop (length new - count) new ≡ st.applied = ap (λ l. drop (length l - count) l) st.parts ∙ newest-are old st.applied count st.count_is in
    subst (λ t. HasTurned (kept_of after leads new begun whole) (record { outs = outs; added = count; fold = None }) t) (sym turn)
    (record {
      memory = record {
        replica = ap (λ (a : Applied). a.replica) taken_all;
        leader = subst (λ l. LeaderStands leads (record m.leader { noted = l })) (ap (λ k. noted_with k m.leader.noted st.applied) here ∙ ap (λ l. noted_with g m.leader.noted l) parts) (st.noted m.leader stands.leader);
        parts = st.parts ∙ ap (λ l. l ++ st.applied) stands.parts ∙ ap (λ l. m.parts ++ l) parts;
        begun = stands.begun;
        whole = stands.whole;
      };
      outs = st.outs ∙ ap (λ sh. map out_of_sending (flat_map (λ x. votes_for sh x) st.applied)) mid_shape ∙ ap (λ l. map out_of_sending (flat_map (λ x. votes_for shape x) l)) parts;
      changes = append-nil (map (λ x. AddsPart x) (drop (length new - count) new)) ∙ ap (λ l. map (λ x. AddsPart x) l) (added ∙ parts);
    })

-- it is known
pub answer-known : (shape : Shape) (before mid : Serving) (rec : Record) (led : KeptLeader) (parts : List Record) (outs : List Out) (count : ℕ) (held : Bool) (begun : Option ℕ) (whole : Bool)
    → before.shape ≡ shape → IsTaken before rec mid Known → held ≡ list_any (λ x. same_record x rec) parts → count ≡ 0 → outs ≡ (if held then ballots shape (ballot_of rec) else [])
    → IsTurn (by_answer shape before.region rec) (kept_of before led parts begun whole) (kept_of mid led parts begun whole) (record { outs = outs; added = count; fold = None })
answer-known shape before mid rec led parts outs count held begun whole at taken is none sent m stands =
    let g : ℕ = before.region in
    let same : take_part before.shape g before.replica rec ≡ take_part shape g m.replica rec = ap (λ sh. take_part sh g before.replica rec) at ∙ ap (λ r. take_part shape g r rec) stands.replica in
    let known : (take_part shape g m.replica rec).answer ≡ IsKnown = sym (ap (λ (t : PartTaken). t.answer) same) ∙ told_known (take_part before.shape g before.replica rec).answer rec taken.answer in
    let turn : by_answer shape g rec m ≡ voted_again shape m rec = answer_is shape g rec m IsKnown known in
    let state : mid.replica ≡ (take_part shape g m.replica rec).replica = ap (λ (s : Serving). s.replica) taken.state ∙ ap (λ (t : PartTaken). t.replica) same in
    let left : (take_part shape g m.replica rec).replica ≡ m.replica = known_left shape g rec m known in
    subst (λ t. HasTurned (kept_of mid led parts begun whole) (record { outs = outs; added = count; fold = None }) t) (sym turn)
    (record {
      memory = record { replica = state ∙ left; leader = stands.leader; parts = stands.parts; begun = stands.begun; whole = stands.whole };
      outs = sent ∙ ap (λ b. if b then ballots shape (ballot_of rec) else []) (is ∙ ap (λ l. list_any (λ x. same_record x rec) l) stands.parts) ∙ again (list_any (λ x. same_record x rec) m.parts);
      changes = ap (λ l. map (λ x. AddsPart x) l ++ []) (newest-none parts count none);
    })
  where
    again : (b : Bool) → (if b then ballots shape (ballot_of rec) else []) ≡ map out_of_sending (if b then votes_for shape rec else [])
    again true = votes-sent shape rec
    again false = refl

    known_left : (shape : Shape) (g : ℕ) (rec : Record) (m : Memory) → (take_part shape g m.replica rec).answer ≡ IsKnown → (take_part shape g m.replica rec).replica ≡ m.replica
    known_left shape g rec m =
        by-way (seen_as shape g m) rec (λ t. t.answer ≡ IsKnown → t.replica ≡ m.replica) (λ other e. refl) (λ own low e. refl) (λ is right e. cc) (λ is wrong e. refl) (λ is kept e. refl) (λ is alone room e. cc) (λ is alone full e. refl)

-- in all other cases nothing is sent or added
abbrev IsOther : RuleAnswer → Type 0
IsOther IsForeign = Unit {0}
IsOther IsKnown = ⊥
IsOther IsEarly = Unit {0}
IsOther IsFull = Unit {0}
IsOther (RootDiffers held got) = Unit {0}
IsOther IsApplied = ⊥

abbrev pub IsOtherTold : PartAnswer → Type 0
IsOtherTold Foreign = Unit {0}
IsOtherTold Known = ⊥
IsOtherTold Early = Unit {0}
IsOtherTold Full = Unit {0}
IsOtherTold (Differs held got) = Unit {0}
IsOtherTold (Next given) = ⊥

told_other : (a : RuleAnswer) (rec : Record) → IsOtherTold (told_as a rec) → IsOther a
told_other IsForeign rec is = tt
told_other IsKnown rec is = is
told_other IsEarly rec is = tt
told_other IsFull rec is = tt
told_other (RootDiffers held got) rec is = tt
told_other IsApplied rec is = is

other_quiet : (shape : Shape) (g : ℕ) (rec : Record) (m : Memory) → IsOther (take_part shape g m.replica rec).answer
    → part_answered shape g m rec (take_part shape g m.replica rec).replica (take_part shape g m.replica rec).answer ≡ quiet (record m { replica = (take_part shape g m.replica rec).replica })
other_quiet shape g rec m =
    by-way (seen_as shape g m) rec (λ t. IsOther t.answer → part_answered shape g m rec t.replica t.answer ≡ quiet (record m { replica = t.replica }))
    (λ other o. refl) (λ own low o. absurd o) (λ is right o. absurd o) (λ is wrong o. refl) (λ is kept o. refl) (λ is alone room o. refl) (λ is alone full o. refl)

pub answer-other : (shape : Shape) (before mid : Serving) (rec : Record) (given : PartAnswer) (led : KeptLeader) (parts : List Record) (outs : List Out) (begun : Option ℕ) (whole : Bool)
    → before.shape ≡ shape → IsTaken before rec mid given → IsOtherTold given → outs ≡ []
    → IsTurn (by_answer shape before.region rec) (kept_of before led parts begun whole) (kept_of mid led parts begun whole) (record { outs = outs; added = 0; fold = None })
unfolding by_answer
answer-other shape before mid rec given led parts outs begun whole at taken other none m stands =
    let g : ℕ = before.region in
    let same : take_part before.shape g before.replica rec ≡ take_part shape g m.replica rec = ap (λ sh. take_part sh g before.replica rec) at ∙ ap (λ r. take_part shape g r rec) stands.replica in
    let is : IsOther (take_part shape g m.replica rec).answer =
    subst (λ (t : PartTaken). IsOther t.answer) same (told_other (take_part before.shape g before.replica rec).answer rec (subst IsOtherTold taken.answer other)) in
    let state : mid.replica ≡ (take_part shape g m.replica rec).replica = ap (λ (s : Serving). s.replica) taken.state ∙ ap (λ (t : PartTaken). t.replica) same in
    subst (λ t. HasTurned (kept_of mid led parts begun whole) (record { outs = outs; added = 0; fold = None }) t) (sym (other_quiet shape g rec m is))
    (record {
      memory = record { replica = state; leader = stands.leader; parts = stands.parts; begun = stands.begun; whole = stands.whole };
      outs = none;
      changes = none_added (kept_of mid led parts begun whole) outs None;
    })

-- ---- what is taken stays its own

part_kept : (s : Serving) (rec : Record) → IsRecord rec → StaysOwn s (now_as s (take_part s.shape s.region s.replica rec).replica)
part_kept s rec is =
    by-way s rec (λ t. StaysOwn s (now_as s t.replica)) (λ other. stays-same s) (λ own low. stays-same s)
    (λ next right. record { shape = refl; region = refl; session = refl; records = λ all. all }) (λ next wrong. stays-same s) (λ ahead kept. stays-same s)
    (λ ahead alone room. record { shape = refl; region = refl; session = refl; records = λ all. all_both IsRecord s.replica.early (rec ∷ []) all (is, tt) }) (λ ahead alone full. stays-same s)

pub part-stays : (before after : Serving) (rec : Record) (given : PartAnswer) → IsRecord rec → IsTaken before rec after given → StaysOwn before after
part-stays before after rec given is taken = subst (λ s. StaysOwn before s) (sym taken.state) (part_kept before rec is)

-- the part that is applied can be taken
pub next-taken : (before after : Serving) (rec given : Record) → IsRecord rec → KeepsRecords before → IsTaken before rec after (Next given) → CanBeTaken after given
next-taken before after rec given is records taken =
    subst (λ x. CanBeTaken after x) (sym taken.told.2) (can-after before after rec (part-stays before after rec (Next given) is taken) records (is, taken.told.0.own))

-- ---- then the answers and the claims

pub answers-turned : (shape : Shape) (kept : KeptSession) (turn : Turn) (rules : RuleTurn) (after : Serving) (outs : List Out) → kept.shape ≡ shape → HasTurned kept turn rules
    → after ≡ now_as (serving_of kept) (without_due kept.replica)
    → outs ≡ turn.outs ++ map (λ answer. out_to sender.Client (message.Answer answer)) (due_answers kept.shape kept.replica)
    → HasTurned (record kept { replica = after.replica }) (record turn { outs = outs }) (then_answers shape rules)
answers-turned shape kept turn rules after outs at turned state sent =
    let stands = turned.memory in
    let rep : kept.replica ≡ rules.memory.replica = stands.replica in
    record {
      memory = record { replica = ap (λ (s : Serving). s.replica) state ∙ ap (λ r. without_due r) rep; leader = stands.leader; parts = stands.parts; begun = stands.begun; whole = stands.whole };
      outs = sent ∙ ap (λ l. l ++ map (λ answer. out_to sender.Client (message.Answer answer)) (due_answers kept.shape kept.replica)) turned.outs
          ∙ ap (λ l. map out_of_sending rules.outs ++ l)
          (ap (λ sh. map (λ answer. out_to sender.Client (message.Answer answer)) (due_answers sh kept.replica)) at ∙ ap (λ r. map (λ answer. out_to sender.Client (message.Answer answer)) (due_answers shape r)) rep
          ∙ sym (map_after out_of_sending (λ (answer : Answer). record { to = sender.Client; message = message.Answer answer }) (due_answers shape rules.memory.replica)))
          ∙ sym (map-append out_of_sending rules.outs (map (λ answer. record { to = sender.Client; message = message.Answer answer }) (due_answers shape rules.memory.replica)));
      changes = turned.changes;
    }

pub claims-more : (shape : Shape) (session : ℕ) (kept : KeptSession) (turn : Turn) (rules : RuleTurn) (leader : KeptLeader) (outs : List Out) → kept.replica.session ≡ session → HasTurned kept turn rules
    → Follows (λ l. record l { front = front_after l.front (all_certified shape l) }) kept.leader leader
    → ((l : Leader) → LeaderStands kept.leader l → outs ≡ turn.outs ++ flat_map (λ (h : Header). claims_out shape session h.seq) (all_certified shape l))
    → HasTurned (record kept { leader = leader }) (record turn { outs = outs }) (then_claims shape rules)
claims-more shape session kept turn rules leader outs same turned front sent =
    let stands = turned.memory in
    let certified : List Header = all_certified shape rules.memory.leader in
    let at : session ≡ rules.memory.replica.session = sym same ∙ ap (λ r. r.session) stands.replica in
    record {
      memory = record { replica = stands.replica; leader = front rules.memory.leader stands.leader; parts = stands.parts; begun = stands.begun; whole = stands.whole };
      outs = sent rules.memory.leader stands.leader ∙ ap (λ l. l ++ flat_map (λ (h : Header). claims_out shape session h.seq) certified) turned.outs
          ∙ ap (λ l. map out_of_sending rules.outs ++ l) (all-claims-sent shape session certified ∙ ap (λ e. map out_of_sending (flat_map (λ h. claims_of shape e h.seq) certified)) at)
          ∙ sym (map-append out_of_sending rules.outs (flat_map (λ h. claims_of shape rules.memory.replica.session h.seq) certified));
      changes = turned.changes;
    }

pub part-is : (shape : Shape) (g : ℕ) (rec : Record) (m : Memory) → by_part shape g rec m ≡ then_claims shape (then_answers shape (by_answer shape g rec m))
unfolding by_part by_answer
part-is shape g rec m = refl

-- ---- as the program has it

pub stored-turned : (shape : Shape) (before mid after : Serving) (rec given : Record) (led leads : KeptLeader) (old new : List Record) (sent outs : List Out) (begun : Option ℕ) (whole : Bool) (result : Result ℕ NoMemory)
    → before.shape ≡ shape → led.region ≡ before.region → sent ≡ [] → IsTaken before rec mid (Next given) → StaysOwn mid after → IfOk result (IsStored mid given after led leads old new sent outs)
    → IfOk result (λ n. IsTurn (by_answer shape before.region rec) (kept_of before led old begun whole) (kept_of after leads new begun whole) (record { outs = outs; added = n; fold = None }))
stored-turned shape before mid after rec given led leads old new sent outs begun whole (Ok n) at here none taken stays st =
    answer-next shape before mid after rec given led leads old new outs n begun whole at here taken stays (subst (λ (l : List Out). IsStored mid given after led leads old new l outs n) none st)
stored-turned shape before mid after rec given led leads old new sent outs begun whole (Err e) at here none taken stays st = tt

pub stored-news : (r s t : Serving) (first : Record) (led leads : KeptLeader) (old new : List Record) (sent outs : List Out) (result : Result ℕ NoMemory) → StaysOwn r s
    → IfOk result (IsStored s first t led leads old new sent outs) → IfOk result (AreNewest r new)
stored-news r s t first led leads old new sent outs (Ok n) stays st = stored-newest r s t first led leads old new sent outs n stays st
stored-news r s t first led leads old new sent outs (Err e) stays st = tt

pub known-turned : (shape : Shape) (before mid : Serving) (rec : Record) (led : KeptLeader) (parts : List Record) (sent outs : List Out) (held : Bool) (begun : Option ℕ) (whole : Bool) (result : Result ℕ NoMemory)
    → before.shape ≡ shape → IsTaken before rec mid Known → held ≡ list_any (λ x. same_record x rec) parts → sent ≡ [] → IfOk result (λ n. n ≡ 0) → OnOk result (outs ≡ sent ++ (if held then ballots shape (ballot_of rec) else []))
    → IfOk result (λ n. IsTurn (by_answer shape before.region rec) (kept_of before led parts begun whole) (kept_of mid led parts begun whole) (record { outs = outs; added = n; fold = None }))
known-turned shape before mid rec led parts sent outs held begun whole (Ok n) at taken is none zero posted =
    answer-known shape before mid rec led parts outs n held begun whole at taken is zero (posted ∙ ap (λ (l : List Out). l ++ (if held then ballots shape (ballot_of rec) else [])) none)
known-turned shape before mid rec led parts sent outs held begun whole (Err e) at taken is none zero posted = tt

pub none-news : (s : Serving) (parts : List Record) (result : Result ℕ NoMemory) → IfOk result (λ n. n ≡ 0) → IfOk result (AreNewest s parts)
none-news s parts (Ok n) zero = none-newest s parts n zero
none-news s parts (Err e) zero = tt

pub add_all-stored : (before after : Serving) (first : Record) (led mid leads : KeptLeader) (old new applied seen : List Record) (sent posted : List Out) (shape : Shape) (count : ℕ) → before.shape ≡ shape → mid ≡ led
    → CanBeTaken before first → KeepsRecords before → AreTaken before first after applied → seen ≡ applied
    → Follows (λ l. record l { noted = noted_with mid.region l.noted seen }) mid leads
    → posted ≡ sent ++ map out_of_sending (flat_map (λ rec. votes_for shape rec) seen) → new ≡ old ++ applied → count ≡ length applied
    → IsStored before first after led leads old new sent posted count
add_all-stored before after first led mid leads old new applied seen sent posted shape count at same can records taken is noted out parts counted = record {
  applied = applied;
  taken = taken;
  own = taken.own can records;
  noted = subst (λ (k : KeptLeader). Follows (λ l. record l { noted = noted_with k.region l.noted applied }) k leads) same (subst (λ (l : List Record). Follows (λ x. record x { noted = noted_with mid.region x.noted l }) mid leads) is noted);
  parts = parts;
  outs = out ∙ ap (λ sh. sent ++ map out_of_sending (flat_map (λ rec. votes_for sh rec) seen)) (sym at) ∙ ap (λ l. sent ++ map out_of_sending (flat_map (λ rec. votes_for before.shape rec) l)) is;
  count_is = counted;
}

pub part-turned : (shape : Shape) (session : ℕ) (before mid after : Serving) (rec : Record) (led between leads : KeptLeader) (old new : List Record) (sent more posted : List Out) (count : ℕ) (begun : Option ℕ) (whole : Bool)
    → mid.shape ≡ shape → mid.replica.session ≡ session
    → IsTurn (by_answer shape before.region rec) (kept_of before led old begun whole) (kept_of mid between new begun whole) (record { outs = sent; added = count; fold = None })
    → after ≡ now_as mid (without_due mid.replica) → more ≡ sent ++ map (λ answer. out_to sender.Client (message.Answer answer)) (due_answers mid.shape mid.replica)
    → Follows (λ l. record l { front = front_after l.front (all_certified shape l) }) between leads
    → ((l : Leader) → LeaderStands between l → posted ≡ more ++ flat_map (λ (h : Header). claims_out shape session h.seq) (all_certified shape l))
    → IsTurn (by_part shape before.region rec) (kept_of before led old begun whole) (kept_of after leads new begun whole) (record { outs = posted; added = count; fold = None })
part-turned shape session before mid after rec led between leads old new sent more posted count begun whole at same turn state answered front claimed m stands =
    let first = turn m stands in
    let kept : KeptSession = kept_of mid between new begun whole in
    let told : Turn = record { outs = sent; added = count; fold = None } in
    let second = answers-turned shape kept told (by_answer shape before.region rec m) after more at first state answered in
    let here : after.replica.session ≡ session = ap (λ (s : Serving). s.replica.session) state ∙ same in
    let third = claims-more shape session (record kept { replica = after.replica }) (record told { outs = more }) (then_answers shape (by_answer shape before.region rec m)) leads posted here second front claimed in
    let shapes : kept_of after leads new begun whole ≡ record kept { replica = after.replica; leader = leads } = ap (λ (s : Serving). record { shape = s.shape; region = s.region; replica = after.replica; leader = leads; parts = new; begun = begun; whole = whole }) state in
    subst (λ (k : KeptSession). HasTurned k (record { outs = posted; added = count; fold = None }) (by_part shape before.region rec m)) (sym shapes)
    (subst (λ (t : RuleTurn). HasTurned (record kept { replica = after.replica; leader = leads }) (record { outs = posted; added = count; fold = None }) t) (sym (part-is shape before.region rec m)) third)
