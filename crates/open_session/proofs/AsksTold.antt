-- Asks, dumps and ticks.
use Rattle.std.proofs.Common.{◌≡◌, ◌∙◌, ℕ, ◌==◌, ◌&&◌, Bool, true, false, if◌then◌else◌, nat_lt, List, [], ◌∷◌, ◌++◌, map, Option, None, Some, refl, sym, ap, subst}
use Rattle.std.specs.Prelude.{filter, flat_map}
use Rattle.std.proofs.lemmas.List.{map-append}
use Rattle.salus_types.specs.Volume.{Shape}
use Rattle.salus_types.specs.declared.names.Sender.TheVariants as sender
use Rattle.salus_types.specs.declared.records.Record.{Record}
use Rattle.salus_types.specs.declared.records.Out.{Out}
use Rattle.salus_message.specs.declared.small.Ask.{Ask}
use Rattle.salus_message.specs.declared.small.Dump.{Dump}
use Rattle.salus_message.specs.declared.replies.Answer.{Answer}
use Rattle.salus_message.specs.declared.wire.Message.TheVariants as message
use Rattle.replica_rules.specs.Views.{View}
use Rattle.replica_rules.specs.Voting.{committed}
use Rattle.replica_rules.specs.Replicas.{AskTaken, take_ask}
use Rattle.replica_rules.specs.Leading.{Leader}
use Rattle.replica_rules.specs.Nodes.{Memory}
use Rattle.replica_rules.specs.Rules.{Turn as RuleTurn, quiet, votes_for, claims_of, answer_out, by_ask, dumped, by_dump, is_at_start, by_tick}
use Rattle.region_view.specs.Kept.{KeptView}
use Rattle.region_replica.specs.Serving.{Serving}
use Rattle.region_replica.specs.Asking.{IsAskTaken}
use Rattle.pipelined_commit.specs.Standing.{KeptLeader, StandsFor as LeaderStands}
use Rattle.posting.specs.Posting.{out_to}
use Rattle.posting.specs.Sendings.{out_of_sending}
use Rattle.open_session.specs.Kept.{KeptSession, kept_of}
use Rattle.open_session.specs.Claiming.{claims_out}
use Rattle.open_session.specs.Turning.{HasTurned, IsTurn}
use Rattle.open_session.proofs.Sent.{claim-sent}
use Rattle.open_session.proofs.VotesTaken.{told_turn, none_added, quiet-turned}

-- ---- an ask

abbrev pub ask_posted : Option Answer → List Out
ask_posted None = []
ask_posted (Some answer) = out_to sender.Client (message.Answer answer) ∷ []

pub ask-turned : (before after : Serving) (ask : Ask) (given : Option Answer) (outs : List Out) (leader : KeptLeader) (parts : List Record) (begun : Option ℕ) (whole : Bool) → IsAskTaken before ask after given
    → outs ≡ ask_posted given → IsTurn (by_ask before.shape before.region ask) (kept_of before leader parts begun whole) (kept_of after leader parts begun whole) (told_turn outs None)
unfolding by_ask
ask-turned before after ask given outs leader parts begun whole taken sent m stands =
    let same : take_ask before.shape before.region before.replica ask ≡ take_ask before.shape before.region m.replica ask = ap (λ x. take_ask before.shape before.region x ask) stands.replica in
    record {
      memory = record {
        replica = ap (λ (s : Serving). s.replica) taken.state ∙ ap (λ (t : AskTaken). t.replica) same;
        leader = stands.leader;
        parts = stands.parts;
        begun = stands.begun;
        whole = stands.whole;
      };
      outs = sent ∙ ap (λ o. ask_posted o) (taken.answer ∙ ap (λ (t : AskTaken). t.answer) same) ∙ posted (take_ask before.shape before.region m.replica ask).answer;
      changes = none_added (kept_of after leader parts begun whole) outs None;
    }
  where
    posted : (o : Option Answer) → ask_posted o ≡ map out_of_sending (answer_out o)
    posted None = refl
    posted (Some answer) = refl

-- ---- a dump

dump_ways : ℕ → Memory → Bool → RuleTurn
dump_ways g m b = if b then dumped g m else quiet m

dump_is : (g : ℕ) (dump : Dump) (m : Memory) (session : ℕ) (b : Bool) → m.replica.session ≡ session → ((dump.session == session) && (dump.region == g)) ≡ b → by_dump g dump m ≡ dump_ways g m b
unfolding by_dump dump_ways
dump_is g dump m session b same is = ap (λ b. if b then dumped g m else quiet m) (ap (λ e. (dump.session == e) && (dump.region == g)) same ∙ is)

pub dump-not : (g : ℕ) (dump : Dump) (session : ℕ) (kept : KeptSession) → kept.replica.session ≡ session → ((dump.session == session) && (dump.region == g)) ≡ false → IsTurn (by_dump g dump) kept kept (told_turn [] None)
unfolding dump_ways
dump-not g dump session kept same is m stands =
    let at : m.replica.session ≡ session = sym (ap (λ r. r.session) stands.replica) ∙ same in
    subst (λ t. HasTurned kept (told_turn [] None) t) (sym (dump_is g dump m session false at is)) (quiet-turned kept m stands)

pub dump-told : (g : ℕ) (dump : Dump) (session : ℕ) (kept : KeptSession) (seen : KeptView) (outs : List Out) → kept.replica.session ≡ session → ((dump.session == session) && (dump.region == g)) ≡ true
    → seen ≡ record { shape = kept.shape; view = kept.replica.view }
    → outs ≡ out_to sender.Client (message.Dumped (record { session = session; region = g; at = seen.view.number; blocks = seen.view.blocks })) ∷ []
    → IsTurn (by_dump g dump) kept kept (told_turn outs None)
unfolding dump_ways
dump-told g dump session kept seen outs same is seen_is sent m stands =
    let at : m.replica.session ≡ session = sym (ap (λ r. r.session) stands.replica) ∙ same in
    let view : seen.view ≡ m.replica.view = ap (λ (k : KeptView). k.view) seen_is ∙ ap (λ r. r.view) stands.replica in
    subst (λ t. HasTurned kept (told_turn outs None) t) (sym (dump_is g dump m session true at is))
    (record {
      memory = stands;
      outs = sent ∙ ap (λ (v : View). out_to sender.Client (message.Dumped (record { session = session; region = g; at = v.number; blocks = v.blocks })) ∷ []) view
          ∙ ap (λ e. out_to sender.Client (message.Dumped (record { session = e; region = g; at = m.replica.view.number; blocks = m.replica.view.blocks })) ∷ []) (sym at);
      changes = none_added kept outs None;
    })

-- ---- a tick

pub tick-told : (shape : Shape) (session : ℕ) (kept : KeptSession) (leader : KeptLeader) (parts : List Record) (begun : Option ℕ) (number front : ℕ) (voted outs : List Out) → leader.shape ≡ shape
    → kept.leader ≡ leader → kept.parts ≡ parts → kept.begun ≡ begun → kept.replica.session ≡ session
    → ((l : Leader) → LeaderStands leader l → number ≡ committed leader.shape l.claims) → front ≡ leader.front
    → voted ≡ map out_of_sending (flat_map (λ rec. votes_for shape rec) (filter (λ rec. nat_lt number rec.header.seq) parts))
    → outs ≡ voted ++ (if is_at_start front begun then [] else claims_out shape session front)
    → IsTurn (by_tick shape) kept kept (told_turn outs None)
unfolding by_tick
tick-told shape session kept leader parts begun number front voted outs at led parts_are begun_is same counted front_is votes sent m stands =
    let stood : LeaderStands leader m.leader = subst (λ k. LeaderStands k m.leader) led stands.leader in
    let number_is : number ≡ committed shape m.leader.claims = counted m.leader stood ∙ ap (λ sh. committed sh m.leader.claims) at in
    let held : parts ≡ m.parts = sym parts_are ∙ stands.parts in
    let first : front ≡ m.leader.front = front_is ∙ stood.front in
    let began : begun ≡ m.begun = sym begun_is ∙ stands.begun in
    let here : session ≡ m.replica.session = sym same ∙ ap (λ r. r.session) stands.replica in
    let votes_are : voted ≡ map out_of_sending (flat_map (λ rec. votes_for shape rec) (filter (λ rec. nat_lt (committed shape m.leader.claims) rec.header.seq) m.parts)) =
    votes ∙ ap (λ n. map out_of_sending (flat_map (λ rec. votes_for shape rec) (filter (λ rec. nat_lt n rec.header.seq) parts))) number_is
    ∙ ap (λ l. map out_of_sending (flat_map (λ rec. votes_for shape rec) (filter (λ rec. nat_lt (committed shape m.leader.claims) rec.header.seq) l))) held in
    let claims_are : (if is_at_start front begun then [] else claims_out shape session front) ≡ map out_of_sending (if is_at_start m.leader.front m.begun then [] else claims_of shape m.replica.session m.leader.front) =
    ap (λ n. if is_at_start n begun then [] else claims_out shape session n) first ∙ ap (λ o. if is_at_start m.leader.front o then [] else claims_out shape session m.leader.front) began
    ∙ ap (λ e. if is_at_start m.leader.front m.begun then [] else claims_out shape e m.leader.front) here
    ∙ either (is_at_start m.leader.front m.begun) in
    record {
      memory = stands;
      outs = sent ∙ ap (λ l. l ++ (if is_at_start front begun then [] else claims_out shape session front)) votes_are
          ∙ ap (λ l. map out_of_sending (flat_map (λ rec. votes_for shape rec) (filter (λ rec. nat_lt (committed shape m.leader.claims) rec.header.seq) m.parts)) ++ l) claims_are
          ∙ sym (map-append out_of_sending (flat_map (λ rec. votes_for shape rec) (filter (λ rec. nat_lt (committed shape m.leader.claims) rec.header.seq) m.parts)) (if is_at_start m.leader.front m.begun then [] else claims_of shape m.replica.session m.leader.front));
      changes = none_added kept outs None;
    }
  where
    either : (b : Bool) → (if b then [] else claims_out shape m.replica.session m.leader.front) ≡ map out_of_sending (if b then [] else claims_of shape m.replica.session m.leader.front)
    either true = refl
    either false = claim-sent shape m.replica.session m.leader.front
