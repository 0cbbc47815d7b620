-- What stands of a node stays so where votes and claims are sent, and where the client goes on.
use Rattle.std.proofs.Common.{◌≡◌, ◌∙◌, inl, inr, ⊎_elim, ℕ, zero, suc, ◌-◌, ◌<◌, ◌≤◌, true, List, [], ◌∷◌, ◌++◌, ◌+◌, length, Option, None, Some, refl, sym, ap, subst, arith, length-append}
use Rattle.salus_types.specs.Volume.{Shape}
use Rattle.salus_types.specs.declared.names.NodeName.{NodeName}
use Rattle.salus_types.specs.declared.records.Record.{Record}
use Rattle.salus_types.specs.declared.records.Base.{Base}
use Rattle.salus_types.specs.declared.records.Held.{Held}
use Rattle.replica_rules.specs.Views.{View, view_of_base, view_after}
use Rattle.replica_rules.specs.Voting.{Vote as KeptVote}
use Rattle.replica_rules.specs.Leading.{Leader}
use Rattle.replica_rules.specs.Nodes.{Memory}
use Rattle.run_rules.specs.Knowing.{KnownNode}
use Rattle.list_lemmas.proofs.Each.{all_then}
use Rattle.law_prefix.specs.Numbers.{Mem, touches}
use Rattle.law_prefix.specs.Images.{IsPart}
use Rattle.law_prefix.specs.World.{Client, Vote, Claim, Volume, leader}
use Rattle.law_prefix.specs.Steps.{Claimed, AllClaim, Voted, IsBatch}
use Rattle.law_prefix.proofs.Counting.{touches_front}
use Rattle.law_prefix.proofs.Linking.{part_front}
use Rattle.kept_model.specs.Images.{part_as, open_place}
use Rattle.law_refined.specs.Bringing.{PartFits, StartFits, Onward, VotedFor, ClaimedFor}
use Rattle.law_refined.specs.Standing.{WhereSome, BaseStands, Chain, Opened, HeldStands, Certain, NotedFits, LeaderStands, BegunBy, EarlyFits, MemoryStands, NodeStands}
use Rattle.law_refined.proofs.Sending.{sure_wider, session_known}

where_then : {A : Type 0} (P Q : A → Type 0) → ((x : A) → P x → Q x) → (o : Option A) → WhereSome P o → WhereSome Q o
where_then P Q f None is = tt
where_then P Q f (Some x) is = f x is

-- ---- more votes and claims

module _ (shape : Shape) (v : Volume) (g : ℕ) (c : Client) (votes more : List Vote) (claims wider : List Claim) (vote : (t : Vote) → Mem t votes → Mem t more) (claim : (t : Claim) → Mem t claims → Mem t wider) where
  voted_wider : (e x : ℕ) (name : NodeName) → VotedFor shape v votes e x name → VotedFor shape v more e x name
  voted_wider e x name has r honest is = let t : Voted votes r e (x - 1) = has r honest is in record { vote = t.vote; sent = vote t.vote t.sent; node = t.node; session = t.session; same = t.same }

  claimed_wider : (e x : ℕ) (name : NodeName) → ClaimedFor shape v claims e x name → ClaimedFor shape v wider e x name
  claimed_wider e x name has r honest is = let t : Claimed claims r e x = has r honest is in record { claim = t.claim; sent = claim t.claim t.sent; node = t.node; session = t.session; front = t.front }

  leader_wider : (e place : ℕ) (l : Leader) → LeaderStands shape v c votes claims e place l → LeaderStands shape v c more wider e place l
  leader_wider e place l stands = record {
    low = stands.low;
    start = stands.start;
    front = ⊎_elim (λ (same : l.front ≡ l.base). inl same) (λ (sure : Certain v c votes claims e place l.front). inr (sure_wider v c votes more claims wider e place l.front vote claim sure)) stands.front;
    noted = stands.noted;
    voted = λ name x. where_then (λ (k : KeptVote). VotedFor shape v votes e k.seq name) (λ (k : KeptVote). VotedFor shape v more e k.seq name) (λ k has. voted_wider e k.seq name has) (l.votes name x) (stands.voted name x);
    claimed = λ name. ⊎_elim (λ (same : l.claims name ≡ l.base). inl same) (λ (has : ClaimedFor shape v claims e (l.claims name) name). inr (claimed_wider e (l.claims name) name has)) (stands.claimed name);
  }

  memory_wider : (held : Held) (m : Memory) → MemoryStands shape v g c votes claims held m → MemoryStands shape v g c more wider held m
  memory_wider held m r = record {
    positive = r.positive;
    session = r.session;
    parts = r.parts;
    whole = r.whole;
    early = r.early;
    opened = r.opened;
    leads = leader_wider held.session (open_place held) m.leader r.leads;
    begun = r.begun;
  }

  pub node_wider : (known : KnownNode) → NodeStands shape v g c votes claims known → NodeStands shape v g c more wider known
  node_wider known stands = record {
    state = record {
      holds = stands.state.holds;
      memory = where_then (MemoryStands shape v g c votes claims known.state.held) (MemoryStands shape v g c more wider known.state.held) (λ m r. memory_wider known.state.held m r) known.state.memory stands.state.memory;
    };
    each = stands.each;
    single = stands.single;
  }

-- ---- the client goes on

leader_front : (bs more : List (List ℕ)) (i : ℕ) → i < length bs → leader (bs ++ more) i ≡ leader bs i
unfolding leader
leader_front [] more i low = absurd (omega arith)
leader_front ([] ∷ bs) more zero low = refl
leader_front ((h ∷ hs) ∷ bs) more zero low = refl
leader_front ([] ∷ bs) more (suc i) low = let less : i < length bs = omega arith in leader_front bs more i less
leader_front ((h ∷ hs) ∷ bs) more (suc i) low = let less : i < length bs = omega arith in leader_front bs more i less

module _ (shape : Shape) (v : Volume) (g : ℕ) (c d : Client) (votes : List Vote) (claims : List Claim) (on : Onward c d) where
  touches_back : (e x : ℕ) → Mem e c.known → x < length (c.lists e) → (r : ℕ) → touches (d.lists e) x r ≡ true → touches (c.lists e) x r ≡ true
  touches_back e x known low r touched =
      let l = on.lists e known in
      sym (touches_front (c.lists e) l.0 x r low) ∙ ap (λ k. touches k x r) (sym l.1) ∙ touched

  leader_same : (e x : ℕ) → Mem e c.known → x < length (c.lists e) → leader (d.lists e) (x - 1) ≡ leader (c.lists e) (x - 1)
  leader_same e x known low =
      let l = on.lists e known in
      let less : x - 1 < length (c.lists e) = omega arith in
      ap (λ k. leader k (x - 1)) l.1 ∙ leader_front (c.lists e) l.0 (x - 1) less

  batch_onward : (e x : ℕ) → IsBatch c e x → IsBatch d e x
  batch_onward e x batch =
      let l = on.lists e batch.known in
      let low : x < length (c.lists e) = batch.submitted in
      record {
        known = on.known e batch.known;
        after_start = subst (λ k. k ≤ x) (sym (on.starts e batch.known)) batch.after_start;
        submitted = subst (λ (k : List (List ℕ)). x < length k) (sym l.1) (longer (c.lists e) l.0 x low);
      }
    where
      longer : (xs ys : List (List ℕ)) (n : ℕ) → n < length xs → n < length (xs ++ ys)
      longer xs ys n low = let both : length (xs ++ ys) ≡ length xs + length ys = length-append xs ys in omega arith

  pub part_onward : (rec : Record) → PartFits c rec → PartFits d rec
  part_onward rec fits =
      let e : ℕ = rec.header.session in
      let l = on.lists e fits.known in
      let x : ℕ = rec.header.seq - 1 in
      let low : x < length (c.lists e) = fits.is_part.submitted in
      record {
        known = on.known e fits.known;
        counted = fits.counted;
        is_part = subst (λ k. IsPart k (d.starts e) rec.header.region (part_as rec)) (sym l.1)
            (subst (λ k. IsPart (c.lists e ++ l.0) k rec.header.region (part_as rec)) (sym (on.starts e fits.known)) (part_front (c.lists e) l.0 (c.starts e) rec.header.region (part_as rec) fits.is_part));
        touched = λ r touched. fits.touched r (touches_back e x fits.known low r touched);
        before = ⊎_elim (λ (first : x ≤ c.starts e). inl (subst (λ k. x ≤ k) (sym (on.starts e fits.known)) first))
            (λ (named : rec.header.leader_before ≡ leader (c.lists e) (x - 1)). inr (named ∙ sym (leader_same e x fits.known low))) fits.before;
        spelled = fits.spelled;
      }

  start_onward : (rec : Record) → StartFits c rec → StartFits d rec
  start_onward rec fits = record { known = on.known rec.header.session fits.known; start = fits.start ∙ sym (on.starts rec.header.session fits.known); no_writes = fits.no_writes; no_run = fits.no_run; spelled = fits.spelled }

  base_onward : (e : ℕ) (base : Base) → BaseStands shape g c e base → BaseStands shape g d e base
  base_onward e base stands = record {
    not_past = stands.not_past;
    stands = stands.stands;
    root = stands.root;
    inside = stands.inside;
    fits = ⊎_elim (λ (start : StartFits c base.rec). inl (start_onward base.rec start)) (λ (part : (base.rec.header.session ≡ e) × PartFits c base.rec). inr (part.0, part_onward base.rec part.1)) stands.fits;
  }

  chain_onward : (e : ℕ) (view : View) (parts : List Record) (now : View) → Chain shape g c e view parts now → Chain shape g d e view parts now
  unfolding Chain
  chain_onward e view [] now chain = chain
  chain_onward e view (rec ∷ parts) now chain =
      (record { session = chain.0.session; goes = chain.0.goes; fits = part_onward rec chain.0.fits }, chain_onward e (view_after shape view rec) parts now chain.1)

  opened_onward : (held : Held) (view : View) → Opened shape g c held view → Opened shape g d held view
  opened_onward held view o = record { base = o.base; only = o.only; chain = chain_onward held.session (view_of_base o.base) held.parts view o.chain }

  pub held_onward : (held : Held) → HeldStands shape g c held → HeldStands shape g d held
  held_onward held holds = record {
    bases = all_then (BaseStands shape g c held.session) (BaseStands shape g d held.session) (base_onward held.session) held.bases holds.bases;
    few = holds.few;
    open_is = ⊎_elim (λ (closed : (held.session ≡ 0) × (held.parts ≡ [])). inl closed)
        (λ (open_view : (0 < held.session) × (view : View) × Opened shape g c held view). inr (open_view.0, open_view.1, opened_onward held open_view.1 open_view.2)) holds.open_is;
  }

  sure_onward : (e place x : ℕ) → Certain v c votes claims e place x → Certain v d votes claims e place x
  sure_onward e place x sure =
      let known : Mem e c.known = sure.batch.known in
      let low : x - 1 < length (c.lists e) = sure.batch.submitted in
      record {
        counted = sure.counted;
        small = sure.small;
        batch = batch_onward e (x - 1) sure.batch;
        voted = λ r honest touched. sure.voted r honest (touches_back e (x - 1) known low (v.region r) touched);
        in_order = ⊎_elim (λ (under : x - 1 ≤ place). inl under)
            (λ (all : AllClaim v claims (leader (c.lists e) (x - 1 - 1)) e (x - 1)). inr (subst (λ k. AllClaim v claims k e (x - 1)) (sym (leader_same e (x - 1) known low)) all)) sure.in_order;
      }

  leader_onward : (e place : ℕ) (l : Leader) → Mem e c.known → LeaderStands shape v c votes claims e place l → LeaderStands shape v d votes claims e place l
  leader_onward e place l known stands = record {
    low = stands.low;
    start = subst (λ k. k ≤ place) (sym (on.starts e known)) stands.start;
    front = ⊎_elim (λ (same : l.front ≡ l.base). inl same) (λ (sure : Certain v c votes claims e place l.front). inr (sure_onward e place l.front sure)) stands.front;
    noted = all_then (NotedFits c e) (NotedFits d e) (λ h noted. (noted.0, part_onward noted.0 noted.1, noted.2, noted.3)) l.noted stands.noted;
    voted = stands.voted;
    claimed = stands.claimed;
  }

  begun_onward : (e x : ℕ) (o : Option ℕ) → BegunBy c e x o → BegunBy d e x o
  begun_onward e x None batch = batch_onward e (x - 1) batch
  begun_onward e x (Some begun) is = is

  memory_onward : (held : Held) (m : Memory) → Mem held.session c.known → MemoryStands shape v g c votes claims held m → MemoryStands shape v g d votes claims held m
  memory_onward held m known r = record {
    positive = r.positive;
    session = r.session;
    parts = r.parts;
    whole = r.whole;
    early = all_then (EarlyFits shape g c held.session) (EarlyFits shape g d held.session) (λ rec fits. record { session = fits.session; region = fits.region; shaped = fits.shaped; fits = part_onward rec fits.fits }) m.replica.early r.early;
    opened = opened_onward held m.replica.view r.opened;
    leads = leader_onward held.session (open_place held) m.leader known r.leads;
    begun = begun_onward held.session m.leader.base m.begun r.begun;
  }

  pub node_onward : (known : KnownNode) → Mem zero c.known → NodeStands shape v g c votes claims known → NodeStands shape v g d votes claims known
  node_onward known blank stands = record {
    state = record {
      holds = held_onward known.state.held stands.state.holds;
      memory = where_then (MemoryStands shape v g c votes claims known.state.held) (MemoryStands shape v g d votes claims known.state.held)
          (λ m r. memory_onward known.state.held m (session_known shape v g c known.state.held blank stands.state.holds) r) known.state.memory stands.state.memory;
    };
    each = all_then (HeldStands shape g c) (HeldStands shape g d) held_onward known.contents stands.each;
    single = stands.single;
  }
