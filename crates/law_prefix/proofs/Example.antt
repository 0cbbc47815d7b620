-- A run of the model: one node, one batch, which is submitted, held, voted for, claimed and acknowledged; then a
-- restart is asked, the node replies, and the batch is chosen.
use Rattle.std.proofs.Common.{◌≡◌, ℕ, zero, suc, ◌≤◌, ◌<◌, ◌==◌, true, cond, List, [], ◌∷◌, ◌⊎◌, length, refl, sym, ap, arith, le_refl, zero-le, subst, ⊎_elim, inl, inr, eqb-true}
use Rattle.std.proofs.lemmas.Bool.{cond_both}
use Rattle.law_prefix.specs.Numbers.{Mem, touches, last}
use Rattle.law_prefix.specs.Images.{Part, Image, IsPart, reach}
use Rattle.law_prefix.specs.World.{Serving, Gathering, Client, Vote, Claim, Reply, World, Volume, Guarded, leader}
use Rattle.law_prefix.specs.Steps.{Comes, IsBatch, Votes, Licence, Submits, Acks, AllReplied, HoldsHeader, IsChoice}
use Rattle.law_prefix.specs.Run.{IsStart, changed, voted, claimed, submitted, acked, asked, replied, Run, begun, further}

abbrev volume : Volume
volume = record { regions = 1; region = λ r. zero; honest = λ r. r == zero }

abbrev first : Image
first = record { session = 1; base = zero; parts = []; later = [] }

abbrev start_client : Client
start_client = record { lists = λ e. []; starts = λ e. zero; known = 1 ∷ zero ∷ []; served = 1; acked = zero; asked = 1; phase = Serving; switches = [] }

abbrev world0 : World
world0 = record {
  client = start_client;
  images = λ r. first ∷ [];
  counts = λ r. r == zero;
  fresh = λ r. r == zero;
  votes = [];
  claims = [];
  staged = [];
  switched = [];
  replies = [];
}

starts0 : IsStart volume world0
starts0 = record {
  some_region = le_refl 1;
  lists = λ e. refl;
  starts = λ e. refl;
  known = refl;
  served = refl;
  acked = refl;
  asked = refl;
  phase = refl;
  switches = refl;
  images = λ r i m. ⊎_elim {B = ⊥} (λ (e : i ≡ first). e) (λ (b : ⊥). absurd b) m;
  counts = λ r. refl;
  fresh = λ r. refl;
  votes = refl;
  claims = refl;
  staged = refl;
  switched = refl;
  replies = refl;
}

guarded0 : Guarded volume (λ r. r == zero)
guarded0 g inside = (zero, omega arith, refl)

-- batch 1 touches region 0
abbrev batch1 : List ℕ
batch1 = zero ∷ []

abbrev lists1 : ℕ → List (List ℕ)
lists1 e = cond (e == 1) (batch1 ∷ []) []

abbrev client1 : Client
client1 = record start_client { lists = lists1 }

abbrev world1 : World
world1 = record world0 { client = client1 }

leads1 : (i : ℕ) → leader (batch1 ∷ []) i < 1
unfolding leader
leads1 zero = le_refl 1
leads1 (suc i) = le_refl 1

led1 : (i : ℕ) → i < length (batch1 ∷ []) → touches (batch1 ∷ []) i (leader (batch1 ∷ []) i) ≡ true
unfolding leader touches
led1 zero h = refl
led1 (suc i) h = absurd (omega arith)

submits1 : Submits volume start_client client1
unfolding leader touches
submits1 = record {
  batch = batch1;
  serving = refl;
  room = omega arith;
  others = λ e. cond_both {A = List (List ℕ)} (e == 1) (batch1 ∷ []) [] (λ l. (l ≡ []) ⊎ (e ≡ 1) × (l ≡ batch1 ∷ []))
      (λ t. inr (eqb-true e 1 t, refl)) (λ t. inl refl);
  here = refl;
  inside = λ e i. cond_both {A = List (List ℕ)} (e == 1) (batch1 ∷ []) [] (λ l. leader l i < 1) (λ t. leads1 i) (λ t. le_refl 1);
  led = λ e i. cond_both {A = List (List ℕ)} (e == 1) (batch1 ∷ []) [] (λ l. i < length l → touches l i (leader l i) ≡ true) (λ t. led1 i)
      (λ t h. absurd (omega arith));
}

abbrev part1 : Part
part1 = record { before = zero; previous = zero }

abbrev image1 : Image
image1 = record { session = 1; base = zero; parts = part1 ∷ []; later = [] }

is_part1 : IsPart (batch1 ∷ []) zero zero part1
unfolding touches last
is_part1 = record { after_start = le_refl zero; submitted = le_refl 1; touched = refl; links = refl }

comes1 : (j : Image) → j ≡ image1 → Comes client1 zero (first ∷ []) j
unfolding reach
comes1 j e = record {
  from = first;
  was = inl refl;
  how = inr (inl (record {
    added = part1;
    is_part = is_part1;
    next = refl;
    same_session = ap (λ (x : Image). x.session) e;
    same_base = ap (λ (x : Image). x.base) e;
    more_parts = ap (λ (x : Image). x.parts) e;
    same_later = ap (λ (x : Image). x.later) e;
  }));
}

abbrev world2 : World
world2 = record world1 { images = λ r. image1 ∷ [] }

only1 : (j : Image) → Mem j (image1 ∷ []) → j ≡ image1
only1 j m = ⊎_elim {B = ⊥} (λ (e : j ≡ image1). e) (λ (b : ⊥). absurd b) m

abbrev vote1 : Vote
vote1 = record { node = zero; session = 1; before = zero }

is_batch1 : IsBatch client1 1 zero
is_batch1 = record { known = inl refl; after_start = le_refl zero; submitted = le_refl 1 }

votes1 : Votes volume world2 vote1
votes1 = record {
  batch = is_batch1;
  held = λ i m. subst (λ (x : Image). (x.session ≡ 1) × (((p : Part) × Mem p x.parts × (p.before ≡ zero)) ⊎ (1 ≤ x.base))) (sym (only1 i m))
      (refl, inl (part1, inl refl, refl));
}

abbrev world3 : World
world3 = record world2 { votes = vote1 ∷ [] }

abbrev claim1 : Claim
claim1 = record { node = zero; session = 1; front = 1; counted = true }

licence1 : Licence volume world3 claim1
licence1 = record {
  held = image1;
  was = inl refl;
  session = refl;
  counted = refl;
  how = inl (
    zero,
    refl,
    record {
      batch = is_batch1;
      votes = λ r honest t. record { vote = vote1; sent = inl refl; node = sym (eqb-true r zero honest); session = refl; same = refl };
      in_order = inl (le_refl zero);
    },
  );
}

abbrev world4 : World
world4 = record world3 { claims = claim1 ∷ [] }

acks1 : Acks volume world4
acks1 = record {
  serving = refl;
  there = le_refl 1;
  claimed = λ r honest place. record { claim = claim1; sent = inl refl; node = sym (eqb-true r zero honest); session = refl; front = le_refl 1 };
}

abbrev world5 : World
world5 = record world4 { client = record client1 { acked = 1 } }

abbrev world6 : World
world6 = record world5 { client = record client1 { acked = 1; asked = 2; phase = Gathering }; fresh = λ r. r == zero }

abbrev reply1 : Reply
reply1 = record { node = zero; session = 2; held = image1 }

abbrev world7 : World
world7 = record world6 { replies = reply1 ∷ [] }

pub example_run : Run volume world0 world7
example_run =
    further world0 world6 world7
    (further world0 world5 world6
    (further world0 world4 world5
    (further world0 world3 world4
    (further world0 world2 world3
    (further world0 world1 world2
    (further world0 world0 world1 (begun world0 guarded0) (submitted world0 lists1 submits1) guarded0)
    (changed world1 (λ r. image1 ∷ []) (λ r j m. comes1 j (only1 j m))) guarded0)
    (voted world2 vote1 votes1) guarded0)
    (claimed world3 claim1 licence1) guarded0)
    (acked world4 acks1) guarded0)
    (asked world5 2 Gathering (record { later = le_refl 2; how = inl refl })) guarded0)
    (replied world6 reply1 (record { asked = le_refl 2; held = inl refl })) guarded0

pub example_replied : AllReplied volume world7 (reply1 ∷ [])
example_replied = record {
  sent = λ t m. m;
  all = λ r honest. record { reply = reply1; sent = inl refl; node = sym (eqb-true r zero honest); session = refl };
}

-- the batch is chosen
chosen_header : (x : ℕ) (e : ℕ) → HoldsHeader world7.client image1 e x → (e < 1) ⊎ (e ≡ 1) × (x ≤ 1)
chosen_header x e h =
    ⊎_elim
    (λ (k : (1 ≡ e) × ((zero ≡ x) ⊎ (p : Part) × Mem p (part1 ∷ []) × (suc p.before ≡ x))).
    inr (sym k.0, ⊎_elim (λ (z : zero ≡ x). omega arith) (λ (q : (p : Part) × Mem p (part1 ∷ []) × (suc p.before ≡ x)). low q.0 q.1 q.2) k.1))
    (λ (k : ⊥ × (zero ≡ x)). absurd k.0) h
  where
    low : (p : Part) → Mem p (part1 ∷ []) → suc p.before ≡ x → x ≤ 1
    low p m e =
        let same : p ≡ part1 = ⊎_elim {B = ⊥} (λ (s : p ≡ part1). s) (λ (b : ⊥). absurd b) m in
        let zero_before : p.before ≡ zero = ap (λ (q : Part). q.before) same in
        omega arith

pub example_choice : IsChoice volume world7 (reply1 ∷ []) 1 1
example_choice = record {
  known = inl refl;
  above = zero-le;
  within = le_refl 1;
  greatest = λ e x is. chosen_header x e (subst (λ (t : Reply). HoldsHeader world7.client t.held e x)
      (⊎_elim {B = ⊥} (λ (s : is.reply ≡ reply1). s) (λ (b : ⊥). absurd b) is.sent) is.header);
}
