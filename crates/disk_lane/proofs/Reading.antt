-- What the first bytes of a file say of it.
use Rattle.std.proofs.Common.{◌≡◌, ◌≢◌, ◌⊎◌, inl, inr, ℕ, ◌+◌, ◌≤◌, ◌<◌, cond, ◌==◌, List, [], ◌∷◌, length, take, drop, get_or, refl, sym, ◌∙◌, ap, subst, arith}
use Rattle.std.proofs.lemmas.List.{get_or-take, ext_get_or, length-take-le}
use Rattle.disk_model.specs.Disk.{Moment, History, Now, EachImage, clean}
use Rattle.disk_model.proofs.Passing.{now_map, each_clean}
use Rattle.disk_lane.specs.Heads.{IsHead, IsUnmarked, file_mark, live_lane}
use Rattle.disk_lane.proofs.Filling.{now_after, now_both}

pub rested : (old new : History) → (old ≡ [] → new ≡ []) → Now old (λ was. Now new (λ now. now ≡ clean was.seen)) → Now new (λ m. m ≡ clean m.seen)
rested old new none synced = now_after old new (λ was now. now ≡ clean was.seen) (λ now. now ≡ clean now.seen) none synced (each old)
  where
    each : (h : History) → Now h (λ was. (now : Moment) → now ≡ clean was.seen → now ≡ clean now.seen)
    each [] = tt
    each (m ∷ past) = λ now is. is ∙ ap clean (sym (ap (λ (x : Moment). x.seen) is))

front_mark : (head file : List ℕ) → 16 ≤ length file → head ≡ take 16 (drop 0 file) → take 8 head ≡ take 8 file
front_mark head file long is =
    let shorter = length-take-le 16 file long in
    let a : length (take 8 head) ≡ 8 = length-take-le 8 head (omega (arith, ap length is, shorter)) in
    let b = length-take-le 8 file (omega arith) in
    ext_get_or 0 (take 8 head) (take 8 file) (a ∙ sym b) (λ i there.
    let below : i < 8 = omega (arith, a) in
    get_or-take 8 head i 0 below ∙ ap (λ (l : List ℕ). get_or l i 0) is ∙ get_or-take 16 file i 0 (omega arith) ∙ sym (get_or-take 8 file i 0 below))

pub head_read : (h : History) (head : List ℕ) (len lane : ℕ) → Now h (λ m. m ≡ clean m.seen) → Now h (λ m. len ≡ length m.seen) → 16 ≤ len → Now h (λ m. head ≡ take 16 (drop 0 m.seen)) → take 8 head ≡ file_mark → lane ≡ cond (get_or head 8 0 == 1) 1 0 → Now h (λ m. EachImage m (IsHead lane))
head_read [] head len lane rests long enough reads marked named = tt
head_read (m ∷ past) head len lane rests long enough reads marked named =
    let file = m.seen in
    let there : 16 ≤ length file = omega (arith, long) in
    let byte : get_or file 8 0 ≡ get_or head 8 0 = sym (ap (λ (l : List ℕ). get_or l 8 0) reads ∙ get_or-take 16 file 8 0 (omega arith)) in
    let is : IsHead lane file = record { long = there; marked = sym (front_mark head file there reads) ∙ marked; live = ap (λ (n : ℕ). cond (n == 1) 1 0) byte ∙ sym named } in
    subst (λ (x : Moment). EachImage x (IsHead lane)) (sym rests) (each_clean file (IsHead lane) is)

pub short_read : (h : History) (len : ℕ) → Now h (λ m. len ≡ length m.seen) → len < 16 → Now h (λ m. IsUnmarked m.seen)
short_read h len long short = now_map (λ m. len ≡ length m.seen) (λ m. IsUnmarked m.seen) (λ m is. inl (omega (arith, is))) h long

pub other_read : (h : History) (head : List ℕ) (len : ℕ) → Now h (λ m. len ≡ length m.seen) → 16 ≤ len → Now h (λ m. head ≡ take 16 (drop 0 m.seen)) → take 8 head ≢ file_mark → Now h (λ m. IsUnmarked m.seen)
other_read [] head len long enough reads differs = tt
other_read (m ∷ past) head len long enough reads differs = inr (λ (is : take 8 m.seen ≡ file_mark). differs (front_mark head m.seen (omega (arith, long)) reads ∙ is))
