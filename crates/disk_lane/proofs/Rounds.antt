-- A page after another.
use Rattle.std.proofs.Common.{◌≡◌, ⊎_elim, ℕ, ◌+◌, ◌-◌, ◌≤◌, ◌<◌, min, List, [], ◌∷◌, ◌++◌, length, take, drop, get_or, refl, sym, ◌∙◌, ap, subst, arith, length-append}
use Rattle.std.proofs.Math.Seq.{take-add}
use Rattle.std.proofs.lemmas.List.{ext_get_or, get_or-take, get_or-drop, drop-drop, length-take, length-drop, take_all, length-take-le}
use Rattle.std.proofs.lemmas.Slice.{take-put_mid}
use borrow.Rule.Slice.PartMut.{put_mid, same_len_mid}
use Rattle.disk_model.specs.Disk.{Moment, History, Now, Goes, IsWriting, written}
use Rattle.disk_model.proofs.Passing.{now_map}
use Rattle.disk_model.proofs.Tracked.{length-written}
use Rattle.disk_lane.specs.Lanes.{place, count, page_rest, lane_bytes, lane_moment, lane_history}
use Rattle.disk_lane.specs.Wrote.{Wrote}
use Rattle.disk_lane.specs.Places.{place_below, page_rest_some, count_grows}
use Rattle.disk_lane.specs.Images.{length-lane}
use Rattle.disk_lane.proofs.Seen.{read_in_page, page_inside}
use Rattle.disk_lane.proofs.Stretches.{wrote_more, goes_more}
use Rattle.disk_lane.proofs.Filling.{now_after, now_both, file_there}

-- the next so many bytes
pub piece_long : (done size : ℕ) (bytes : List ℕ) → done + size ≤ length bytes → length (take (done + size - done) (drop done bytes)) ≡ size
piece_long done size bytes inside = omega (arith, length-take (done + size - done) (drop done bytes), length-drop done bytes)

pub piece_more : (done size : ℕ) (bytes : List ℕ) → take (done + size) bytes ≡ take done bytes ++ take (done + size - done) (drop done bytes)
piece_more done size bytes = take-add done size bytes ∙ ap (λ (k : ℕ). take done bytes ++ take k (drop done bytes)) (back done size)
  where
    back : (a b : ℕ) → b ≡ a + b - a
    back a b = omega arith

-- after a write the file reaches so far
pub wrote_reaches : (at : ℕ) (bytes : List ℕ) (old new : History) → Wrote at bytes old new → Now new (λ now. at + length bytes ≤ length now.seen)
wrote_reaches at bytes old new wrote =
    now_after old new (λ was now. now.seen ≡ written at bytes was.seen) (λ now. at + length bytes ≤ length now.seen) wrote.went.untold wrote.seen
    (now_map (λ was. at ≤ length was.seen) (λ was. (now : Moment) → now.seen ≡ written at bytes was.seen → at + length bytes ≤ length now.seen) (λ was fits now same. omega (arith, ap length same, length-written at bytes was.seen fits)) old wrote.fits)

pub next_there : (lane at done : ℕ) (bytes : List ℕ) (old new : History) → done ≤ length bytes → Wrote at (take done bytes) old (lane_history lane new) → Now new (λ now. at + done ≤ count lane (length now.seen))
next_there lane at done bytes old new inside wrote =
    file_there lane (at + done) new (now_map (λ now. at + length (take done bytes) ≤ length now.seen) (λ now. at + done ≤ length now.seen) (λ now is. omega (arith, is, length-take-le done bytes inside)) (lane_history lane new) (wrote_reaches at (take done bytes) old (lane_history lane new) wrote))

pub wrote_next : (at done size : ℕ) (bytes : List ℕ) (old mid new : History) → done + size ≤ length bytes → Wrote at (take done bytes) old mid → Wrote (at + done) (take (done + size - done) (drop done bytes)) mid new → Wrote at (take (done + size) bytes) old new
wrote_next at done size bytes old mid new inside first second =
    let here : at + done ≡ at + length (take done bytes) = omega (arith, length-take-le done bytes (omega arith)) in
    subst (λ (l : List ℕ). Wrote at l old new) (sym (piece_more done size bytes)) (wrote_more at (take done bytes) (take (done + size - done) (drop done bytes)) old mid new first (subst (λ (k : ℕ). Wrote k (take (done + size - done) (drop done bytes)) mid new) here second))

pub goes_next : (at done m n : ℕ) (bytes : List ℕ) (old mid new : History) → done + m ≤ n → done ≤ length bytes → Goes (IsWriting at (length (take done bytes))) old mid → Goes (IsWriting (at + done) m) mid new → Goes (IsWriting at n) old new
goes_next at done m n bytes old mid new inside short first second =
    let long = length-take-le done bytes short in
    goes_more at (length (take done bytes)) (at + done) m n old mid new (omega (arith, long)) (omega (arith, long)) (omega arith) first second

-- ---- reads

pub part_long : (a k : ℕ) (xs ys : List ℕ) → length ys ≡ length (take k (drop a xs)) → length (put_mid a k xs ys) ≡ length xs
part_long a k xs ys long = same_len_mid a k xs ys long

read_page : (lane i k : ℕ) (file : List ℕ) → k ≤ page_rest i → place lane i + k ≤ length file → i + k ≤ count lane (length file) → take k (drop (place lane i) file) ≡ take k (drop i (lane_bytes lane file))
read_page lane i k file fits there inside =
    let low : length (take k (drop (place lane i) file)) ≡ k = omega (arith, length-take k (drop (place lane i) file), length-drop (place lane i) file) in
    let high : length (take k (drop i (lane_bytes lane file))) ≡ k = omega (arith, length-take k (drop i (lane_bytes lane file)), length-drop i (lane_bytes lane file), length-lane lane file) in
    ext_get_or 0 (take k (drop (place lane i) file)) (take k (drop i (lane_bytes lane file))) (low ∙ sym high) (λ j below.
    let under : j < k = omega (arith, low) in
    read_in_page lane i k file j fits there under ∙ sym (get_or-take k (drop i (lane_bytes lane file)) j 0 under ∙ get_or-drop i (lane_bytes lane file) j 0))

read_step : (lane at done size : ℕ) (out ys seen : List ℕ) → done + size ≤ length out → size ≤ page_rest (at + done) → 0 < size → at + length out ≤ count lane (length seen) → take done out ≡ take done (drop at (lane_bytes lane seen))
    → ys ≡ take (length (take (done + size - done) (drop done out))) (drop (place lane (at + done)) seen) → take (done + size) (put_mid done (done + size - done) out ys) ≡ take (done + size) (drop at (lane_bytes lane seen))
read_step lane at done size out ys seen inside page some there so_far now =
    let all = lane_bytes lane seen in
    let long = piece_long done size out inside in
    let here : place lane (at + done) + size ≤ length seen = page_inside lane (at + done) size (length seen) page some (omega arith) in
    let is : ys ≡ take size (drop (at + done) all) = now ∙ ap (λ (k : ℕ). take k (drop (place lane (at + done)) seen)) long ∙ read_page lane (at + done) size seen page here (omega arith) in
    let size_is : length ys ≡ size = omega (arith, ap length is, length-take size (drop (at + done) all), length-drop (at + done) all, length-lane lane seen) in
    take-put_mid done (done + size - done) out ys (done + size) (omega (arith, size_is)) (omega arith)
    ∙ (λ i. so_far i ++ is i)
    ∙ ap (λ (l : List ℕ). take done (drop at all) ++ take size l) (sym (drop-drop done at all))
    ∙ sym (take-add done size (drop at all))

pub read_next : (lane at done size : ℕ) (out ys : List ℕ) (h : History) → done + size ≤ length out → size ≤ page_rest (at + done) → 0 < size → Now h (λ m. at + length out ≤ count lane (length m.seen)) → Now h (λ m. take done out ≡ take done (drop at (lane_bytes lane m.seen)))
    → Now h (λ m. ys ≡ take (length (take (done + size - done) (drop done out))) (drop (place lane (at + done)) m.seen)) → Now h (λ m. take (done + size) (put_mid done (done + size - done) out ys) ≡ take (done + size) (drop at (lane_bytes lane m.seen)))
read_next lane at done size out ys [] inside page some there so_far now = tt
read_next lane at done size out ys (m ∷ past) inside page some there so_far now = read_step lane at done size out ys m.seen inside page some there so_far now

pub read_there : (lane at done size n : ℕ) (out : List ℕ) (h : History) → n ≡ place lane (at + done) → done + size ≤ length out → size ≤ page_rest (at + done) → 0 < size → Now h (λ m. at + length out ≤ count lane (length m.seen)) → Now h (λ m. n + length (take (done + size - done) (drop done out)) ≤ length m.seen)
read_there lane at done size n out h is inside page some there =
    now_map (λ m. at + length out ≤ count lane (length m.seen)) (λ m. n + length (take (done + size - done) (drop done out)) ≤ length m.seen) (λ m below. omega (arith, is, piece_long done size out inside, page_inside lane (at + done) size (length m.seen) page some (omega (arith, below)))) h there

pub read_whole : (lane at done : ℕ) (out : List ℕ) (h : History) → length out ≤ done → done ≤ length out → Now h (λ m. take done out ≡ take done (drop at (lane_bytes lane m.seen))) → Now (lane_history lane h) (λ m. out ≡ take (length out) (drop at m.seen))
read_whole lane at done out [] low high all = tt
read_whole lane at done out (m ∷ past) low high all =
    let is : done ≡ length out = omega arith in
    sym (take_all (length out) out (omega arith)) ∙ subst (λ (k : ℕ). take k out ≡ take k (drop at (lane_bytes lane m.seen))) is all
