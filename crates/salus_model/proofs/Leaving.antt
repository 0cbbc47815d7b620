-- Which requests have left the waiting line, as requests join and end.
use Rattle.std.proofs.Common.{◌≡◌, Bool, true, false, ◌||◌, List, [], ◌∷◌, ◌++◌, refl, ap}
use Rattle.std.specs.List.{list_any}
use Rattle.salus_model.specs.Waiting.{Taken, is_write, left_of}

-- a write waits
abbrev waits : List Taken → Bool
waits requests = list_any (λ r. is_write r.request) requests

-- the first of a list is a write, or not
left_of-cons : (t : Bool) (r : Taken) (rs more : List Taken) → is_write r.request ≡ t
    → (t ≡ false → (waits rs ≡ true → left_of (rs ++ more) ≡ left_of rs))
    → (t || waits rs) ≡ true → left_of (r ∷ (rs ++ more)) ≡ left_of (r ∷ rs)
unfolding left_of
left_of-cons true r rs more is rest waiting = rw is refl
left_of-cons false r rs more is rest waiting = rw is (ap (λ left. r ∷ left) (rest refl waiting))

-- where a write waits, what joins behind it stays
pub left_of-blocked : (rs more : List Taken) → waits rs ≡ true → left_of (rs ++ more) ≡ left_of rs
left_of-blocked [] more waiting = cc
left_of-blocked (r ∷ rs) more waiting = left_of-cons (is_write r.request) r rs more refl (λ _. left_of-blocked rs more) waiting

free-cons : (t : Bool) (r : Taken) (rs more : List Taken) → is_write r.request ≡ t
    → (waits rs ≡ false → left_of (rs ++ more) ≡ rs ++ left_of more)
    → (t || waits rs) ≡ false → left_of (r ∷ (rs ++ more)) ≡ r ∷ (rs ++ left_of more)
unfolding left_of
free-cons true r rs more is rest free = cc
free-cons false r rs more is rest free = rw is (ap (λ left. r ∷ left) (rest free))

-- where none waits, all have left, and what joins leaves too unless it is a write
pub left_of-free : (rs more : List Taken) → waits rs ≡ false → left_of (rs ++ more) ≡ rs ++ left_of more
unfolding left_of
left_of-free [] more free = refl
left_of-free (r ∷ rs) more free = free-cons (is_write r.request) r rs more refl (left_of-free rs more) free
