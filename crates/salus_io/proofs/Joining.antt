-- Reads and writes one after another, and what a source had left that is at its end now.
use Rattle.std.proofs.Common.{◌≡◌, ◌+◌, ◌<◌, ℕ, List, [], ◌++◌, length, take, drop, None, Some, Bool, Option, option_map, IfSome, refl, sym, ap, ◌∙◌, append_assoc, append-nil, length-append, arith}
use Rattle.std.proofs.Math.Seq.{take-add}
use Rattle.std.proofs.lemmas.List.{drop-drop, take-append-drop}
use Rattle.std.proofs.lemmas.Option.{same_Some}
use Rattle.salus_io.specs.Faults.{FailsAsListed, StaysSure, after_call, fails_next}
use Rattle.salus_io.specs.Told.{Consumes, ConsumesSome, ConsumesMore, IsAtEnd, Appends}

pub Consumes-nil : (left : Option (List ℕ)) → Consumes left left []
Consumes-nil None = refl
Consumes-nil (Some bytes) = refl

pub Consumes-trans : (first second third : Option (List ℕ)) (xs ys : List ℕ) → Consumes first second xs → Consumes second third ys → Consumes first third (xs ++ ys)
Consumes-trans first second None xs ys p q = p ∙ ap (option_map (λ (left : List ℕ). xs ++ left)) q
Consumes-trans first second (Some left) xs ys p q = p ∙ ap (option_map (λ (left : List ℕ). xs ++ left)) q ∙ ap Some (sym (append_assoc xs ys left))

-- one more piece of a text that is read from its front on
pub Consumes-piece : (first second third : Option (List ℕ)) (text piece longer : List ℕ) → Consumes first second text → Consumes second third piece → longer ≡ text ++ piece → Consumes first third longer
Consumes-piece first second third text piece longer p q e = rw e (Consumes-trans first second third text piece p q)

pub ConsumesSome-trans : (first second third : Option (List ℕ)) (xs : List ℕ) → Consumes first second xs → ConsumesSome second third → ConsumesSome first third
ConsumesSome-trans first second third xs p q = (xs ++ q.0, Consumes-trans first second third xs q.0 p q.1)

-- a source that is at its end had no more than it gave
pub IfSome-from_end : (old new : Option (List ℕ)) (bytes : List ℕ) → Consumes old new bytes → IsAtEnd new → IfSome old (λ left. left ≡ bytes)
IfSome-from_end None new bytes p q = tt
IfSome-from_end (Some left) None bytes p q = cc
IfSome-from_end (Some left) (Some rest) bytes p q = same_Some left (bytes ++ rest) p ∙ ap (λ (rest : List ℕ). bytes ++ rest) q ∙ append-nil bytes

-- a source that gave more than the limit had more
pub IfSome-from_more : (old new : Option (List ℕ)) (limit : ℕ) → ConsumesMore old new limit → IfSome old (λ left. limit < length left)
IfSome-from_more None new limit more = tt
IfSome-from_more (Some left) None limit more = let p = more.2 in cc
IfSome-from_more (Some left) (Some rest) limit more =
    let e : left ≡ more.0 ++ rest = same_Some left (more.0 ++ rest) more.2 in
    let n : limit < length more.0 = more.1 in
    omega (arith, ap length e, length-append more.0 rest)

pub Appends-nil : (held : Option (List ℕ)) → Appends held held []
Appends-nil None = refl
Appends-nil (Some bytes) = ap Some (sym (append-nil bytes))

pub Appends-trans : (first second third : Option (List ℕ)) (xs ys : List ℕ) → Appends first second xs → Appends second third ys → Appends first third (xs ++ ys)
Appends-trans None second third xs ys p q = q ∙ ap (option_map (λ (held : List ℕ). held ++ ys)) p
Appends-trans (Some held) second third xs ys p q = q ∙ ap (option_map (λ (held : List ℕ). held ++ ys)) p ∙ ap Some (append_assoc held xs ys)

-- one more piece of a text that is written from its front on
pub Appends-piece : (first second third : Option (List ℕ)) (text : List ℕ) (at n : ℕ) → Appends first second (take at text) → Appends second third (take n (drop at text)) → Appends first third (take (at + n) text)
Appends-piece first second third text at n p q = rw (take-add at n text) (Appends-trans first second third (take at text) (take n (drop at text)) p q)

-- the front of a content from a place on, and what is left behind it
pub split_from : (content front : List ℕ) (at n : ℕ) → take n front ≡ take n (drop at content) → drop at content ≡ take n front ++ drop (at + n) content
split_from content front at n e =
    sym (ap (λ (xs : List ℕ). xs ++ drop (at + n) content) e ∙ ap (λ (rest : List ℕ). take n (drop at content) ++ rest) (sym (drop-drop n at content)) ∙ take-append-drop n (drop at content))

-- where no call is to fail, the next one doesn't
pub StaysSure-from_listed : (old new : Option (List ℕ)) (failed : Bool) → FailsAsListed old new failed → StaysSure old new failed
StaysSure-from_listed None new failed listed e = cc
StaysSure-from_listed (Some calls) new failed listed e =
    let none : calls ≡ [] = same_Some calls [] e in
    (listed.1 ∙ ap (λ (calls : List ℕ). Some (after_call calls)) none, listed.0 ∙ ap fails_next none)
