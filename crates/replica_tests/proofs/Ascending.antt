-- Places that ascend, in a loop.
use Rattle.std.proofs.Common.{◌≡◌, ℕ, ◌+◌, ◌<◌, ◌≤◌, ◌∙◌, true, ◌&&◌, nat_le, List, length, map, drop, get_or, ap, sym}
use Rattle.std.proofs.lemmas.List.{at_drop_more, at_drop_all}
use Rattle.salus_types.specs.declared.records.PlaceWrite.{PlaceWrite}
use Rattle.holding_model.specs.Fitting.{ascends_from}

pub ascends-on : (low : ℕ) (writes : List PlaceWrite) (i : ℕ) (w : PlaceWrite) → i < length writes → w ≡ get_or writes i w
    → ascends_from low (map (λ (v : PlaceWrite). v.place) (drop i writes)) ≡ (nat_le low w.place && ascends_from (w.place + 1) (map (λ (v : PlaceWrite). v.place) (drop (i + 1) writes)))
unfolding ascends_from
ascends-on low writes i w lt is =
    at_drop_more (λ ws. ascends_from low (map (λ (v : PlaceWrite). v.place) ws)) writes i w lt
    ∙ ap (λ (v : PlaceWrite). nat_le low v.place && ascends_from (v.place + 1) (map (λ (u : PlaceWrite). u.place) (drop (i + 1) writes))) (sym is)

pub ascends-end : (low : ℕ) (writes : List PlaceWrite) (i : ℕ) → length writes ≤ i → ascends_from low (map (λ (v : PlaceWrite). v.place) (drop i writes)) ≡ true
unfolding ascends_from
ascends-end low writes i le = at_drop_all (λ ws. ascends_from low (map (λ (v : PlaceWrite). v.place) ws)) writes i le
