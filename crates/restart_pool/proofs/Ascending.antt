-- Places that ascend, in a loop.
use Rattle.std.proofs.Common.{◌≡◌, ℕ, ◌+◌, ◌<◌, ◌≤◌, ◌∙◌, true, ◌&&◌, nat_le, List, length, map, drop, get_or, ap, sym}
use Rattle.std.proofs.lemmas.List.{at_drop_more, at_drop_all}
use Rattle.salus_types.specs.declared.records.PlaceWrite.{PlaceWrite}
use Rattle.holding_model.specs.Fitting.{ascends_from, blocks_written}
use Rattle.std.specs.Prelude.{slice_set}

pub ascends-on : (low : ℕ) (writes : List PlaceWrite) (i : ℕ) (w : PlaceWrite) → i < length writes → w ≡ get_or writes i w
    → ascends_from low (map (λ (v : PlaceWrite). v.place) (drop i writes)) ≡ (nat_le low w.place && ascends_from (w.place + 1) (map (λ (v : PlaceWrite). v.place) (drop (i + 1) writes)))
unfolding ascends_from
ascends-on low writes i w lt is =
    at_drop_more (λ ws. ascends_from low (map (λ (v : PlaceWrite). v.place) ws)) writes i w lt
    ∙ ap (λ (v : PlaceWrite). nat_le low v.place && ascends_from (v.place + 1) (map (λ (u : PlaceWrite). u.place) (drop (i + 1) writes))) (sym is)

pub ascends-end : (low : ℕ) (writes : List PlaceWrite) (i : ℕ) → length writes ≤ i → ascends_from low (map (λ (v : PlaceWrite). v.place) (drop i writes)) ≡ true
unfolding ascends_from
ascends-end low writes i le = at_drop_all (λ ws. ascends_from low (map (λ (v : PlaceWrite). v.place) ws)) writes i le

pub written-on : (blocks : List (List ℕ)) (writes : List PlaceWrite) (i : ℕ) (w : PlaceWrite) → i < length writes → w ≡ get_or writes i w
    → blocks_written blocks (drop i writes) ≡ blocks_written (slice_set blocks w.place w.bytes) (drop (i + 1) writes)
unfolding blocks_written
written-on blocks writes i w lt is =
    at_drop_more (λ ws. blocks_written blocks ws) writes i w lt
    ∙ ap (λ (v : PlaceWrite). blocks_written (slice_set blocks v.place v.bytes) (drop (i + 1) writes)) (sym is)

pub written-end : (blocks : List (List ℕ)) (writes : List PlaceWrite) (i : ℕ) → length writes ≤ i → blocks_written blocks (drop i writes) ≡ blocks
unfolding blocks_written
written-end blocks writes i le = at_drop_all (λ ws. blocks_written blocks ws) writes i le
