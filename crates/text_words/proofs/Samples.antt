-- Words with what they spell, computed.
use Rattle.std.proofs.Common.{◌≡◌, [], ◌∷◌, refl}
use Rattle.std.specs.Prelude.{None, Some, codes}
use Rattle.text_words.specs.Reading.{with_digits, number_of, pair_of, pairs_of, hex_of, block_of}

greatest_number : number_of (codes "18446744073709551615") ≡ Some 18446744073709551615
unfolding number_of with_digits
greatest_number = refl

too_great : number_of (codes "18446744073709551616") ≡ None
unfolding number_of with_digits
too_great = refl

leading_zero : number_of (codes "07") ≡ None
unfolding number_of with_digits
leading_zero = refl

both_cases : hex_of (codes "fF0a") ≡ Some (255 ∷ 10 ∷ [])
unfolding hex_of pairs_of pair_of
both_cases = refl

odd_hex : hex_of (codes "fF0") ≡ None
unfolding hex_of pairs_of pair_of
odd_hex = refl

filled_block : block_of 3 (codes "*07") ≡ Some (7 ∷ 7 ∷ 7 ∷ [])
unfolding block_of pair_of
filled_block = refl

short_block : block_of 3 (codes "0707") ≡ None
unfolding block_of hex_of pairs_of pair_of
short_block = refl
