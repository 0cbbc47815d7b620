-- A number has one spelling: its bytes are read as that number again, and the number of some bytes has those bytes.
use Rattle.std.proofs.Common.{◌≡◌, ℕ, ◌^◌, ◌<◌, List, [], ◌∷◌, ◌++◌, length, take, drop, sym, ap, ◌∙◌, append-nil, arith}
use Rattle.std.specs.Int.{w16, w32, w64, from_be_bytes}
use Rattle.std.proofs.lemmas.List.{take_at, drop_at}
use Rattle.std.proofs.lemmas.Nat.{be_bytes_2, be_bytes_4, be_bytes_8}
use Rattle.byteorder.specs.Endian.{big_bytes, big_number}
use Rattle.byteorder.specs.Numbers.{big_number-reads_back, length-bytes_high_first}
use Rattle.salus_codec.specs.Spelling.{IsBytes, be1, be2, be4, be8}

pub same_bytes_2 : (bytes : List ℕ) (x : ℕ) → length bytes ≡ 2 → IsBytes bytes → x ≡ big_number 2 bytes → be2 x ≡ bytes
unfolding be2
same_bytes_2 bytes x len fits is = let n : x ≡ from_be_bytes w16 bytes = omega arith in be_bytes_2 bytes x len fits n

pub same_bytes_4 : (bytes : List ℕ) (x : ℕ) → length bytes ≡ 4 → IsBytes bytes → x ≡ big_number 4 bytes → be4 x ≡ bytes
unfolding be4
same_bytes_4 bytes x len fits is = let n : x ≡ from_be_bytes w32 bytes = omega arith in be_bytes_4 bytes x len fits n

pub same_bytes_8 : (bytes : List ℕ) (x : ℕ) → length bytes ≡ 8 → IsBytes bytes → x ≡ big_number 8 bytes → be8 x ≡ bytes
unfolding be8
same_bytes_8 bytes x len fits is = let n : x ≡ from_be_bytes w64 bytes = omega arith in be_bytes_8 bytes x len fits n

-- bytes of a known number stand before what follows them
pub parted : (width : ℕ) (head new text after : List ℕ) → length head ≡ width → length text ≡ width → head ++ new ≡ text ++ after → (head ≡ text) × (new ≡ after)
parted width head new text after len len' e = (
  sym (take_at head new width len) ∙ ap (take width) e ∙ take_at text after width len',
  sym (drop_at head new width len) ∙ ap (drop width) e ∙ drop_at text after width len',
)

pub number_of_bytes : (width n : ℕ) → n < 256 ^ width → big_number width (big_bytes width n) ≡ n
number_of_bytes width n lt = sym (ap (big_number width) (append-nil (big_bytes width n))) ∙ big_number-reads_back width n [] lt

-- what was put is read, whatever follows
pub read_again : (width : ℕ) (head new after : List ℕ) (x n : ℕ) → length head ≡ width → x ≡ big_number width head → n < 256 ^ width → head ++ new ≡ big_bytes width n ++ after → (x ≡ n) × (new ≡ after)
read_again width head new after x n len is lt e =
    let p = parted width head new (big_bytes width n) after len (length-bytes_high_first width n) e in
    (is ∙ ap (big_number width) p.0 ∙ number_of_bytes width n lt, p.1)

pub again_1 : (head new after all : List ℕ) (x n : ℕ) → length head ≡ 1 → x ≡ big_number 1 head → all ≡ head ++ new → n < 256 → all ≡ be1 n ++ after → (x ≡ n) × (new ≡ after)
unfolding be1
again_1 head new after all x n len is split lt e = read_again 1 head new after x n len is lt (sym split ∙ e)

pub again_2 : (head new after all : List ℕ) (x n : ℕ) → length head ≡ 2 → x ≡ big_number 2 head → all ≡ head ++ new → n < 65536 → all ≡ be2 n ++ after → (x ≡ n) × (new ≡ after)
unfolding be2
again_2 head new after all x n len is split lt e = read_again 2 head new after x n len is lt (sym split ∙ e)

pub again_4 : (head new after all : List ℕ) (x n : ℕ) → length head ≡ 4 → x ≡ big_number 4 head → all ≡ head ++ new → n < 4294967296 → all ≡ be4 n ++ after → (x ≡ n) × (new ≡ after)
unfolding be4
again_4 head new after all x n len is split lt e = read_again 4 head new after x n len is lt (sym split ∙ e)

pub again_8 : (head new after all : List ℕ) (x n : ℕ) → length head ≡ 8 → x ≡ big_number 8 head → all ≡ head ++ new → n < 18446744073709551616 → all ≡ be8 n ++ after → (x ≡ n) × (new ≡ after)
unfolding be8
again_8 head new after all x n len is split lt e = read_again 8 head new after x n len is lt (sym split ∙ e)

pub same_bytes_1 : (bytes : List ℕ) → length bytes ≡ 1 → IsBytes bytes → be1 (big_number 1 bytes) ≡ bytes
unfolding be1
same_bytes_1 [] len fits = absurd (omega arith)
same_bytes_1 (b ∷ []) len fits = let lt = fits 0 in ap (λ (x : ℕ). x ∷ []) (omega (arith, lt))
same_bytes_1 (b ∷ c ∷ bytes) len fits = absurd (omega arith)
