-- Hexadecimal words are read as they are spelled.
use Rattle.std.proofs.Common.{◌≡◌, ◌≢◌, ℕ, ◌+◌, ◌*◌, ◌<◌, ◌≤◌, true, false, leb, eqb, List, [], ◌∷◌, ◌++◌, length, drop, replicate, refl, sym, ap, subst, ◌∙◌, arith, inl, inr}
use Rattle.std.specs.Prelude.{Option, None, Some, codes, ◌&&◌}
use Rattle.std.proofs.lemmas.Bool.{and_parts, and_from, and_left, and_right, leb-true, le-leb, lt-leb, eqb-true, eq-eqb, ne_eqb}
use Rattle.std.proofs.lemmas.Bool.Decides.{Decides-eqb}
use Rattle.std.proofs.lemmas.Option.{same_Some, none-some}
use Rattle.std.proofs.lemmas.Slice.Eq.{bytes_eq-Decides, starts_is}
use Rattle.std.specs.Str.{bytes_eq}
use Rattle.text_words.specs.Reading.{begins, hex_digit, joined_digits, pair_of, onto, pairs_of, hex_of, byte_of, filled, block_of, lie_bytes_of, key_of}
use Rattle.text_words.specs.Grammar.{Lacks, IsHexDigit, IsPair, IsPairs, IsByte, IsHex, IsBlock, IsLieBytes, IsKey}
use Rattle.std.proofs.lemmas.List.{length-replicate}
use Rattle.text_words.proofs.Settled.{Settles, pick_true, pick_false, chosen, not_true}

-- ---- a digit

digit-sound : (c x : ℕ) → hex_digit c ≡ Some x → IsHexDigit c x
digit-sound c x h =
    elim (chosen (leb 48 c && leb c 57) _ _ _ h) [
      | inl w ↦
          let p = and_parts (leb 48 c) (leb c 57) w.0 in
          let low = leb-true 48 c p.0 in
          let high = leb-true c 57 p.1 in
          let is = same_Some _ _ w.1 in
          inl (omega (arith, low, high, is), omega (arith, low, high, is))
      | inr w ↦ elim (chosen (leb 97 c && leb c 102) _ _ _ w.1) [
        | inl v ↦
            let p = and_parts (leb 97 c) (leb c 102) v.0 in
            let low = leb-true 97 c p.0 in
            let high = leb-true c 102 p.1 in
            let is = same_Some _ _ v.1 in
            inr (omega (arith, low, high, is), omega (arith, low, high, is), inl (omega (arith, low, high, is)))
        | inr v ↦ elim (chosen (leb 65 c && leb c 70) _ _ _ v.1) [
          | inl u ↦
              let p = and_parts (leb 65 c) (leb c 70) u.0 in
              let low = leb-true 65 c p.0 in
              let high = leb-true c 70 p.1 in
              let is = same_Some _ _ u.1 in
              inr (omega (arith, low, high, is), omega (arith, low, high, is), inr (omega (arith, low, high, is)))
          | inr u ↦ absurd (none-some x u.1)
        ]
      ]
    ]

digit-only : (c x : ℕ) → IsHexDigit c x → hex_digit c ≡ Some x
digit-only c x (inl w) =
    let is = w.1 in
    let small = w.0 in
    pick_true (leb 48 c && leb c 57) _ _ (and_from (leb 48 c) (leb c 57) (le-leb 48 c (omega (arith, is, small))) (le-leb c 57 (omega (arith, is, small))))
    ∙ ap Some (omega (arith, is, small))
digit-only c x (inr (from, below, inl is)) =
    pick_false (leb 48 c && leb c 57) _ _ (and_right (leb 48 c) (leb c 57) (lt-leb c 57 (omega (arith, is, from, below))))
    ∙ (pick_true (leb 97 c && leb c 102) _ _ (and_from (leb 97 c) (leb c 102) (le-leb 97 c (omega (arith, is, from, below))) (le-leb c 102 (omega (arith, is, from, below))))
    ∙ ap Some (omega (arith, is, from, below)))
digit-only c x (inr (from, below, inr is)) =
    pick_false (leb 48 c && leb c 57) _ _ (and_right (leb 48 c) (leb c 57) (lt-leb c 57 (omega (arith, is, from, below))))
    ∙ (pick_false (leb 97 c && leb c 102) _ _ (and_left (leb 97 c) (leb c 102) (lt-leb 97 c (omega (arith, is, from, below))))
    ∙ (pick_true (leb 65 c && leb c 70) _ _ (and_from (leb 65 c) (leb c 70) (le-leb 65 c (omega (arith, is, from, below))) (le-leb c 70 (omega (arith, is, from, below))))
    ∙ ap Some (omega (arith, is, from, below))))

digit_lacks : (c x : ℕ) → IsHexDigit c x → c ≢ 32
digit_lacks c x (inl w) e = let is = w.1 in absurd (omega (arith, is, e))
digit_lacks c x (inr (from, below, inl is)) e = absurd (omega (arith, is, e))
digit_lacks c x (inr (from, below, inr is)) e = absurd (omega (arith, is, e))

digit_starless : (c x : ℕ) → IsHexDigit c x → c ≢ 42
digit_starless c x (inl w) e = let is = w.1 in absurd (omega (arith, is, e))
digit_starless c x (inr (from, below, inl is)) e = absurd (omega (arith, is, e))
digit_starless c x (inr (from, below, inr is)) e = absurd (omega (arith, is, e))

-- ---- a pair

joined-parts : (o p : Option ℕ) (b : ℕ) → joined_digits o p ≡ Some b → (x : ℕ) × (y : ℕ) × (o ≡ Some x) × (p ≡ Some y) × (b ≡ x * 16 + y)
joined-parts None p b h = absurd (none-some b h)
joined-parts (Some x) None b h = absurd (none-some b h)
joined-parts (Some x) (Some y) b h = (x, y, refl, refl, sym (same_Some _ _ h))

pub pair-settles : (first second : ℕ) → Settles (pair_of first second) (IsPair first second)
unfolding pair_of
pair-settles first second = record {
  sound = λ b h.
      let p = joined-parts (hex_digit first) (hex_digit second) b h in
      record { high = p.0; low = p.1; is_high = digit-sound first p.0 p.2; is_low = digit-sound second p.1 p.3; value = p.4 };
  only = λ b w.
      ap (λ o. joined_digits o (hex_digit second)) (digit-only first w.high w.is_high)
      ∙ (ap (joined_digits (Some w.high)) (digit-only second w.low w.is_low) ∙ ap Some (sym w.value));
}

-- ---- pairs

onto-parts : (o : Option ℕ) (p : Option (List ℕ)) (bytes : List ℕ) → onto o p ≡ Some bytes
    → (b : ℕ) × (more : List ℕ) × (o ≡ Some b) × (p ≡ Some more) × (b ∷ more ≡ bytes)
onto-parts None p bytes h = absurd (none-some bytes h)
onto-parts (Some b) None bytes h = absurd (none-some bytes h)
onto-parts (Some b) (Some more) bytes h = (b, more, refl, refl, same_Some _ _ h)

pairs-sound : (word bytes : List ℕ) → pairs_of word ≡ Some bytes → IsPairs word bytes
unfolding pairs_of
pairs-sound [] [] h = tt
pairs-sound [] (b ∷ bytes) h = absurd (cc)
pairs-sound (first ∷ []) bytes h = absurd (none-some bytes h)
pairs-sound (first ∷ second ∷ word) bytes h =
    let p = onto-parts (pair_of first second) (pairs_of word) bytes h in
    subst (IsPairs (first ∷ second ∷ word)) p.4 ((pair-settles first second).sound p.0 p.2, pairs-sound word p.1 p.3)

pairs-only : (word bytes : List ℕ) → IsPairs word bytes → pairs_of word ≡ Some bytes
unfolding pairs_of
pairs-only [] [] w = refl
pairs-only [] (b ∷ bytes) w = absurd w
pairs-only (first ∷ []) bytes w = absurd w
pairs-only (first ∷ second ∷ word) [] w = absurd w
pairs-only (first ∷ second ∷ word) (b ∷ bytes) w =
    ap (λ o. onto o (pairs_of word)) ((pair-settles first second).only b w.0) ∙ ap (onto (Some b)) (pairs-only word bytes w.1)

pub pairs-length : (word bytes : List ℕ) → IsPairs word bytes → length word ≡ 2 * length bytes
pairs-length [] [] w = refl
pairs-length [] (b ∷ bytes) w = absurd w
pairs-length (first ∷ []) bytes w = absurd w
pairs-length (first ∷ second ∷ word) [] w = absurd w
pairs-length (first ∷ second ∷ word) (b ∷ bytes) w = let e = pairs-length word bytes w.1 in omega (arith, e)

pair_lacks : (first second b : ℕ) → IsPair first second b → (first ≢ 32) × (second ≢ 32)
pair_lacks first second b w = (digit_lacks first w.high w.is_high, digit_lacks second w.low w.is_low)

pairs_lack : (word bytes : List ℕ) → IsPairs word bytes → Lacks 32 word
pairs_lack [] [] w = tt
pairs_lack [] (b ∷ bytes) w = absurd w
pairs_lack (first ∷ []) bytes w = absurd w
pairs_lack (first ∷ second ∷ word) [] w = absurd w
pairs_lack (first ∷ second ∷ word) (b ∷ bytes) w =
    let p = pair_lacks first second b w.0 in (p.0, (p.1, pairs_lack word bytes w.1))

-- ---- hex

pub hex-settles : (word : List ℕ) → Settles (hex_of word) (IsHex word)
unfolding hex_of
hex-settles word = record {
  sound = λ bytes h. elim (chosen (eqb (length word) 0) _ _ _ h) [
    | inl w ↦ absurd (none-some bytes w.1)
    | inr w ↦
        let pairs = pairs-sound word bytes w.1 in
        let long = pairs-length word bytes pairs in
        let there : length word ≢ 0 = λ e. absurd (cc (eq-eqb (length word) 0 e)) in
        record { some = omega (arith, long, there); pairs = pairs }
  ];
  only = λ bytes w.
      let some = w.some in
      let long = pairs-length word bytes w.pairs in
      pick_false (eqb (length word) 0) _ _ (ne_eqb (length word) 0 (λ e. omega (arith, long, some, e))) ∙ pairs-only word bytes w.pairs;
}

pub hex_lacks : (word bytes : List ℕ) → IsHex word bytes → Lacks 32 word
hex_lacks word bytes w = pairs_lack word bytes w.pairs

pub hex_there : (word bytes : List ℕ) → IsHex word bytes → 0 < length word
hex_there word bytes w =
    let some = w.some in
    let long = pairs-length word bytes w.pairs in omega (arith, long, some)

-- ---- a block

byte-sound : (word : List ℕ) (b : ℕ) → byte_of word ≡ Some b → IsByte word b
byte-sound [] b h = absurd (none-some b h)
byte-sound (first ∷ []) b h = absurd (none-some b h)
byte-sound (first ∷ second ∷ []) b h = record { first = first; second = second; spelled = refl; pair = (pair-settles first second).sound b h }
byte-sound (first ∷ second ∷ c ∷ more) b h = absurd (none-some b h)

pub byte-settles : (word : List ℕ) → Settles (byte_of word) (IsByte word)
byte-settles word = record { sound = byte-sound word; only = λ b w. ap byte_of w.spelled ∙ (pair-settles w.first w.second).only b w.pair }

filled-parts : (size : ℕ) (o : Option ℕ) (bytes : List ℕ) → filled size o ≡ Some bytes → (b : ℕ) × (o ≡ Some b) × (bytes ≡ replicate size b)
filled-parts size None bytes h = absurd (none-some bytes h)
filled-parts size (Some b) bytes h = (b, refl, sym (same_Some _ _ h))

pub begins_is : (p line : List ℕ) → (begins p line ≡ true → line ≡ p ++ drop (length p) line) × ((rest : List ℕ) → line ≡ p ++ rest → begins p line ≡ true)
begins_is p line = starts_is Decides-eqb line p (begins p line) refl

starred : (first second b : ℕ) (rest : List ℕ) → IsPair first second b → begins (codes "*") (first ∷ rest) ≡ false
starred first second b rest w = and_left (eqb 42 first) _ (ne_eqb 42 first (λ e. digit_starless first w.high w.is_high (sym e)))

starless : (word bytes : List ℕ) → IsHex word bytes → begins (codes "*") word ≡ false
starless [] bytes w = absurd (let there = hex_there [] bytes w in omega (arith, there))
starless (first ∷ []) bytes w = absurd (w.pairs)
starless (first ∷ second ∷ word) [] w = absurd (w.pairs)
starless (first ∷ second ∷ word) (b ∷ bytes) w = starred first second b (second ∷ word) w.pairs.0

block-sound : (size : ℕ) (word bytes : List ℕ) → block_of size word ≡ Some bytes → IsBlock size word bytes
unfolding block_of
block-sound size word bytes h = elim (chosen (begins (codes "*") word) _ _ _ h) [
  | inl w ↦
      let f = filled-parts size (byte_of (drop 1 word)) bytes w.1 in
      let p = byte-sound (drop 1 word) f.0 f.1 in
      inr (record {
        first = p.first;
        second = p.second;
        b = f.0;
        spelled = (begins_is (codes "*") word).0 w.0 ∙ ap (λ rest. 42 ∷ rest) p.spelled;
        pair = p.pair;
        throughout = f.2;
      })
  | inr w ↦ elim (chosen (eqb (length word) (2 * size)) _ _ _ w.1) [
    | inl v ↦
        let hex = (hex-settles word).sound bytes v.1 in
        let long = pairs-length word bytes hex.pairs in
        let twice = eqb-true (length word) (2 * size) v.0 in
        inl (record { hex = hex; whole = omega (arith, long, twice) })
    | inr v ↦ absurd (none-some bytes v.1)
  ]
]

fill-only : (size : ℕ) (first second b : ℕ) → IsPair first second b → block_of size (42 ∷ first ∷ second ∷ []) ≡ Some (replicate size b)
unfolding block_of
fill-only size first second b w = ap (filled size) ((pair-settles first second).only b w)

block-only : (size : ℕ) (word bytes : List ℕ) → IsBlock size word bytes → block_of size word ≡ Some bytes
unfolding block_of
block-only size word bytes (inl w) =
    let long = pairs-length word bytes w.hex.pairs in
    let whole = w.whole in
    pick_false (begins (codes "*") word) _ _ (starless word bytes w.hex)
    ∙ (pick_true (eqb (length word) (2 * size)) _ _ (eq-eqb (length word) (2 * size) (omega (arith, long, whole))) ∙ (hex-settles word).only bytes w.hex)
block-only size word bytes (inr w) =
    ap (block_of size) w.spelled ∙ (fill-only size w.first w.second w.b w.pair ∙ ap Some (sym w.throughout))

pub block-settles : (size : ℕ) (word : List ℕ) → Settles (block_of size word) (IsBlock size word)
block-settles size word = record { sound = block-sound size word; only = block-only size word }

pub block_lacks : (size : ℕ) (word bytes : List ℕ) → IsBlock size word bytes → Lacks 32 word
block_lacks size word bytes (inl w) = hex_lacks word bytes w.hex
block_lacks size word bytes (inr w) =
    let p = pair_lacks w.first w.second w.b w.pair in
    subst (Lacks 32) (sym w.spelled) ((λ e. absurd (omega (arith, e))), (p.0, (p.1, tt)))

pub block_there : (size : ℕ) (word bytes : List ℕ) → IsBlock size word bytes → 0 < length word
block_there size word bytes (inl w) = hex_there word bytes w.hex
block_there size word bytes (inr w) = rw w.spelled (omega arith)

pub block_length : (size : ℕ) (word bytes : List ℕ) → IsBlock size word bytes → length bytes ≡ size
block_length size word bytes (inl w) = w.whole
block_length size word bytes (inr w) = ap length w.throughout ∙ length-replicate size w.b

-- ---- the bytes of a lie, and a key

odd_dash : (bytes : List ℕ) → ¬ IsHex (codes "-") bytes
odd_dash bytes w = absurd (w.pairs)

lie-only : (word bytes : List ℕ) → IsLieBytes word bytes → lie_bytes_of word ≡ Some bytes
unfolding lie_bytes_of
lie-only word bytes (inl w) =
    let other : bytes_eq word (codes "-") ≡ false =
    not_true _ (λ e. odd_dash bytes (subst (λ v. IsHex v bytes) ((bytes_eq-Decides word (codes "-")).0 e) w)) in
    pick_false (bytes_eq word (codes "-")) _ _ other ∙ (hex-settles word).only bytes w
lie-only word bytes (inr w) =
    pick_true (bytes_eq word (codes "-")) _ _ ((bytes_eq-Decides word (codes "-")).1 w.spelled) ∙ ap Some (sym w.empty)

pub lie_bytes-settles : (word : List ℕ) → Settles (lie_bytes_of word) (IsLieBytes word)
unfolding lie_bytes_of
lie_bytes-settles word = record {
  sound = λ bytes h. elim (chosen (bytes_eq word (codes "-")) _ _ _ h) [
    | inl w ↦ inr (record { spelled = (bytes_eq-Decides word (codes "-")).0 w.0; empty = sym (same_Some _ _ w.1) })
    | inr w ↦ inl ((hex-settles word).sound bytes w.1)
  ];
  only = λ bytes w. lie-only word bytes w;
}

lie_lacks-dash : Lacks 32 (codes "-")
lie_lacks-dash = ((λ e. absurd (omega (arith, e))), tt)

pub lie_lacks : (word bytes : List ℕ) → IsLieBytes word bytes → Lacks 32 word
lie_lacks word bytes (inl w) = hex_lacks word bytes w
lie_lacks word bytes (inr w) = subst (Lacks 32) (sym w.spelled) lie_lacks-dash

pub key-sound : (word key : List ℕ) → key_of word ≡ Some key → IsHex word key × (length key ≤ 64)
key-sound word key h = elim (chosen (leb (length word) 128) _ _ _ h) [
  | inl w ↦
      let hex = (hex-settles word).sound key w.1 in
      let long = pairs-length word key hex.pairs in
      let short = leb-true (length word) 128 w.0 in
      (hex, omega (arith, long, short))
  | inr w ↦ absurd (none-some key w.1)
]

pub key-only : (word key : List ℕ) → IsHex word key → length key ≤ 64 → key_of word ≡ Some key
key-only word key w most =
    let long = pairs-length word key w.pairs in
    pick_true (leb (length word) 128) _ _ (le-leb (length word) 128 (omega (arith, long, most))) ∙ (hex-settles word).only key w

pub key-settles : (word : List ℕ) → Settles (key_of word) (IsKey word)
key-settles word = record { sound = key-sound word; only = λ key w. key-only word key w.0 w.1 }
