-- Each kind of word is read as what it stands for.
use Rattle.std.proofs.Common.{lit<, ◌≡◌, ℕ, ◌<◌, ◌≤◌, Bool, true, false, cond, ltb, eqb, List, ◌∷◌, ◌++◌, refl, sym, ap, subst, ◌∙◌, arith, inl, inr}
use Rattle.std.specs.Prelude.{Option, None, Some, Ok, Err, codes, ◌&&◌, is_some}
use Rattle.std.specs.Str.{bytes_eq}
use Rattle.std.proofs.lemmas.Bool.{and_parts, and_from, ltb-true, lt-ltb, eqb-true, eqb-false, ne_eqb}
use Rattle.std.proofs.lemmas.Option.{same_Some, none-some}
use Rattle.std.proofs.lemmas.Slice.Eq.{bytes_eq-Decides}
use Rattle.salus_types.specs.Volume.{Shape, regions}
use Rattle.salus_types.specs.declared.names.NodeName.{NodeName}
use Rattle.salus_types.specs.declared.names.Sender.{Sender}
use Rattle.salus_types.specs.declared.names.Sender.TheVariants as sender
use Rattle.text_words.specs.Grammar.{Lacks, IsNumber, IsBlock, IsLieBytes, IsByte}
use Rattle.text_words.specs.Reading.{front, past, number_of, with_digits, byte_of, block_of, hex_of, is_hex, lie_bytes_of}
use Rattle.text_words.proofs.Settled.{Settles, pick_true, pick_false, chosen, not_true}
use Rattle.text_words.proofs.Numerals.{number-settles, number_lacks_low, number_there}
use Rattle.text_words.proofs.Hexed.{byte-settles, hex-settles, block-settles, lie_bytes-settles}
use Rattle.text_words.proofs.Spaced.{split_back, front_at, past_at}
use Rattle.schedule_text.specs.declared.error.Cause.{Cause}
use Rattle.schedule_text.specs.declared.error.Cause.TheVariants as cause
use Rattle.schedule_text.specs.Reading.{named, node_of, as_party, party_of, counted, number_word, count_word, node_word, party_word, fill_word, bytes_word, block_cause, block_word}
use Rattle.schedule_text.specs.Grammar.{IsNode, IsParty, IsCount, IsNone, IsWrongBlock}
use Rattle.schedule_text.proofs.Decided.{Decides, ok-err, same_ok, same_err, settled}

-- ---- numbers

pub number-decides : (word : List ℕ) → Decides (number_word word) (IsNumber word) (λ c. (c ≡ cause.Number) × IsNone (IsNumber word))
number-decides word = settled (number_of word) (IsNumber word) cause.Number (number-settles word)

counted-ok : (o : Option ℕ) (n : ℕ) → counted o ≡ Ok n → (o ≡ Some n) × (1 ≤ n)
counted-ok None n h = absurd (ok-err n cause.Number (sym h))
counted-ok (Some m) n h = elim (chosen (eqb m 0) _ _ _ h) [
  | inl w ↦ absurd (ok-err n cause.Number (sym w.1))
  | inr w ↦
      let is = same_ok {E = Cause} m n w.1 in
      let some = eqb-false m 0 w.0 in
      (ap Some is, subst (λ k. 1 ≤ k) is (omega (arith, some)))
]

counted-only : (n : ℕ) → 1 ≤ n → counted (Some n) ≡ Ok n
counted-only n some = pick_false (eqb n 0) _ _ (ne_eqb n 0 (λ e. omega (arith, some, e)))

counted-err : (o : Option ℕ) (c : Cause) → counted o ≡ Err c → (c ≡ cause.Number) × ((n : ℕ) → o ≡ Some n → 1 ≤ n → ⊥)
counted-err None c h = (sym (same_err {X = ℕ} cause.Number c h), λ n e some. none-some n e)
counted-err (Some m) c h = elim (chosen (eqb m 0) _ _ _ h) [
  | inl w ↦
      let zero_is = eqb-true m 0 w.0 in
      (sym (same_err {X = ℕ} cause.Number c w.1), λ n e some. let is = same_Some m n e in omega (arith, zero_is, is, some))
  | inr w ↦ absurd (ok-err m c w.1)
]

pub count-decides : (word : List ℕ) → Decides (count_word word) (IsCount word) (λ c. (c ≡ cause.Number) × IsNone (IsCount word))
count-decides word = record {
  sound = λ n h. let p = counted-ok (number_of word) n h in record { number = (number-settles word).sound n p.0; some = p.1 };
  only = λ n w. ap counted ((number-settles word).only n w.number) ∙ counted-only n w.some;
  wrong = λ c h. let p = counted-err (number_of word) c h in (p.0, λ n w. p.1 n ((number-settles word).only n w.number) w.some);
}

-- ---- nodes

named-parts : (shape : Shape) (o p : Option ℕ) (name : NodeName) → named shape o p ≡ Some name
    → (o ≡ Some name.region) × (p ≡ Some name.replica) × (name.region < regions shape) × (name.replica < shape.replicas)
named-parts shape None p name h = absurd (none-some name h)
named-parts shape (Some g) None name h = absurd (none-some name h)
named-parts shape (Some g) (Some r) name h = elim (chosen (ltb g (regions shape) && ltb r shape.replicas) _ _ _ h) [
  | inl w ↦
      let both = and_parts (ltb g (regions shape)) (ltb r shape.replicas) w.0 in
      let is : record { region = g; replica = r } ≡ name = same_Some _ _ w.1 in
      let is_region : g ≡ name.region = ap (λ (x : NodeName). x.region) is in
      let is_replica : r ≡ name.replica = ap (λ (x : NodeName). x.replica) is in (
        ap Some is_region,
        ap Some is_replica,
        subst (λ k. k < regions shape) is_region (ltb-true _ _ both.0),
        subst (λ k. k < shape.replicas) is_replica (ltb-true _ _ both.1),
      )
  | inr w ↦ absurd (none-some name w.1)
]

named-only : (shape : Shape) (g r : ℕ) → g < regions shape → r < shape.replicas → named shape (Some g) (Some r) ≡ Some (record { region = g; replica = r })
named-only shape g r in_volume in_group = pick_true _ _ _ (and_from (ltb g (regions shape)) _ (lt-ltb _ _ in_volume) (lt-ltb _ _ in_group))

digits_dotless : (word : List ℕ) (n : ℕ) → IsNumber word n → Lacks 46 word
digits_dotless word n w = number_lacks_low 46 word n (lit< tt) w

node-sound : (shape : Shape) (word : List ℕ) (name : NodeName) → node_of shape word ≡ Some name → IsNode shape word name
unfolding node_of
node-sound shape word name h =
    let p = named-parts shape (number_of (front 46 word)) (number_of (past 46 word)) name h in
    let is_replica = (number-settles (past 46 word)).sound name.replica p.1 in
    record {
      region = front 46 word;
      replica = past 46 word;
      spelled = split_back 46 word (number_there (past 46 word) name.replica is_replica);
      is_region = (number-settles (front 46 word)).sound name.region p.0;
      is_replica = is_replica;
      in_volume = p.2;
      in_group = p.3;
    }

node-only : (shape : Shape) (word : List ℕ) (name : NodeName) → IsNode shape word name → node_of shape word ≡ Some name
unfolding node_of
node-only shape word name w =
    let dotless = digits_dotless w.region name.region w.is_region in
    ap (λ l. named shape (number_of (front 46 l)) (number_of (past 46 l))) w.spelled
    ∙ (ap (λ l. named shape (number_of l) (number_of (past 46 (w.region ++ 46 ∷ w.replica)))) (front_at 46 w.region w.replica dotless)
    ∙ (ap (λ l. named shape (number_of w.region) (number_of l)) (past_at 46 w.region w.replica dotless)
    ∙ (ap (λ o. named shape o (number_of w.replica)) ((number-settles w.region).only name.region w.is_region)
    ∙ (ap (named shape (Some name.region)) ((number-settles w.replica).only name.replica w.is_replica)
    ∙ named-only shape name.region name.replica w.in_volume w.in_group))))

pub node-settles : (shape : Shape) (word : List ℕ) → Settles (node_of shape word) (IsNode shape word)
node-settles shape word = record { sound = node-sound shape word; only = node-only shape word }

pub node-decides : (shape : Shape) (word : List ℕ) → Decides (node_word shape word) (IsNode shape word) (λ c. (c ≡ cause.Node) × IsNone (IsNode shape word))
node-decides shape word = settled (node_of shape word) (IsNode shape word) cause.Node (node-settles shape word)

-- ---- parties

party-parts : (o : Option NodeName) (who : Sender) → as_party o ≡ Some who → (name : NodeName) × (o ≡ Some name) × (sender.Node name ≡ who)
party-parts None who h = absurd (none-some who h)
party-parts (Some name) who h = (name, refl, same_Some _ _ h)

-- `client` has no point in it
clientless : (shape : Shape) (name : NodeName) → node_of shape (codes "client") ≡ Some name → ⊥
unfolding node_of front past number_of with_digits
clientless shape name h = none-some name h

party-sound : (shape : Shape) (word : List ℕ) (who : Sender) → party_of shape word ≡ Some who → IsParty shape word who
unfolding party_of
party-sound shape word who h = elim (chosen (bytes_eq word (codes "client")) _ _ _ h) [
  | inl w ↦ subst (IsParty shape word) (same_Some _ _ w.1) ((bytes_eq-Decides word (codes "client")).0 w.0)
  | inr w ↦
      let p = party-parts (node_of shape word) who w.1 in
      subst (IsParty shape word) p.2 (node-sound shape word p.0 p.1)
]

party-only : (shape : Shape) (word : List ℕ) (who : Sender) → IsParty shape word who → party_of shape word ≡ Some who
unfolding party_of
party-only shape word sender.Client w = pick_true _ _ _ ((bytes_eq-Decides word (codes "client")).1 w)
party-only shape word (sender.Node name) w =
    let read = node-only shape word name w in
    pick_false _ _ _ (not_true _ (λ e. clientless shape name (subst (λ l. node_of shape l ≡ Some name) ((bytes_eq-Decides word (codes "client")).0 e) read)))
    ∙ ap as_party read

pub party-decides : (shape : Shape) (word : List ℕ) → Decides (party_word shape word) (IsParty shape word) (λ c. (c ≡ cause.Node) × IsNone (IsParty shape word))
party-decides shape word =
    settled (party_of shape word) (IsParty shape word) cause.Node (record { sound = party-sound shape word; only = party-only shape word })

-- ---- bytes

pub fill-decides : (word : List ℕ) → Decides (fill_word word) (IsByte word) (λ c. (c ≡ cause.Hex) × IsNone (IsByte word))
fill-decides word = settled (byte_of word) (IsByte word) cause.Hex (byte-settles word)

pub bytes-decides : (word : List ℕ) → Decides (bytes_word word) (IsLieBytes word) (λ c. (c ≡ cause.Hex) × IsNone (IsLieBytes word))
bytes-decides word = settled (lie_bytes_of word) (IsLieBytes word) cause.Hex (lie_bytes-settles word)

hex-some : (o : Option (List ℕ)) → is_some o ≡ true → (bytes : List ℕ) × (o ≡ Some bytes)
hex-some None h = absurd (cc)
hex-some (Some bytes) h = (bytes, refl)

hex-none : (o : Option (List ℕ)) (bytes : List ℕ) → is_some o ≡ false → o ≡ Some bytes → ⊥
hex-none None bytes h e = none-some bytes e
hex-none (Some x) bytes h e = absurd (cc)

wrong-block : (size : ℕ) (word : List ℕ) (c : Cause) (t : Bool) → is_hex word ≡ t → IsNone (IsBlock size word) → c ≡ cond t cause.Size cause.Hex → IsWrongBlock size word c
wrong-block size word c true is none why = let p = hex-some (hex_of word) is in inr (why, none, (p.0, (hex-settles word).sound p.0 p.1))
wrong-block size word c false is none why = inl (why, none, λ bytes w. hex-none (hex_of word) bytes is ((hex-settles word).only bytes w))

pub block-decides : (size : ℕ) (word : List ℕ) → Decides (block_word size word) (IsBlock size word) (IsWrongBlock size word)
block-decides size word =
    let d = settled (block_of size word) (IsBlock size word) (block_cause word) (block-settles size word) in
    record { sound = d.sound; only = d.only; wrong = λ c h. let p = d.wrong c h in wrong-block size word c (is_hex word) refl p.1 p.0 }
