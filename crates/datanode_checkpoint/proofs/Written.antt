-- What the log of a fold says.
use Rattle.std.proofs.Common.{◌≡◌, ◌-◌, length, take, drop, nat_le, List, [], ◌∷◌, ◌++◌, filter, Some, refl, sym, ◌∙◌, ap, arith}
use Rattle.std.proofs.lemmas.Bool.{cond-true, le-leb}
use Rattle.std.proofs.lemmas.List.{take_all}
use Rattle.salus_types.specs.declared.records.Base.{Base}
use Rattle.salus_types.specs.declared.records.Held.{Held}
use Rattle.holding_model.specs.Holding.{OfBase, ToSession, held_from, held_of, held_after, nothing_held}
use Rattle.datanode_checkpoint.specs.Folds.{IsLed}

pub none_held : held_of [] ≡ Some nothing_held
unfolding held_from
none_held = refl

-- what stands behind the first
pub rest_is : (bases : List Base) (first : Base) (more : List Base) → bases ≡ first ∷ more → take (length bases - 1) (drop 1 bases) ≡ more
rest_is bases first more is = ap (λ (l : List Base). take (length l - 1) (drop 1 l)) is ∙ take_all (length (first ∷ more) - 1) more (omega arith)

-- behind the first base and the switch
abbrev pub begun : Held → Base → Held
begun held first = held_after (held_after nothing_held (OfBase first)) (ToSession held.session)

pub led_held : (held : Held) (led : IsLed held) → record { session = held.session; bases = (begun held led.first).bases ++ led.more; parts = [] ++ held.parts } ≡ held
led_held held led =
    let kept : filter (λ (base : Base). nat_le held.session base.rec.header.session) (led.first ∷ []) ≡ led.first ∷ [] = cond-true (nat_le held.session led.first.rec.header.session) (led.first ∷ []) [] (le-leb held.session led.first.rec.header.session led.session) in
    let bases : (begun held led.first).bases ++ led.more ≡ held.bases = ap (λ (l : List Base). l ++ led.more) kept ∙ sym led.bases_are in
    λ i. record { session = held.session; bases = bases i; parts = held.parts }
