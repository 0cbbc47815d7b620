use Rattle.std.proofs.Common.{◌≡◌, ◌∙◌, ℕ, zero, suc, ◌+◌, ◌-◌, ◌≤◌, [], ◌∷◌, List, map, length, replicate, refl, ap, sym, subst, arith}
use Rattle.std.specs.List.{range_with_len}
use Rattle.salus_types.specs.Volume.{regions}
use Rattle.client_window.specs.Window.{AreWaiting}
use Rattle.client_window.specs.Viewing.{waiters}
use Rattle.client_window.proofs.Claiming.{above_none}
use Rattle.client_window.proofs.window.Window.new.Goals as goal

same_numbers : (x from n : ℕ) → replicate n x ≡ map (λ g. x) (range_with_len from n)
same_numbers x from zero = refl
same_numbers x from (suc n) = ap (λ l. x ∷ l) (same_numbers x (from + 1) n)

length-same : (x n : ℕ) → length (replicate n x) ≡ n
length-same x zero = refl
length-same x (suc n) = let rest = length-same x n in omega arith

none_wait : (last : ℕ) → AreWaiting 0 [] last
unfolding AreWaiting
none_wait last = omega arith

pub invariant_of-result : goal.invariant_of-result
invariant_of-result c =
    let numbers : c.from_vec.result ≡ replicate (regions c.args.geometry) c.args.base =
    c.from_vec.ensures ∙ c.in_ok-vec.ensures.items_if_clones_equal (λ y same. same) ∙ ap (λ n. replicate n c.args.base) c.regions.ensures.value in
    let none = c.new-4.ensures.items in
    record {
      numbered = ap length numbers ∙ length-same c.args.base (regions c.args.geometry);
      rooted = ap length c.new.ensures ∙ ap length c.as_slice.ensures ∙ c.requires;
      claims_shape = c.in_ok-new.ensures.shape;
      based = omega arith;
      front = omega arith;
      counted = ap length c.new-2.ensures.items ∙ (let zero_left : 0 ≡ c.args.base - c.args.base = omega arith in zero_left);
      few = omega arith;
      waiting = subst (λ l. AreWaiting 0 (waiters l) c.args.base) (sym none) (none_wait c.args.base);
      few_wait = subst (λ l. length (waiters l) ≤ 64) (sym none) (omega arith);
    }

pub returns-clause-stands : goal.returns-clause-stands
returns-clause-stands c = λ contents are. record {
  session = refl;
  base = refl;
  last = refl;
  acked = refl;
  numbers =
      c.from_vec.ensures ∙ c.in_ok-vec.ensures.items_if_clones_equal (λ y same. same) ∙ ap (λ n. replicate n c.args.base) c.regions.ensures.value
      ∙ same_numbers c.args.base 0 (regions c.args.geometry);
  roots = c.new.ensures ∙ c.as_slice.ensures ∙ sym are;
  leader = refl;
  leaders = c.new-2.ensures.items;
  claims = λ name. ap (λ claims. claims name) c.in_ok-new.ensures.claims ∙ above_none c.args.base name;
  barriers = ap waiters c.new-4.ensures.items;
}

pub returns-clause-begins : goal.returns-clause-begins
returns-clause-begins c = record {
  shape_is = refl;
  session_is = refl;
  base_is = refl;
  last_is = refl;
  acked_is = refl;
  numbers_are =
      c.from_vec.ensures ∙ c.in_ok-vec.ensures.items_if_clones_equal (λ y same. same) ∙ ap (λ n. replicate n c.args.base) c.regions.ensures.value
      ∙ same_numbers c.args.base 0 (regions c.args.geometry);
  roots_are = c.new.ensures ∙ c.as_slice.ensures;
  leader_is = refl;
  no_leaders = c.new-2.ensures.items;
  claims_are = c.in_ok-new.ensures.claims;
  no_barriers = ap waiters c.new-4.ensures.items;
}
