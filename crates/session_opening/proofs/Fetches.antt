-- Which replies bring the blocks of a region that is fetched.
use Rattle.std.proofs.Common.{◌≡◌, ◌∙◌, ℕ, ◌+◌, Bool, true, false, ◌==◌, ◌&&◌, List, bytes_eq, get_or, refl, sym, ap, ap₂, arith}
use Rattle.std.proofs.lemmas.List.FromFn.{get_or-map-range_with_len}
use Rattle.salus_types.specs.Volume.{regions}
use Rattle.salus_types.specs.declared.names.NodeName.{NodeName}
use Rattle.salus_message.specs.declared.carried.Dumped.{Dumped}
use Rattle.merkle_region.specs.Tree.{root_of}
use Rattle.holding_model.specs.Fitting.{has_shape}
use Rattle.volume_model.specs.Contents.{region_root}
use Rattle.salus_model.specs.Opening.{is_fetched}
use Rattle.client_rules.specs.State.{Fetching as AnyFetching}
use Rattle.session_opening.specs.declared.fetching.Fetching.{Fetching}
use Rattle.session_opening.specs.Fetched.{FetchesAs, IsFetching}

five : (a b c d e : Bool) → (a && b) ≡ true → (a && b && c && d && e) ≡ (c && d && e)
five true true c d e is = refl
five true false c d e is = absurd (cc)
five false b c d e is = absurd (cc)

two : (a b c d e : Bool) → (a && b) ≡ false → (a && b && c && d && e) ≡ false
two true true c d e is = absurd (cc)
two true false c d e is = refl
two false b c d e is = refl

module _ (kept : Fetching) (is : IsFetching kept.geometry kept) (f : AnyFetching) (stands : FetchesAs kept f) (name : NodeName) (m : Dumped) where
  abbrev by_kept : List ℕ → Bool
  by_kept root =
      (m.session == kept.served.session) && (m.region == kept.region) && (name.region == kept.region) && has_shape kept.geometry m.blocks && bytes_eq (root_of kept.geometry.height m.blocks) root

  root_held : (root : List ℕ) → root ≡ get_or kept.served.roots kept.region root → root ≡ region_root kept.geometry f.contents f.region
  root_held root at =
      at ∙ ap (λ l. get_or l kept.region root) stands.roots
      ∙ get_or-map-range_with_len (λ g. region_root kept.geometry f.contents g) 0 (regions kept.geometry) kept.region kept.region root is.region (let here : 0 + kept.region ≡ kept.region = omega arith in here)
      ∙ ap (λ g. region_root kept.geometry f.contents g) stands.region

  as_rules : (root : List ℕ) → root ≡ get_or kept.served.roots kept.region root
      → by_kept root ≡ is_fetched kept.geometry f.served f.region (region_root kept.geometry f.contents f.region) name m
  as_rules root at =
      ap (λ r. by_kept r) (root_held root at)
      ∙ ap₂ (λ e g. (m.session == e) && (m.region == g) && (name.region == g) && has_shape kept.geometry m.blocks && bytes_eq (root_of kept.geometry.height m.blocks) (region_root kept.geometry f.contents f.region)) stands.served stands.region

  pub asked_for : (root : List ℕ) → root ≡ get_or kept.served.roots kept.region root → ((m.session == kept.served.session) && (m.region == kept.region)) ≡ true
      → ((name.region == kept.region) && has_shape kept.geometry m.blocks && bytes_eq (root_of kept.geometry.height m.blocks) root) ≡ is_fetched kept.geometry f.served f.region (region_root kept.geometry f.contents f.region) name m
  asked_for root at asked =
      sym (five (m.session == kept.served.session) (m.region == kept.region) (name.region == kept.region) (has_shape kept.geometry m.blocks) (bytes_eq (root_of kept.geometry.height m.blocks) root) asked) ∙ as_rules root at

  pub not_asked : (root : List ℕ) → root ≡ get_or kept.served.roots kept.region root → ((m.session == kept.served.session) && (m.region == kept.region)) ≡ false
      → false ≡ is_fetched kept.geometry f.served f.region (region_root kept.geometry f.contents f.region) name m
  not_asked root at asked =
      sym (two (m.session == kept.served.session) (m.region == kept.region) (name.region == kept.region) (has_shape kept.geometry m.blocks) (bytes_eq (root_of kept.geometry.height m.blocks) root) asked) ∙ as_rules root at
