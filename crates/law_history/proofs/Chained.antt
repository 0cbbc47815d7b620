-- The blocks at the end of a chain are those of the session's contents after the batch that it goes up to.
use Rattle.std.proofs.Common.{◌≡◌, ℕ, zero, suc, ◌+◌, ◌-◌, ◌<◌, ◌≤◌, ◌∙◌, true, ◌==◌, nat_lt, List, length, map, bytes_eq, inl, inr, ap, sym, subst, arith}
use Rattle.std.specs.Prelude.{flat_map, filter}
use Rattle.std.proofs.lemmas.Bool.{eqb-true}
use Rattle.salus_types.specs.Volume.{Shape, regions, region_blocks}
use Rattle.salus_types.specs.declared.records.Record.{Record}
use Rattle.salus_types.specs.declared.records.Base.{Base}
use Rattle.merkle_region.specs.Tree.{root_of, tree_strings, IsAmong, NoTwoCollide}
use Rattle.merkle_region.proofs.Membership.{among_either}
use Rattle.volume_model.specs.Contents.{blocks_in, apply}
use Rattle.volume_model.specs.Parts.{Session, contents_after, batch_at, writes_in, part_of}
use Rattle.volume_model.specs.Recovering.{End, base_end, is_link, linked, chain_ends}
use Rattle.holding_model.specs.Fitting.{blocks_after, blocks_written, has_content}
use Rattle.salus_model.specs.Forgery.{IsPartOf}
use Rattle.list_lemmas.proofs.Members.{among_filter, among_map, among_flat_map}
use Rattle.list_lemmas.proofs.SameRoots.{same_roots}
use Rattle.list_lemmas.proofs.Tests.{and_four}
use Rattle.law_lemmas.proofs.Regional.{part_written, length-blocks_in}
use Rattle.law_lemmas.proofs.Numbered.{IsSized, IsNumbered, numbered, contents_after-more, length-contents_after}
use Rattle.law_lemmas.proofs.Owned.{IsOwn, told, own_part}

-- the blocks of the session's contents after that batch
pub record IsRightEnd (shape : Shape) (known : Session) (g : ℕ) (end : End) : Type 0 where
  pub above : known.base ≤ end.at
  pub within : end.at ≤ length known.list
  pub blocks : end.blocks ≡ blocks_in shape (contents_after known end.at) g

-- a base of the session: its record is tagged, and its blocks have the root that its record says
pub record IsGoodBase (shape : Shape) (key : List ℕ) (known : Session) (g : ℕ) (strings : List (List ℕ)) (base : Base) : Type 0 where
  pub own : IsOwn shape key known g base.rec
  pub long : length base.blocks ≡ region_blocks shape
  pub root : root_of shape.height base.blocks ≡ base.rec.header.root
  pub seen : (x : List ℕ) → IsAmong x (tree_strings shape.height base.blocks) → IsAmong x strings

module _ (shape : Shape) (key : List ℕ) (known : Session) (sized : IsSized shape known) (g : ℕ) (inside : g < regions shape)
    (strings : List (List ℕ)) (none : NoTwoCollide strings)
    (seen : (s : ℕ) (x : List ℕ) → s ≤ length known.list → IsAmong x (tree_strings shape.height (blocks_in shape (contents_after known s) g)) → IsAmong x strings) where
  right_base : (base : Base) → IsGoodBase shape key known g strings base → IsRightEnd shape known g (base_end base)
  right_base base good =
      let says = told shape key known sized g base.rec good.own in
      record {
        above = says.above;
        within = says.within;
        blocks = same_roots strings none shape.height base.blocks (blocks_in shape (contents_after known base.rec.header.seq) g)
            good.long (length-blocks_in shape (contents_after known base.rec.header.seq) g (length-contents_after shape known sized base.rec.header.seq) inside)
            good.seen (λ x m. seen base.rec.header.seq x says.within m) (good.root ∙ says.root);
      }

  -- a part links to a chain that goes up to its previous number
  abbrev end_of : End → Record → End
  end_of end rec = record { at = rec.header.seq; blocks = blocks_after shape end.blocks rec }

  right_part : (end : End) (s : ℕ) → IsRightEnd shape known g end → known.base < s → s ≤ length known.list
      → (part_of shape key known s g).header.previous ≡ end.at → IsRightEnd shape known g (end_of end (part_of shape key known s g))
  unfolding part_of
  right_part end s right above within links =
      let before : s - 1 + 1 ≡ s = omega arith in
      let last : IsNumbered shape known sized g (s - 1) = numbered shape known sized g (s - 1) inside (omega arith) (omega arith) in
      let same : end.blocks ≡ blocks_in shape (contents_after known (s - 1)) g =
      right.blocks ∙ (ap (λ n. blocks_in shape (contents_after known n) g) (sym links) ∙ last.blocks) in
      let next : contents_after known s ≡ apply (contents_after known (s - 1)) (batch_at known s) =
      ap (contents_after known) (sym before) ∙ (contents_after-more shape known sized (s - 1) (omega arith) ∙ ap (λ i. apply (contents_after known (s - 1)) (batch_at known i)) before) in
      record {
        above = omega arith;
        within = within;
        blocks = ap (λ blocks. blocks_written blocks (writes_in shape (batch_at known s) g)) same
            ∙ (part_written shape (contents_after known (s - 1)) (length-contents_after shape known sized (s - 1)) (batch_at known s) g inside
            ∙ ap (λ c. blocks_in shape c g) (sym next));
      }

  right_link : (end : End) (rec : Record) → IsRightEnd shape known g end → IsOwn shape key known g rec → is_link shape end rec ≡ true
      → IsRightEnd shape known g (end_of end rec)
  right_link end rec right own links =
      let parts = and_four (rec.header.previous == end.at) (nat_lt rec.header.previous rec.header.seq) (has_content rec.writes rec.run)
      (bytes_eq (root_of shape.height (blocks_after shape end.blocks rec)) rec.header.root) links in
      let part : IsPartOf shape key known g rec = own_part shape key known sized g rec own parts.2 in
      subst (λ r. IsRightEnd shape known g (end_of end r)) (sym part.is)
      (right_part end part.s right part.own part.within (ap (λ r. r.header.previous) (sym part.is) ∙ eqb-true rec.header.previous end.at parts.0))

  module _ (bases : List Base) (parts : List Record) (good_bases : (base : Base) → IsAmong base bases → IsGoodBase shape key known g strings base)
      (good_parts : (rec : Record) → IsAmong rec parts → IsOwn shape key known g rec) where
    right_bases : (end : End) → IsAmong end (map base_end bases) → IsRightEnd shape known g end
    right_bases end m =
        let from = among_map base_end end bases m in
        subst (IsRightEnd shape known g) (sym from.2) (right_base from.0 (good_bases from.0 from.1))

    right_linked : (end next : End) → IsRightEnd shape known g end → IsAmong next (linked shape parts end) → IsRightEnd shape known g next
    right_linked end next right m =
        let from = among_map (end_of end) next (filter (λ rec. is_link shape end rec) parts) m in
        let chosen = among_filter (λ rec. is_link shape end rec) from.0 parts from.1 in
        subst (IsRightEnd shape known g) (sym from.2) (right_link end from.0 right (good_parts from.0 chosen.0) chosen.1)

    pub right_ends : (n : ℕ) (end : End) → IsAmong end (chain_ends shape bases parts n) → IsRightEnd shape known g end
    unfolding chain_ends
    right_ends zero end m = right_bases end m
    right_ends (suc n) end m = elim (among_either end (map base_end bases) (flat_map (λ e. linked shape parts e) (chain_ends shape bases parts n)) m) [
      | inl base ↦ right_bases end base
      | inr more ↦
          let from = among_flat_map (λ e. linked shape parts e) end (chain_ends shape bases parts n) more in
          right_linked from.0 end (right_ends n from.0 from.1) from.2
    ]
