-- Parts of a session that link from a base by their previous numbers are a chain of the pool: its end stands at the last one's
-- number.
use Rattle.std.proofs.Common.{◌≡◌, ℕ, zero, suc, ◌+◌, ◌-◌, ◌<◌, ◌≤◌, ◌∙◌, true, ◌==◌, nat_lt, List, [], ◌∷◌, length, map, inl, inr, refl, ap, sym, subst, arith}
use Rattle.std.specs.Prelude.{flat_map, filter}
use Rattle.std.proofs.lemmas.Bool.{eq-eqb, lt-ltb}
use Rattle.std.proofs.lemmas.Slice.Eq.{bytes_eq-Decides}
use Rattle.salus_types.specs.Volume.{Shape, regions}
use Rattle.salus_types.specs.declared.records.Record.{Record}
use Rattle.salus_types.specs.declared.records.Base.{Base}
use Rattle.merkle_region.specs.Tree.{root_of, tree_strings, IsAmong, NoTwoCollide}
use Rattle.merkle_region.proofs.Membership.{among_left, among_right, among_either}
use Rattle.holding_model.specs.Fitting.{blocks_after, blocks_written}
use Rattle.volume_model.specs.Contents.{blocks_in, apply}
use Rattle.volume_model.specs.Parts.{Session, contents_after, number_of, batch_at, writes_in, part_of}
use Rattle.volume_model.specs.Recovering.{End, base_end, is_link, linked, chain_ends}
use Rattle.salus_model.specs.Forgery.{IsPartOf}
use Rattle.salus_model.specs.Covering.{Links}
use Rattle.list_lemmas.proofs.Members.{among_map-in, among_filter-in, among_flat_map, among_flat_map-in}
use Rattle.law_lemmas.proofs.Regional.{part_written}
use Rattle.law_lemmas.proofs.Numbered.{IsSized, IsNumbered, numbered, contents_after-more, length-contents_after}
use Rattle.law_lemmas.proofs.Owned.{IsTold, IsOwn, told}
use Rattle.law_history.proofs.Chained.{IsRightEnd, IsGoodBase, right_ends}
use Rattle.law_records.proofs.Own.{SaysPart, part_says}
use Rattle.law_records.proofs.Content.{part-content}
use Rattle.law_records.proofs.Counted.{both_true}

abbrev end_of : Shape → End → Record → End
end_of shape end rec = record { at = rec.header.seq; blocks = blocks_after shape end.blocks rec }

-- ---- chains of more parts

module _ (shape : Shape) (bases : List Base) (parts : List Record) where
  abbrev Ends : ℕ → List End
  Ends n = chain_ends shape bases parts n

  ends_more : (n : ℕ) (end : End) → IsAmong end (Ends n) → IsAmong end (Ends (suc n))
  unfolding chain_ends
  ends_more zero end m = among_left end (map base_end bases) (flat_map (λ e. linked shape parts e) (Ends zero)) m
  ends_more (suc n) end m = elim (among_either end (map base_end bases) (flat_map (λ e. linked shape parts e) (Ends n)) m) [
    | inl base ↦ among_left end (map base_end bases) (flat_map (λ e. linked shape parts e) (Ends (suc n))) base
    | inr more ↦
        let from = among_flat_map (λ e. linked shape parts e) end (Ends n) more in
        among_right end (map base_end bases) (flat_map (λ e. linked shape parts e) (Ends (suc n)))
        (among_flat_map-in (λ e. linked shape parts e) from.0 end (Ends (suc n)) (ends_more n from.0 from.1) from.2)
  ]

  ends_by : (k n : ℕ) (end : End) → IsAmong end (Ends n) → IsAmong end (Ends (k + n))
  ends_by zero n end m = let same : n ≡ zero + n = omega arith in subst (λ i. IsAmong end (Ends i)) same m
  ends_by (suc k) n end m = let same : suc (k + n) ≡ suc k + n = omega arith in subst (λ i. IsAmong end (Ends i)) same (ends_more (k + n) end (ends_by k n end m))

  pub ends_up : (n m : ℕ) (end : End) → n ≤ m → IsAmong end (Ends n) → IsAmong end (Ends m)
  ends_up n m end up among = let same : m - n + n ≡ m = omega arith in subst (λ k. IsAmong end (Ends k)) same (ends_by (m - n) n end among)

  ends_base : (base : Base) → IsAmong base bases → IsAmong (base_end base) (Ends zero)
  unfolding chain_ends
  ends_base base m = among_map-in base_end bases base m

  ends_linked : (n : ℕ) (end : End) (rec : Record) → IsAmong end (Ends n) → IsAmong rec parts → is_link shape end rec ≡ true → IsAmong (end_of shape end rec) (Ends (suc n))
  unfolding chain_ends
  ends_linked n end rec m part links =
      among_right (end_of shape end rec) (map base_end bases) (flat_map (λ e. linked shape parts e) (Ends n))
      (among_flat_map-in (λ e. linked shape parts e) end (end_of shape end rec) (Ends n) m
      (among_map-in (λ r. end_of shape end r) (filter (λ r. is_link shape end r) parts) rec (among_filter-in (λ r. is_link shape end r) parts rec part links)))

-- ---- a part that links

module _ (shape : Shape) (key : List ℕ) (known : Session) (sized : IsSized shape known) (g : ℕ) (inside : g < regions shape) where
  -- the blocks after the part are those of the session's contents after its batch
  moved : (blocks : List (List ℕ)) (s : ℕ) → known.base < s → s ≤ length known.list
      → blocks ≡ blocks_in shape (contents_after known (number_of shape known (s - 1) g)) g
      → blocks_after shape blocks (part_of shape key known s g) ≡ blocks_in shape (contents_after known s) g
  unfolding part_of
  moved blocks s above within right =
      let before : s - 1 + 1 ≡ s = omega arith in
      let last : IsNumbered shape known sized g (s - 1) = numbered shape known sized g (s - 1) inside (omega arith) (omega arith) in
      let next : contents_after known s ≡ apply (contents_after known (s - 1)) (batch_at known s) =
      ap (contents_after known) (sym before) ∙ (contents_after-more shape known sized (s - 1) (omega arith) ∙ ap (λ i. apply (contents_after known (s - 1)) (batch_at known i)) before) in
      ap (λ b. blocks_written b (writes_in shape (batch_at known s) g)) (right ∙ last.blocks)
      ∙ (part_written shape (contents_after known (s - 1)) (length-contents_after shape known sized (s - 1)) (batch_at known s) g inside
      ∙ ap (λ c. blocks_in shape c g) (sym next))

  pub links_on : (end : End) (rec : Record) → IsRightEnd shape known g end → IsPartOf shape key known g rec → rec.header.previous ≡ end.at
      → is_link shape end rec ≡ true
  links_on end rec right part previous =
      let says : SaysPart shape key known g rec part.s = part_says shape key known g rec part in
      let above = part.own in
      let within = part.within in
      let seq : rec.header.seq ≡ part.s = says.seq in
      let last : rec.header.previous ≡ number_of shape known (part.s - 1) g = says.previous in
      let low : number_of shape known (part.s - 1) g ≤ part.s - 1 = (numbered shape known sized g (part.s - 1) inside (omega (arith, above)) (omega (arith, within))).within in
      let at : end.at ≡ number_of shape known (part.s - 1) g = sym previous ∙ last in
      let header : IsTold shape known g rec.header = told shape key known sized g rec (inl part) in
      let blocks : blocks_after shape end.blocks rec ≡ blocks_in shape (contents_after known part.s) g =
      ap (λ r. blocks_after shape end.blocks r) part.is
      ∙ moved end.blocks part.s above within (right.blocks ∙ ap (λ n. blocks_in shape (contents_after known n) g) at) in
      let root : root_of shape.height (blocks_after shape end.blocks rec) ≡ rec.header.root =
      ap (root_of shape.height) blocks ∙ (ap (λ s. root_of shape.height (blocks_in shape (contents_after known s) g)) (sym seq) ∙ sym header.root) in
      both_true _ _
      (both_true _ _
      (both_true (rec.header.previous == end.at) (nat_lt rec.header.previous rec.header.seq) (eq-eqb rec.header.previous end.at previous)
      (lt-ltb rec.header.previous rec.header.seq (omega (arith, seq, last, low, above))))
      (part-content shape key known g rec part))
      ((bytes_eq-Decides (root_of shape.height (blocks_after shape end.blocks rec)) rec.header.root).1 root)

-- ---- a chain

-- a part of the pool, of the session and the region
pub record IsChained (shape : Shape) (key : List ℕ) (known : Session) (g : ℕ) (parts : List Record) (rec : Record) : Type 0 where
  pub among : IsAmong rec parts
  pub part : IsPartOf shape key known g rec

-- an end of a chain that goes up to that number
pub record EndsAt (shape : Shape) (bases : List Base) (parts : List Record) (n to : ℕ) : Type 0 where
  pub end : End
  pub among : IsAmong end (chain_ends shape bases parts n)
  pub at : end.at ≡ to

module _ (shape : Shape) (key : List ℕ) (known : Session) (sized : IsSized shape known) (g : ℕ) (inside : g < regions shape)
    (strings : List (List ℕ)) (none : NoTwoCollide strings)
    (seen : (s : ℕ) (x : List ℕ) → s ≤ length known.list → IsAmong x (tree_strings shape.height (blocks_in shape (contents_after known s) g)) → IsAmong x strings)
    (bases : List Base) (parts : List Record) (good_bases : (base : Base) → IsAmong base bases → IsGoodBase shape key known g strings base)
    (good_parts : (rec : Record) → IsAmong rec parts → IsOwn shape key known g rec) where
  chained : (front : List Record) (n to : ℕ) (end : End) → IsAmong end (chain_ends shape bases parts n) → ((rec : Record) → IsAmong rec front → IsChained shape key known g parts rec)
      → Links end.at front to → EndsAt shape bases parts (n + length front) to
  unfolding Links
  chained [] n to end among each links = let same : n ≡ n + 0 = omega arith in record { end = end; among = subst (λ k. IsAmong end (chain_ends shape bases parts k)) same among; at = links }
  chained (rec ∷ front) n to end among each links =
      let here : IsChained shape key known g parts rec = each rec (inl refl) in
      let right : IsRightEnd shape known g end = right_ends shape key known sized g inside strings none seen bases parts good_bases good_parts n end among in
      let link : is_link shape end rec ≡ true = links_on shape key known sized g inside end rec right here.part links.0 in
      let next : IsAmong (end_of shape end rec) (chain_ends shape bases parts (suc n)) = ends_linked shape bases parts n end rec among here.among link in
      let same : suc n + length front ≡ n + suc (length front) = omega arith in
      subst (λ k. EndsAt shape bases parts k to) same (chained front (suc n) to (end_of shape end rec) next (λ r m. each r (inr m)) links.1)

  -- parts that link from a base up to a number, where the pool has at least as many parts
  pub chain_of : (base : Base) (front : List Record) (to many : ℕ) → IsAmong base bases → ((rec : Record) → IsAmong rec front → IsChained shape key known g parts rec)
      → Links base.rec.header.seq front to → length front ≤ many → EndsAt shape bases parts many to
  chain_of base front to many among each links few =
      let last : EndsAt shape bases parts (zero + length front) to = chained front zero to (base_end base) (ends_base shape bases parts base among) each links in
      record { end = last.end; among = ends_up shape bases parts (zero + length front) many last.end (omega (arith, few)) last.among; at = last.at }
