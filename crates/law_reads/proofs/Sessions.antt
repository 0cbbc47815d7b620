-- The parts of a known session for a region are a chain.
use Rattle.std.proofs.Common.{◌≡◌, ◌∙◌, ◌⊎◌, inl, inr, ⊎_elim, ℕ, zero, suc, ◌+◌, ◌-◌, ◌<◌, ◌≤◌, Bool, true, false, if◌then◌else◌, List, length, refl, sym, ap, subst, arith, bytes_eq}
use Rattle.std.proofs.lemmas.Bool.{true≢false, cases_eq, cases_lt}
use Rattle.std.proofs.lemmas.Slice.Eq.{bytes_eq-Decides}
use Rattle.salus_types.specs.Volume.{Shape, regions}
use Rattle.salus_types.specs.declared.records.Record.{Record}
use Rattle.merkle_region.specs.Tree.{root_of}
use Rattle.holding_model.specs.Fitting.{blocks_written, blocks_after}
use Rattle.volume_model.specs.Contents.{apply, blocks_in, region_root}
use Rattle.volume_model.specs.Parts.{Session, contents_after, touches, batch_at, number_of, writes_in, part_of}
use Rattle.salus_model.specs.Forgery.{IsPartOf}
use Rattle.replica_rules.specs.Views.{View, view_after, view_root}
use Rattle.replica_rules.specs.Replicas.{Replica}
use Rattle.list_lemmas.proofs.Tests.{by_bool}
use Rattle.law_lemmas.proofs.Numbered.{IsSized, length-contents_after, contents_after-more, number_of-base, number_of-more, numbered}
use Rattle.law_lemmas.proofs.Regional.{part_written}
use Rattle.law_answers.specs.Turning.{IsChain, IsInTurn, HasCome, IsLinked}
use Rattle.law_answers.proofs.Reached.{all_reached}
use Rattle.law_reads.specs.Chained.{IsViewOf, IsLastView}

module _ (shape : Shape) (key : List ℕ) (known : Session) (sized : IsSized shape known) (g : ℕ) (inside : g < regions shape) where
  abbrev N : ℕ → ℕ
  N s = number_of shape known s g

  abbrev touched : ℕ → Bool
  touched s = touches shape (batch_at known s) g

  -- ---- numbers

  hit_more : (k : ℕ) → known.base ≤ k → k < length known.list → touched (k + 1) ≡ true → N (k + 1) ≡ k + 1
  hit_more k above within is = number_of-more shape known sized k g above within ∙ ap (λ (t : Bool). if t then k + 1 else N k) is

  miss_more : (k : ℕ) → known.base ≤ k → k < length known.list → touched (k + 1) ≡ false → N (k + 1) ≡ N k
  miss_more k above within is = number_of-more shape known sized k g above within ∙ ap (λ (t : Bool). if t then k + 1 else N k) is

  -- a batch that touches the region counts from then on
  counts_from : (s d : ℕ) → known.base < s → s ≤ known.base + d → known.base + d ≤ length known.list → touched s ≡ true → s ≤ N (known.base + d)
  counts_from s zero above up within is = absurd (omega (arith, above, up))
  counts_from s (suc d) above up within is =
      let same : known.base + d + 1 ≡ known.base + suc d = omega arith in
      subst (λ (n : ℕ). s ≤ N n) same
      (by_bool (touched (known.base + d + 1)) (s ≤ N (known.base + d + 1))
      (λ hit. let at : N (known.base + d + 1) ≡ known.base + d + 1 = hit_more (known.base + d) (omega arith) (omega (arith, within)) hit in omega (arith, at, up))
      (λ miss.
      let at : N (known.base + d + 1) ≡ N (known.base + d) = miss_more (known.base + d) (omega arith) (omega (arith, within)) miss in
      elim (cases_eq s (known.base + d + 1)) [
        | inl e ↦ absurd (true≢false (sym is ∙ (ap touched e ∙ miss)))
        | inr other ↦
            let low : s ≤ known.base + d = by_lower s (known.base + d) (omega (arith, up)) other in
            let rest : s ≤ N (known.base + d) = counts_from s d above low (omega (arith, within)) is in
            omega (arith, at, rest)
      ]))
    where
      by_lower : (s n : ℕ) → s ≤ n + 1 → (s ≡ n + 1 → ⊥) → s ≤ n
      by_lower s n up other = ⊎_elim (λ (below : n < s). absurd (other (omega (arith, up, below)))) (λ (low : s ≤ n). low) (cases_lt n s)

  touch_counts : (s t : ℕ) → known.base < s → s ≤ t → t ≤ length known.list → touched s ≡ true → s ≤ N t
  touch_counts s t above up within is =
      let same : known.base + (t - known.base) ≡ t = omega (arith, above, up) in
      subst (λ (n : ℕ). s ≤ N n) same (counts_from s (t - known.base) above (omega (arith, same, up)) (omega (arith, same, within)) is)

  -- each number is the base's, or that of a batch that touches the region
  abbrev IsTouch : ℕ → Type 0
  IsTouch n = (n ≡ known.base) ⊎ ((known.base < n) × (touched n ≡ true))

  touch_from : (d : ℕ) → known.base + d ≤ length known.list → IsTouch (N (known.base + d))
  touch_from zero within =
      let same : known.base ≡ known.base + zero = omega arith in subst (λ (n : ℕ). IsTouch (N n)) same (inl (number_of-base shape known sized g))
  touch_from (suc d) within =
      let same : known.base + d + 1 ≡ known.base + suc d = omega arith in
      subst (λ (n : ℕ). IsTouch (N n)) same
      (by_bool (touched (known.base + d + 1)) (IsTouch (N (known.base + d + 1)))
      (λ hit. subst IsTouch (sym (hit_more (known.base + d) (omega arith) (omega (arith, within)) hit)) (inr (omega arith, hit)))
      (λ miss. subst IsTouch (sym (miss_more (known.base + d) (omega arith) (omega (arith, within)) miss)) (touch_from d (omega (arith, within)))))

  is_touch : (t : ℕ) → known.base ≤ t → t ≤ length known.list → IsTouch (N t)
  is_touch t above within =
      let same : known.base + (t - known.base) ≡ t = omega (arith, above) in subst (λ (n : ℕ). IsTouch (N n)) same (touch_from (t - known.base) (omega (arith, same, within)))

  low : (t : ℕ) → known.base ≤ t → t ≤ length known.list → N t ≤ t
  low t above within = (numbered shape known sized g t inside above within).within

  never_falls : (s t : ℕ) → known.base ≤ s → s ≤ t → t ≤ length known.list → N s ≤ N t
  never_falls s t above up within =
      ⊎_elim (λ (base : N s ≡ known.base). let high : known.base ≤ N t = (numbered shape known sized g t inside (omega (arith, above, up)) within).above in omega (arith, base, high))
      (λ (touch : (known.base < N s) × (touched (N s) ≡ true)).
      let at : N s ≤ s = low s above (omega (arith, up, within)) in
      touch_counts (N s) t touch.0 (omega (arith, at, up)) within touch.1)
      (is_touch s above (omega (arith, up, within)))

  -- ---- a part

  record SaysPart (rec : Record) (s : ℕ) : Type 0 where
    seq : rec.header.seq ≡ s
    previous : rec.header.previous ≡ N (s - 1)
    root : rec.header.root ≡ region_root shape (contents_after known s) g
    writes : (blocks : List (List ℕ)) → blocks_after shape blocks rec ≡ blocks_written blocks (writes_in shape (batch_at known s) g)

  part_says : (s : ℕ) → SaysPart (part_of shape key known s g) s
  unfolding part_of
  part_says s = record { seq = refl; previous = refl; root = refl; writes = λ blocks. refl }

  says : (rec : Record) (part : IsPartOf shape key known g rec) → SaysPart rec part.s
  says rec part = subst (λ (r : Record). SaysPart r part.s) (sym part.is) (part_says part.s)

  -- the blocks after it
  blocks_then : (view : View) (rec : Record) → IsViewOf shape known g view → (part : IsPartOf shape key known g rec) → rec.header.previous ≡ view.number
      → blocks_after shape view.blocks rec ≡ blocks_in shape (contents_after known part.s) g
  blocks_then view rec v part goes =
      let s : ℕ = part.s in
      let own : known.base < part.s = part.own in
      let within : part.s ≤ length known.list = part.within in
      let p = says rec part in
      let k : ℕ = s - 1 in
      let back : k + 1 ≡ s = omega (arith, own) in
      let numbers : N v.x ≡ N k = sym v.number ∙ (sym goes ∙ p.previous) in
      let before : view.blocks ≡ blocks_in shape (contents_after known k) g =
      v.blocks ∙ (sym (numbered shape known sized g v.x inside v.above v.within).blocks
      ∙ (ap (λ (n : ℕ). blocks_in shape (contents_after known n) g) numbers ∙ (numbered shape known sized g k inside (omega (arith, own)) (omega (arith, own, within))).blocks)) in
      let now : blocks_written (blocks_in shape (contents_after known k) g) (writes_in shape (batch_at known s) g) ≡ blocks_in shape (apply (contents_after known k) (batch_at known s)) g =
      part_written shape (contents_after known k) (length-contents_after shape known sized k) (batch_at known s) g inside in
      let more : contents_after known s ≡ apply (contents_after known k) (batch_at known s) =
      ap (contents_after known) (sym back) ∙ (contents_after-more shape known sized k (omega (arith, own, within)) ∙ ap (λ (n : ℕ). apply (contents_after known k) (batch_at known n)) back) in
      p.writes view.blocks
      ∙ (ap (λ (l : List (List ℕ)). blocks_written l (writes_in shape (batch_at known s) g)) before
      ∙ (now ∙ ap (λ (l : List (List ℕ)). blocks_in shape l g) (sym more)))

  -- ---- the chain

  -- The law: they are a chain, and the views are those after its batches.
  pub session_chain : IsChain shape (IsPartOf shape key known g) (IsViewOf shape known g)
  session_chain = record {
    rises = λ rec part.
        let p = says rec part in
        let own : known.base < part.s = part.own in
        let within : part.s ≤ length known.list = part.within in
        let at : N (part.s - 1) ≤ part.s - 1 = low (part.s - 1) (omega (arith, own)) (omega (arith, own, within)) in
        let seq : rec.header.seq ≡ part.s = p.seq in
        let previous : rec.header.previous ≡ N (part.s - 1) = p.previous in
        omega (arith, own, at, seq, previous);
    one = λ a b part other same.
        let p = says a part in
        let q = says b other in
        let numbers : N (part.s - 1) ≡ N (other.s - 1) = sym p.previous ∙ (same ∙ q.previous) in
        p.seq ∙ (one_batch part.s other.s part.own part.within part.touched other.own other.within other.touched numbers ∙ sym q.seq);
    apart = λ a b part other up.
        let p = says a part in
        let q = says b other in
        let seq : a.header.seq ≡ part.s = p.seq in
        let previous : b.header.previous ≡ N (other.s - 1) = q.previous in
        let first : a.header.previous ≡ N (part.s - 1) = p.previous in
        let rest : part.s ≤ N (other.s - 1) = no_batch part.s other.s part.own part.within part.touched other.own other.within (omega (arith, up, previous, first)) in
        omega (arith, rest, seq, previous);
    between = λ view rec v part up.
        let p = says rec part in
        let seq : rec.header.seq ≡ part.s = p.seq in
        let previous : rec.header.previous ≡ N (part.s - 1) = p.previous in
        let number : view.number ≡ N v.x = v.number in
        let rest : N v.x ≤ N (part.s - 1) = no_view v.x part.s v.above v.within part.own part.within part.touched (omega (arith, up, seq, number)) in
        omega (arith, rest, previous, number);
    accepts = λ view rec v part goes.
        let p = says rec part in
        eq-bytes (view_root shape (view_after shape view rec)) rec.header.root (ap (root_of shape.height) (blocks_then view rec v part goes) ∙ sym p.root);
    after = λ view rec v part goes.
        let p = says rec part in
        let own : known.base < part.s = part.own in
        let within : part.s ≤ length known.list = part.within in
        let back : part.s - 1 + 1 ≡ part.s = omega (arith, own) in
        record {
          x = part.s;
          above = omega (arith, own);
          within = part.within;
          number = p.seq ∙ sym (subst (λ (n : ℕ). N n ≡ n) back (hit_more (part.s - 1) (omega (arith, own)) (omega (arith, own, within)) (ap touched back ∙ part.touched)));
          blocks = blocks_then view rec v part goes;
        };
  }
    where
      -- of two batches with one number before them neither comes first
      one_batch : (s t : ℕ) → known.base < s → s ≤ length known.list → touched s ≡ true → known.base < t → t ≤ length known.list → touched t ≡ true → N (s - 1) ≡ N (t - 1) → s ≡ t
      one_batch s t s_own s_in s_hit t_own t_in t_hit same =
          let s_low : N (s - 1) ≤ s - 1 = low (s - 1) (omega (arith, s_own)) (omega (arith, s_own, s_in)) in
          let t_low : N (t - 1) ≤ t - 1 = low (t - 1) (omega (arith, t_own)) (omega (arith, t_own, t_in)) in
          ⊎_elim (λ (less : s < t).
          let counts : s ≤ N (t - 1) = touch_counts s (t - 1) s_own (omega (arith, less)) (omega (arith, t_own, t_in)) s_hit in absurd (omega (arith, counts, same, s_low, s_own)))
          (λ (more : t ≤ s).
          ⊎_elim (λ (less : t < s).
          let counts : t ≤ N (s - 1) = touch_counts t (s - 1) t_own (omega (arith, less)) (omega (arith, s_own, s_in)) t_hit in absurd (omega (arith, counts, same, t_low, t_own)))
          (λ (at_most : s ≤ t). omega (arith, more, at_most)) (cases_lt t s)) (cases_lt s t)

      no_batch : (s t : ℕ) → known.base < s → s ≤ length known.list → touched s ≡ true → known.base < t → t ≤ length known.list → N (s - 1) < N (t - 1) → s ≤ N (t - 1)
      no_batch s t s_own s_in s_hit t_own t_in up =
          ⊎_elim (λ (less : s < t). touch_counts s (t - 1) s_own (omega (arith, less)) (omega (arith, t_own, t_in)) s_hit)
          (λ (more : t ≤ s).
          let falls : N (t - 1) ≤ N (s - 1) = never_falls (t - 1) (s - 1) (omega (arith, t_own)) (omega (arith, more)) (omega (arith, s_own, s_in)) in absurd (omega (arith, up, falls))) (cases_lt s t)

      no_view : (x s : ℕ) → known.base ≤ x → x ≤ length known.list → known.base < s → s ≤ length known.list → touched s ≡ true → N x < s → N x ≤ N (s - 1)
      no_view x s above within s_own s_in s_hit up =
          ⊎_elim (λ (less : x < s). never_falls x (s - 1) above (omega (arith, less)) (omega (arith, s_own, s_in)))
          (λ (more : s ≤ x). let counts : s ≤ N x = touch_counts s x s_own more within s_hit in absurd (omega (arith, up, counts))) (cases_lt x s)

      eq-bytes : (a b : List ℕ) → a ≡ b → bytes_eq a b ≡ true
      eq-bytes a b is = (bytes_eq-Decides a b).1 is

  -- ---- once every part has come

  number_above : (view : View) → IsViewOf shape known g view → known.base ≤ view.number
  number_above view v =
      let above : known.base ≤ N v.x = (numbered shape known sized g v.x inside v.above v.within).above in
      let number : view.number ≡ N v.x = v.number in
      omega (arith, above, number)

  -- what a part goes on from is the base, or a part
  parts_linked : (x : ℕ) → known.base ≤ x → IsLinked (IsPartOf shape key known g) x
  parts_linked x above rec part up =
      let p = says rec part in
      let own : known.base < part.s = part.own in
      let within : part.s ≤ length known.list = part.within in
      let previous : rec.header.previous ≡ N (part.s - 1) = p.previous in
      let at : N (part.s - 1) ≤ part.s - 1 = low (part.s - 1) (omega (arith, own)) (omega (arith, own, within)) in
      ⊎_elim (λ (base : N (part.s - 1) ≡ known.base). absurd (omega (arith, base, previous, up, above)))
      (λ (touch : (known.base < N (part.s - 1)) × (touched (N (part.s - 1)) ≡ true)). (
        part_of shape key known (N (part.s - 1)) g,
        record { s = N (part.s - 1); own = touch.0; within = omega (arith, at, within); inside = inside; touched = touch.1; is = refl },
        (part_says (N (part.s - 1))).seq ∙ sym previous,
      ))
      (is_touch (part.s - 1) (omega (arith, own)) (omega (arith, own, within)))

  -- The law: the view is that after the session's last batch.
  pub last_reached : (r : Replica) → IsInTurn (IsPartOf shape key known g) (IsViewOf shape known g) r → ((rec : Record) → IsPartOf shape key known g rec → HasCome rec r)
      → IsLastView shape known g r.view
  last_reached r turn come =
      let v : IsViewOf shape known g r.view = turn.view in
      let last : ℕ = length known.list in
      let number : r.view.number ≡ N v.x = v.number in
      let up : N v.x ≤ N last = never_falls v.x last v.above v.within (omega arith) in
      let above : known.base ≤ r.view.number = number_above r.view v in
      let all = all_reached shape (IsPartOf shape key known g) (IsViewOf shape known g) session_chain r turn (parts_linked r.view.number above) come in
      let down : N last ≤ r.view.number =
      ⊎_elim (λ (base : N last ≡ known.base). omega (arith, base, above))
      (λ (touch : (known.base < N last) × (touched (N last) ≡ true)).
      let at : N last ≤ last = low last sized.begun (omega arith) in
      let rec : Record = part_of shape key known (N last) g in
      let seq : rec.header.seq ≡ N last = (part_says (N last)).seq in
      let reached : rec.header.seq ≤ r.view.number = all rec (record { s = N last; own = touch.0; within = at; inside = inside; touched = touch.1; is = refl }) in
      omega (arith, seq, reached))
      (is_touch last sized.begun (omega arith)) in
      let same : N v.x ≡ N last = omega (arith, up, down, number) in
      record {
        number = number ∙ same;
        blocks = v.blocks ∙ (sym (numbered shape known sized g v.x inside v.above v.within).blocks
            ∙ (ap (λ (n : ℕ). blocks_in shape (contents_after known n) g) same ∙ (numbered shape known sized g last inside sized.begun (omega arith)).blocks));
      }
