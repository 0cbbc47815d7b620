-- How changes are stored, one after the other.
use Rattle.std.proofs.Common.{◌≡◌, inl, inr, ⊎_elim, ℕ, zero, suc, ◌+◌, ◌<◌, ◌≤◌, List, [], ◌∷◌, ◌++◌, length, take, drop, get_or, refl, sym, ◌∙◌, ap, subst, arith}
use Rattle.std.proofs.lemmas.List.{take_all, take-map, length-map}
use Rattle.salus_types.specs.Volume.{Shape}
use Rattle.salus_types.specs.declared.records.Held.{Held}
use Rattle.disk_model.specs.Disk.{History, Now, EachImage, Through}
use Rattle.disk_model.proofs.Passing.{through_same, through_trans, through_weaker, now_map}
use Rattle.holding_model.specs.Changing.{Change, changed, after_changes, contents_through}
use Rattle.datanode_store.specs.Live.{MeansLive, MeansLiveEither, MeansOneLive}
use Rattle.datanode_checkpoint.proofs.Lists.{drop_next, take_next}
use Rattle.node_storage.specs.declared.change.Change.{Change as Named}
use Rattle.node_storage.specs.Storing.{change_of, changes_of, AreStorable, CanBeStored, IsAfterSome}

-- the first i are stored: what is held, what is left, and what each image meant
pub record IsStoring (names : List Named) (i : ℕ) (first now : Held) (old new : History) : Type 0 where
  pub left : CanBeStored now (changes_of (drop i names))
  pub held : (shape : Shape) → now ≡ after_changes shape first (changes_of (take i names))
  pub passed : (shape : Shape) → Through old new (MeansOneLive (contents_through shape first (changes_of names)))

-- ---- fronts

take_none : (names : List Named) → take 0 names ≡ []
take_none [] = refl
take_none (n ∷ names) = refl

drop_none : (names : List Named) → drop 0 names ≡ names
drop_none [] = refl
drop_none (n ∷ names) = refl

after_none : (shape : Shape) (held : Held) (names : List Named) → held ≡ after_changes shape held (changes_of (take 0 names))
unfolding after_changes
after_none shape held names = ap (λ (l : List Named). after_changes shape held (changes_of l)) (sym (take_none names))

one_more : (names : List Named) (n : Named) → changes_of (names ++ n ∷ []) ≡ changes_of names ++ change_of n ∷ []
one_more [] n = refl
one_more (m ∷ names) n = ap (λ (l : List Change). change_of m ∷ l) (one_more names n)

after_more : (shape : Shape) (held : Held) (changes : List Change) (change : Change) → after_changes shape held (changes ++ change ∷ []) ≡ changed shape (after_changes shape held changes) change
unfolding after_changes
after_more shape held [] change = refl
after_more shape held (c ∷ changes) change = after_more shape (changed shape held c) changes change

-- what is held after the next one, too
after_next : (shape : Shape) (names : List Named) (i : ℕ) (n : Named) (first now : Held) → i < length names → n ≡ get_or names i n → now ≡ after_changes shape first (changes_of (take i names))
    → changed shape now (change_of n) ≡ after_changes shape first (changes_of (take (i + 1) names))
after_next shape names i n first now inside is held =
    ap (λ (h : Held). changed shape h (change_of n)) held
    ∙ sym (after_more shape first (changes_of (take i names)) (change_of n))
    ∙ ap (λ (l : List Change). after_changes shape first l) (sym (ap changes_of (take_next names i n inside is) ∙ one_more (take i names) n))

-- what is held after a front part of them is one of the contents
means_front : (shape : Shape) (held : Held) (names : List Named) (i : ℕ) (file : List ℕ) → MeansLive (after_changes shape held (changes_of (take i names))) file → MeansOneLive (contents_through shape held (changes_of names)) file
unfolding after_changes contents_through
means_front shape held [] zero file means = inl means
means_front shape held [] (suc i) file means = inl means
means_front shape held (n ∷ names) zero file means = inl means
means_front shape held (n ∷ names) (suc i) file means = inr (means_front shape (changed shape held (change_of n)) names i file means)

means_held : (shape : Shape) (held now : Held) (names : List Named) (i : ℕ) (file : List ℕ) → now ≡ after_changes shape held (changes_of (take i names)) → MeansLive now file → MeansOneLive (contents_through shape held (changes_of names)) file
means_held shape held now names i file is means = means_front shape held names i file (subst (λ (h : Held). MeansLive h file) is means)

-- ---- the loop

pub storing_starts : (names : List Named) (first : Held) (old : History) → CanBeStored first (changes_of names) → Now old (λ m. EachImage m (MeansLive first)) → IsStoring names 0 first first old old
storing_starts names first old can means = record {
  left = subst (λ (l : List Named). CanBeStored first (changes_of l)) (sym (drop_none names)) can;
  held = λ shape. after_none shape first names;
  passed = λ shape.
      let P = MeansOneLive (contents_through shape first (changes_of names)) in
      through_same old P (now_map (λ m. EachImage m (MeansLive first)) (λ m. EachImage m P) (λ m each file is. means_held shape first first names 0 file (after_none shape first names) (each file is)) old means);
}

pub next_storable : (names : List Named) (i : ℕ) (n : Named) (now : Held) → i < length names → n ≡ get_or names i n → CanBeStored now (changes_of (drop i names)) → CanBeStored now (changes_of (n ∷ drop (i + 1) names))
next_storable names i n now inside is can = subst (λ (l : List Named). CanBeStored now (changes_of l)) (drop_next names i n inside is) can

rest_storable : (names : List Named) (n : Named) (now next : Held) → CanBeStored now (changes_of (n ∷ names)) → ((shape : Shape) → next ≡ changed shape now (change_of n)) → CanBeStored next (changes_of names)
rest_storable names n now next can step = record { shape = can.shape; each = subst (λ (h : Held). AreStorable can.shape h (changes_of names)) (sym (step can.shape)) can.each.1 }

-- during the next one, and after it
pub next_passed : (names : List Named) (i : ℕ) (n : Named) (first now : Held) (old mid new : History) → i < length names → n ≡ get_or names i n → IsStoring names i first now old mid
    → ((shape : Shape) → Through mid new (MeansLiveEither now (changed shape now (change_of n)))) → (shape : Shape) → Through old new (MeansOneLive (contents_through shape first (changes_of names)))
next_passed names i n first now old mid new inside is so_far call shape =
    let next = changed shape now (change_of n) in
    let P = MeansOneLive (contents_through shape first (changes_of names)) in
    through_trans old mid new P (so_far.passed shape) (through_weaker mid new (MeansLiveEither now next) P
    (λ file either. ⊎_elim (λ (before : MeansLive now file). means_held shape first now names i file (so_far.held shape) before)
    (λ (after : MeansLive next file). means_held shape first next names (i + 1) file (after_next shape names i n first now inside is (so_far.held shape)) after) either) (call shape))

pub storing_next : (names : List Named) (i : ℕ) (n : Named) (first now next : Held) (old mid new : History) → i < length names → n ≡ get_or names i n → IsStoring names i first now old mid
    → ((shape : Shape) → next ≡ changed shape now (change_of n)) → ((shape : Shape) → Through mid new (MeansLiveEither now (changed shape now (change_of n)))) → IsStoring names (i + 1) first next old new
storing_next names i n first now next old mid new inside is so_far step call = record {
  left = rest_storable (drop (i + 1) names) n now next (next_storable names i n now inside is so_far.left) step;
  held = λ shape. step shape ∙ after_next shape names i n first now inside is (so_far.held shape);
  passed = λ shape. next_passed names i n first now old mid new inside is so_far call shape;
}

pub storing_ends : (names : List Named) (i : ℕ) (first now : Held) (old new : History) → length names ≤ i → IsStoring names i first now old new → (shape : Shape) → now ≡ after_changes shape first (changes_of names)
storing_ends names i first now old new end so_far shape = so_far.held shape ∙ ap (λ (l : List Named). after_changes shape first (changes_of l)) (take_all i names end)

-- where the next one isn't stored
pub storing_stops : (names : List Named) (i : ℕ) (first now left : Held) (old mid : History) → i < length names → IsStoring names i first now old mid → left ≡ now → (shape : Shape) → IsAfterSome shape first (changes_of names) left
storing_stops names i first now left old mid inside so_far kept shape = record {
  count = i;
  short = omega (arith, inside, length-map names change_of);
  is = kept ∙ so_far.held shape ∙ ap (λ (l : List Change). after_changes shape first l) (sym (take-map change_of i names));
}
