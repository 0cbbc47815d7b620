-- A record of the session served that the client has tagged: its number is at most its region's present one, and where it is that,
-- its root is the present root. So no answer that leads to its root is struck.
use Rattle.std.proofs.Common.{◌≡◌, ◌∙◌, inl, inr, ℕ, zero, suc, ◌+◌, ◌-◌, ◌<◌, ◌≤◌, ◌==◌, ◌&&◌, nat_lt, Bool, true, false, if◌then◌else◌, List, length, refl, sym, ap, subst, arith, le_refl, le_trans, eq-eqb}
use Rattle.std.proofs.Math.Seq.{take-length}
use Rattle.std.proofs.lemmas.Bool.{true≢false, ltb-true, ltb-false}
use Rattle.salus_hash.specs.Hash.{leaf}
use Rattle.salus_types.specs.Volume.{Shape, regions}
use Rattle.salus_types.specs.declared.strike.Strike.{Strike}
use Rattle.salus_types.specs.declared.strike.Strike.TheVariants as strike
use Rattle.salus_types.specs.declared.records.Record.{Record}
use Rattle.salus_message.specs.declared.replies.Answer.{Answer}
use Rattle.merkle_region.specs.Tree.{root_of, climb, verified, Verifies}
use Rattle.merkle_region.proofs.Tested.{verified-Decides}
use Rattle.volume_model.specs.Contents.{region_of, place_of, fold_batches, blocks_in, region_root}
use Rattle.volume_model.specs.Parts.{Session, contents_after, touches, batch_at, number_of, part_of, base_of}
use Rattle.salus_model.specs.Judge.{Judge}
use Rattle.salus_model.specs.Answering.{Verdict, Stale, Good, Struck, present_number, present_root, verdict_present, verdict_of}
use Rattle.salus_model.specs.Forgery.{IsTagged}
use Rattle.list_lemmas.proofs.Each.{either_way}
use Rattle.list_lemmas.proofs.Tests.{way_with}
use Rattle.law_lemmas.proofs.Numbered.{IsSized, number_of-more, numbered}
use Rattle.law_lemmas.proofs.Owned.{IsOwn, IsTold, told, own_of}
use Rattle.law_lemmas.proofs.Settled.{EachKnown, now-known}

-- ---- a region's number never falls

module _ (shape : Shape) (known : Session) (sized : IsSized shape known) (g : ℕ) (inside : g < regions shape) where
  abbrev N : ℕ → ℕ
  N s = number_of shape known s g

  up_one : (s : ℕ) → known.base ≤ s → s < length known.list → N s ≤ N (s + 1)
  up_one s above within =
      let low : N s ≤ s = (numbered shape known sized g s inside above (omega (arith, within))).within in
      subst (λ n. N s ≤ n) (sym (number_of-more shape known sized s g above within))
      (either_way (touches shape (batch_at known (s + 1)) g) (s + 1) (N s) (λ n. N s ≤ n) (omega (arith, low)) (le_refl (N s)))

  up_by : (s d : ℕ) → known.base ≤ s → s + d ≤ length known.list → N s ≤ N (s + d)
  up_by s zero above within = let same : s ≡ s + zero = omega arith in subst (λ n. N s ≤ N n) same (le_refl (N s))
  up_by s (suc d) above within =
      let same : s + d + 1 ≡ s + suc d = omega arith in
      subst (λ n. N s ≤ N n) same (le_trans (up_by s d above (omega (arith, within))) (up_one (s + d) (omega (arith, above)) (omega (arith, within))))

  pub never_falls : (s t : ℕ) → known.base ≤ s → s ≤ t → t ≤ length known.list → N s ≤ N t
  never_falls s t above up within =
      let same : s + (t - s) ≡ t = omega (arith, up) in subst (λ n. N s ≤ N n) same (up_by s (t - s) above (omega (arith, same, within)))

  -- that of a batch which touches it is the batch's
  touched_is : (s : ℕ) → known.base < s → s ≤ length known.list → touches shape (batch_at known s) g ≡ true → N s ≡ s
  touched_is s above within is =
      let back : s - 1 + 1 ≡ s = omega (arith, above) in
      subst (λ n. N n ≡ n) back
      (number_of-more shape known sized (s - 1) g (omega (arith, above)) (omega (arith, above, within))
      ∙ ap (λ (t : Bool). if t then s - 1 + 1 else N (s - 1)) (subst (λ n. touches shape (batch_at known n) g ≡ true) (sym back) is))

  -- ---- an own record

  part_seq : (key : List ℕ) (s : ℕ) → (part_of shape key known s g).header.seq ≡ s
  unfolding part_of
  part_seq key s = refl

  base_seq : (key : List ℕ) → (base_of shape key known g).header.seq ≡ known.base
  unfolding base_of
  base_seq key = refl

  pub at_most : (key : List ℕ) (rec : Record) → IsOwn shape key known g rec → rec.header.seq ≤ N (length known.list)
  at_most key rec (inl part) =
      let seq : rec.header.seq ≡ part.s = ap (λ (r : Record). r.header.seq) part.is ∙ part_seq key part.s in
      let own : known.base < part.s = part.own in
      let at : N part.s ≡ part.s = touched_is part.s part.own part.within part.touched in
      let up : N part.s ≤ N (length known.list) = never_falls part.s (length known.list) (omega (arith, own)) part.within (le_refl (length known.list)) in
      omega (arith, seq, at, up)
  at_most key rec (inr base) =
      let seq : rec.header.seq ≡ known.base = ap (λ (r : Record). r.header.seq) base.is ∙ base_seq key in
      let above : known.base ≤ N (length known.list) = (numbered shape known sized g (length known.list) inside sized.begun (le_refl (length known.list))).above in
      omega (arith, seq, above)

  pub same_root : (key : List ℕ) (rec : Record) → IsOwn shape key known g rec → rec.header.seq ≡ N (length known.list) → region_root shape (fold_batches known.origin known.list) g ≡ rec.header.root
  same_root key rec own present =
      let says : IsTold shape known g rec.header = told shape key known sized g rec own in
      let whole : contents_after known (length known.list) ≡ fold_batches known.origin known.list = ap (fold_batches known.origin) (take-length known.list) in
      let blocks : blocks_in shape (contents_after known (N (length known.list))) g ≡ blocks_in shape (contents_after known (length known.list)) g =
      (numbered shape known sized g (length known.list) inside sized.begun (le_refl (length known.list))).blocks in
      ap (λ (contents : List (List ℕ)). region_root shape contents g) (sym whole)
      ∙ (ap (root_of shape.height) (sym blocks)
      ∙ (ap (λ (s : ℕ). region_root shape (contents_after known s) g) (sym present) ∙ sym says.root))

-- ---- an answer

-- its path leads to the root of a record of its session, of that region and of its number, which the client has tagged
pub record IsRootedIn (shape : Shape) (key : List ℕ) (judge : Judge) (g : ℕ) (a : Answer) : Type 0 where
  pub rec : Record
  pub tagged : IsTagged shape key judge rec
  pub session : rec.header.session ≡ a.session
  pub region : rec.header.region ≡ g
  pub number : rec.header.seq ≡ a.at
  pub leads : Verifies rec.header.root shape.height (place_of shape a.block) a.bytes a.path

both_hold : (a b : Bool) → a ≡ true → b ≡ true → (a && b) ≡ true
both_hold true b ha hb = hb
both_hold false b ha hb = ha

stale_not : (s : Strike) → Stale ≡ Struck s → ⊥
stale_not s is = cc

good_not : (s : Strike) → Good ≡ Struck s → ⊥
good_not s is = cc

module _ (shape : Shape) (key : List ℕ) (judge : Judge) (sized : EachKnown judge (IsSized shape)) (a : Answer) (now : a.session ≡ judge.now.session) (inside : region_of shape a.block < regions shape)
    (rooted : IsRootedIn shape key judge (region_of shape a.block) a) where
  abbrev g : ℕ
  g = region_of shape a.block

  sized_now : IsSized shape judge.now
  sized_now = sized judge.now judge.now.session (now-known judge)

  own_now : IsOwn shape key judge.now g rooted.rec
  own_now =
      own_of shape key judge judge.now judge.now.session g rooted.rec (now-known judge) sized_now sized
      (both_hold (rooted.rec.header.session == judge.now.session) (rooted.rec.header.region == g) (eq-eqb rooted.rec.header.session judge.now.session (rooted.session ∙ now)) (eq-eqb rooted.rec.header.region g rooted.region))
      rooted.tagged

  low : a.at ≤ present_number shape judge g
  low = subst (λ n. n ≤ present_number shape judge g) rooted.number (at_most shape judge.now sized_now g inside key rooted.rec own_now)

  root_is : a.at ≡ present_number shape judge g → present_root shape judge g ≡ rooted.rec.header.root
  unfolding present_root
  root_is present = same_root shape judge.now sized_now g inside key rooted.rec own_now (rooted.number ∙ present)

  leads_there : a.at ≡ present_number shape judge g → verified (present_root shape judge g) shape.height (place_of shape a.block) a.bytes a.path ≡ true
  leads_there present =
      (verified-Decides (present_root shape judge g) shape.height (place_of shape a.block) a.bytes a.path).1
      (subst (λ (root : List ℕ). Verifies root shape.height (place_of shape a.block) a.bytes a.path) (sym (root_is present)) rooted.leads)

  -- Such an answer isn't struck.
  pub not_struck : (s : Strike) → verdict_of shape judge a ≡ Struck s → ⊥
  not_struck s =
      let number : ℕ = present_number shape judge g in
      let root : List ℕ = present_root shape judge g in
      let P : Verdict → Type 0 = λ v. v ≡ Struck s → ⊥ in
      way_with (nat_lt a.at number) Stale (if nat_lt number a.at then Struck (strike.Past a.at number) else verdict_present shape root a) P (λ _. stale_not s)
      (λ later. way_with (nat_lt number a.at) (Struck (strike.Past a.at number)) (verdict_present shape root a) P
      (λ above. let up : number < a.at = ltb-true number a.at above in let most : a.at ≤ number = low in absurd (omega (arith, up, most)))
      (λ within.
      let most : a.at ≤ number = low in
      let least : number ≤ a.at = ltb-false a.at number later in
      way_with (verified root shape.height (place_of shape a.block) a.bytes a.path) Good (Struck (strike.Bad root (climb (place_of shape a.block) (leaf a.bytes) a.path))) P (λ _. good_not s)
      (λ bad. absurd (true≢false (sym (leads_there (omega (arith, most, least))) ∙ bad)))))
