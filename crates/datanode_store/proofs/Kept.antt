-- What is held, as a log grows and as it is read.
use Rattle.std.proofs.Common.{◌≡◌, inl, inr, ⊎_elim, ℕ, zero, suc, ◌+◌, ◌<◌, ◌≤◌, Bool, false, Option, Some, None, List, [], ◌∷◌, ◌++◌, length, take, filter, nat_le, refl, sym, ◌∙◌, ap, subst, arith, add-one}
use Rattle.std.specs.Prelude.{option_and_then, IsSomeAnd}
use Rattle.std.specs.List.{AllByRecursion, slice_get}
use Rattle.std.proofs.lemmas.List.{take_all}
use Rattle.std.proofs.lemmas.List.Elements.{All-filter, All-from_recursion, recursion_from_All}
use Rattle.salus_types.specs.declared.records.Record.{Record}
use Rattle.salus_types.specs.declared.records.Base.{Base}
use Rattle.salus_types.specs.declared.records.Held.{Held}
use Rattle.disk_model.specs.Disk.{Moment, History, Now, EachImage, IsImage, Through, Goes, IsSynced, clean}
use Rattle.disk_model.proofs.Passing.{through_none, through_same, through_weaker, now_map, each_clean}
use Rattle.datanode_log.specs.Entries.{entries_of}
use Rattle.datanode_log.specs.Logs.{IsLog, IsBeforeOrAfter, entries_now, Refuses}
use Rattle.datanode_log.specs.Known.{SoundAt}
use Rattle.datanode_log.proofs.Spelling.{spelled_log}
use Rattle.holding_model.specs.Holding.{Entry, ToSession, entry_of, held_from, held_of, held_after, nothing_held}
use Rattle.datanode_store.specs.declared.error.StoreError.{StoreError}
use Rattle.datanode_store.specs.declared.error.StoreError.TheVariants.{Foreign, Damaged, BadRecord, Device, NoMemory}
use Rattle.datanode_log.specs.declared.error.LogError.{LogError}
use Rattle.datanode_log.specs.declared.error.LogError.TheVariants as error_of_log
use Rattle.datanode_store.specs.Causes.{of_log, IsOutside, IsFirstBad, RefusesEntries, RefusesFile}
use Rattle.datanode_store.specs.Meaning.{Means, MeansEither, IsPart, IsBegun, CanBeKept}

-- ---- lists

pub all_push : {X : Type 0} (P : X → Type 0) (xs : List X) (x : X) → AllByRecursion P xs → P x → AllByRecursion P (xs ++ x ∷ [])
all_push P [] x all is = (is, tt)
all_push P (y ∷ xs) x all is = (all.0, all_push P xs x all.1 is)

pub all_filter : {X : Type 0} (P : X → Type 0) (test : X → Bool) (xs : List X) → AllByRecursion P xs → AllByRecursion P (filter test xs)
all_filter P test xs all = recursion_from_All P (filter test xs) (All-filter test P xs (All-from_recursion P xs all))

pub kept_open : (held : Held) (session : ℕ) → CanBeKept held → CanBeKept (held_after held (ToSession session))
kept_open held session can = record {
  bases = all_filter IsBegun (λ base. nat_le session base.rec.header.session) held.bases can.bases;
  parts = all_filter IsPart (λ rec. nat_le session rec.header.session) held.parts can.parts;
}

-- ---- one more entry

push_option : (first : Held) (entries : List (List ℕ)) (bytes : List ℕ) (held : Held) (entry : Entry) (o : Option Entry)
    → ((x : Entry) → held_from (held_after first x) entries ≡ Some held → held_from (held_after first x) (entries ++ bytes ∷ []) ≡ Some (held_after held entry))
    → option_and_then (λ x. held_from (held_after first x) entries) o ≡ Some held → option_and_then (λ x. held_from (held_after first x) (entries ++ bytes ∷ [])) o ≡ Some (held_after held entry)
push_option first entries bytes held entry None next is = cc
push_option first entries bytes held entry (Some x) next is = next x is

pub from_push : (first : Held) (entries : List (List ℕ)) (bytes : List ℕ) (held : Held) (entry : Entry) → held_from first entries ≡ Some held → entry_of bytes ≡ Some entry → held_from first (entries ++ bytes ∷ []) ≡ Some (held_after held entry)
unfolding held_from
from_push first [] bytes held entry is one =
    let same : first ≡ held = cc in
    ap (λ (o : Option Entry). option_and_then (λ x. Some (held_after first x)) o) one ∙ ap (λ (h : Held). Some (held_after h entry)) same
from_push first (e ∷ entries) bytes held entry is one =
    push_option first entries bytes held entry (entry_of e) (λ x here. from_push (held_after first x) entries bytes held entry here one) is

pub held_push : (entries : List (List ℕ)) (bytes : List ℕ) (held : Held) (entry : Entry) → held_of entries ≡ Some held → entry_of bytes ≡ Some entry → held_of (entries ++ bytes ∷ []) ≡ Some (held_after held entry)
held_push entries bytes held entry is one = from_push nothing_held entries bytes held entry is one

-- ---- what the images mean

-- every image of the disk means what is held, if it tells what it holds and no call has failed
abbrev pub HoldsAt : History → Bool → Held → Type 0
HoldsAt history failed held = (now : Moment) (past : List Moment) → history ≡ now ∷ past → failed ≡ false → EachImage now (Means held)

pub means_log : (image : List ℕ) (entries : List (List ℕ)) (held : Held) → held_of entries ≡ Some held → IsLog image entries → Means held image
means_log image entries held is log = record {
  log = subst (λ (es : List (List ℕ)). IsLog image es) (sym log.entries_are) log;
  holds = ap held_of log.entries_are ∙ is;
}

pub images_now : (old : History) (failed : Bool) (held : Held) → failed ≡ false → HoldsAt old failed held → Now old (λ now. EachImage now (Means held))
images_now [] failed held works holds = tt
images_now (now ∷ past) failed held works holds = holds now past refl works

-- ---- adding an entry

pub added_through : (old new : History) (failed : Bool) (held : Held) (bytes : List ℕ) (entry : Entry) → failed ≡ false → HoldsAt old failed held → Now old (λ now. IsImage now now.seen)
    → entry_of bytes ≡ Some entry → Through old new (IsBeforeOrAfter (entries_now old) bytes) → Through old new (MeansEither held (held_after held entry))
added_through [] new failed held bytes entry works holds reads is passed =
    subst (λ (h : History). Through [] h (MeansEither held (held_after held entry))) (sym (passed.untold refl)) (through_none (MeansEither held (held_after held entry)))
added_through (now ∷ past) new failed held bytes entry works holds reads is passed =
    let entries = entries_of now.seen in
    let here = (holds now past refl works now.seen reads).holds in
    through_weaker (now ∷ past) new (IsBeforeOrAfter entries bytes) (MeansEither held (held_after held entry))
    (λ image either. ⊎_elim (λ (log : IsLog image entries). inl (means_log image entries held here log))
    (λ (log : IsLog image (entries ++ bytes ∷ [])). inr (means_log image (entries ++ bytes ∷ []) (held_after held entry) (held_push entries bytes held entry here is) log)) either) passed

pub same_through : (old : History) (failed : Bool) (held new : Held) → failed ≡ false → HoldsAt old failed held → Through old old (MeansEither held new)
same_through old failed held new works holds =
    through_same old (MeansEither held new) (now_map (λ now. EachImage now (Means held)) (λ now. EachImage now (MeansEither held new)) (λ now each image of. inl (each image of)) old (images_now old failed held works holds))

pub added_holds : (old new : History) (was failed : Bool) (held : Held) (bytes : List ℕ) (entry : Entry) → was ≡ false → HoldsAt old was held → Now old (λ now. IsImage now now.seen)
    → entry_of bytes ≡ Some entry → (old ≡ [] → new ≡ []) → Now new (λ now. EachImage now (λ image. IsLog image (entries_now old ++ bytes ∷ []))) → HoldsAt new failed (held_after held entry)
added_holds [] new was failed held bytes entry worked holds reads is untold logs = λ now past at works. let none = untold refl in cc
added_holds (first ∷ before) new was failed held bytes entry worked holds reads is untold logs = λ now past at works image of.
    let entries = entries_of first.seen in
    let here = (holds first before refl worked first.seen reads).holds in
    let each = subst (λ (h : History). Now h (λ m. EachImage m (λ image. IsLog image (entries ++ bytes ∷ [])))) at logs in
    means_log image (entries ++ bytes ∷ []) (held_after held entry) (held_push entries bytes held entry here is) (each image of)

-- a log at rest, of which these are the entries
pub resting_holds : (new : History) (gate : ℕ) (spans : List (ℕ × ℕ)) (failed : Bool) (held : Held) → SoundAt new gate spans failed → (failed ≡ false → Now new (λ now. held_of (entries_of now.seen) ≡ Some held)) → HoldsAt new failed held
resting_holds new gate spans failed held sound means = λ now past at works image of.
    let here = sound now past at in
    let is : held_of (entries_of now.seen) ≡ Some held = subst (λ (h : History). Now h (λ m. held_of (entries_of m.seen) ≡ Some held)) at (means works) in
    means_log image (entries_of now.seen) held is (spelled_log image (entries_of now.seen) ((here.rest works).each image of))

-- where the entries are as before
pub kept_means : (old new : History) (was : Bool) (held : Held) → was ≡ false → HoldsAt old was held → Now old (λ now. IsImage now now.seen) → (old ≡ [] → new ≡ []) → entries_now new ≡ entries_now old → Now new (λ now. held_of (entries_of now.seen) ≡ Some held)
kept_means [] new was held works holds reads untold same = subst (λ (h : History). Now h (λ now. held_of (entries_of now.seen) ≡ Some held)) (sym (untold refl)) tt
kept_means (first ∷ before) [] was held works holds reads untold same = tt
kept_means (first ∷ before) (now ∷ past) was held works holds reads untold same = ap held_of same ∙ (holds first before refl works first.seen reads).holds

-- ---- a load

get_split : (xs : List (List ℕ)) (i : ℕ) (x : List ℕ) → slice_get xs i ≡ Some x → take (suc i) xs ≡ take i xs ++ x ∷ []
get_split [] i x at = cc
get_split (y ∷ xs) zero x at = let same : y ≡ x = cc in ap (λ (z : List ℕ). z ∷ []) same
get_split (y ∷ xs) (suc i) x at = ap (λ (l : List (List ℕ)). y ∷ l) (get_split xs i x at)

next_option : (entries : List (List ℕ)) (i : ℕ) (held next : Held) (bytes : List ℕ) (o : Option Entry) → o ≡ entry_of bytes → slice_get entries i ≡ Some bytes → held_of (take i entries) ≡ Some held → IsSomeAnd o (λ entry. next ≡ held_after held entry) → held_of (take (i + 1) entries) ≡ Some next
next_option entries i held next bytes None is at known taken = absurd taken
next_option entries i held next bytes (Some entry) is at known taken =
    ap (λ (n : ℕ). held_of (take n entries)) (add-one i) ∙ ap held_of (get_split entries i bytes at) ∙ held_push (take i entries) bytes held entry known (sym is) ∙ ap Some (sym taken)

pub read_next : (entries : List (List ℕ)) (i : ℕ) (held next : Held) (bytes : List ℕ) → slice_get entries i ≡ Some bytes → held_of (take i entries) ≡ Some held → IsSomeAnd (entry_of bytes) (λ entry. next ≡ held_after held entry) → held_of (take (i + 1) entries) ≡ Some next
read_next entries i held next bytes at known taken = next_option entries i held next bytes (entry_of bytes) refl at known taken

-- nothing is held where there is no entry
pub empty_known : (bases : List Base) (parts : List Record) → bases ≡ [] → parts ≡ [] → held_of [] ≡ Some (record { session = 0; bases = bases; parts = parts })
unfolding held_from
empty_known bases parts bare flat = sym (λ i. Some (record { session = 0; bases = bare i; parts = flat i }))

pub empty_kept : (bases : List Base) (parts : List Record) → bases ≡ [] → parts ≡ [] → CanBeKept (record { session = 0; bases = bases; parts = parts })
empty_kept bases parts bare flat = record { bases = subst (λ (l : List Base). AllByRecursion IsBegun l) (sym bare) tt; parts = subst (λ (l : List Record). AllByRecursion IsPart l) (sym flat) tt }

pub read_all : (entries : List (List ℕ)) (i : ℕ) (held : Held) → length entries ≤ i → held_of (take i entries) ≡ Some held → held_of entries ≡ Some held
read_all entries i held end known = ap held_of (sym (take_all i entries end)) ∙ known

pub first_bad : (entries : List (List ℕ)) (i : ℕ) (held : Held) (bytes : List ℕ) → slice_get entries i ≡ Some bytes → held_of (take i entries) ≡ Some held → entry_of bytes ≡ None → IsFirstBad i entries
first_bad entries i held bytes at known bad = record {
  before = subst (λ (o : Option Held). IsSomeAnd o (λ h. Unit {0})) (sym known) tt;
  here = subst (λ (o : Option (List ℕ)). IsSomeAnd o (λ b. entry_of b ≡ None)) (sym at) bad;
}

-- what was read after a sync stood there before it
pub loaded_means : (old : History) (bytes : List ℕ) (held : Held) → Now old (λ was. bytes ≡ was.seen) → IsLog bytes (entries_of bytes) → held_of (entries_of bytes) ≡ Some held → Now old (λ was. Means held was.seen)
loaded_means old bytes held same log is =
    now_map (λ was. bytes ≡ was.seen) (λ was. Means held was.seen) (λ was at. subst (λ (l : List ℕ). Means held l) at (record { log = log; holds = is })) old same

pub loaded_holds : (old new : History) (bytes : List ℕ) (held : Held) (failed : Bool) → Goes IsSynced old new → Now old (λ was. Now new (λ now. now ≡ clean was.seen)) → Now old (λ was. bytes ≡ was.seen) → IsLog bytes (entries_of bytes) → held_of (entries_of bytes) ≡ Some held → HoldsAt new failed held
loaded_holds [] new bytes held failed went synced same log is = λ now past at works. let none = went.untold refl in cc
loaded_holds (was ∷ before) new bytes held failed went synced same log is = λ now past at works.
    let here : now ≡ clean was.seen = subst (λ (h : History). Now h (λ m. m ≡ clean was.seen)) at synced in
    let means : Means held was.seen = subst (λ (l : List ℕ). Means held l) same (record { log = log; holds = is }) in
    subst (λ (m : Moment). EachImage m (Means held)) (sym here) (each_clean was.seen (Means held) means)

refused_file : (error : StoreError) (file : List ℕ) → IsLog file (entries_of file) → RefusesEntries error (entries_of file) → RefusesFile error file
refused_file Foreign file log refuses = absurd refuses
refused_file (Damaged at) file log refuses = absurd refuses
refused_file (BadRecord at) file log refuses = (log, refuses)
refused_file Device file log refuses = absurd refuses
refused_file NoMemory file log refuses = tt

pub refused_means : (old : History) (bytes : List ℕ) (error : StoreError) → Now old (λ was. bytes ≡ was.seen) → IsLog bytes (entries_of bytes) → RefusesEntries error (entries_of bytes) → Now old (λ was. RefusesFile error was.seen)
refused_means old bytes error same log refuses =
    now_map (λ was. bytes ≡ was.seen) (λ was. RefusesFile error was.seen) (λ was at. subst (λ (l : List ℕ). RefusesFile error l) at (refused_file error bytes log refuses)) old same

-- ---- a file that a store wrote

abbrev IsRead : Option (List ℕ) → Type 0
IsRead None = Unit {0}
IsRead (Some bytes) = entry_of bytes ≡ None → ⊥

bad_option : (first : Held) (entries : List (List ℕ)) (bytes : List ℕ) (held : Held) (o : Option Entry) → option_and_then (λ x. held_from (held_after first x) entries) o ≡ Some held → o ≡ None → ⊥
bad_option first entries bytes held None is bad = cc
bad_option first entries bytes held (Some x) is bad = cc

rest_option : (first : Held) (entries : List (List ℕ)) (held : Held) (i : ℕ) (o : Option Entry) → ((x : Entry) → held_from (held_after first x) entries ≡ Some held → IsRead (slice_get entries i)) → option_and_then (λ x. held_from (held_after first x) entries) o ≡ Some held → IsRead (slice_get entries i)
rest_option first entries held i None next is = cc
rest_option first entries held i (Some x) next is = next x is

-- each entry is read, where all are
read_each : (first : Held) (entries : List (List ℕ)) (held : Held) (i : ℕ) → held_from first entries ≡ Some held → IsRead (slice_get entries i)
unfolding held_from
read_each first [] held i is = tt
read_each first (bytes ∷ entries) held zero is = λ bad. bad_option first entries bytes held (entry_of bytes) is bad
read_each first (bytes ∷ entries) held (suc i) is = rest_option first entries held i (entry_of bytes) (λ x here. read_each (held_after first x) entries held i here) is

not_bad : (o : Option (List ℕ)) → IsRead o → IsSomeAnd o (λ bytes. entry_of bytes ≡ None) → ⊥
not_bad None read bad = bad
not_bad (Some bytes) read bad = read bad

-- where the file means something, it is refused only by the device, or for want of memory
pub means_outside : (error : StoreError) (file : List ℕ) (held : Held) → Means held file → RefusesFile error file → IsOutside error
means_outside Foreign file held means refuses = ⊎_elim (λ (short : length file < 9). absurd (omega (arith, short, means.log.long))) (λ other. absurd (other means.log.marked)) refuses
means_outside (Damaged at) file held means refuses = let whole = means.log.whole in let bad = refuses.2 in cc
means_outside (BadRecord at) file held means refuses = not_bad (slice_get (entries_of file) at) (read_each nothing_held (entries_of file) held at means.holds) refuses.1.here
means_outside Device file held means refuses = tt
means_outside NoMemory file held means refuses = tt

log_refuses : (error : LogError) (file : List ℕ) → Refuses error file → RefusesFile (of_log error) file
log_refuses error_of_log.Foreign file refuses = refuses
log_refuses (error_of_log.Damaged at) file refuses = refuses
log_refuses error_of_log.Device file refuses = tt
log_refuses error_of_log.NoMemory file refuses = tt

pub written_log : (old : History) (error : LogError) (given : StoreError) → given ≡ of_log error → Now old (λ was. Refuses error was.seen) → Now old (λ was. (held : Held) → Means held was.seen → IsOutside given)
written_log old error given is refused =
    now_map (λ was. Refuses error was.seen) (λ was. (held : Held) → Means held was.seen → IsOutside given) (λ was refuses held means. subst IsOutside (sym is) (means_outside (of_log error) was.seen held means (log_refuses error was.seen refuses))) old refused

pub written_file : (old : History) (error : StoreError) → Now old (λ was. RefusesFile error was.seen) → Now old (λ was. (held : Held) → Means held was.seen → IsOutside error)
written_file old error refused = now_map (λ was. RefusesFile error was.seen) (λ was. (held : Held) → Means held was.seen → IsOutside error) (λ was refuses held means. means_outside error was.seen held means refuses) old refused
