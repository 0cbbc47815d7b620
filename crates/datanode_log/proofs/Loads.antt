-- A log that was just loaded.
use Rattle.std.proofs.Common.{◌≡◌, ℕ, ◌<◌, false, List, [], ◌∷◌, ◌++◌, length, drop, get_or, Result, Ok, Err, IfOk, IfErr, refl, sym, ◌∙◌, ap, subst, arith}
use Rattle.std.specs.List.{slice_get}
use Rattle.disk_model.specs.Disk.{Moment, History, Now, Goes, IsSynced, EachImage, clean}
use Rattle.disk_model.proofs.Passing.{now_map, each_clean}
use Rattle.datanode_log.specs.declared.error.LogError.{LogError}
use Rattle.datanode_log.specs.Entries.{entries_of, end_of}
use Rattle.datanode_log.specs.Logs.{IsLog, Refuses}
use Rattle.datanode_log.specs.Known.{IsLoaded, IsSpelled, SoundAt}
use Rattle.datanode_log.proofs.Spelling.{spelled_log}
use Rattle.datanode_log.proofs.Torn.{length-spans}
use Rattle.datanode_log.proofs.Places.{IsSpan, known_span}
use Rattle.datanode_log.proofs.Stages.{known_all}

pub if_ok : {T E : Type 0} (result : Result T E) (P Q : T → Type 0) → ((value : T) → P value → Q value) → IfOk result P → IfOk result Q
if_ok (Ok value) P Q f is = f value is
if_ok (Err error) P Q f is = is

pub if_err : {T E : Type 0} (result : Result T E) (P Q : E → Type 0) → ((error : E) → P error → Q error) → IfErr result P → IfErr result Q
if_err (Ok value) P Q f is = is
if_err (Err error) P Q f is = f error is

synced_seen : (later : List Moment) (was : Moment) (before new : History) (bytes : List ℕ) → new ≡ later ++ (was ∷ before) → Now new (λ now. now ≡ clean was.seen) → Now new (λ now. bytes ≡ now.seen) → bytes ≡ was.seen
synced_seen [] was before new bytes is synced reads =
    let moment : was ≡ clean was.seen = subst (λ (h : History). Now h (λ now. now ≡ clean was.seen)) is synced in
    subst (λ (h : History). Now h (λ now. bytes ≡ now.seen)) is reads
synced_seen (now ∷ later) was before new bytes is synced reads =
    let moment : now ≡ clean was.seen = subst (λ (h : History). Now h (λ m. m ≡ clean was.seen)) is synced in
    let seen : bytes ≡ now.seen = subst (λ (h : History). Now h (λ m. bytes ≡ m.seen)) is reads in
    seen ∙ ap (λ (m : Moment). m.seen) moment

-- what was read after a sync stood there before it
pub read_back : (old new : History) (bytes : List ℕ) → Goes IsSynced old new → Now old (λ was. Now new (λ now. now ≡ clean was.seen)) → Now new (λ now. bytes ≡ now.seen) → Now old (λ was. bytes ≡ was.seen)
read_back [] new bytes went synced reads = tt
read_back (was ∷ before) new bytes went synced reads = synced_seen went.later was before new bytes went.is synced reads

pub loaded_at : (old : History) (bytes : List ℕ) (gate : ℕ) (spans : List (ℕ × ℕ)) → Now old (λ was. bytes ≡ was.seen) → IsLoaded bytes gate spans → Now old (λ was. IsLoaded was.seen gate spans)
loaded_at old bytes gate spans same loaded =
    now_map (λ was. bytes ≡ was.seen) (λ was. IsLoaded was.seen gate spans) (λ was is. subst (λ (l : List ℕ). IsLoaded l gate spans) is loaded) old same

pub refused_at : (old : History) (bytes : List ℕ) (error : LogError) → Now old (λ was. bytes ≡ was.seen) → Refuses error bytes → Now old (λ was. Refuses error was.seen)
refused_at old bytes error same refuses =
    now_map (λ was. bytes ≡ was.seen) (λ was. Refuses error was.seen) (λ was is. subst (λ (l : List ℕ). Refuses error l) is refuses) old same

pub loaded_log : (old : History) (gate : ℕ) (spans : List (ℕ × ℕ)) → Now old (λ was. IsLoaded was.seen gate spans) → Now old (λ was. IsLog was.seen (entries_of was.seen))
loaded_log old gate spans loaded = now_map (λ was. IsLoaded was.seen gate spans) (λ was. IsLog was.seen (entries_of was.seen)) (λ was is. spelled_log was.seen (entries_of was.seen) is.spelled) old loaded

pub loaded_count : (old : History) (gate : ℕ) (spans : List (ℕ × ℕ)) (n : ℕ) → n ≡ length spans → Now old (λ was. IsLoaded was.seen gate spans) → Now old (λ was. n ≡ length (entries_of was.seen))
loaded_count old gate spans n count loaded =
    now_map (λ was. IsLoaded was.seen gate spans) (λ was. n ≡ length (entries_of was.seen)) (λ was is. count ∙ ap length is.spans_are ∙ length-spans 8 (entries_of was.seen)) old loaded

pub loaded_sound : (old new : History) (gate : ℕ) (spans : List (ℕ × ℕ)) → Goes IsSynced old new → Now old (λ was. Now new (λ now. now ≡ clean was.seen)) → Now old (λ was. IsLoaded was.seen gate spans) → SoundAt new gate spans false
loaded_sound [] new gate spans went synced loaded = λ now past is. let none = went.untold refl in cc
loaded_sound (was ∷ before) new gate spans went synced loaded = λ now past is.
    let at : now ≡ clean was.seen = subst (λ (h : History). Now h (λ m. m ≡ clean was.seen)) is synced in
    let seen : now.seen ≡ was.seen = ap (λ (m : Moment). m.seen) at in
    let here : IsLoaded now.seen gate spans = subst (λ (l : List ℕ). IsLoaded l gate spans) (sym seen) loaded in
    record {
      spelled = here.spelled;
      known = known_all spans (entries_of now.seen) here.spans_are;
      rest = λ works. record { each = subst (λ (m : Moment). EachImage m (λ image. IsSpelled image (entries_of now.seen))) (sym (at ∙ ap clean (sym seen))) (each_clean now.seen (λ image. IsSpelled image (entries_of now.seen)) here.spelled); gate_is = here.gate_is; all = ap length here.spans_are ∙ length-spans 8 (entries_of now.seen) };
    }

pub whole_log : (bytes : List ℕ) (gate : ℕ) (spans : List (ℕ × ℕ)) → IsLoaded bytes gate spans → IsLog bytes (entries_of bytes)
whole_log bytes gate spans loaded = spelled_log bytes (entries_of bytes) loaded.spelled

pub whole_count : (bytes : List ℕ) (gate : ℕ) (spans : List (ℕ × ℕ)) → IsLoaded bytes gate spans → length spans ≡ length (entries_of bytes)
whole_count bytes gate spans loaded = ap length loaded.spans_are ∙ length-spans 8 (entries_of bytes)

-- where an entry stands in the bytes that were read
pub whole_span : (bytes : List ℕ) (gate : ℕ) (spans : List (ℕ × ℕ)) (i : ℕ) (span : ℕ × ℕ) → IsLoaded bytes gate spans → i < length (entries_of bytes) → span ≡ get_or spans i span → IsSpan bytes span (slice_get (entries_of bytes) i)
whole_span bytes gate spans i span loaded there is =
    let entries = entries_of bytes in
    subst (λ (s : ℕ × ℕ). IsSpan bytes s (slice_get entries i)) (sym is) (known_span bytes entries (drop (end_of entries) bytes) spans i span loaded.spelled.split (known_all spans entries loaded.spans_are) (omega (arith, whole_count bytes gate spans loaded)))
