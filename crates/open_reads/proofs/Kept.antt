-- Open reads that keep their room: those that are struck, and those that are left where one ends.
use Rattle.std.proofs.Common.{◌≡◌, ℕ, ◌+◌, ◌<◌, ◌≤◌, ◌==◌, Bool, true, false, not, if◌then◌else◌, List, [], ◌∷◌, ◌++◌, map, length, refl, sym, ap, subst, arith}
use Rattle.std.specs.Prelude.{filter}
use Rattle.salus_types.specs.Volume.{Shape, blocks}
use Rattle.salus_types.specs.declared.strike.Strike.{Strike}
use Rattle.salus_types.specs.declared.strike.Strike.TheVariants as strike
use Rattle.salus_message.specs.declared.replies.Answer.{Answer}
use Rattle.salus_model.specs.Waiting.{Taken, Question}
use Rattle.client_rules.specs.State.{Open}
use Rattle.client_rules.specs.Tables.{answers, struck, struck_at, closed_at}
use Rattle.verified_read.specs.declared.verdict.Verdict.{Verdict}
use Rattle.verified_read.specs.declared.verdict.Verdict.TheVariants as said
use Rattle.verified_read.specs.Judging.{left_by}
use Rattle.verified_read.proofs.Places.{all_filter}
use Rattle.client_asking.specs.Lining.{AreUpTo, AreWithin, Rise, numbers_taken}
use Rattle.client_asking.proofs.Rising.{rise_lower}
use Rattle.client_asking.proofs.Left.{length_map}
use Rattle.open_reads.specs.Telling.{KeepsRoom}

pub keeps_all : (asked : List Open) → KeepsRoom asked asked
keeps_all asked = record { room = λ p line room. room; up_to = λ high line up_to. up_to }

pub keeps_same : (before after : List Open) → after ≡ before → KeepsRoom before after
keeps_same before after same = subst (λ l. KeepsRoom before l) (sym same) (keeps_all before)

pub keeps_on : (first second third : List Open) → KeepsRoom first second → KeepsRoom second third → KeepsRoom first third
keeps_on first second third one two = record {
  room = λ p line room. two.room p line (one.room p line room);
  up_to = λ high line up_to. two.up_to high line (one.up_to high line up_to);
}

-- ---- some of them are left

pub filtered_rise : (test : Open → Bool) (low : ℕ) (asked : List Open) (behind : List ℕ) → Rise low (map (λ (o : Open). o.question.number) asked ++ behind)
    → Rise low (map (λ (o : Open). o.question.number) (filter test asked) ++ behind)
filtered_rise test low [] behind rises = rises
filtered_rise test low (o ∷ asked) behind rises = by_test (test o) (filtered_rise test (o.question.number + 1) asked behind rises.1)
  where
    by_test : (b : Bool) → Rise (o.question.number + 1) (map (λ (x : Open). x.question.number) (filter test asked) ++ behind)
        → Rise low (map (λ (x : Open). x.question.number) (if b then o ∷ filter test asked else filter test asked) ++ behind)
    by_test true rest = (rises.0, rest)
    by_test false rest = rise_lower low (o.question.number + 1) (map (λ (x : Open). x.question.number) (filter test asked) ++ behind) (omega (arith, rises.0)) rest

pub filtered_up_to : (test : Open → Bool) (high : ℕ) (asked : List Open) (behind : List ℕ) → AreUpTo high (map (λ (o : Open). o.question.number) asked ++ behind)
    → AreUpTo high (map (λ (o : Open). o.question.number) (filter test asked) ++ behind)
filtered_up_to test high [] behind up_to = up_to
filtered_up_to test high (o ∷ asked) behind up_to = by_test (test o) (filtered_up_to test high asked behind up_to.1)
  where
    by_test : (b : Bool) → AreUpTo high (map (λ (x : Open). x.question.number) (filter test asked) ++ behind)
        → AreUpTo high (map (λ (x : Open). x.question.number) (if b then o ∷ filter test asked else filter test asked) ++ behind)
    by_test true rest = (up_to.0, rest)
    by_test false rest = rest

pub filtered_fewer : (test : Open → Bool) (asked : List Open) → length (filter test asked) ≤ length asked
filtered_fewer test [] = omega arith
filtered_fewer test (o ∷ asked) = by_test (test o) (filtered_fewer test asked)
  where
    by_test : (b : Bool) → length (filter test asked) ≤ length asked → length (if b then o ∷ filter test asked else filter test asked) ≤ length (o ∷ asked)
    by_test true rest = omega (arith, rest)
    by_test false rest = omega (arith, rest)

pub keeps_closed : (number : ℕ) (asked : List Open) → KeepsRoom asked (closed_at number asked)
keeps_closed number asked =
    let test : Open → Bool = λ (o : Open). not (o.question.number == number) in
    record {
      room = λ p line room. record {
        accepted = room.accepted;
        within = all_filter (λ (o : Open). o.question.block < blocks p.window.shape) test asked room.within;
        rises = filtered_rise test 0 asked (map (λ (t : Taken). t.event) line) room.rises;
        few_reads = let fewer = filtered_fewer test asked in omega (arith, room.few_reads);
        few_barriers = room.few_barriers;
        few_batches = room.few_batches;
      };
      up_to = λ high line up_to. filtered_up_to test high asked (map (λ (t : Taken). t.event) line) up_to;
    }

-- ---- one of them is struck

question_struck : (b : Bool) (by : ℕ) (s : Strike) (o : Open) → (if b then struck by s o else o).question ≡ o.question
question_struck true by s o = refl
question_struck false by s o = refl

pub numbers_struck : (a : Answer) (by : ℕ) (s : Strike) (asked : List Open) → map (λ (o : Open). o.question.number) (struck_at a by s asked) ≡ map (λ (o : Open). o.question.number) asked
numbers_struck a by s [] = refl
numbers_struck a by s (o ∷ asked) = λ j. (question_struck (answers a o) by s o j).number ∷ numbers_struck a by s asked j

pub within_struck : (shape : Shape) (a : Answer) (by : ℕ) (s : Strike) (asked : List Open) → AreWithin shape asked → AreWithin shape (struck_at a by s asked)
within_struck shape a by s [] within = within
within_struck shape a by s (o ∷ asked) within =
    (subst (λ (q : Question). q.block < blocks shape) (sym (question_struck (answers a o) by s o)) within.0, within_struck shape a by s asked within.1)

pub keeps_struck : (a : Answer) (by : ℕ) (s : Strike) (asked : List Open) → KeepsRoom asked (struck_at a by s asked)
keeps_struck a by s asked =
    let numbers : (line : List Taken) → numbers_taken (struck_at a by s asked) line ≡ numbers_taken asked line =
    λ line. ap (λ ns. ns ++ map (λ (t : Taken). t.event) line) (numbers_struck a by s asked) in
    record {
      room = λ p line room. record {
        accepted = room.accepted;
        within = within_struck p.window.shape a by s asked room.within;
        rises = subst (λ ns. Rise 0 ns) (sym (numbers line)) room.rises;
        few_reads = let many = length_map (λ (o : Open). if answers a o then struck by s o else o) asked in omega (arith, room.few_reads);
        few_barriers = room.few_barriers;
        few_batches = room.few_batches;
      };
      up_to = λ high line up_to. subst (λ ns. AreUpTo high ns) (sym (numbers line)) up_to;
    }

-- ---- after any verdict

pub keeps_left : (asked others : List Open) (a : Answer) (by number : ℕ) (v : Verdict) → others ≡ left_by a by number v asked → KeepsRoom asked others
keeps_left asked others a by number v is = subst (λ l. KeepsRoom asked l) (sym is) (by_verdict v)
  where
    by_verdict : (v : Verdict) → KeepsRoom asked (left_by a by number v asked)
    by_verdict said.Unknown = keeps_all asked
    by_verdict (said.Stale at) = keeps_all asked
    by_verdict said.Block = keeps_closed a.read asked
    by_verdict (said.Past at) = keeps_struck a by (strike.Past at number) asked
    by_verdict (said.Bad held got) = keeps_struck a by (strike.Bad held got) asked
