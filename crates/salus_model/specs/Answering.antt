-- What an answer is worth, and what the replicas answered to a question so far.
use Rattle.std.specs.Prelude.{ℕ, Bool, true, false, ◌==◌, ◌&&◌, ◌||◌, nat_lt, if◌then◌else◌, List, [], ◌∷◌, map, length, is_some, Option, None, Some}
use Rattle.std.specs.List.{list_all, range_with_len}
use Rattle.std.specs.Option.{option_or}
use Rattle.salus_hash.specs.Hash.{leaf}
use Rattle.salus_types.specs.Volume.{Shape}
use Rattle.salus_types.specs.declared.names.NodeName.{NodeName}
use Rattle.salus_types.specs.declared.strike.Strike.{Strike}
use Rattle.salus_types.specs.declared.strike.Strike.TheVariants as strike
use Rattle.merkle_region.specs.Tree.{climb, verified}
use Rattle.salus_message.specs.declared.replies.Answer.{Answer}
use Rattle.salus_message.specs.declared.wire.Message.TheVariants as message
use Rattle.volume_model.specs.Contents.{region_of, place_of, region_root}
use Rattle.volume_model.specs.Parts.{number_of}
use Rattle.salus_model.specs.Judge.{Judge, last_number, array}
use Rattle.salus_model.specs.Hearing.{News, Says, Past}
use Rattle.salus_model.specs.Waiting.{Question, is_asked}

-- a region's number and root under the batches so far
abbrev pub present_number : Shape → Judge → ℕ → ℕ
present_number shape judge g = number_of shape judge.now (last_number judge) g

unfoldable pub present_root : Shape → Judge → ℕ → List ℕ
present_root shape judge g = region_root shape (array judge) g

-- ---- the worth of one answer

-- It is of an older number; or its block is the present one; or its replica is struck.
pub data Verdict : Type 0 where
  Stale : Verdict
  Good : Verdict
  Struck : Strike → Verdict

-- its sender is of the block's group, and block and path are as long as the volume's
abbrev pub is_fitting : Shape → NodeName → Answer → Bool
is_fitting shape name a = (name.region == region_of shape a.block) && (length a.bytes == shape.block) && (length a.path == shape.height)

-- an answer of the present number is good if its path leads to the present root
abbrev pub verdict_present : Shape → List ℕ → Answer → Verdict
verdict_present shape root a =
    if verified root shape.height (place_of shape a.block) a.bytes a.path then Good
    else Struck (strike.Bad root (climb (place_of shape a.block) (leaf a.bytes) a.path))

abbrev pub verdict_at : Shape → List ℕ → ℕ → Answer → Verdict
verdict_at shape root number a =
    if nat_lt a.at number then Stale
    else if nat_lt number a.at then Struck (strike.Past a.at number)
    else verdict_present shape root a

abbrev pub verdict_of : Shape → Judge → Answer → Verdict
verdict_of shape judge a = verdict_at shape (present_root shape judge (region_of shape a.block)) (present_number shape judge (region_of shape a.block)) a

-- ---- the answers to a question

-- the node answers that question, in the session served
abbrev pub is_answer : Shape → Judge → Question → NodeName → Answer → Bool
is_answer shape judge q name a =
    (a.session == judge.now.session) && (a.read == q.number) && (a.block == q.block) && is_fitting shape name a

-- what news is worth to a question, with the replica that it comes from
abbrev pub verdict_in : Shape → Judge → Question → News → Option (ℕ × Verdict)
verdict_in shape judge q (Says name (message.Answer a)) = if is_answer shape judge q name a then Some (name.replica, verdict_of shape judge a) else None
verdict_in shape judge q other = None

abbrev pub is_good : Option (ℕ × Verdict) → Bool
is_good (Some (r, Good)) = true
is_good other = false

abbrev pub strike_by : ℕ → Option (ℕ × Verdict) → Option Strike
strike_by r (Some (by, Struck s)) = if by == r then Some s else None
strike_by r other = None

-- what a step was worth to a question, if the question was asked then
abbrev pub verdict_then : Shape → Question → List Past → Past → Option (ℕ × Verdict)
verdict_then shape q history p = if is_asked shape history p.before q then verdict_in shape p.before q p.news else None

-- a good answer came to the question while it was asked
unfoldable pub is_known : Shape → Question → List Past → Bool
is_known shape q [] = false
is_known shape q (p ∷ history) = is_known shape q history || is_good (verdict_then shape q history p)

-- the first strike of a replica at the question
unfoldable pub first_strike : Shape → Question → ℕ → List Past → Option Strike
first_strike shape q r [] = None
first_strike shape q r (p ∷ history) = option_or (first_strike shape q r history) (strike_by r (verdict_then shape q history p))

-- the first strike of each replica, with one more
abbrev pub strikes_with : Shape → Question → List Past → ℕ → Strike → List (Option Strike)
strikes_with shape q history by s =
    map (λ r. option_or (first_strike shape q r history) (if by == r then Some s else None)) (range_with_len 0 shape.replicas)

-- every replica is struck
abbrev pub all_struck : List (Option Strike) → Bool
all_struck strikes = list_all (λ s. is_some s) strikes
