-- What an answer is worth to a table of open questions, and what becomes of the questions.
use Rattle.std.specs.Prelude.{◌≡◌, ◌≢◌, ℕ, ◌<◌, if◌then◌else◌, List, length, Option, None, Some, IsSome}
use Rattle.std.specs.Option.{option_map}
use Rattle.salus_hash.specs.Hash.{leaf}
use Rattle.salus_types.specs.declared.names.NodeName.{NodeName}
use Rattle.salus_types.specs.declared.strike.Strike.TheVariants as strike
use Rattle.merkle_region.specs.Tree.{climb, Verifies}
use Rattle.salus_message.specs.declared.replies.Answer.{Answer}
use Rattle.volume_model.specs.Contents.{region_of, place_of}
use Rattle.salus_model.specs.Answering.{Verdict, Stale, Good, Struck, verdict_at, is_fitting}
use Rattle.client_rules.specs.State.{Open}
use Rattle.client_rules.specs.Tables.{open_at, closed_at, struck_at}
use Rattle.verified_read.specs.declared.verdict.Standing.{Standing}
use Rattle.verified_read.specs.declared.verdict.Standing.TheVariants as standing
use Rattle.verified_read.specs.declared.verdict.Verdict.{Verdict as Said}
use Rattle.verified_read.specs.declared.verdict.Verdict.TheVariants as said
use Rattle.verified_read.specs.Table.{Table}

-- ---- by the rules

-- what an answer is worth, beside a region's number and root; None where it answers none of the questions
abbrev pub worth_in : Table → NodeName → Answer → ℕ → List ℕ → Option Verdict
worth_in table name a number root =
    if is_fitting table.shape name a then option_map (λ o. verdict_at table.shape root number a) (open_at a table.asked) else None

-- how that is said
abbrev pub said_of : Answer → Option Verdict → Said
said_of a None = said.Unknown
said_of a (Some Stale) = said.Stale a.at
said_of a (Some Good) = said.Block
said_of a (Some (Struck (strike.Past at number))) = said.Past at
said_of a (Some (Struck (strike.Bad held got))) = said.Bad held got

-- how it is said before its path is climbed
abbrev pub standing_of : Answer → Option Verdict → Standing
standing_of a None = standing.Unknown
standing_of a (Some Stale) = standing.Stale a.at
standing_of a (Some Good) = standing.Present
standing_of a (Some (Struck (strike.Past at number))) = standing.Past at
standing_of a (Some (Struck (strike.Bad held got))) = standing.Present

-- ---- in plain words

-- It answers one of the questions: that question is for its block, its sender is of the block's group, and block and path
-- are as long as the volume's.
pub record AnswersOne (table : Table) (name : NodeName) (a : Answer) : Type 0 where
  pub asked : IsSome (open_at a table.asked)
  pub group : name.region ≡ region_of table.shape a.block
  pub block : length a.bytes ≡ table.shape.block
  pub path : length a.path ≡ table.shape.height

-- and is of the region's present number
abbrev pub IsPresent : Table → NodeName → Answer → ℕ → Type 0
IsPresent table name a number = AnswersOne table name a × (a.at ≡ number)

-- the digest that its path leads to
abbrev pub reached : Table → Answer → List ℕ
reached table a = climb (place_of table.shape a.block) (leaf a.bytes) a.path

-- its path is climbed: it leads to the root, or to another digest
abbrev pub IsClimbed : Table → Answer → List ℕ → Said → Type 0
IsClimbed table a root said.Block = Verifies root table.shape.height (place_of table.shape a.block) a.bytes a.path
IsClimbed table a root (said.Bad held got) = (reached table a ≢ root) × (held ≡ root) × (got ≡ reached table a)
IsClimbed table a root other = ⊥

-- when each verdict comes; no two come at once
abbrev pub IsSaid : Table → NodeName → Answer → ℕ → List ℕ → Said → Type 0
IsSaid table name a number root said.Unknown = AnswersOne table name a → ⊥
IsSaid table name a number root (said.Past at) = AnswersOne table name a × (number < a.at) × (at ≡ a.at)
IsSaid table name a number root (said.Stale at) = AnswersOne table name a × (a.at < number) × (at ≡ a.at)
IsSaid table name a number root said.Block = IsPresent table name a number × Verifies root table.shape.height (place_of table.shape a.block) a.bytes a.path
IsSaid table name a number root (said.Bad held got) = IsPresent table name a number × (reached table a ≢ root) × (held ≡ root) × (got ≡ reached table a)

-- the same before its path is climbed
abbrev pub Stands : Table → NodeName → Answer → ℕ → Standing → Type 0
Stands table name a number standing.Unknown = AnswersOne table name a → ⊥
Stands table name a number (standing.Past at) = AnswersOne table name a × (number < a.at) × (at ≡ a.at)
Stands table name a number (standing.Stale at) = AnswersOne table name a × (a.at < number) × (at ≡ a.at)
Stands table name a number standing.Present = IsPresent table name a number

-- ---- what becomes of the questions

-- The block closes its question. An answer from past the region's number, or with a path to another digest, strikes its
-- replica. Else the questions stay as they are.
abbrev pub left_by : Answer → ℕ → ℕ → Said → List Open → List Open
left_by a by number (said.Past at) asked = struck_at a by (strike.Past at number) asked
left_by a by number said.Block asked = closed_at a.read asked
left_by a by number (said.Bad held got) asked = struck_at a by (strike.Bad held got) asked
left_by a by number other asked = asked

-- before its path is climbed
abbrev pub left_before : Answer → ℕ → ℕ → Standing → List Open → List Open
left_before a by number (standing.Past at) asked = struck_at a by (strike.Past at number) asked
left_before a by number other asked = asked
