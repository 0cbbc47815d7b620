-- What an answer is worth to the head, and what has become of its question and of its block.
use Rattle.std.specs.Prelude.{◌≡◌, ℕ, ◌<◌, true, List, ◌++◌}
use Rattle.salus_types.specs.Volume.{blocks}
use Rattle.salus_types.specs.declared.names.NodeName.{NodeName}
use Rattle.salus_types.specs.declared.strike.Strike.{Strike}
use Rattle.salus_message.specs.declared.replies.Answer.{Answer}
use Rattle.merkle_region.specs.Tree.{NoTwoCollide, path_strings}
use Rattle.volume_model.specs.Contents.{contents_strings, place_of, region_of, region_root}
use Rattle.salus_model.specs.Answering.{Verdict, Stale, Good, Struck, verdict_at}
use Rattle.client_rules.specs.State.{Open}
use Rattle.client_rules.specs.Tables.{closed_at, struck_at}
use Rattle.verified_read.specs.Table.{Table}
use Rattle.verified_read.specs.Judging.{AnswersOne}
use Rattle.pruned_volume.specs.Trees.{KeptTrees, AgreesAll, is_known}
use Rattle.head_blocks.specs.declared.weighing.Weighed.{Weighed}
use Rattle.head_blocks.specs.declared.weighing.Weighed.TheVariants as weighed

-- what it is worth beside contents with which the trees agree, and beside its region's number
abbrev pub IsWorth : KeptTrees → ℕ → Answer → Verdict → Type 0
IsWorth k number a v =
    (contents : List (List ℕ)) → AgreesAll k contents → verdict_at k.shape (region_root k.shape contents (region_of k.shape a.block)) number a ≡ v

-- it answers one of the questions, and is worth that
pub record IsJudged (k : KeptTrees) (t : Table) (name : NodeName) (number : ℕ) (a : Answer) (v : Verdict) : Type 0 where
  pub one : AnswersOne t name a
  pub worth : IsWorth k number a v

-- nothing is changed
pub record IsSame (k l : KeptTrees) (t : Table) (left : List Open) : Type 0 where
  pub trees : l ≡ k
  pub asked : left ≡ t.asked

-- it answers none of the questions
pub record IsUnknown (k l : KeptTrees) (t : Table) (left : List Open) (name : NodeName) (a : Answer) : Type 0 where
  pub none : AnswersOne t name a → ⊥
  pub same : IsSame k l t left

-- it is of a number below the region's
pub record IsStale (k l : KeptTrees) (t : Table) (left : List Open) (name : NodeName) (number : ℕ) (a : Answer) : Type 0 where
  pub judged : IsJudged k t name number a Stale
  pub same : IsSame k l t left

-- its replica is struck
pub record IsStruck (k l : KeptTrees) (t : Table) (left : List Open) (name : NodeName) (number : ℕ) (a : Answer) : Type 0 where
  pub strike : Strike
  pub judged : IsJudged k t name number a (Struck strike)
  pub trees : l ≡ k
  pub asked : left ≡ struck_at a name.replica strike t.asked

-- its block is known, as all that was; and its question is closed
pub record IsGrafted (k l : KeptTrees) (t : Table) (left : List Open) (name : NodeName) (number : ℕ) (a : Answer) : Type 0 where
  pub judged : IsJudged k t name number a Good
  pub known : is_known l a.block ≡ true
  pub stays : (b : ℕ) → b < blocks k.shape → is_known k b ≡ true → is_known l b ≡ true
  pub agrees : (contents : List (List ℕ)) → AgreesAll k contents → NoTwoCollide (contents_strings k.shape contents ++ path_strings (place_of k.shape a.block) a.bytes a.path) → AgreesAll l contents
  pub asked : left ≡ closed_at a.read t.asked

abbrev pub IsWeighed : Weighed → KeptTrees → KeptTrees → Table → List Open → NodeName → ℕ → Answer → Type 0
IsWeighed weighed.Unknown k l t left name number a = IsUnknown k l t left name a
IsWeighed weighed.Stale k l t left name number a = IsStale k l t left name number a
IsWeighed weighed.Struck k l t left name number a = IsStruck k l t left name number a
IsWeighed weighed.Grafted k l t left name number a = IsGrafted k l t left name number a
