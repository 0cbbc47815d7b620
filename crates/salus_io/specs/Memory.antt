-- What there is to know of a source and a sink over memory.
use Rattle.std.specs.Prelude.{ℕ, List}

-- a source over memory: the bytes that are left, how many a call gives at most, the calls that are to fail, counted
-- from the next one, which is 1, and how often one has failed
pub record SourceState : Type 0 where
  pub left : List ℕ
  pub piece : ℕ
  pub failing : List ℕ
  pub faults : ℕ

-- a sink over memory: the bytes that it holds, and the rest likewise
pub record SinkState : Type 0 where
  pub held : List ℕ
  pub piece : ℕ
  pub failing : List ℕ
  pub faults : ℕ
