-- Sources and sinks in memory.
use Rattle.std.specs.Prelude.{ℕ, List}

-- a source in memory: the bytes still to come, the numbers of the calls that fail, the calls so far
-- and the faults so far
pub record MemoryInput : Type 0 where
  pub rest : List ℕ
  pub failing : List ℕ
  pub calls : ℕ
  pub faults : ℕ

-- a sink in memory: the bytes that it holds, how many more it takes in all and in one call, the
-- numbers of the calls that fail, the calls so far and the faults so far
pub record MemoryOutput : Type 0 where
  pub written : List ℕ
  pub room : ℕ
  pub piece : ℕ
  pub failing : List ℕ
  pub calls : ℕ
  pub faults : ℕ
