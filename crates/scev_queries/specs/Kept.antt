-- What is kept of the functions of a module.
use Rattle.std.specs.Prelude.{◌≡◌, ℕ, List, length, slice_get, Option, Some}
use Rattle.fresh_scev.specs.Answers.{facts_shown}
use Rattle.fresh_scev.specs.Entries.{HaveCounts, HaveEntries}
use Rattle.fresh_scev.specs.Facts.{IsFacts}
use Rattle.fresh_scev.specs.Table.{AreKnown}
use Rattle.mlir_ir.specs.Check.{IsWellFormed}
use Rattle.mlir_ir.specs.declared.types.Func.{Func}
use Rattle.scev_text.specs.Naming.{naming_of}
use Rattle.scev_queries.specs.Answers.{func_named}
use Rattle.scev_queries.specs.declared.known.Known.{Known}

-- the names of a well-formed function and its facts
pub record IsKnown (k : Known) : Type 0 where
  pub formed : IsWellFormed k.func.now
  pub names : k.names ≡ naming_of k.func.now
  pub facts : IsFacts k.func.now (facts_shown k.facts)
  pub values : HaveEntries k.func.now k.facts
  pub counts : HaveCounts k.func.now k.facts
  pub within : AreKnown (facts_shown k.facts)

-- what is kept at a place is of the function at that place
pub record AreKept (funcs : List Func) (kept : List (Option Known)) : Type 0 where
  pub many : length kept ≡ length funcs
  pub each : (at : ℕ) (k : Known) → slice_get kept at ≡ Some (Some k) → (slice_get funcs at ≡ Some k.func.now) × IsKnown k

-- what is kept at a place is of the function of that name
pub record IsKeptAt (funcs : List Func) (kept : List (Option Known)) (name : List ℕ) (at : ℕ) (k : Known) : Type 0 where
  pub stands : slice_get kept at ≡ Some (Some k)
  pub named : func_named funcs name ≡ Some k.func.now
  pub known : IsKnown k
