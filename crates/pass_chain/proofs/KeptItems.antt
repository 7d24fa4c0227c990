-- Items one after another that keep the limits.
use Rattle.std.proofs.Common.{ℕ, List}
use Rattle.mlir_ir.specs.Operations.{OpList}
use Rattle.pass_chain.specs.Kept.{KeepsItems}

-- all keep the limits exactly where those that are left do
pub record AreKeeping (first left : ℕ) (whole items : List OpList) : Type 0 where
  pub forth : KeepsItems first whole → KeepsItems left items
  pub back : KeepsItems left items → KeepsItems first whole
