-- A function that breaks no rule but limits is well formed exactly where it keeps the limits.
use Rattle.std.specs.Prelude.{◌↔◌}
use Rattle.mlir_ir.specs.Check.{breaks, IsWellFormed}
use Rattle.mlir_ir.specs.WellFormed.{IsSized, OnlySize}
use Rattle.mlir_ir.specs.declared.types.Func.{Func}
use Rattle.mlir_ir.proofs.SizedFunctions.{well_formed, is_well_formed}
use Rattle.mlir_ir.proofs.TypedFunctions.{func_forth}

pub within_limits : (f : Func) → OnlySize (breaks f) → IsSized f ↔ IsWellFormed f
within_limits f o = (λ s. let p = func_forth f o in is_well_formed f p.0 p.1 s, λ w. (well_formed f w).2)
