-- What holds of the scope in which a loop begins.
use Rattle.std.specs.Prelude.{ℕ, ◌≡◌}
use Rattle.mlir_ir.specs.Typed.{Types}
use Rattle.mlir_ir.specs.declared.types.Func.{Func}
use Rattle.pass_copy.specs.Scopes.{HasScope}

-- P holds of the scope of the loop with label t
pub record InScope (f : Func) (t : ℕ) (P : Types → Type 0) : Type 0 where
  pub there : (T : Types) → HasScope f t (λ now. now ≡ T) → P T
