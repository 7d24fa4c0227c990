-- The functions that a syntax without breaks stands for.
use Rattle.std.specs.Prelude.{ℕ, ◌≡◌, List, [], map, slice_get, Some}
use Rattle.mlir_ir.specs.Check.{IsWellFormed}
use Rattle.mlir_ir.specs.Reads.{phrase_in, plain_func}
use Rattle.mlir_ir.specs.Resolved.{funcs_of}
use Rattle.mlir_ir.specs.ScopeFaults.{text_breaks}
use Rattle.mlir_ir.specs.Syntaxes.{StandsFor}
use Rattle.mlir_ir.specs.declared.syntax.Syntax.{Syntax}
use Rattle.mlir_ir.specs.declared.types.Func.{Func}

-- the syntax breaks no rule, and stands for these functions
pub record AreFunctionsOf (syntax : Syntax) (funcs : List Func) : Type 0 where
  pub keeps : text_breaks syntax.tokens (phrase_in syntax) ≡ []
  pub same : map plain_func funcs ≡ funcs_of (phrase_in syntax)

-- the same of a syntax whose tree derives its tokens
pub record AreDerivedFunctions (syntax : Syntax) (funcs : List Func) : Type 0 where
  pub stands : StandsFor syntax syntax.tokens
  pub functions : AreFunctionsOf syntax funcs

-- each function is well formed
abbrev pub AreChecked : List Func → Type 0
AreChecked funcs = (k : ℕ) (f : Func) → slice_get funcs k ≡ Some f → IsWellFormed f
