-- What is built of a loop's results that have exit values, from what programs keep of them.
use Rattle.std.specs.Prelude.{ℕ, ◌≡◌, ◌+◌, List, [], ◌∷◌, map, Option, None, Some, if◌then◌else◌}
use Rattle.mlir_ir.specs.Operations.{nil, next, joined}
use Rattle.mlir_ir.specs.Typed.{Types}
use Rattle.mlir_ir.specs.View.{view_ops}
use Rattle.mlir_ir.specs.declared.types.Func.{Func}
use Rattle.mlir_ir.specs.declared.types.IrType.{IrType}
use Rattle.pass_copy.specs.Replaced.{Operation, op_labels}
use Rattle.pass_copy.specs.declared.building.Out.{Out}
use Rattle.pass_expand.specs.Expandable.{IsInSymbols}
use Rattle.pass_indvar.specs.Exits.{Exit, fits}
use Rattle.pass_indvar.specs.declared.chosen.Chosen.{Chosen}
use Rattle.scev_tree.specs.Polynomial.{Polynomial}
use Rattle.scev_tree.specs.Tree.{polynomial_of}

abbrev pub exit_of : Chosen → Exit
exit_of c = record { result = c.result.0; ty = c.ty; expr = polynomial_of c.expr.tree }

abbrev pub exits_in : List Chosen → List Exit
exits_in found = map exit_of found

-- no counter stands in the expressions
abbrev pub ArePlain : List Exit → Type 0
ArePlain [] = Unit {0}
ArePlain (e ∷ es) = IsInSymbols e.expr × ArePlain es

abbrev pub chosen_exits : Option Chosen → List Exit
chosen_exits None = []
chosen_exits (Some c) = exit_of c ∷ []

-- the first of some entries, if it has an expression
abbrev pub first_entry : List (Option Polynomial) → Option Polynomial
first_entry [] = None
first_entry (e ∷ es) = e

-- the exit of one result, where its expression fits
abbrev pub exit_if : Func → Types → ℕ → IrType → Option Polynomial → List Exit
exit_if f T l ty None = []
exit_if f T l ty (Some p) = if fits f T l ty p then record { result = l; ty = ty; expr = p } ∷ [] else []

-- a loop was built, with its names
pub record IsLoopBehind (old : Out) (o : Operation) (new : Out) : Type 0 where
  pub ops : view_ops new.ops.items ≡ joined (view_ops old.ops.items) (next o.packs o.results o.kind nil)
  pub at : new.at ≡ old.at + op_labels o
  pub names : new.fresh ≡ old.fresh
