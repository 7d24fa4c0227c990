-- Operations that are added to those that are built.
use Rattle.std.specs.Prelude.{List}
use Rattle.mlir_ir.specs.Operations.{SimpleOp}
use Rattle.mlir_ir.specs.declared.types.IrType.{IrType}
use Rattle.pass_copy.specs.Built.{IsBehind, fresh_at}
use Rattle.pass_copy.specs.declared.building.Out.{Out}
use Rattle.pass_expand.specs.Expanded.{given_names}

-- these operations more were built, each with one value of the type and the next fresh name
abbrev pub Adds : Out → IrType → List SimpleOp → Out → Type 0
Adds old ty does new = IsBehind old (given_names (fresh_at old) ty old.fresh.given does) new
