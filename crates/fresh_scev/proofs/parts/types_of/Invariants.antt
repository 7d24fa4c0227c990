use Rattle.std.proofs.Common.{◌≡◌, ◌++◌, drop}
use Rattle.mlir_ir.specs.Rules.{arg_types}
use Rattle.fresh_scev.proofs.parts.types_of.Given as goal

abbrev pub invariant-loop-arg : goal.invariant-loop-arg
invariant-loop-arg l = l.types.items ++ arg_types (drop l.arg-index l.args) ≡ arg_types l.args
