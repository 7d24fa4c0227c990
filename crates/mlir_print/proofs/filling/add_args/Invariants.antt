use Rattle.std.proofs.Common.{length, drop}
use Rattle.mlir_ir.specs.Values.{arg_values}
use Rattle.mlir_print.proofs.Added.{AreAdding}
use Rattle.mlir_print.proofs.filling.add_args.Given as goal

abbrev pub invariant-loop-arg : goal.invariant-loop-arg
invariant-loop-arg l = AreAdding l.fn.row.items l.row.items (length l.args) (length (drop l.arg-index l.args)) (λ at. arg_values at l.args) (λ at. arg_values at (drop l.arg-index l.args))
