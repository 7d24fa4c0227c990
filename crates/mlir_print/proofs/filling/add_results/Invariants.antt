use Rattle.std.proofs.Common.{length, drop}
use Rattle.mlir_ir.specs.Values.{result_values}
use Rattle.mlir_print.proofs.Added.{AreAdding}
use Rattle.mlir_print.proofs.filling.add_results.Given as goal

abbrev pub invariant-loop-pack : goal.invariant-loop-pack
invariant-loop-pack l =
    AreAdding l.fn.row.items l.row.items (length l.types) (length l.left) (λ at. result_values at l.packs l.types) (λ at. result_values at (drop l.pack-index l.packs) l.left)
