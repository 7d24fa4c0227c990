use Rattle.std.proofs.Common.{length, drop}
use Rattle.mlir_ir.specs.Values.{pack_values}
use Rattle.mlir_print.proofs.Added.{AreAdding}
use Rattle.mlir_print.proofs.filling.add_pack.Given as goal

abbrev pub invariant-loop-place : goal.invariant-loop-place
invariant-loop-place l = AreAdding l.fn.row.items l.row.items (length l.types) (length (drop l.place l.types)) (λ at. pack_values at l.pack 0 l.types) (λ at. pack_values at l.pack l.place (drop l.place l.types))
