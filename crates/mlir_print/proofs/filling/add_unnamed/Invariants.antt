use Rattle.std.proofs.Common.{length, drop, []}
use Rattle.mlir_print.proofs.Added.{AreAdding}
use Rattle.mlir_print.proofs.filling.add_unnamed.Given as goal

abbrev pub invariant-loop-ty : goal.invariant-loop-ty
invariant-loop-ty l = AreAdding l.fn.row.items l.row.items (length l.types) (length (drop l.ty-index l.types)) (λ at. []) (λ at. [])
