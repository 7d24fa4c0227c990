use Rattle.std.proofs.Common.{◌≡◌, ◌+◌, ◌++◌, drop}
use Rattle.mlir_ir.specs.Loops.{items_loops}
use Rattle.mlir_ir.proofs.loop_labels.push_items.Given as goal

abbrev pub invariant-loop-k : goal.invariant-loop-k
invariant-loop-k l = l.out.items ++ items_loops l.func (l.k + 1) (drop l.k l.items) ≡ l.fn.out.items ++ items_loops l.func 1 l.items
