use Rattle.std.proofs.Common.{◌≡◌, take, length}
use Rattle.mlir_scope.proofs.table.Table.truncate.Given as goal

abbrev pub invariant-loop-self : goal.invariant-loop-self
invariant-loop-self l = (l.self.values.items ≡ take (length l.self.values.items) l.fn.self.values.items) × (take l.len l.self.values.items ≡ take l.len l.fn.self.values.items)

abbrev pub decreases-loop-self : goal.decreases-loop-self
decreases-loop-self l = length l.self.values.items
