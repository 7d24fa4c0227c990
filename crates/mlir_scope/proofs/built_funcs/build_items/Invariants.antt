use Rattle.std.proofs.Common.{◌≡◌, ◌+◌, length}
use Rattle.mlir_ir.specs.View.{view_items}
use Rattle.mlir_scope.specs.Blocks.{operations}
use Rattle.mlir_scope.specs.Built.{scope_at}
use Rattle.mlir_scope.specs.BuiltFunctions.{items_said}
use Rattle.mlir_scope.specs.Walked.{steps}
use Rattle.mlir_scope.proofs.BuiltItems.{ItemsKept, left_items}
use Rattle.mlir_scope.proofs.built_funcs.build_items.Given as goal

abbrev pub invariant-each : goal.invariant-each
invariant-each l =
    ItemsKept l.func (scope_at l.fn.place) (scope_at l.place) (view_items l.made.items) (left_items l.origin l.func l.number l.left l.place) (items_said l.origin l.func l.ops l.fn.place)
    × (l.number ≡ length l.made.items + 1)

abbrev pub decreases-each : goal.decreases-each
decreases-each l = steps (operations l.origin.tokens.now l.left)
