use Rattle.std.proofs.Common.{◌≡◌, ◌≤◌, ◌+◌, ◌++◌}
use Rattle.mlir_ir.specs.ScopeFaults as faults
use Rattle.mlir_scope.specs.Blocks.{operations}
use Rattle.mlir_scope.specs.Noted.{noted}
use Rattle.mlir_scope.specs.Said.{said}
use Rattle.mlir_scope.specs.Texts.{funcs_in}
use Rattle.mlir_scope.specs.Walked.{steps, inner_steps}
use Rattle.mlir_scope.specs.Walks.{in_scope}
use Rattle.mlir_scope.proofs.walk.+walking.Given as goal

abbrev pub invariant-note_block-each : goal.invariant-note_block-each
invariant-note_block-each l =
    (noted l.w.first.best (faults.block_breaks (funcs_in l.text) (operations l.text.tokens.now l.left) l.loops (in_scope l.w))
    ≡ noted l.fn.w.first.best (faults.block_breaks (funcs_in l.text) (operations l.text.tokens.now l.ops) l.loops (in_scope l.fn.w)))
    × ((in_scope l.w ++ faults.defined_by (operations l.text.tokens.now l.left)) ≡ (in_scope l.fn.w ++ faults.defined_by (operations l.text.tokens.now l.ops)))
    × (steps (operations l.text.tokens.now l.left) ≤ steps (operations l.text.tokens.now l.ops))

abbrev pub decreases-note_block-each : goal.decreases-note_block-each
decreases-note_block-each l = steps (operations l.text.tokens.now l.left)

abbrev pub decreases-note_block : goal.decreases-note_block
decreases-note_block l = steps (operations l.text.now.tokens.now l.ops)

abbrev pub decreases-note_kind : goal.decreases-note_kind
decreases-note_kind l = 5 + inner_steps (said l.text.now.tokens.now l.kind.now)

abbrev pub decreases-note_if : goal.decreases-note_if
decreases-note_if l = 4 + inner_steps (said l.text.now.tokens.now l.kind.now)

abbrev pub decreases-note_for : goal.decreases-note_for
decreases-note_for l = 4 + inner_steps (said l.text.now.tokens.now l.kind.now)

abbrev pub decreases-note_while : goal.decreases-note_while
decreases-note_while l = 4 + inner_steps (said l.text.now.tokens.now l.kind.now)

abbrev pub decreases-note_else : goal.decreases-note_else
decreases-note_else l = 3 + inner_steps (said l.text.now.tokens.now l.kind.now)

abbrev pub decreases-note_body : goal.decreases-note_body
decreases-note_body l = 3 + inner_steps (said l.text.now.tokens.now l.kind.now)

abbrev pub decreases-note_before : goal.decreases-note_before
decreases-note_before l = 3 + inner_steps (said l.text.now.tokens.now l.kind.now)

abbrev pub decreases-note_after : goal.decreases-note_after
decreases-note_after l = 3 + inner_steps (said l.text.now.tokens.now l.kind.now)
