use Rattle.mlir_scope.specs.Blocks.{operations}
use Rattle.mlir_scope.specs.Said.{line_said}
use Rattle.mlir_scope.specs.Scopes.{scope_said}
use Rattle.mlir_scope.specs.Texts.{funcs_in}
use Rattle.mlir_scope.specs.Walks.{in_scope}
use Rattle.mlir_scope.proofs.TextNotes.{body_noted}
use Rattle.mlir_scope.proofs.function_faults.note_body.Goals as goal

pub returns : goal.returns
returns c =
    let tokens = c.args.text.now.tokens.now in
    let all = c.in_ok-note_operations.ensures in
    body_noted (funcs_in c.args.text.now) (line_said tokens c.args.f) (line_said tokens c.args.body) (operations tokens c.body_ops-ops.result) (scope_said c.new.result) (in_scope c.note_operations.new.w)
    c.args.first.now.best c.note_size.new.first.best c.note_operations.new.w.first.best c.note_return.new.w.first.best
    (c.body_ops-ops.ensures tokens) c.new.ensures c.in_ok-note_size.ensures all.noted_all all.scope c.in_ok-note_return.ensures.noted_all
