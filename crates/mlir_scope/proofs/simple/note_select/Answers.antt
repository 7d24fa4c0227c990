use Rattle.std.proofs.Common.{map}
use Rattle.mlir_scope.specs.Reading.{written_said}
use Rattle.mlir_scope.specs.Scopes.{scope_said}
use Rattle.mlir_scope.proofs.Simples.{select_parts}
use Rattle.mlir_scope.proofs.simple.note_select.Goals as goal

pub returns-in-Some : goal.returns-in-Some
returns-in-Some c =
    select_parts (scope_said c.args.scope.now) c.args.uses.now c.in-Some.choices.now c.in-Some.field-0-0.now (map written_said c.args.types.now) c.args.first.now.best c.note_truth.new.first.best c.note_same.new.first.best
    c.in-Some.ensures.cases.0 c.note_truth.ensures c.note_same.ensures
