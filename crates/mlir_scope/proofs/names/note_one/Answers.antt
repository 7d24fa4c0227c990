use Rattle.mlir_scope.specs.Reading.{defined_said}
use Rattle.mlir_scope.specs.Scopes.{scope_said}
use Rattle.mlir_scope.proofs.Repeats.{repeated_one}
use Rattle.mlir_scope.proofs.names.note_one.Goals as goal

pub returns : goal.returns
returns c =
    repeated_one c.args.first.now.best c.note_if.new.self.best (scope_said c.args.scope.now) (defined_said c.args.d) c.has.result c.has.ensures c.note_if.ensures
