use Rattle.std.proofs.Common.{◌∙◌, sym}
use Rattle.mlir_scope.specs.Reading.{use_said}
use Rattle.mlir_scope.specs.Scopes.{scope_said}
use Rattle.mlir_scope.proofs.UsesFound.{use_found}
use Rattle.mlir_scope.proofs.uses.note_use.Goals as goal

pub returns-then-is_some : goal.returns-then-is_some
returns-then-is_some c =
    use_found c.args.first.now.best (scope_said c.args.scope.now) c.args.at (use_said c.args.u) c.find.result c.find.ensures
    (sym c.is_some.ensures ∙ c.if-is_some.true)
