use Rattle.std.proofs.Common.{◌∙◌, map}
use Rattle.mlir_scope.specs.Knowns.{known_said}
use Rattle.mlir_scope.specs.Scopes.{scope_said}
use Rattle.mlir_scope.proofs.NamesAlone.{has_known}
use Rattle.mlir_scope.proofs.scope.Scope.has.Goals as goal

pub returns : goal.returns
returns c =
    let self = c.args.self.now in
    c.is_some.ensures ∙ has_known c.find.result (map known_said self.names.values.items) (scope_said self) c.args.name.now c.find.ensures self.same
