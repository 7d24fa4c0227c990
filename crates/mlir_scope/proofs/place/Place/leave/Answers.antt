use Rattle.std.proofs.Common.{◌∙◌, ap, sym, map}
use Rattle.std.proofs.lemmas.List.{take-map}
use Rattle.mlir_scope.specs.InScope.{value_of}
use Rattle.mlir_scope.proofs.place.Place.leave.Goals as goal

pub returns-clause-scope : goal.returns-clause-scope
returns-clause-scope c = ap (map value_of) c.truncate.ensures ∙ sym (take-map value_of c.args.len c.args.self.now.scope.values.items)
