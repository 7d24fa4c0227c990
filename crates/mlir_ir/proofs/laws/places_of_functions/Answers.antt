use Rattle.mlir_ir.proofs.PlaceBreaks.{func_same}
use Rattle.mlir_ir.proofs.PlaceScopes.{func_sees}
use Rattle.mlir_ir.proofs.PlaceLabels.{func_rises}
use Rattle.mlir_ir.proofs.laws.places_of_functions.Goals as goal

pub returns-clause-breaks : goal.returns-clause-breaks
returns-clause-breaks c = func_same

pub returns-clause-scopes : goal.returns-clause-scopes
returns-clause-scopes c = func_sees

pub returns-clause-labels : goal.returns-clause-labels
returns-clause-labels c = func_rises
