use Rattle.mlir_scope.proofs.ResolvedNames.{are_placed, are_apart}
use Rattle.mlir_scope.proofs.ResolvedModules.{calls_fit}
use Rattle.mlir_scope.proofs.TypedSyntaxes.{functions_checked}
use Rattle.mlir_scope.proofs.laws.modules_of_syntaxes.Goals as goal

pub returns-clause-placed : goal.returns-clause-placed
returns-clause-placed c = are_placed

pub returns-clause-apart : goal.returns-clause-apart
returns-clause-apart c = are_apart

pub returns-clause-calls : goal.returns-clause-calls
returns-clause-calls c = calls_fit

pub returns-clause-checked : goal.returns-clause-checked
returns-clause-checked c = functions_checked
