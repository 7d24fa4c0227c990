use Rattle.mlir_ir.proofs.TypedFunctions.{func_forth, func_back}
use Rattle.mlir_ir.proofs.SizedFunctions.{func_sized, sized_func}
use Rattle.mlir_ir.proofs.laws.breaks_of_functions.Goals as goal

pub returns-clause-others : goal.returns-clause-others
returns-clause-others c = λ f. (func_forth f, λ h. func_back f h.0 h.1)

pub returns-clause-limits : goal.returns-clause-limits
returns-clause-limits c = λ f. (func_sized f, sized_func f)
