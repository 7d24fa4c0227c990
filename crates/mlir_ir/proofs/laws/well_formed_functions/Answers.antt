use Rattle.mlir_ir.proofs.SizedFunctions.{well_formed, is_well_formed}
use Rattle.mlir_ir.proofs.laws.well_formed_functions.Goals as goal

pub returns : goal.returns
returns c = λ f. (well_formed f, λ h. is_well_formed f h.0 h.1 h.2)
