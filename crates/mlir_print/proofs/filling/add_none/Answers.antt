use Rattle.mlir_print.specs.declared.naming.Slot.TheVariants.{Empty}
use Rattle.mlir_print.proofs.Added.{added_one}
use Rattle.mlir_print.proofs.filling.add_none.Goals as goal

pub returns : goal.returns
returns c = added_one _ _ Empty c.in_ok-push.ensures.items
