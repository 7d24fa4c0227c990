use Rattle.mlir_print.proofs.Added.{unnamed_step}
use Rattle.mlir_print.proofs.filling.add_unnamed.Goals as goal

pub loop-ty-preserved : goal.loop-ty-preserved
loop-ty-preserved c = unnamed_step _ _ _ c.args.types.now c.loop-ty.ty-index c.loop-ty-test.true c.loop-ty.invariant c.in_ok-add_none.ensures
