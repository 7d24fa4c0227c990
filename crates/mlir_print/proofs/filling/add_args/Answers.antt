use Rattle.std.proofs.Common.{refl}
use Rattle.mlir_print.proofs.Added.{args_step}
use Rattle.mlir_print.proofs.filling.add_args.Goals as goal

pub loop-arg-preserved : goal.loop-arg-preserved
loop-arg-preserved c = args_step _ _ _ c.args.args.now c.loop-arg.arg-index c.arg-item.result _ c.loop-arg-test.true c.arg-item.is (λ at. refl) c.in_ok-push.ensures.items c.loop-arg.invariant
