use Rattle.std.proofs.Common.{refl}
use Rattle.mlir_print.proofs.Added.{pack_step}
use Rattle.mlir_print.proofs.filling.add_pack.Goals as goal

pub loop-place-preserved : goal.loop-place-preserved
loop-place-preserved c =
    pack_step _ _ _ c.args.pack.now c.args.types.now c.loop-place.place c.index-types-place.result _ c.loop-place-test.true c.index-types-place.is (λ at. refl) c.in_ok-push.ensures.items c.loop-place.invariant
