use Rattle.mlir_print.proofs.Added.{results_step, results_end}
use Rattle.mlir_print.proofs.filling.add_results.Goals as goal

pub loop-pack-preserved : goal.loop-pack-preserved
loop-pack-preserved c =
    results_step _ _ _ c.args.packs.now c.args.types.now c.loop-pack.left.now c.split_at.result.0.now c.split_at.result.1.now c.loop-pack.pack-index c.pack-item.result c.loop-pack-test.true c.pack-item.is (cc) (cc) c.in_ok-add_pack.ensures c.loop-pack.invariant

pub returns : goal.returns
returns c = results_end _ _ _ c.args.packs.now c.args.types.now c.loop-pack.left.now c.loop-pack.pack-index c.loop-pack-test.false c.loop-pack.invariant c.in_ok-add_unnamed.ensures
