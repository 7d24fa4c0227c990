use Rattle.fresh_scev.specs.Loops.{IsAtValue}
use Rattle.std.specs.Prelude.{IsTrue}
use Rattle.scev_tree.specs.Tree.{polynomial_of}
use Rattle.fresh_scev.proofs.ExitValues.{guarded_found}
use Rattle.fresh_scev.proofs.results.guarded_value.Goals as goal

pub returns-in_ok-value_at : goal.returns-in_ok-value_at
returns-in_ok-value_at c =
    let a = c.args.a.now in
    guarded_found a.w (IsTrue c.args.proved) (IsAtValue a.w c.args.counter.0 c.args.e.now (polynomial_of a.tree)) _ c.if-proved.true c.in_ok-value_at.ensures
