use Rattle.std.specs.Prelude.{IsTrue}
use Rattle.scev_tree.proofs.GrowingLists.{from_false}
use Rattle.fresh_scev.specs.Expressions.{expression_of}
use Rattle.fresh_scev.proofs.ExitValues.{no_exit}
use Rattle.fresh_scev.proofs.results.exit_value.Goals as goal

pub returns-else-is_below : goal.returns-else-is_below
returns-else-is_below c =
    let a = expression_of c.args.a.now in
    no_exit (IsTrue c.args.proved) c.args.w c.args.counter.0 0 c.args.t.now a a _ c.in-Some.c c.in_ok-c.ensures c.in-Some.is
    (from_false _ _ c.is_below.ensures c.if-is_below.false)
