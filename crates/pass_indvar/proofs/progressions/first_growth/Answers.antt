use Rattle.std.proofs.Common.{ap, arith, length}
use Rattle.pass_indvar.specs.Grown.{progression_in, progressions_in}
use Rattle.pass_indvar.proofs.SoughtProducts.{sought_here, sought_next}
use Rattle.pass_indvar.proofs.progressions.first_growth.Goals as goal

pub returns-in-Some : goal.returns-in-Some
returns-in-Some c =
    let now = c.loop-op in
    sought_here c.args.f.now c.args.target.0 c.args.at c.args.ops.now c.args.exprs.now now.op-index c.op-item.result c.loop-op-test.true c.op-item.is now.at now.passed now.invariant _
    c.entry-expr.ensures (progressions_in c.in_ok-found.field-0) c.in_ok-found.ensures (progression_in c.in-Some.found) (ap progressions_in c.in-Some.is)

pub loop-op-preserved : goal.loop-op-preserved
loop-op-preserved c =
    let now = c.loop-op in
    let n = ap length c.as_slice.ensures in
    let k = c.in_ok-pass_kind.ensures in
    let a = c.in_ok-advance.ensures in
    sought_next c.args.f.now c.args.target.0 c.args.at c.args.ops.now c.args.exprs.now now.op-index c.op-item.result c.loop-op-test.true c.op-item.is now.at now.passed now.invariant _
    c.entry-expr.ensures (progressions_in c.in_ok-found.field-0) c.in_ok-found.ensures c.advance.new.at c.pass_entry.new.entries (ap progressions_in c.in_default.is) (omega (arith, n, k, a)) c.in_ok-pass_entry.ensures
