use Rattle.std.proofs.Common.{arith, ◌≡◌, drop, sym}
use Rattle.std.proofs.lemmas.Grind.{common_steps}
use Rattle.mlir_ir.proofs.TypeAt.{packs_count, result_some, result_none}
use Rattle.mlir_ir.proofs.lookup.result_type.Goals as goal

pub returns-then-index-results : goal.returns-then-index-results
returns-then-index-results c =
    result_some
    c.args.at
    c.args.packs.now
    c.args.results.now
    c.args.label
    c.loop-pack.pack-index
    c.loop-pack.left
    c.pack-item.result
    c.index-results-index.result
    c.if-label-at.false
    c.loop-pack.invariant
    c.loop-pack-test.true
    c.pack-item.is
    c.if-left-pack.true
    c.if-index-results.true
    c.index-results-index.is

pub returns : goal.returns
returns c =
    let e : packs_count (drop c.loop-pack.pack-index c.args.packs.now) ≡ 0 = grind (arith, common_steps) in
    sym (result_none c.args.at c.args.packs.now c.args.results.now c.args.label (omega (arith, e, c.loop-pack.invariant)))
