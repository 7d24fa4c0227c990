use Rattle.std.proofs.Common.{◌<◌, arith, ◌/◌, ◌%◌}
use Rattle.step_core.specs.Parts.{Part, leaf, one, large_tag, number_part}
use Rattle.step_core.proofs.Injective.{small_number, large_number}
use Rattle.uniquing.proofs.Shaping.{large_over, small_stands, one_stands, as_is, over, over_failed}
use Rattle.uniquing.proofs.interning.intern_number.Goals as goal

pub put_part-requires-clause-word : goal.put_part-requires-clause-word
put_part-requires-clause-word g c = (leaf c.args.n, small_stands c.args.p.now.view.cells c.args.n (omega arith))

pub returns-then-n-le-MOST_SMALL-clause-interned : goal.returns-then-n-le-MOST_SMALL-clause-interned
returns-then-n-le-MOST_SMALL-clause-interned g c =
    let lt : c.args.n < 72057594037927936 = omega arith in
    as_is g.M.MemoMeaning.meaning c.args.s.now.sizes c.args.p.now.view c.put_part.new.p.view (leaf c.args.n) (number_part c.args.n) c.put_part.result (small_number c.args.n lt)
    (c.put_part.ensures.interned (leaf c.args.n) (small_stands c.args.p.now.view.cells c.args.n lt))

pub put_part-requires-2-clause-word : goal.put_part-requires-2-clause-word
put_part-requires-2-clause-word g c = (leaf (c.args.n % 4294967296), small_stands c.args.p.now.view.cells (c.args.n % 4294967296) (omega arith))

pub returns-in_err-low-clause-interned : goal.returns-in_err-low-clause-interned
returns-in_err-low-clause-interned g c =
    let low : Part = leaf (c.args.n % 4294967296) in
    let x = c.in_err-low.ensures.interned low (small_stands c.args.p.now.view.cells (c.args.n % 4294967296) (omega arith)) in
    over_failed g.M.MemoMeaning.meaning c.args.s.now.sizes c.args.p.now.view c.put_part-2.new.p.view (large_tag (c.args.n / 4294967296)) low (number_part c.args.n) _ c.from_residual.result (large_number c.args.n (omega arith)) c.from_residual.ensures.0 x

pub put_part-requires-3-clause-word : goal.put_part-requires-3-clause-word
put_part-requires-3-clause-word g c =
    let low : Part = leaf (c.args.n % 4294967296) in
    let x = c.in_ok-low.ensures.interned low (small_stands c.args.p.now.view.cells (c.args.n % 4294967296) (omega arith)) in
    (one (large_tag (c.args.n / 4294967296)) low, one_stands c.put_part-2.new.p.view.cells (large_tag (c.args.n / 4294967296)) c.in_ok-low.low low (large_over c.args.n (omega arith) (omega arith)) c.in_ok-low.ensures.id x.ends)

pub returns-clause-interned : goal.returns-clause-interned
returns-clause-interned g c =
    let low : Part = leaf (c.args.n % 4294967296) in
    let x = c.in_ok-low.ensures.interned low (small_stands c.args.p.now.view.cells (c.args.n % 4294967296) (omega arith)) in
    let ws = one_stands c.put_part-2.new.p.view.cells (large_tag (c.args.n / 4294967296)) c.in_ok-low.low low (large_over c.args.n (omega arith) (omega arith)) c.in_ok-low.ensures.id x.ends in
    over g.M.MemoMeaning.meaning c.args.s.now.sizes c.args.p.now.view c.put_part-2.new.p.view c.put_part-3.new.p.view (large_tag (c.args.n / 4294967296)) c.in_ok-low.low low (number_part c.args.n) c.put_part-3.result (large_number c.args.n (omega arith))
    x (c.put_part-3.ensures.interned (one (large_tag (c.args.n / 4294967296)) low) ws)
