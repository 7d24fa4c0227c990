use Rattle.std.proofs.Common.{◌^◌}
use Rattle.chrec_algebra.proofs.Degrees.{narrow_from}
use Rattle.chrec_algebra.proofs.calls.mul.Goals as goal

pub mul_trees-requires-clause-narrow_left : goal.mul_trees-requires-clause-narrow_left
mul_trees-requires-clause-narrow_left c = narrow_from (2 ^ c.args.a.now.w) _ 0 c.args.a.now.canonical c.requires.left.low

pub mul_trees-requires-clause-narrow_right : goal.mul_trees-requires-clause-narrow_right
mul_trees-requires-clause-narrow_right c = narrow_from (2 ^ c.args.b.now.w) _ 0 c.args.b.now.canonical c.requires.right.low
