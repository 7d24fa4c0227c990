use Rattle.std.proofs.Common.{◌^◌}
use Rattle.chrec_algebra.proofs.Degrees.{narrow_from}
use Rattle.chrec_algebra.proofs.calls.at.Goals as goal

pub at_tree-requires-clause-narrow : goal.at_tree-requires-clause-narrow
at_tree-requires-clause-narrow c = narrow_from (2 ^ c.args.a.now.w) _ 0 c.args.a.now.canonical c.requires.low
