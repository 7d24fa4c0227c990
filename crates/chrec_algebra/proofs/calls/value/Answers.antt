use Rattle.std.proofs.Common.{◌^◌}
use Rattle.chrec_algebra.proofs.Degrees.{narrow_from}
use Rattle.chrec_algebra.proofs.calls.value.Goals as goal

pub tree_value-requires : goal.tree_value-requires
tree_value-requires c = narrow_from (2 ^ c.args.a.now.w) _ 0 c.args.a.now.canonical c.requires.low
