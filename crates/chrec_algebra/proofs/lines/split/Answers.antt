use Rattle.std.proofs.Common.{refl, ◌^◌}
use Rattle.std.proofs.lemmas.Nat.{pow_pos}
use Rattle.scev_tree.proofs.GrowingLists.{from_true}
use Rattle.chrec_algebra.proofs.lines.split.Goals as goal

pub returns : goal.returns
returns c = (
  refl,
  refl,
  record {
    linear = from_true _ _ c.is_linear.ensures c.if-not-is_linear.false;
    base = c.in_ok-base.ensures (2 ^ c.args.e.now.w) (pow_pos c.args.e.now.w) c.args.e.now.canonical;
    slope = c.in_ok-slope.ensures (2 ^ c.args.e.now.w) (pow_pos c.args.e.now.w) c.args.e.now.canonical;
  },
)
