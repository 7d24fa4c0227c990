-- Labels of one item end at one label.
use Rattle.std.proofs.Common.{◌≡◌, ℕ, ◌+◌, ◌<◌, arith}
use Rattle.pass_copy.specs.Replaced.{item_end}

pub below_end : (t : ℕ) → t < item_end t
below_end t = omega arith

pub same_end : (t d : ℕ) → t + d < item_end t → item_end (t + d) ≡ item_end t
same_end t d h = omega arith
