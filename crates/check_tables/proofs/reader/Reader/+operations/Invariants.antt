use Rattle.std.proofs.Common.{◌+◌, ◌*◌}
use Rattle.check_tables.proofs.reader.Reader.+operations.Given as goal

-- a list of operations in an operation lowers the depth
abbrev pub decreases-ops : goal.decreases-ops
decreases-ops l = 5 * l.depth

abbrev pub decreases-region : goal.decreases-region
decreases-region l = 5 * l.depth + 1

abbrev pub decreases-branch : goal.decreases-branch
decreases-branch l = 5 * l.depth + 2

abbrev pub decreases-counted_loop : goal.decreases-counted_loop
decreases-counted_loop l = 5 * l.depth + 2

abbrev pub decreases-while_loop : goal.decreases-while_loop
decreases-while_loop l = 5 * l.depth + 2

abbrev pub decreases-op : goal.decreases-op
decreases-op l = 5 * l.depth + 3
