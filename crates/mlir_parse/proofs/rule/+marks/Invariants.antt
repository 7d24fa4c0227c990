use Rattle.std.proofs.Common.{length}
use Rattle.mlir_parse.proofs.rule.+marks.Given as goal

abbrev pub decreases-marks : goal.decreases-marks
decreases-marks l = length l.terminals.now
