use Rattle.std.proofs.Common.{◌≡◌, drop, false}
use Rattle.mlir_ir.specs.Tokens.{behind_gap}
use Rattle.mlir_lex.proofs.gap.gap_len.Given as goal

abbrev pub invariant-loop-at : goal.invariant-loop-at
invariant-loop-at l = behind_gap l.comment (drop l.at l.bytes) ≡ behind_gap false l.bytes
