use Rattle.std.proofs.Common.{◌≡◌, drop}
use Rattle.mlir_ir.specs.ScopeFaults as faults
use Rattle.mlir_scope.specs.Noted.{noted}
use Rattle.mlir_scope.proofs.text_faults.note_long.Given as goal

abbrev pub invariant-each : goal.invariant-each
invariant-each l = noted l.first.best (faults.long_names l.i (drop l.i l.tokens)) ≡ noted l.fn.first.best (faults.long_names 0 l.tokens)
