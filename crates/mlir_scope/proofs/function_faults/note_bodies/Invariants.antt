use Rattle.std.proofs.Common.{◌≡◌, drop, map}
use Rattle.std.specs.List.{flat_map}
use Rattle.mlir_ir.specs.ScopeFaults as faults
use Rattle.mlir_scope.specs.Noted.{noted}
use Rattle.mlir_scope.specs.Said.{line_said}
use Rattle.mlir_scope.specs.Texts.{funcs_in}
use Rattle.mlir_scope.proofs.function_faults.note_bodies.Given as goal

abbrev pub invariant-each : goal.invariant-each
invariant-each l =
    noted l.first.best (flat_map (faults.body_breaks (funcs_in l.text) (line_said l.text.tokens.now l.f)) (map (line_said l.text.tokens.now) (drop l.body-index l.bodies)))
    ≡ noted l.fn.first.best (flat_map (faults.body_breaks (funcs_in l.text) (line_said l.text.tokens.now l.f)) (map (line_said l.text.tokens.now) l.bodies))
