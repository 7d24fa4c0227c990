use Rattle.std.proofs.Common.{◌≡◌, take, map}
use Rattle.mlir_ir.specs.ScopeFaults as faults
use Rattle.mlir_scope.specs.Functions.{lines_said}
use Rattle.mlir_scope.specs.Reading.{defined_said}
use Rattle.mlir_scope.proofs.text_faults.func_names.Given as goal

abbrev pub invariant-each : goal.invariant-each
invariant-each l = map defined_said l.made.items ≡ faults.func_names (lines_said l.tokens (take l.f-index l.funcs))
