use Rattle.std.proofs.Common.{◌≡◌, take, map}
use Rattle.mlir_scope.specs.Functions.{called, signature_said, lines_said}
use Rattle.mlir_scope.proofs.signatures.signatures_of.Given as goal

abbrev pub invariant-each : goal.invariant-each
invariant-each l = map signature_said l.made.items ≡ map called (lines_said l.tokens (take l.f-index l.funcs))
