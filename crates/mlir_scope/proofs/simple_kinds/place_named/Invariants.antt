use Rattle.std.proofs.Common.{◌≡◌, ◌+◌, drop}
use Rattle.mlir_ir.specs.Resolved as resolved
use Rattle.mlir_scope.specs.Built.{names_said}
use Rattle.mlir_scope.proofs.simple_kinds.place_named.Given as goal

abbrev pub invariant-each : goal.invariant-each
invariant-each l = (l.at + resolved.place_named l.name (names_said (drop l.func-index l.funcs)) ≡ resolved.place_named l.name (names_said l.funcs)) × (l.at ≡ l.func-index)
