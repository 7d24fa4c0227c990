use Rattle.std.proofs.Common.{◌≡◌, ◌++◌, drop, map}
use Rattle.mlir_ir.specs.Reads.{plain_func}
use Rattle.mlir_ir.specs.Resolved as resolved
use Rattle.mlir_scope.specs.Built.{names_said}
use Rattle.mlir_scope.specs.Said.{line_said}
use Rattle.mlir_scope.proofs.built_funcs.build_funcs.Given as goal

abbrev pub invariant-each : goal.invariant-each
invariant-each l =
    (map plain_func l.made.items ++ resolved.funcs_from (names_said l.origin.funcs.now) l.index (map (line_said l.origin.tokens.now) (drop l.index l.funcs)))
    ≡ resolved.funcs_from (names_said l.origin.funcs.now) 0 (map (line_said l.origin.tokens.now) l.funcs)
