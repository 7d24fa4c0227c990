use Rattle.std.proofs.Common.{◌≡◌, ◌++◌, drop, map}
use Rattle.std.specs.List.{flat_map}
use Rattle.mlir_ir.specs.ScopeFaults as faults
use Rattle.mlir_scope.specs.Noted.{noted}
use Rattle.mlir_scope.specs.Said.{line_said}
use Rattle.mlir_scope.specs.Texts.{funcs_in}
use Rattle.mlir_scope.proofs.text_faults.note_funcs.Given as goal

abbrev pub invariant-each : goal.invariant-each
invariant-each l =
    (noted l.first.best (flat_map (faults.func_breaks (funcs_in l.text)) (map (line_said l.text.tokens.now) (drop l.f-index l.funcs)))
    ≡ noted l.fn.first.best (flat_map (faults.func_breaks (funcs_in l.text)) (map (line_said l.text.tokens.now) l.funcs)))
    × ((l.ops.items ++ flat_map faults.func_op_tokens (map (line_said l.text.tokens.now) (drop l.f-index l.funcs)))
    ≡ (l.fn.ops.items ++ flat_map faults.func_op_tokens (map (line_said l.text.tokens.now) l.funcs)))
