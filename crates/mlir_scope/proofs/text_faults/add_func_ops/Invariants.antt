use Rattle.std.proofs.Common.{◌≡◌, ◌++◌, drop}
use Rattle.std.specs.List.{flat_map}
use Rattle.mlir_ir.specs.Phrases as phrases
use Rattle.mlir_ir.specs.ScopeFaults as faults
use Rattle.mlir_ir.specs.Source as source
use Rattle.mlir_scope.specs.Functions.{lines_said}
use Rattle.mlir_scope.proofs.text_faults.add_func_ops.Given as goal

abbrev pub invariant-each : goal.invariant-each
invariant-each l =
    (l.found.items ++ flat_map (λ (body : phrases.Line). faults.op_tokens (source.block body.parts)) (lines_said l.tokens (drop l.body-index l.bodies)))
    ≡ (l.fn.found.items ++ flat_map (λ (body : phrases.Line). faults.op_tokens (source.block body.parts)) (lines_said l.tokens l.bodies))
