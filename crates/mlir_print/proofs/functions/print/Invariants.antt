use Rattle.std.proofs.Common.{◌≡◌, ◌++◌, drop, map, string_bytes}
use Rattle.mlir_ir.specs.Canonical.{funcs_text}
use Rattle.mlir_print.proofs.functions.print.Given as goal

abbrev pub invariant-loop-func : goal.invariant-loop-func
invariant-loop-func l = string_bytes l.out ++ funcs_text (map (λ f. f.name) l.funcs) (drop l.func-index l.funcs) ≡ funcs_text (map (λ f. f.name) l.funcs) l.funcs
