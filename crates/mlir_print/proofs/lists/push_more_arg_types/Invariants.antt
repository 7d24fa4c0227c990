use Rattle.std.proofs.Common.{◌≡◌, ◌++◌, drop, map, string_bytes}
use Rattle.mlir_ir.specs.Canonical.{behind_commas}
use Rattle.mlir_ir.specs.Words.{type_text}
use Rattle.mlir_print.proofs.lists.push_more_arg_types.Given as goal

abbrev pub invariant-loop-arg : goal.invariant-loop-arg
invariant-loop-arg l =
    string_bytes l.out ++ behind_commas (map type_text (map (λ arg. arg.ty) (drop l.arg-index l.args))) ≡ string_bytes l.fn.out ++ behind_commas (map type_text (map (λ arg. arg.ty) l.args))
