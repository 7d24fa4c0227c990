use Rattle.std.proofs.Common.{◌≡◌, ◌++◌, drop, map, string_bytes}
use Rattle.mlir_ir.specs.Canonical.{behind_commas}
use Rattle.mlir_ir.specs.Words.{type_text}
use Rattle.mlir_print.proofs.lists.push_more_types.Given as goal

abbrev pub invariant-loop-ty : goal.invariant-loop-ty
invariant-loop-ty l = string_bytes l.out ++ behind_commas (map type_text (drop l.ty-index l.types)) ≡ string_bytes l.fn.out ++ behind_commas (map type_text l.types)
