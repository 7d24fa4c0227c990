use Rattle.std.proofs.Common.{◌≡◌, ◌++◌, drop, map, string_bytes}
use Rattle.mlir_ir.specs.Canonical.{behind_commas, used_type}
use Rattle.mlir_print.proofs.uses.push_more_used_types.Given as goal

abbrev pub invariant-loop-label : goal.invariant-loop-label
invariant-loop-label l = string_bytes l.out ++ behind_commas (map (used_type l.names) (drop l.label-index l.labels)) ≡ string_bytes l.fn.out ++ behind_commas (map (used_type l.names) l.labels)
