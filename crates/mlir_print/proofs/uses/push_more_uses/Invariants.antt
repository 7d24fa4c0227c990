use Rattle.std.proofs.Common.{◌≡◌, ◌++◌, drop, map, string_bytes}
use Rattle.mlir_ir.specs.Canonical.{behind_commas, use_text}
use Rattle.mlir_print.proofs.uses.push_more_uses.Given as goal

abbrev pub invariant-loop-label : goal.invariant-loop-label
invariant-loop-label l = string_bytes l.out ++ behind_commas (map (use_text l.names) (drop l.label-index l.labels)) ≡ string_bytes l.fn.out ++ behind_commas (map (use_text l.names) l.labels)
