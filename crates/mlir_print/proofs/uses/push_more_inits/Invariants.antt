use Rattle.std.proofs.Common.{◌≡◌, ◌++◌, drop, map, string_bytes}
use Rattle.std.specs.List.{zip}
use Rattle.mlir_ir.specs.Canonical.{behind_commas, init_text}
use Rattle.mlir_print.proofs.uses.push_more_inits.Given as goal

abbrev pub invariant-loop-k : goal.invariant-loop-k
invariant-loop-k l =
    string_bytes l.out ++ behind_commas (map (init_text l.names) (zip (drop l.k l.args) (drop l.k l.inits))) ≡ string_bytes l.fn.out ++ behind_commas (map (init_text l.names) (zip l.args l.inits))
