use Rattle.std.proofs.Common.{◌≡◌, ◌++◌, drop, map, string_bytes}
use Rattle.mlir_ir.specs.Canonical.{arg_text, behind_commas}
use Rattle.mlir_print.proofs.lists.push_more_args.Given as goal

abbrev pub invariant-loop-arg : goal.invariant-loop-arg
invariant-loop-arg l = string_bytes l.out ++ behind_commas (map arg_text (drop l.arg-index l.args)) ≡ string_bytes l.fn.out ++ behind_commas (map arg_text l.args)
