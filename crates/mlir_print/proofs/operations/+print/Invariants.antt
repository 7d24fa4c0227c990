use Rattle.std.proofs.Common.{◌≡◌, ◌++◌, drop, string_bytes}
use Rattle.mlir_print.specs.Lines.{depth_of, ops_lines}
use Rattle.mlir_print.proofs.operations.+print.Given as goal

abbrev pub invariant-push_ops-loop-op : goal.invariant-push_ops-loop-op
invariant-push_ops-loop-op l =
    string_bytes l.out ++ ops_lines l.names (depth_of l.depth) (drop l.op-index l.ops) ≡ string_bytes l.fn.out ++ ops_lines l.names (depth_of l.depth) l.ops
