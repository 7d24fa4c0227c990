-- The loop is sought among the operations that are left.
use Rattle.std.proofs.Common.{drop}
use Rattle.mlir_ir.specs.View.{view_ops}
use Rattle.pass_copy.proofs.ScopeSearched.{IsSought}
use Rattle.pass_copy.proofs.scope_search.+search.Given as goal

abbrev pub invariant-search_ops-loop-op : goal.invariant-search_ops-loop-op
invariant-search_ops-loop-op l = IsSought l.target.0 l.x.0 l.fn.known l.fn.left (view_ops l.ops) l.known l.left (view_ops (drop l.op-index l.ops))
