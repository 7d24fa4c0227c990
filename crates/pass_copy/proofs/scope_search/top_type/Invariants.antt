-- The operations that are left say what the type behind all is.
use Rattle.std.proofs.Common.{drop}
use Rattle.mlir_ir.specs.View.{view_ops}
use Rattle.pass_copy.proofs.ItemScopes.{IsTopSought}
use Rattle.pass_copy.proofs.scope_search.top_type.Given as goal

abbrev pub invariant-loop-op : goal.invariant-loop-op
invariant-loop-op l = IsTopSought l.fn.left (view_ops l.ops) l.left (view_ops (drop l.op-index l.ops))
