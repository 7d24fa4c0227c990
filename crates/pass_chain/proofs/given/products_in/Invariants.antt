use Rattle.std.proofs.Common.{◌≡◌, ◌++◌, drop}
use Rattle.mlir_ir.specs.View.{view_ops}
use Rattle.fresh_scev.specs.Answers.{facts_shown}
use Rattle.pass_chain.specs.Given.{given_products}
use Rattle.pass_indvar.specs.Entries.{entries}
use Rattle.pass_chain.proofs.given.products_in.Given as goal

abbrev pub invariant-loop-op : goal.invariant-loop-op
invariant-loop-op l = entries l.made.items ++ given_products (facts_shown l.facts) l.at (view_ops (drop l.op-index l.ops)) ≡ given_products (facts_shown l.facts) l.start (view_ops l.ops)
