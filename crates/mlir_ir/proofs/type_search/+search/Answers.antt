use Rattle.std.proofs.Common.{rules, arith}
use Rattle.std.proofs.lemmas.Grind.{common_steps}
use Rattle.mlir_ir.specs.declared.types.Region.{the_lemmas}
use Rattle.mlir_ir.proofs.TypeSearches.{two_within, two_behind, ops_here, ops_behind}
use Rattle.mlir_ir.proofs.type_search.+search.Goals as goal

pub search_kind-returns-in-Within : goal.search_kind-returns-in-Within
search_kind-returns-in-Within t c =
    let whole = two_within c.args.left c.args.label c.in-If-default-default-Some.first c.in-If-default-default-Some.other c.in-Within.found c.requires c.in-Within.ensures in
    first_of (grind (arith, the_lemmas, common_steps, whole), search (rules, the_lemmas, whole))

pub search_kind-returns-in-Behind : goal.search_kind-returns-in-Behind
search_kind-returns-in-Behind t c =
    let whole = two_behind c.args.left c.args.label c.in-If-default-default-Some.first c.in-If-default-default-Some.other c.in-Behind.left c.requires c.in-Behind.ensures in
    let more = c.search_region-in-Behind.ensures in
    first_of (grind (arith, the_lemmas, common_steps, whole, more), search (rules, the_lemmas, whole, more))

pub search_ops-returns-in-Within : goal.search_ops-returns-in-Within
search_ops-returns-in-Within t c =
    ops_here c.args.ops.now c.loop-op.op-index c.op-item.result c.loop-op.left c.args.label c.in-Within.found _ c.loop-op-test.true c.op-item.is c.loop-op.invariant.0 c.loop-op.invariant.1 c.in-Within.ensures

pub search_ops-loop-op-preserved : goal.search_ops-loop-op-preserved
search_ops-loop-op-preserved t c =
    ops_behind c.args.ops.now c.loop-op.op-index c.op-item.result c.loop-op.left c.args.label c.in-Behind.left _ c.loop-op-test.true c.op-item.is c.loop-op.invariant.0 c.loop-op.invariant.1 c.in-Behind.ensures
