use Rattle.std.proofs.Common.{arith, sym, subst}
use Rattle.mlir_ir.specs.Operations.{labels_of}
use Rattle.mlir_ir.specs.View.{view_ops}
use Rattle.fresh_scev.specs.Facts.{IsOps}
use Rattle.fresh_scev.specs.Heads.{CanWalk}
use Rattle.fresh_scev.specs.Table.{next_label}
use Rattle.fresh_scev.specs.UsesBelow.{DoUseBelow}
use Rattle.fresh_scev.specs.Walked.{Says}
use Rattle.fresh_scev.proofs.EntriesOfFacts.{value_widths, value_entries, count_entries}
use Rattle.fresh_scev.proofs.WalkedItems.{item_walks, item_uses, item_more, has_facts, has_known}
use Rattle.fresh_scev.proofs.analysis.analyse.Goals as goal

pub walk_ops-requires-clause-ready : goal.walk_ops-requires-clause-ready
walk_ops-requires-clause-ready c =
    let l = c.loop-item in
    subst (λ ops. CanWalk l.t (labels_of (view_ops ops))) (sym c.as_slice.ensures)
    (item_walks c.args.f.now c.requires c.items_of-item-items.result.now c.items_of-item-items.ensures l.t l.item-index c.item-item.result (omega arith) c.item-item.is l.invariant)

pub walk_ops-requires-clause-uses : goal.walk_ops-requires-clause-uses
walk_ops-requires-clause-uses c =
    let l = c.loop-item in
    subst (λ ops. DoUseBelow (view_ops ops) (next_label l.t)) (sym c.as_slice.ensures)
    (item_uses c.args.f.now c.requires c.items_of-item-items.result.now c.items_of-item-items.ensures l.t l.item-index c.item-item.result (omega arith) c.item-item.is l.invariant)

pub loop-item-preserved : goal.loop-item-preserved
loop-item-preserved c =
    let l = c.loop-item in
    let says = subst (λ ops. Says l.t c.walk_ops.new.t (labels_of (view_ops ops)) (IsOps l.t.conditions.items (view_ops ops) (next_label l.t))) c.as_slice.ensures c.in_ok-walk_ops.ensures in
    item_more c.args.f.now c.requires c.items_of-item-items.result.now c.items_of-item-items.ensures l.t l.item-index c.item-item.result (omega arith) c.item-item.is l.invariant c.walk_ops.new.t c.seal.new.self says
    c.in_ok-seal.ensures

pub returns-clause-facts : goal.returns-clause-facts
returns-clause-facts c =
    let l = c.loop-item in
    has_facts c.args.f.now c.requires c.items_of-item-items.result.now c.items_of-item-items.ensures l.t l.item-index (omega arith) l.invariant

pub returns-clause-widths : goal.returns-clause-widths
returns-clause-widths c =
    let l = c.loop-item in
    let facts = has_facts c.args.f.now c.requires c.items_of-item-items.result.now c.items_of-item-items.ensures l.t l.item-index (omega arith) l.invariant in
    value_widths c.args.f.now (record { func = l.t.func; items = l.t.items }) c.requires facts

pub returns-clause-known : goal.returns-clause-known
returns-clause-known c = let l = c.loop-item in has_known c.args.f.now c.requires _ l.t l.invariant

pub returns-clause-values : goal.returns-clause-values
returns-clause-values c =
    let l = c.loop-item in
    let facts = has_facts c.args.f.now c.requires c.items_of-item-items.result.now c.items_of-item-items.ensures l.t l.item-index (omega arith) l.invariant in
    value_entries c.args.f.now (record { func = l.t.func; items = l.t.items }) c.requires facts

pub returns-clause-loops : goal.returns-clause-loops
returns-clause-loops c =
    let l = c.loop-item in
    let facts = has_facts c.args.f.now c.requires c.items_of-item-items.result.now c.items_of-item-items.ensures l.t l.item-index (omega arith) l.invariant in
    count_entries c.args.f.now (record { func = l.t.func; items = l.t.items }) c.requires facts
