use Rattle.std.proofs.Common.{◌≡◌, ◌<◌, ◌≤◌, false, List, [], length, get_or, if◌then◌else◌, ap, ◌∙◌, arith}
use Rattle.mlir_ir.specs.declared.types.Item.{Item}
use Rattle.fresh_scev.specs.Wanted.{only_marked, with_items}
use Rattle.fresh_scev.proofs.EntriesOfFacts.{value_widths, value_entries, count_entries}
use Rattle.fresh_scev.proofs.WalkedItems.{item_walks, item_uses, item_more, has_facts, has_known}
use Rattle.fresh_scev.proofs.WantedItems.{marked_at, marked_length, marked_items, wanted_well_formed}
use Rattle.fresh_scev.proofs.analysis.analyse_items.Goals as goal

-- the item that is walked, among those of the function with the marked items
shown : (marks : List _) (items : List Item) (k : _) (item : Item) (ops : List _) → k < length items → item ≡ get_or items k item → ops ≡ (if get_or marks k false then item.ops else [])
    → record { ops = ops } ≡ get_or (only_marked marks items) k (record { ops = ops })
shown marks items k item ops lt is e =
    marked_at marks items k item (record { ops = ops }) lt (e ∙ ap (λ (x : Item). if get_or marks k false then x.ops else []) is)

within : (marks : List _) (items : List Item) (k : _) → k < length items → k < length (only_marked marks items)
within marks items k lt = let e = marked_length marks items in omega (arith, lt, e)

pub loop-k-init : goal.loop-k-init
loop-k-init c = (let first = c.in_ok-t.ensures in record { has = record { many = first.has.many; begins = first.has.begins; known = first.has.known; arguments = first.has.arguments; facts = first.has.facts }; func = first.func; conditions = first.conditions })

pub walk_ops-requires-clause-ready : goal.walk_ops-requires-clause-ready
walk_ops-requires-clause-ready c =
    let f = c.args.f.now in
    let marks = c.args.marks.now in
    let items = c.items_of-item-items.result.now in
    item_walks (with_items marks f) (wanted_well_formed f marks c.requires.well_formed c.requires.closed) (only_marked marks items) (marked_items f marks items c.items_of-item-items.ensures) c.loop-k.t c.loop-k.k
    (record { ops = c.marked_ops.result.now }) (within marks items c.loop-k.k c.loop-k-test.true) (shown marks items c.loop-k.k c.item-item.result c.marked_ops.result.now c.loop-k-test.true c.item-item.is c.marked_ops.ensures) c.loop-k.invariant

pub walk_ops-requires-clause-uses : goal.walk_ops-requires-clause-uses
walk_ops-requires-clause-uses c =
    let f = c.args.f.now in
    let marks = c.args.marks.now in
    let items = c.items_of-item-items.result.now in
    item_uses (with_items marks f) (wanted_well_formed f marks c.requires.well_formed c.requires.closed) (only_marked marks items) (marked_items f marks items c.items_of-item-items.ensures) c.loop-k.t c.loop-k.k
    (record { ops = c.marked_ops.result.now }) (within marks items c.loop-k.k c.loop-k-test.true) (shown marks items c.loop-k.k c.item-item.result c.marked_ops.result.now c.loop-k-test.true c.item-item.is c.marked_ops.ensures) c.loop-k.invariant

pub loop-k-preserved : goal.loop-k-preserved
loop-k-preserved c =
    let f = c.args.f.now in
    let marks = c.args.marks.now in
    let items = c.items_of-item-items.result.now in
    item_more (with_items marks f) (wanted_well_formed f marks c.requires.well_formed c.requires.closed) (only_marked marks items) (marked_items f marks items c.items_of-item-items.ensures) c.loop-k.t c.loop-k.k
    (record { ops = c.marked_ops.result.now }) (within marks items c.loop-k.k c.loop-k-test.true) (shown marks items c.loop-k.k c.item-item.result c.marked_ops.result.now c.loop-k-test.true c.item-item.is c.marked_ops.ensures) c.loop-k.invariant
    c.walk_ops.new.t c.seal.new.self c.in_ok-walk_ops.ensures c.in_ok-seal.ensures

pub returns-clause-facts : goal.returns-clause-facts
returns-clause-facts c =
    let f = c.args.f.now in
    let marks = c.args.marks.now in
    let items = c.items_of-item-items.result.now in
    let e = marked_length marks items in
    let done : length (only_marked marks items) ≤ c.loop-k.k = (let le = c.loop-k-test.false in omega (arith, e, le)) in
    has_facts (with_items marks f) (wanted_well_formed f marks c.requires.well_formed c.requires.closed) (only_marked marks items) (marked_items f marks items c.items_of-item-items.ensures) c.loop-k.t c.loop-k.k done c.loop-k.invariant

pub returns-clause-widths : goal.returns-clause-widths
returns-clause-widths c =
    let marked = with_items c.args.marks.now c.args.f.now in
    value_widths marked (record { func = c.loop-k.t.func; items = c.loop-k.t.items }) (wanted_well_formed c.args.f.now c.args.marks.now c.requires.well_formed c.requires.closed) (returns-clause-facts c)

pub returns-clause-known : goal.returns-clause-known
returns-clause-known c =
    has_known (with_items c.args.marks.now c.args.f.now) (wanted_well_formed c.args.f.now c.args.marks.now c.requires.well_formed c.requires.closed) _ c.loop-k.t c.loop-k.invariant

pub returns-clause-values : goal.returns-clause-values
returns-clause-values c =
    let marked = with_items c.args.marks.now c.args.f.now in
    value_entries marked (record { func = c.loop-k.t.func; items = c.loop-k.t.items }) (wanted_well_formed c.args.f.now c.args.marks.now c.requires.well_formed c.requires.closed) (returns-clause-facts c)

pub returns-clause-loops : goal.returns-clause-loops
returns-clause-loops c =
    let marked = with_items c.args.marks.now c.args.f.now in
    count_entries marked (record { func = c.loop-k.t.func; items = c.loop-k.t.items }) (wanted_well_formed c.args.f.now c.args.marks.now c.requires.well_formed c.requires.closed) (returns-clause-facts c)
