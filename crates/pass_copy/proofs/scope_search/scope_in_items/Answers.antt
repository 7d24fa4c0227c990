-- The loop can stand in the item alone, or behind it.
use Rattle.std.proofs.Common.{◌≡◌, ◌+◌, ◌<◌, ◌≤◌, ◌⊎◌, subst}
use Rattle.arith_word.specs.Labels.{index_count}
use Rattle.mlir_ir.specs.View.{view_items, view_ops}
use Rattle.pass_copy.specs.ScopeSearch.{Finds, IsTypeBehind}
use Rattle.pass_copy.specs.declared.scope_search.Search.TheVariants.{Within, Behind}
use Rattle.pass_copy.proofs.ItemPlaces.{items_fit}
use Rattle.pass_copy.proofs.ItemScopes.{sought_items, item_within, item_behind, items_next}
use Rattle.pass_copy.proofs.scope_search.scope_in_items.Goals as goal

pub loop-index-init : goal.loop-index-init
loop-index-init c =
    sought_items c.args.target.0 c.args.x.0 c.args.known c.args.func (view_items c.args.items.now) (items_fit c.args.items.now c.requires.fit)

pub returns-in-Within : goal.returns-in-Within
returns-in-Within c =
    item_within c.args.target.0 c.args.x.0 c.args.known c.args.func (view_items c.args.items.now) c.loop-index.known c.loop-index.index c.args.items.now
    c.index-items-index.result c.loop-index-test.true c.index-items-index.is c.loop-index.invariant c.in-Some.left
    (subst (λ n. n + c.in-Some.left ≡ c.args.target.0) c.new-at.ensures c.in-Some.ensures.0) c.in-Some.ensures.1 c.in-Within.found
    (subst (λ ops. Finds c.args.target.0 c.args.x.0 c.loop-index.known c.in-Some.left (view_ops ops) (Within c.in-Within.found)) c.as_slice-ops.ensures c.in-Within.ensures)

pub returns-in-Behind : goal.returns-in-Behind
returns-in-Behind c =
    item_behind c.args.target.0 c.args.x.0 c.args.known c.args.func (view_items c.args.items.now) c.loop-index.known c.loop-index.index c.args.items.now
    c.index-items-index.result c.loop-index-test.true c.index-items-index.is c.loop-index.invariant c.in-Some.left
    (subst (λ n. n + c.in-Some.left ≡ c.args.target.0) c.new-at.ensures c.in-Some.ensures.0) c.in-Some.ensures.1 c.in-Behind.field-0
    (subst (λ ops. Finds c.args.target.0 c.args.x.0 c.loop-index.known c.in-Some.left (view_ops ops) (Behind c.in-Behind.field-0)) c.as_slice-ops.ensures c.in-Behind.ensures)

pub loop-index-preserved : goal.loop-index-preserved
loop-index-preserved c =
    items_next c.args.target.0 c.args.x.0 c.args.known c.args.func (view_items c.args.items.now) c.loop-index.known c.loop-index.index c.args.items.now
    c.index-items-index.result c.loop-index-test.true c.index-items-index.is c.loop-index.invariant c.type_behind-known.result
    (subst (λ n. (c.args.target.0 < n) ⊎ (n + index_count ≤ c.args.target.0)) c.new-at.ensures c.in_default.ensures)
    (subst (λ n. IsTypeBehind c.args.x.0 c.loop-index.known n (view_ops c.index-items-index.result.ops) c.type_behind-known.result) c.new-at.ensures
    (subst (λ ops. IsTypeBehind c.args.x.0 c.loop-index.known c.new-at.result.0 (view_ops ops) c.type_behind-known.result) c.as_slice-ops.ensures c.type_behind-known.ensures))
