use Rattle.std.proofs.Common.{arith, true, false}
use Rattle.scev_tree.proofs.GrowingLists.{from_false}
use Rattle.scev_tree.proofs.TreePlaces.{canon_of, lighter}
use Rattle.scev_text.proofs.Places.{last_place}
use Rattle.scev_text.proofs.Sums.{nonzero_is}
use Rattle.scev_text.proofs.Terms.{term_printed}
use Rattle.scev_text.proofs.Trees.{counter_printed, number_below, number_printed, places_are, symbol_printed, weight_is}
use Rattle.scev_text.proofs.expressions.+printing.Goals as goal

pub push_places-push_tree-requires : goal.push_places-push_tree-requires
push_places-push_tree-requires t c = (omega (arith, lighter c.args.places.now c.loop-place.place-index c.place-item.result c.place-item.is (omega arith)), canon_of _ _ c.args.places.now c.loop-place.place-index c.place-item.result c.place-item.is c.requires (omega arith))

pub push_places-returns : goal.push_places-returns
push_places-returns t c = last_place c.args.names.now c.args.w c.loop-place.behind _ _ c.args.places.now c.loop-place.place-index (omega arith) c.loop-place.invariant

pub push_terms-push_term-requires : goal.push_terms-push_term-requires
push_terms-push_term-requires t c = (omega (arith, lighter c.args.places.now c.loop-exponent.exponent c.index-places-exponent.result c.index-places-exponent.is (omega arith)), canon_of _ _ c.args.places.now c.loop-exponent.exponent c.index-places-exponent.result c.index-places-exponent.is c.requires (omega arith))

pub push_terms-loop-exponent-preserved : goal.push_terms-loop-exponent-preserved
push_terms-loop-exponent-preserved t c =
    term_printed c.args.names.now c.args.w c.args.label.0 c.loop-exponent.behind _ _ _ _ c.args.places.now c.loop-exponent.exponent c.index-places-exponent.result (omega arith) c.index-places-exponent.is
    (nonzero_is _ (from_false _ _ c.is_zero.ensures c.if-is_zero.false)) c.in_ok-push_between.ensures c.in_ok-push_term.ensures c.loop-exponent.invariant

pub push_tree-push_number-requires : goal.push_tree-push_number-requires
push_tree-push_number-requires t c = number_below _ c.in-Num.v c.args.t.now c.in-Num.is c.requires

pub push_tree-push_recurrence-requires : goal.push_tree-push_recurrence-requires
push_tree-push_recurrence-requires t c = (omega (arith, weight_is c.args.t.now c.in-Ext.counter c.in-Ext.var c.in-Ext.ops c.as_slice.result.now c.in-Ext.is c.as_slice.ensures), places_are _ c.args.t.now c.in-Ext.counter true c.in-Ext.var c.in-Ext.ops c.as_slice.result.now c.in-Ext.is c.if-counter.true c.as_slice.ensures c.requires)

pub push_tree-push_terms-requires : goal.push_tree-push_terms-requires
push_tree-push_terms-requires t c =
    (omega (arith, weight_is c.args.t.now c.in-Ext.counter c.in-Ext.var c.in-Ext.ops c.as_slice-else-counter.result.now c.in-Ext.is c.as_slice-else-counter.ensures), places_are _ c.args.t.now c.in-Ext.counter false c.in-Ext.var c.in-Ext.ops c.as_slice-else-counter.result.now c.in-Ext.is c.if-counter.false c.as_slice-else-counter.ensures c.requires)

pub push_tree-returns-in_ok-push_number-in-Num : goal.push_tree-returns-in_ok-push_number-in-Num
push_tree-returns-in_ok-push_number-in-Num t c = number_printed c.args.names.now c.args.w c.in-Num.v c.args.t.now _ _ c.in-Num.is c.in_ok-push_number-in-Num.ensures

pub push_tree-returns-in_ok-push_recurrence-in-Ext : goal.push_tree-returns-in_ok-push_recurrence-in-Ext
push_tree-returns-in_ok-push_recurrence-in-Ext t c =
    counter_printed c.args.names.now c.args.w c.args.t.now c.in-Ext.counter c.in-Ext.var c.in-Ext.ops c.as_slice.result.now _ _ c.in-Ext.is c.if-counter.true c.as_slice.ensures c.in_ok-push_recurrence-in-Ext.ensures

pub push_tree-returns-in_ok-push_terms-in-Ext : goal.push_tree-returns-in_ok-push_terms-in-Ext
push_tree-returns-in_ok-push_terms-in-Ext t c =
    symbol_printed c.args.names.now c.args.w c.args.t.now c.in-Ext.counter c.in-Ext.var c.in-Ext.ops c.as_slice-else-counter.result.now _ _ c.in-Ext.is c.if-counter.false c.as_slice-else-counter.ensures c.in_ok-push_terms-in-Ext.ensures
