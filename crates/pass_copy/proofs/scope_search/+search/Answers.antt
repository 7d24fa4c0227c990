-- Where the loop can stand, by the operation or the region that the search is at.
use Rattle.std.proofs.Common.{◌≡◌, ◌+◌, ◌-◌, ◌<◌, length, ◌∙◌, sym, subst, refl, arith, rules, None}
use Rattle.std.proofs.lemmas.Grind.{common_steps}
use Rattle.mlir_ir.proofs.PartViews.{for_parts, while_parts}
use Rattle.mlir_ir.specs.Operations.{OpKind}
use Rattle.mlir_ir.specs.View.{ends_of, rows_of, view_kind, view_ops}
use Rattle.mlir_ir.specs.declared.types.ForParts.{out-ForParts}
use Rattle.mlir_ir.specs.declared.types.Kind.{Kind, If', Some'}
use Rattle.mlir_ir.specs.declared.types.Region.{the_lemmas}
use Rattle.mlir_ir.specs.declared.types.WhileParts.{out-WhileParts}
use Rattle.pass_copy.specs.ScopeSearch.{Finds, FindsInside}
use Rattle.pass_copy.specs.declared.scope_search.Search.TheVariants.{Within}
use Rattle.pass_copy.proofs.ScopeSearched.{sought_here, sought_inside, sought_result, sought_next, for_none, while_none, while_before, while_between, while_after, two_first, two_other}
use Rattle.pass_copy.proofs.scope_search.+search.Goals as goal

pub search_ops-returns-then-is_sought : goal.search_ops-returns-then-is_sought
search_ops-returns-then-is_sought t c =
    sought_here c.args.target.0 c.args.x.0 c.args.known.now c.args.left (view_ops c.args.ops.now) c.loop-op.known c.loop-op.left c.loop-op.op-index
    c.args.ops.now c.op-item.result c.loop-op-test.true c.op-item.is c.loop-op.invariant (sym c.is_sought.ensures ∙ c.if-is_sought.true)

pub search_ops-returns-in-Within : goal.search_ops-returns-in-Within
search_ops-returns-in-Within t c =
    sought_inside c.args.target.0 c.args.x.0 c.args.known.now c.args.left (view_ops c.args.ops.now) c.loop-op.known c.loop-op.left c.loop-op.op-index
    c.args.ops.now c.op-item.result c.loop-op-test.true c.op-item.is c.loop-op.invariant (sym c.is_sought.ensures ∙ c.if-is_sought.false) c.in-Within.found c.in-Within.ensures

pub search_ops-returns-then-left-results : goal.search_ops-returns-then-left-results
search_ops-returns-then-left-results t c =
    sought_result c.args.target.0 c.args.x.0 c.args.known.now c.args.left (view_ops c.args.ops.now) c.loop-op.known c.loop-op.left c.loop-op.op-index
    c.args.ops.now c.op-item.result c.loop-op-test.true c.op-item.is c.loop-op.invariant (sym c.is_sought.ensures ∙ c.if-is_sought.false) c.in-Behind.left c.in-Behind.ensures
    (subst (λ xs. c.in-Behind.left < length xs) c.as_slice-results.ensures c.if-left-results.true)

pub search_ops-loop-op-preserved : goal.search_ops-loop-op-preserved
search_ops-loop-op-preserved t c =
    let results = c.as_slice-results.ensures in
    sought_next c.args.target.0 c.args.x.0 c.args.known.now c.args.left (view_ops c.args.ops.now) c.loop-op.known c.loop-op.left c.loop-op.op-index
    c.args.ops.now c.op-item.result c.loop-op-test.true c.op-item.is c.loop-op.invariant (sym c.is_sought.ensures ∙ c.if-is_sought.false) c.in-Behind.left c.in-Behind.ensures
    c.either-known.result (c.in-Behind.left - length c.as_slice-results.result.now)
    (c.either-known.ensures ∙ rw (c.result_type.ensures, results) refl)
    (let few = c.if-left-results.false in rw (sym results) (omega (arith, few)))

pub search_inside-returns-in-Within : goal.search_inside-returns-in-Within
search_inside-returns-in-Within t c =
    let parts = c.in-If-default-default-Some in
    let e : c.args.kind.now ≡ If' parts.field-0 parts.first (Some' parts.other) = first_of (grind (arith, the_lemmas, common_steps), search (rules, the_lemmas)) in
    subst (λ (k : Kind). FindsInside c.args.target.0 c.args.x.0 c.args.known.now c.args.left (view_kind k) (Within c.in-Within.found)) (sym e)
    (two_first c.args.target.0 c.args.x.0 c.args.known.now c.args.left parts.field-0 parts.first parts.other c.in-Within.found c.in-Within.ensures)

pub search_inside-returns-in-Behind : goal.search_inside-returns-in-Behind
search_inside-returns-in-Behind t c =
    let parts = c.in-If-default-default-Some in
    let e : c.args.kind.now ≡ If' parts.field-0 parts.first (Some' parts.other) = first_of (grind (arith, the_lemmas, common_steps), search (rules, the_lemmas)) in
    let behind = c.search_region-in-Behind.ensures in
    let more : Finds c.args.target.0 c.args.x.0 c.args.known.now c.in-Behind.left (rows_of parts.other) c.search_region-in-Behind.result =
    first_of (grind (arith, the_lemmas, common_steps, behind), search (rules, the_lemmas, behind)) in
    subst (λ (k : Kind). FindsInside c.args.target.0 c.args.x.0 c.args.known.now c.args.left (view_kind k) c.search_region-in-Behind.result) (sym e)
    (two_other c.args.target.0 c.args.x.0 c.args.known.now c.args.left parts.field-0 parts.first parts.other c.in-Behind.left c.search_region-in-Behind.result
    c.in-Behind.ensures more)

pub search_for-returns-then-left-args : goal.search_for-returns-then-left-args
search_for-returns-then-left-args t c =
    let q = out-ForParts c.args.parts.now in
    let lt = subst (λ xs. c.args.left < length xs + 2) c.as_slice-args.ensures c.if-left-args.true in
    subst (λ (k : OpKind). FindsInside c.args.target.0 c.args.x.0 c.args.known.now c.args.left k (Within None)) (sym (for_parts c.args.parts.now))
    (for_none c.args.target.0 c.args.x.0 c.args.known.now c.args.left q.lower q.upper q.step q.iv q.args q.inits (rows_of q.body) (ends_of q.body) (omega (arith, lt)))

pub search_while-returns-then-left-args : goal.search_while-returns-then-left-args
search_while-returns-then-left-args t c =
    let q = out-WhileParts c.args.parts.now in
    let lt = subst (λ xs. c.args.left < length xs + 1) c.as_slice-args.ensures c.if-left-args.true in
    subst (λ (k : OpKind). FindsInside c.args.target.0 c.args.x.0 c.args.known.now c.args.left k (Within None)) (sym (while_parts c.args.parts.now))
    (while_none c.args.target.0 c.args.x.0 c.args.known.now c.args.left q.args q.inits (rows_of q.before) (ends_of q.before) q.cond q.after_args (rows_of q.after) (ends_of q.after) (omega (arith, lt)))

pub search_while-returns-in-Within : goal.search_while-returns-in-Within
search_while-returns-in-Within t c =
    let q = out-WhileParts c.args.parts.now in
    let args = c.as_slice-args.ensures in
    let le = c.if-left-args.false in
    let m : c.args.left - length c.as_slice-args.result.now - 1 + 1 + length q.args ≡ c.args.left = rw (sym args) (omega (arith, le)) in
    let is = c.either-before.ensures ∙ rw (c.arg_type.ensures, args) refl in
    subst (λ (k : OpKind). FindsInside c.args.target.0 c.args.x.0 c.args.known.now c.args.left k (Within c.in-Within.found)) (sym (while_parts c.args.parts.now))
    (while_before c.args.target.0 c.args.x.0 c.args.known.now c.args.left q.args q.inits (rows_of q.before) (ends_of q.before) q.cond q.after_args (rows_of q.after) (ends_of q.after)
    c.either-before.result (c.args.left - length c.as_slice-args.result.now - 1) m is c.in-Within.found c.in-Within.ensures)

pub search_while-returns-then-left-after_args : goal.search_while-returns-then-left-after_args
search_while-returns-then-left-after_args t c =
    let q = out-WhileParts c.args.parts.now in
    let args = c.as_slice-args.ensures in
    let le = c.if-left-args.false in
    let m : c.args.left - length c.as_slice-args.result.now - 1 + 1 + length q.args ≡ c.args.left = rw (sym args) (omega (arith, le)) in
    let is = c.either-before.ensures ∙ rw (c.arg_type.ensures, args) refl in
    subst (λ (k : OpKind). FindsInside c.args.target.0 c.args.x.0 c.args.known.now c.args.left k (Within None)) (sym (while_parts c.args.parts.now))
    (while_between c.args.target.0 c.args.x.0 c.args.known.now c.args.left q.args q.inits (rows_of q.before) (ends_of q.before) q.cond q.after_args (rows_of q.after) (ends_of q.after)
    c.either-before.result (c.args.left - length c.as_slice-args.result.now - 1) m is c.in-Behind.left c.in-Behind.ensures
    (subst (λ xs. c.in-Behind.left < length xs) c.as_slice-after_args.ensures c.if-left-after_args.true))

pub search_while-returns : goal.search_while-returns
search_while-returns t c =
    let q = out-WhileParts c.args.parts.now in
    let args = c.as_slice-args.ensures in
    let le = c.if-left-args.false in
    let m : c.args.left - length c.as_slice-args.result.now - 1 + 1 + length q.args ≡ c.args.left = rw (sym args) (omega (arith, le)) in
    let after_args = c.as_slice-after_args.ensures in
    let le2 = c.if-left-after_args.false in
    let m2 : c.in-Behind.left - length c.as_slice-after_args.result.now + length q.after_args ≡ c.in-Behind.left = rw (sym after_args) (omega (arith, le2)) in
    let is = c.either-before.ensures ∙ rw (c.arg_type.ensures, args) refl in
    let is2 = c.either-after.ensures ∙ rw (c.arg_type-2.ensures, after_args) refl in
    subst (λ (k : OpKind). FindsInside c.args.target.0 c.args.x.0 c.args.known.now c.args.left k c.search_region-2.result) (sym (while_parts c.args.parts.now))
    (while_after c.args.target.0 c.args.x.0 c.args.known.now c.args.left q.args q.inits (rows_of q.before) (ends_of q.before) q.cond q.after_args (rows_of q.after) (ends_of q.after)
    c.either-before.result (c.args.left - length c.as_slice-args.result.now - 1) m is c.in-Behind.left c.in-Behind.ensures
    c.either-after.result (c.in-Behind.left - length c.as_slice-after_args.result.now) c.search_region-2.result m2 is2 c.search_region-2.ensures)
