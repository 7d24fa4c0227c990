use Rattle.std.proofs.Common.{rules, arith, ◌≡◌, ◌+◌, ◌-◌, ◌<◌, ◌^◌, sym, subst, ◌++◌, List, length, take, ap, ◌∙◌}
use Rattle.std.proofs.lemmas.Grind.{common_steps}
use Rattle.mlir_ir.specs.declared.rules.Position.{Position}
use Rattle.mlir_ir.specs.declared.types.Region.{the_lemmas}
use Rattle.mlir_ir.specs.Check.{past_op, results_of}
use Rattle.mlir_ir.specs.Labels.{region_labels, ops_labels}
use Rattle.mlir_ir.specs.Limits.{region_limit}
use Rattle.mlir_ir.specs.Within.{region_labels_within, kind_labels_within, opened_labels}
use Rattle.mlir_ir.specs.declared.rules.Nest.{Nest}
use Rattle.mlir_ir.specs.declared.types.Arg.{Arg}
use Rattle.mlir_ir.specs.declared.types.WhileParts.{out-WhileParts}
use Rattle.mlir_ir.specs.Scope.{scope_values}
use Rattle.mlir_ir.proofs.WithinRegions.{region_within_items, within_room, whole_more, op_found, kind_found, kind_room, arm_found, before_found, while_within}
use Rattle.mlir_ir.proofs.ListedBreaks.{next_op, past_ops_more, found_here, found_later}
use Rattle.mlir_ir.proofs.walk.+walk.Goals as goal

pub check_arm-check_ops-requires : goal.check_arm-check_ops-requires
check_arm-check_ops-requires t c = (search (rules, the_lemmas), rw (c.as_slice-ops.ensures, ← region_within_items (region_limit - c.args.nest.regions) c.args.region.now) c.requires)

pub check_before-check_ops-requires : goal.check_before-check_ops-requires
check_before-check_ops-requires t c = (search (rules, the_lemmas), rw (c.as_slice-ops.ensures, ← region_within_items (region_limit - c.args.nest.regions) c.args.region.now) c.requires)

pub check_turn-check_ops-requires : goal.check_turn-check_ops-requires
check_turn-check_ops-requires t c = (search (rules, the_lemmas), rw (c.as_slice-ops.ensures, ← region_within_items (region_limit - c.args.nest.regions) c.args.region.now) c.requires)

pub check_ops-check_op-requires : goal.check_ops-check_op-requires
check_ops-check_op-requires t c =
    let n : c.loop-k.behind.next ≡ c.args.at.next + ops_labels (take c.loop-k.k c.args.ops.now) = ap (λ (p : Position). p.next) c.loop-k.invariant.moved in
    let w = c.loop-k.invariant.whole in
    let r = within_room (region_limit - c.args.nest.regions) c.args.ops.now c.loop-k.k c.index-ops-k.result c.loop-k-test.true c.index-ops-k.is in
    (search (rules, the_lemmas), omega arith)

pub check_ops-returns-in_err-behind-clause-found : goal.check_ops-returns-in_err-behind-clause-found
check_ops-returns-in_err-behind-clause-found t c =
    let step = next_op (scope_values c.args.scope.now) c.args.nest c.args.at c.loop-k.behind c.args.ops.now c.loop-k.k c.index-ops-k.result c.loop-k-test.true c.index-ops-k.is c.loop-k.invariant.moved in
    let whole = found_here _ _ _ _ _ c.loop-k.invariant.rest step c.in_err-behind.ensures.found in
    grind (arith, common_steps, whole)

pub check_ops-loop-k-preserved : goal.check_ops-loop-k-preserved
check_ops-loop-k-preserved t c =
    let step = next_op (scope_values c.args.scope.now) c.args.nest c.args.at c.loop-k.behind c.args.ops.now c.loop-k.k c.index-ops-k.result c.loop-k-test.true c.index-ops-k.is c.loop-k.invariant.moved in
    let rest = found_later _ _ _ _ c.loop-k.invariant.rest step c.in_ok-behind.ensures.found in
    let moved = c.in_ok-behind.ensures.moved in
    record {
      whole =
          whole_more (region_limit - c.args.nest.regions) c.args.ops.now c.loop-k.k c.index-ops-k.result c.loop-k-test.true c.index-ops-k.is c.loop-k.invariant.whole
          (op_found (scope_values c.args.scope.now ++ results_of c.args.at.next (take c.loop-k.k c.args.ops.now)) c.args.nest c.loop-k.behind c.index-ops-k.result c.in_ok-behind.ensures.found);
      moved = moved ∙ (ap (past_op c.index-ops-k.result) c.loop-k.invariant.moved ∙ past_ops_more c.args.ops.now c.loop-k.k c.index-ops-k.result c.args.at c.loop-k-test.true c.index-ops-k.is);
      rest = rw moved rest;
    }

pub check_op-past-requires-2-clause-labels : goal.check_op-past-requires-2-clause-labels
check_op-past-requires-2-clause-labels t c =
    let whole = kind_found (scope_values c.args.scope.now) c.args.nest c.past.result c.as_slice-results.result.now c.args.op.now.kind (c.op_rules.ensures.opens c.in_ok-keep.ensures.kept) c.in_ok-inside.ensures.found in
    let n = ap (λ (p : Position). p.next) c.in_ok-inside.ensures.moved in
    let m = ap (λ (p : Position). p.next) c.past.ensures in
    grind (arith, common_steps, whole, n, m, c.requires)

pub check_kind-check_arm-requires-in-If-default-default-Some-2 : goal.check_kind-check_arm-requires-in-If-default-default-Some-2
check_kind-check_arm-requires-in-If-default-default-Some-2 t c =
    let first = c.in-If-default-default-Some.first in
    let whole : region_labels_within (region_limit - c.opened-in-If-default-default-Some.result.regions) first ≡ region_labels first = arm_found _ _ _ _ _ c.in_ok-behind-in-If-default-default-Some.ensures.found in
    let n : c.in_ok-behind-in-If-default-default-Some.behind.next ≡ c.args.at.next + region_labels first = ap (λ (p : Position). p.next) c.in_ok-behind-in-If-default-default-Some.ensures.moved in
    let both = c.opened-in-If-default-default-Some.ensures ∙ sym c.opened-in-If-default-default-Some-2.ensures in
    let same : region_labels_within (region_limit - c.opened-in-If-default-default-Some-2.result.regions) first ≡ region_labels first = subst (λ (x : Nest). region_labels_within (region_limit - x.regions) first ≡ region_labels first) both whole in
    let room : opened_labels (region_limit - c.opened-in-If-default-default-Some-2.result.regions) c.args.kind.now ≡ kind_labels_within (region_limit - c.args.nest.regions) c.args.kind.now =
    rw c.opened-in-If-default-default-Some-2.ensures (sym (kind_room c.args.nest.regions c.args.nest.loops c.args.kind.now c.requires.opens)) in
    let fits : c.args.at.next + opened_labels (region_limit - c.opened-in-If-default-default-Some-2.result.regions) c.args.kind.now < 2 ^ 32 = rw room c.requires.room in
    (search (rules, the_lemmas), first_of (search (rules, the_lemmas), omega arith, grind (arith, the_lemmas, fits, n, same)))

pub check_while-check_args-requires-2 : goal.check_while-check_args-requires-2
check_while-check_args-requires-2 t c =
    let before = (out-WhileParts c.args.parts.now).before in
    let whole : region_labels_within (region_limit - c.args.nest.regions) before ≡ region_labels before = before_found _ _ _ _ _ _ c.in_ok-behind.ensures.found in
    let n = ap (λ (p : Position). p.next) c.in_ok-behind.ensures.moved in
    let m = ap (λ (p : Position). p.next) c.in_ok-in_before.ensures.moved in
    let a = ap (λ (xs : List Arg). length xs) c.as_slice-args.ensures in
    let b = ap (λ (xs : List Arg). length xs) c.as_slice-after_args.ensures in
    let parts = while_within (region_limit - c.args.nest.regions) c.args.parts.now in
    first_of (omega (arith, whole, n, m, a, b, parts, c.requires), grind (arith, whole, n, m, a, b, parts, c.requires))

pub check_while-check_turn-requires : goal.check_while-check_turn-requires
check_while-check_turn-requires t c =
    let before = (out-WhileParts c.args.parts.now).before in
    let whole : region_labels_within (region_limit - c.args.nest.regions) before ≡ region_labels before = before_found _ _ _ _ _ _ c.in_ok-behind.ensures.found in
    let n = ap (λ (p : Position). p.next) c.in_ok-behind.ensures.moved in
    let m = ap (λ (p : Position). p.next) c.in_ok-in_before.ensures.moved in
    let o = ap (λ (p : Position). p.next) c.in_ok-in_after.ensures.moved in
    let a = ap (λ (xs : List Arg). length xs) c.as_slice-args.ensures in
    let b = ap (λ (xs : List Arg). length xs) c.as_slice-after_args.ensures in
    let parts = while_within (region_limit - c.args.nest.regions) c.args.parts.now in
    (search (rules, the_lemmas), first_of (omega (arith, whole, n, m, o, a, b, parts, c.requires), grind (arith, whole, n, m, o, a, b, parts, c.requires)))
