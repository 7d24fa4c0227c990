use Rattle.std.proofs.Common.{ap}
use Rattle.mlir_ir.specs.declared.types.Kind.{back-Kind-If-2}
use Rattle.mlir_print.proofs.Nested.{arm_pushed, before_pushed, after_pushed, for_pushed, while_pushed, for_kind, while_kind, simple_pushed, none_pushed, some_pushed}
use Rattle.mlir_print.proofs.operations.+print.Goals as goal

pub push_arm-returns : goal.push_arm-returns
push_arm-returns t c = arm_pushed c.args.names.now _ c.args.region.now _ _ _ _ _ c.as_slice.ensures c.as_slice-2.ensures c.in_ok-push_ops.ensures c.in_ok-push_yield.ensures

pub push_before-returns : goal.push_before-returns
push_before-returns t c = before_pushed c.args.names.now _ c.args.cond c.args.region.now _ _ _ _ _ c.as_slice.ensures c.as_slice-2.ensures c.in_ok-push_ops.ensures c.in_ok-push_condition.ensures

pub push_after-returns : goal.push_after-returns
push_after-returns t c = after_pushed c.args.names.now _ c.args.region.now _ _ _ _ _ c.as_slice.ensures c.as_slice-2.ensures c.in_ok-push_ops.ensures c.in_ok-push_end.ensures

pub push_for-returns : goal.push_for-returns
push_for-returns t c = λ front packs e. for_pushed c.args.names.now _ c.args.results.now c.args.parts.now front packs _ _ _ _ e c.in_ok-push_for_head.ensures c.in_ok-push_arm.ensures c.in_ok-push_line.ensures

pub push_while-returns : goal.push_while-returns
push_while-returns t c = λ front packs e.
    while_pushed c.args.names.now _ c.args.results.now c.args.parts.now _ front packs _ _ _ _ _ _ _ c.as_slice.ensures e c.in_ok-push_while_head.ensures c.in_ok-push_before.ensures c.in_ok-push_line.ensures c.in_ok-push_block.ensures c.in_ok-push_after.ensures c.in_ok-push_line-2.ensures

pub push_kind-returns-in_ok-push_for-in-For : goal.push_kind-returns-in_ok-push_for-in-For
push_kind-returns-in_ok-push_for-in-For t c = λ front packs e. for_kind c.args.names.now _ c.args.results.now c.in-For.parts c.args.kind.now front packs _ c.in-For.is (c.in_ok-push_for-in-For.ensures front packs e)

pub push_kind-returns-in_ok-push_while-in-While : goal.push_kind-returns-in_ok-push_while-in-While
push_kind-returns-in_ok-push_while-in-While t c = λ front packs e. while_kind c.args.names.now _ c.args.results.now c.in-While.parts c.args.kind.now front packs _ c.in-While.is (c.in_ok-push_while-in-While.ensures front packs e)

pub push_kind-returns-in_ok-writeln-in_default : goal.push_kind-returns-in_ok-writeln-in_default
push_kind-returns-in_ok-writeln-in_default t c = λ front packs e.
    simple_pushed c.args.names.now _ c.args.results.now c.args.kind.now front packs _ _ _ c.in_default.not-If c.in_default.not-For c.in_default.not-While e c.in_ok-push_simple-in_default.ensures c.in_ok-writeln-in_default.ensures.bytes

pub push_kind-returns-in_ok-push_line-in-None : goal.push_kind-returns-in_ok-push_line-in-None
push_kind-returns-in_ok-push_line-in-None t c = λ front packs e.
    none_pushed c.args.names.now _ c.args.results.now c.in-If.c c.in-If.first c.args.kind.now _ front packs _ _ _ _ c.in-If.is (ap back-Kind-If-2 c.in-None.is) e c.in_ok-push_if_head-in-If.ensures c.in_ok-push_arm-in-If.ensures c.in_ok-push_line-in-None.ensures

pub push_kind-returns-in_ok-push_line-in-Some-2 : goal.push_kind-returns-in_ok-push_line-in-Some-2
push_kind-returns-in_ok-push_line-in-Some-2 t c = λ front packs e.
    some_pushed c.args.names.now _ c.args.results.now c.in-If.c c.in-If.first c.in-Some.region c.args.kind.now _ front packs _ _ _ _ _ _ c.in-If.is (ap back-Kind-If-2 c.in-Some.is) e c.in_ok-push_if_head-in-If.ensures c.in_ok-push_arm-in-If.ensures c.in_ok-push_line-in-Some.ensures c.in_ok-push_arm-in-Some.ensures c.in_ok-push_line-in-Some-2.ensures
