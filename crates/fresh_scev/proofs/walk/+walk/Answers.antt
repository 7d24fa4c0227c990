use Rattle.std.proofs.Common.{◌≡◌, ◌+◌, ◌-◌, ◌*◌, ◌^◌, ◌<◌, ◌++◌, [], ◌∷◌, List, length, take, true, false, ap, refl, sym, ◌∙◌, subst, arith, OnOk}
use Rattle.arith_word.specs.declared.label.Label.{Label}
use Rattle.mlir_ir.specs.Operations.{nil, labels_of, inner_labels, count_of, inner_count}
use Rattle.mlir_ir.specs.View.{view_kind, view_ops, view_for, view_while}
use Rattle.mlir_ir.specs.declared.types.ForParts.{out-ForParts}
use Rattle.mlir_ir.specs.declared.types.IrType.{IrType}
use Rattle.mlir_ir.specs.declared.types.Kind.{back-Kind-If-2}
use Rattle.mlir_ir.specs.declared.types.Region.{out-Region}
use Rattle.mlir_ir.specs.declared.types.WhileParts.{out-WhileParts}
use Rattle.fresh_scev.specs.Facts.{IsOps, round_limit}
use Rattle.fresh_scev.specs.Heads.{CanWalk, rows_of, ends_of, for_of, while_of}
use Rattle.fresh_scev.specs.Table.{next_label}
use Rattle.fresh_scev.specs.UsesBelow.{AreBelow, CarriesResults, DoesUseBelow}
use Rattle.fresh_scev.specs.declared.table.Table.{Table}
use Rattle.fresh_scev.specs.Walked.{Says, AreKindRuled}
use Rattle.fresh_scev.proofs.GrowingTables.{room_less}
use Rattle.fresh_scev.proofs.Walks.{says_no_ops}
use Rattle.fresh_scev.proofs.WalkSteps.{SaysKind, below, ops_asked, ops_read, ops_under, ops_begin, ops_done, kind_ready, kind_uses, kind_carries, kind_falls, ops_further, kind_can, kind_as, simple_below, then_view, branches_view, plain_said, ok_then}
use Rattle.fresh_scev.proofs.WalkSteps.{first_can, other_can, other_uses, merged_can, firsts_below, others_below, if_said, condition_uses, condition_can, condition_said}
use Rattle.fresh_scev.proofs.WalkSteps.{for_uses, for_labels, for_place, for_can, for_end, for_index, for_label, for_counter, for_arguments, for_said, round_room, body_can, body_uses, SaysRounds, round_first, round_begins, round_begun, rounds_more, more_grows, rounds_end}
use Rattle.fresh_scev.proofs.WalkSteps.{while_uses, while_labels, while_place, while_can, while_end, while_index, while_label, while_counter, while_passed, while_said, before_can, before_uses, params_room, params_can, passed_below, after_can, after_uses, regions_said}
use Rattle.fresh_scev.proofs.WalkSteps.{turn_room, regions_can, regions_place, SaysTurns, turn_first, turn_begins, turn_begun, turns_more, turn_grows_more, turns_end}
use Rattle.fresh_scev.proofs.walk.+walk.Goals as goal

pub walk_ops-loop-op-init : goal.walk_ops-loop-op-init
walk_ops-loop-op-init t c = ops_begin c.args.t.now c.args.ops.now c.requires.ready c.requires.uses

pub walk_ops-walk_kind-requires : goal.walk_ops-walk_kind-requires
walk_ops-walk_kind-requires t c =
    let op = c.op-item.result in
    let e = c.as_slice.ensures in (
      below (6 * inner_count (view_kind op.kind) + 5) (6 * count_of (view_ops c.args.ops.now)) t c.decreases (kind_falls c.args.t.now c.args.ops.now c.requires.ready c.requires.uses c.loop-op.t c.loop-op.op-index c.op-item.result (omega (arith, c.loop-op-test.true)) c.op-item.is c.loop-op.invariant),
      (
        subst (λ (tys : List IrType). CanWalk c.loop-op.t (inner_labels (view_kind op.kind) + length tys)) (sym e) (kind_ready c.args.t.now c.args.ops.now c.requires.ready c.requires.uses c.loop-op.t c.loop-op.op-index c.op-item.result (omega (arith, c.loop-op-test.true)) c.op-item.is c.loop-op.invariant),
        (
          kind_uses c.args.t.now c.args.ops.now c.requires.ready c.requires.uses c.loop-op.t c.loop-op.op-index c.op-item.result (omega (arith, c.loop-op-test.true)) c.op-item.is c.loop-op.invariant,
          subst (λ (tys : List IrType). CarriesResults (view_kind op.kind) tys) (sym e) (kind_carries c.args.t.now c.args.ops.now c.requires.ready c.requires.uses c.loop-op.t c.loop-op.op-index c.op-item.result (omega (arith, c.loop-op-test.true)) c.op-item.is c.loop-op.invariant),
        ),
      ),
    )

pub walk_ops-loop-op-preserved : goal.walk_ops-loop-op-preserved
walk_ops-loop-op-preserved t c =
    let op = c.op-item.result in
    ops_further c.args.t.now c.args.ops.now c.requires.ready c.requires.uses c.loop-op.t c.loop-op.op-index c.op-item.result (omega (arith, c.loop-op-test.true)) c.op-item.is c.loop-op.invariant c.walk_kind.new.t
    (subst (λ (tys : List IrType). SaysKind c.loop-op.t c.walk_kind.new.t (view_kind op.kind) tys) c.as_slice.ensures c.in_ok-walk_kind.ensures)

pub walk_ops-returns : goal.walk_ops-returns
walk_ops-returns t c = ops_done c.args.t.now c.args.ops.now c.requires.ready c.requires.uses c.loop-op.t c.loop-op.op-index (omega (arith, c.loop-op-test.false)) c.loop-op.invariant

pub walk_kind-walk_then-requires : goal.walk_kind-walk_then-requires
walk_kind-walk_then-requires t c =
    let e = then_view c.args.kind.now c.in-If.c c.in-If.first (back-Kind-If-2 c.in-If.other) c.in-If.is (ap back-Kind-If-2 c.in-None.is) in (
      below (6 * count_of (rows_of c.in-If.first) + 4) (6 * inner_count (view_kind c.args.kind.now) + 5) t c.decreases (subst (λ k. 6 * count_of (rows_of c.in-If.first) + 4 < 6 * inner_count k + 5) (sym e) (omega arith)),
      (
        subst (λ k. CanWalk c.args.t.now (inner_labels k + length c.args.results.now)) e c.requires.ready,
        subst (λ k. DoesUseBelow k (next_label c.args.t.now)) e c.requires.uses,
      ),
    )

pub walk_kind-returns-in-None : goal.walk_kind-returns-in-None
walk_kind-returns-in-None t c =
    subst (λ k. OnOk c.walk_then.result (SaysKind c.args.t.now c.walk_then.new.t k c.args.results.now)) (sym (then_view c.args.kind.now c.in-If.c c.in-If.first (back-Kind-If-2 c.in-If.other) c.in-If.is (ap back-Kind-If-2 c.in-None.is))) c.walk_then.ensures

pub walk_kind-walk_branches-requires : goal.walk_kind-walk_branches-requires
walk_kind-walk_branches-requires t c =
    let e = branches_view c.args.kind.now c.in-If.c c.in-If.first (back-Kind-If-2 c.in-If.other) c.in-Some.other c.in-If.is (ap back-Kind-If-2 c.in-Some.is) in (
      below (6 * (count_of (rows_of c.in-If.first) + count_of (rows_of c.in-Some.other)) + 4) (6 * inner_count (view_kind c.args.kind.now) + 5) t c.decreases (subst (λ k. 6 * (count_of (rows_of c.in-If.first) + count_of (rows_of c.in-Some.other)) + 4 < 6 * inner_count k + 5) (sym e) (omega arith)),
      (
        subst (λ k. CanWalk c.args.t.now (inner_labels k + length c.args.results.now)) e c.requires.ready,
        subst (λ k. DoesUseBelow k (next_label c.args.t.now)) e c.requires.uses,
      ),
    )

pub walk_kind-returns-in-Some : goal.walk_kind-returns-in-Some
walk_kind-returns-in-Some t c =
    subst (λ k. OnOk c.walk_branches.result (SaysKind c.args.t.now c.walk_branches.new.t k c.args.results.now)) (sym (branches_view c.args.kind.now c.in-If.c c.in-If.first (back-Kind-If-2 c.in-If.other) c.in-Some.other c.in-If.is (ap back-Kind-If-2 c.in-Some.is))) c.walk_branches.ensures

pub walk_kind-walk_for-requires : goal.walk_kind-walk_for-requires
walk_kind-walk_for-requires t c =
    let e = ap view_kind c.in-For.is in (
      below (6 * inner_count (view_for c.in-For.parts) + 4) (6 * inner_count (view_kind c.args.kind.now) + 5) t c.decreases (subst (λ k. 6 * inner_count (view_for c.in-For.parts) + 4 < 6 * inner_count k + 5) (sym e) (omega arith)),
      (
        subst (λ k. CanWalk c.args.t.now (inner_labels k + length c.args.results.now)) e c.requires.ready,
        (
          subst (λ k. DoesUseBelow k (next_label c.args.t.now)) e c.requires.uses,
          subst (λ k. CarriesResults k c.args.results.now) e c.requires.carries,
        ),
      ),
    )

pub walk_kind-walk_while-requires : goal.walk_kind-walk_while-requires
walk_kind-walk_while-requires t c =
    let e = ap view_kind c.in-While.is in (
      below (6 * inner_count (view_while c.in-While.parts) + 4) (6 * inner_count (view_kind c.args.kind.now) + 5) t c.decreases (subst (λ k. 6 * inner_count (view_while c.in-While.parts) + 4 < 6 * inner_count k + 5) (sym e) (omega arith)),
      (
        subst (λ k. CanWalk c.args.t.now (inner_labels k + length c.args.results.now)) e c.requires.ready,
        subst (λ k. DoesUseBelow k (next_label c.args.t.now)) e c.requires.uses,
      ),
    )

pub walk_kind-define_results-requires : goal.walk_kind-define_results-requires
walk_kind-define_results-requires t c =
    record {
      room = room_less c.args.t.now (inner_labels (view_kind c.args.kind.now) + length c.args.results.now) (length c.args.results.now) (omega arith) c.requires.ready.room;
      known = c.requires.ready.known;
      uses = simple_below (view_kind c.args.kind.now) (next_label c.args.t.now) c.requires.uses;
    }

pub walk_kind-returns-in-For : goal.walk_kind-returns-in-For
walk_kind-returns-in-For t c =
    subst (λ k. OnOk c.walk_for.result (SaysKind c.args.t.now c.walk_for.new.t k c.args.results.now)) (sym (ap view_kind c.in-For.is)) c.walk_for.ensures

pub walk_kind-returns-in-While : goal.walk_kind-returns-in-While
walk_kind-returns-in-While t c =
    subst (λ k. OnOk c.walk_while.result (SaysKind c.args.t.now c.walk_while.new.t k c.args.results.now)) (sym (ap view_kind c.in-While.is)) c.walk_while.ensures

pub walk_kind-returns-in_default : goal.walk_kind-returns-in_default
walk_kind-returns-in_default t c =
    let k = view_kind c.args.kind.now in
    let s = c.args.t.now in
    let u = c.define_results.new.t in
    let tys = c.args.results.now in
    ok_then c.define_results.result (Says s u (length tys) (λ F. AreKindRuled F (next_label s) tys k)) (SaysKind s u k tys)
    (plain_said c.args.kind.now s u tys c.in_default.not-If c.in_default.not-For c.in_default.not-While) c.define_results.ensures

pub walk_then-next-start-requires : goal.walk_then-next-start-requires
walk_then-next-start-requires t c = room_less c.args.t.now (labels_of (rows_of c.args.first.now) + labels_of nil + length c.args.results.now) 0 (omega arith) c.requires.ready.room

pub walk_then-walk_first-requires : goal.walk_then-walk_first-requires
walk_then-walk_first-requires t c = (
  below (6 * count_of (rows_of c.args.first.now) + 1) (6 * count_of (rows_of c.args.first.now) + 4) t c.decreases (omega arith),
  (first_can c.args.t.now c.args.c c.args.first.now false nil [] c.args.results.now c.requires.ready c.requires.uses, (c.requires.uses.0, c.requires.uses.1)),
)

pub walk_then-define_merged-requires-clause-room : goal.walk_then-define_merged-requires-clause-room
walk_then-define_merged-requires-clause-room t c = (merged_can c.args.t.now c.args.c c.args.first.now false nil [] c.args.results.now c.requires.ready c.requires.uses c.walk_first.new.t c.in_ok-walk_first.ensures c.walk_first.new.t (says_no_ops c.walk_first.new.t c.walk_first.new.t.conditions.items c.in_ok-walk_first.ensures.grows.known)).room

pub walk_then-define_merged-requires-clause-known : goal.walk_then-define_merged-requires-clause-known
walk_then-define_merged-requires-clause-known t c = (merged_can c.args.t.now c.args.c c.args.first.now false nil [] c.args.results.now c.requires.ready c.requires.uses c.walk_first.new.t c.in_ok-walk_first.ensures c.walk_first.new.t (says_no_ops c.walk_first.new.t c.walk_first.new.t.conditions.items c.in_ok-walk_first.ensures.grows.known)).known

pub walk_then-define_merged-requires-clause-firsts : goal.walk_then-define_merged-requires-clause-firsts
walk_then-define_merged-requires-clause-firsts t c = subst (λ ls. AreBelow ls (next_label c.walk_first.new.t)) (sym c.as_slice.ensures) (firsts_below c.args.t.now c.args.c c.args.first.now false nil [] c.args.results.now c.requires.ready c.requires.uses c.walk_first.new.t c.in_ok-walk_first.ensures c.walk_first.new.t (says_no_ops c.walk_first.new.t c.walk_first.new.t.conditions.items c.in_ok-walk_first.ensures.grows.known))

pub walk_then-define_merged-requires-clause-others : goal.walk_then-define_merged-requires-clause-others
walk_then-define_merged-requires-clause-others t c = tt

pub walk_then-returns : goal.walk_then-returns
walk_then-returns t c = if_said c.args.t.now c.args.c c.args.first.now false nil [] c.args.results.now c.requires.ready c.requires.uses c.walk_first.new.t c.in_ok-walk_first.ensures c.walk_first.new.t (says_no_ops c.walk_first.new.t c.walk_first.new.t.conditions.items c.in_ok-walk_first.ensures.grows.known) c.define_merged.new.t c.next-start.result.0 c.as_slice.result.now [] c.next-start.ensures c.as_slice.ensures refl c.in_ok-define_merged.ensures

pub walk_branches-next-start-requires : goal.walk_branches-next-start-requires
walk_branches-next-start-requires t c = room_less c.args.t.now (labels_of (rows_of c.args.first.now) + labels_of (rows_of c.args.other.now) + length c.args.results.now) 0 (omega arith) c.requires.ready.room

pub walk_branches-walk_first-requires : goal.walk_branches-walk_first-requires
walk_branches-walk_first-requires t c = (
  below (6 * count_of (rows_of c.args.first.now) + 1) (6 * (count_of (rows_of c.args.first.now) + count_of (rows_of c.args.other.now)) + 4) t c.decreases (omega arith),
  (first_can c.args.t.now c.args.c c.args.first.now true (rows_of c.args.other.now) (ends_of c.args.other.now) c.args.results.now c.requires.ready c.requires.uses, (c.requires.uses.0, c.requires.uses.1)),
)

pub walk_branches-walk_ops-requires : goal.walk_branches-walk_ops-requires
walk_branches-walk_ops-requires t c =
    ops_asked c.walk_first.new.t t c.as_slice.result.now (out-Region c.args.other.now).ops c.as_slice.ensures
    (below (6 * count_of (rows_of c.args.other.now)) (6 * (count_of (rows_of c.args.first.now) + count_of (rows_of c.args.other.now)) + 4) t c.decreases (omega arith)) (other_can c.args.t.now c.args.c c.args.first.now true (rows_of c.args.other.now) (ends_of c.args.other.now) c.args.results.now c.requires.ready c.requires.uses c.walk_first.new.t c.in_ok-walk_first.ensures) (other_uses c.args.t.now c.args.c c.args.first.now true (rows_of c.args.other.now) (ends_of c.args.other.now) c.args.results.now c.requires.ready c.requires.uses c.walk_first.new.t c.in_ok-walk_first.ensures)

pub walk_branches-define_merged-requires-clause-room : goal.walk_branches-define_merged-requires-clause-room
walk_branches-define_merged-requires-clause-room t c = (merged_can c.args.t.now c.args.c c.args.first.now true (rows_of c.args.other.now) (ends_of c.args.other.now) c.args.results.now c.requires.ready c.requires.uses c.walk_first.new.t c.in_ok-walk_first.ensures c.walk_ops.new.t (ops_read c.walk_first.new.t c.walk_ops.new.t c.as_slice.result.now (out-Region c.args.other.now).ops c.as_slice.ensures c.in_ok-walk_ops.ensures)).room

pub walk_branches-define_merged-requires-clause-known : goal.walk_branches-define_merged-requires-clause-known
walk_branches-define_merged-requires-clause-known t c = (merged_can c.args.t.now c.args.c c.args.first.now true (rows_of c.args.other.now) (ends_of c.args.other.now) c.args.results.now c.requires.ready c.requires.uses c.walk_first.new.t c.in_ok-walk_first.ensures c.walk_ops.new.t (ops_read c.walk_first.new.t c.walk_ops.new.t c.as_slice.result.now (out-Region c.args.other.now).ops c.as_slice.ensures c.in_ok-walk_ops.ensures)).known

pub walk_branches-define_merged-requires-clause-firsts : goal.walk_branches-define_merged-requires-clause-firsts
walk_branches-define_merged-requires-clause-firsts t c = subst (λ ls. AreBelow ls (next_label c.walk_ops.new.t)) (sym c.as_slice-2.ensures) (firsts_below c.args.t.now c.args.c c.args.first.now true (rows_of c.args.other.now) (ends_of c.args.other.now) c.args.results.now c.requires.ready c.requires.uses c.walk_first.new.t c.in_ok-walk_first.ensures c.walk_ops.new.t (ops_read c.walk_first.new.t c.walk_ops.new.t c.as_slice.result.now (out-Region c.args.other.now).ops c.as_slice.ensures c.in_ok-walk_ops.ensures))

pub walk_branches-define_merged-requires-clause-others : goal.walk_branches-define_merged-requires-clause-others
walk_branches-define_merged-requires-clause-others t c = subst (λ ls. AreBelow ls (next_label c.walk_ops.new.t)) (sym c.as_slice-3.ensures) (others_below c.args.t.now c.args.c c.args.first.now true (rows_of c.args.other.now) (ends_of c.args.other.now) c.args.results.now c.requires.ready c.requires.uses c.walk_first.new.t c.in_ok-walk_first.ensures c.walk_ops.new.t (ops_read c.walk_first.new.t c.walk_ops.new.t c.as_slice.result.now (out-Region c.args.other.now).ops c.as_slice.ensures c.in_ok-walk_ops.ensures))

pub walk_branches-returns : goal.walk_branches-returns
walk_branches-returns t c = if_said c.args.t.now c.args.c c.args.first.now true (rows_of c.args.other.now) (ends_of c.args.other.now) c.args.results.now c.requires.ready c.requires.uses c.walk_first.new.t c.in_ok-walk_first.ensures c.walk_ops.new.t (ops_read c.walk_first.new.t c.walk_ops.new.t c.as_slice.result.now (out-Region c.args.other.now).ops c.as_slice.ensures c.in_ok-walk_ops.ensures) c.define_merged.new.t c.next-start.result.0 c.as_slice-2.result.now c.as_slice-3.result.now c.next-start.ensures c.as_slice-2.ensures c.as_slice-3.ensures c.in_ok-define_merged.ensures

pub walk_first-walk_ops-requires : goal.walk_first-walk_ops-requires
walk_first-walk_ops-requires t c =
    let s = c.args.t.now in
    let u : Table = record { alloc = c.args.t.now.alloc; func = c.args.t.now.func; items = c.args.t.now.items; here = c.args.t.now.here; conditions = c.push.new.self } in
    let first = c.args.first.now in
    ops_asked u t c.as_slice.result.now (out-Region first).ops c.as_slice.ensures (below (6 * count_of (rows_of first)) (6 * count_of (rows_of first) + 1) t c.decreases (omega arith))
    (condition_can s u c.args.c (labels_of (rows_of first)) refl refl refl c.in_ok-push.ensures.items c.requires.condition c.requires.ready)
    (condition_uses s u (rows_of first) refl refl refl c.requires.uses)

pub walk_first-returns : goal.walk_first-returns
walk_first-returns t c =
    let s = c.args.t.now in
    let w : Table = record { alloc = c.args.t.now.alloc; func = c.args.t.now.func; items = c.args.t.now.items; here = c.args.t.now.here; conditions = c.push.new.self } in
    let u = c.walk_ops.new.t in
    let v : Table = record { alloc = u.alloc; func = u.func; items = u.items; here = u.here; conditions = c.pop.new.self } in
    let first = c.args.first.now in
    let says = ops_under w u (s.conditions.items ++ c.args.c ∷ []) (rows_of first) c.in_ok-push.ensures.items (ops_read w u c.as_slice.result.now (out-Region first).ops c.as_slice.ensures c.in_ok-walk_ops.ensures) in
    condition_said s w u v c.args.c (labels_of (rows_of first)) (IsOps (s.conditions.items ++ c.args.c ∷ []) (rows_of first) (next_label s)) refl refl refl c.in_ok-push.ensures.items refl refl refl (c.pop.ensures.rest ∙ ap (λ n. take (n - 1) u.conditions.items) u.conditions.ok.0) says

pub walk_for-next-requires : goal.walk_for-next-requires
walk_for-next-requires t c = room_less c.args.t.now (inner_labels (view_for c.args.parts.now) + length c.args.results.now) 0 (omega arith) c.requires.ready.room

pub walk_for-open_loop-requires-clause-room : goal.walk_for-open_loop-requires-clause-room
walk_for-open_loop-requires-clause-room t c =
    let r = (kind_can c.args.t.now c.args.results.now (view_for c.args.parts.now) (for_of c.for_head-h.result (out-ForParts c.args.parts.now).body) (sym c.for_head-h.ensures.parts) c.requires.ready) in
    room_less c.args.t.now (inner_labels (for_of c.for_head-h.result (out-ForParts c.args.parts.now).body) + length c.args.results.now) 1 (omega arith) r.room

pub walk_for-open_loop-requires-clause-known : goal.walk_for-open_loop-requires-clause-known
walk_for-open_loop-requires-clause-known t c = c.requires.ready.known

pub walk_for-walk_for_rounds-requires : goal.walk_for-walk_for_rounds-requires
walk_for-walk_for_rounds-requires t c =
    let low : c.next.result.0 < 2 ^ 32 = c.next.type_inv.1.1.0.1 in (
      below (6 * count_of (rows_of (out-ForParts c.args.parts.now).body) + 3) (6 * inner_count (view_for c.args.parts.now) + 4) t c.decreases (subst (λ k. (6 * count_of (rows_of (out-ForParts c.args.parts.now).body) + 3) < 6 * inner_count k + 4) c.for_head-h.ensures.parts (omega arith)),
      (for_can c.args.t.now c.for_head-h.result (out-ForParts c.args.parts.now).body c.args.results.now (ap (λ (l : Label). l.0) c.for_head-h.ensures.counter ∙ c.next.ensures) (kind_can c.args.t.now c.args.results.now (view_for c.args.parts.now) (for_of c.for_head-h.result (out-ForParts c.args.parts.now).body) (sym c.for_head-h.ensures.parts) c.requires.ready) (subst (λ k. DoesUseBelow k (next_label c.args.t.now)) (sym c.for_head-h.ensures.parts) c.requires.uses) c.open_loop.new.t c.in_ok-open_loop.ensures.grows, (for_place c.args.t.now c.for_head-h.result (out-ForParts c.args.parts.now).body c.args.results.now (ap (λ (l : Label). l.0) c.for_head-h.ensures.counter ∙ c.next.ensures) (kind_can c.args.t.now c.args.results.now (view_for c.args.parts.now) (for_of c.for_head-h.result (out-ForParts c.args.parts.now).body) (sym c.for_head-h.ensures.parts) c.requires.ready) (subst (λ k. DoesUseBelow k (next_label c.args.t.now)) (sym c.for_head-h.ensures.parts) c.requires.uses) c.open_loop.new.t c.in_ok-open_loop.ensures.grows, (for_labels c.args.t.now c.for_head-h.result (out-ForParts c.args.parts.now).body c.args.results.now (ap (λ (l : Label). l.0) c.for_head-h.ensures.counter ∙ c.next.ensures) (kind_can c.args.t.now c.args.results.now (view_for c.args.parts.now) (for_of c.for_head-h.result (out-ForParts c.args.parts.now).body) (sym c.for_head-h.ensures.parts) c.requires.ready) (subst (λ k. DoesUseBelow k (next_label c.args.t.now)) (sym c.for_head-h.ensures.parts) c.requires.uses) (subst (λ n. n < 2 ^ 32) c.next.ensures low), for_uses c.args.t.now c.for_head-h.result (out-ForParts c.args.parts.now).body c.args.results.now (ap (λ (l : Label). l.0) c.for_head-h.ensures.counter ∙ c.next.ensures) (kind_can c.args.t.now c.args.results.now (view_for c.args.parts.now) (for_of c.for_head-h.result (out-ForParts c.args.parts.now).body) (sym c.for_head-h.ensures.parts) c.requires.ready) (subst (λ k. DoesUseBelow k (next_label c.args.t.now)) (sym c.for_head-h.ensures.parts) c.requires.uses)))),
    )

pub walk_for-end_for-requires-clause-room : goal.walk_for-end_for-requires-clause-room
walk_for-end_for-requires-clause-room t c = (for_end c.args.t.now c.for_head-h.result (out-ForParts c.args.parts.now).body c.args.results.now (ap (λ (l : Label). l.0) c.for_head-h.ensures.counter ∙ c.next.ensures) (kind_can c.args.t.now c.args.results.now (view_for c.args.parts.now) (for_of c.for_head-h.result (out-ForParts c.args.parts.now).body) (sym c.for_head-h.ensures.parts) c.requires.ready) (subst (λ k. DoesUseBelow k (next_label c.args.t.now)) (sym c.for_head-h.ensures.parts) c.requires.uses) c.open_loop.new.t c.in_ok-open_loop.ensures.grows c.walk_for_rounds.new.t c.in_ok-walk_for_rounds.ensures).room

pub walk_for-end_for-requires-clause-known : goal.walk_for-end_for-requires-clause-known
walk_for-end_for-requires-clause-known t c = (for_end c.args.t.now c.for_head-h.result (out-ForParts c.args.parts.now).body c.args.results.now (ap (λ (l : Label). l.0) c.for_head-h.ensures.counter ∙ c.next.ensures) (kind_can c.args.t.now c.args.results.now (view_for c.args.parts.now) (for_of c.for_head-h.result (out-ForParts c.args.parts.now).body) (sym c.for_head-h.ensures.parts) c.requires.ready) (subst (λ k. DoesUseBelow k (next_label c.args.t.now)) (sym c.for_head-h.ensures.parts) c.requires.uses) c.open_loop.new.t c.in_ok-open_loop.ensures.grows c.walk_for_rounds.new.t c.in_ok-walk_for_rounds.ensures).known

pub walk_for-end_for-requires-clause-index : goal.walk_for-end_for-requires-clause-index
walk_for-end_for-requires-clause-index t c = for_index c.args.t.now c.for_head-h.result (out-ForParts c.args.parts.now).body c.args.results.now (ap (λ (l : Label). l.0) c.for_head-h.ensures.counter ∙ c.next.ensures) (kind_can c.args.t.now c.args.results.now (view_for c.args.parts.now) (for_of c.for_head-h.result (out-ForParts c.args.parts.now).body) (sym c.for_head-h.ensures.parts) c.requires.ready) (subst (λ k. DoesUseBelow k (next_label c.args.t.now)) (sym c.for_head-h.ensures.parts) c.requires.uses) c.open_loop.new.t c.in_ok-open_loop.ensures.grows c.walk_for_rounds.new.t c.in_ok-walk_for_rounds.ensures c.len-at.result (c.len-at.ensures ∙ c.args.t.now.here.ok.0)

pub walk_for-end_for-requires-clause-label : goal.walk_for-end_for-requires-clause-label
walk_for-end_for-requires-clause-label t c = for_label c.args.t.now c.for_head-h.result (out-ForParts c.args.parts.now).body c.args.results.now (ap (λ (l : Label). l.0) c.for_head-h.ensures.counter ∙ c.next.ensures) (kind_can c.args.t.now c.args.results.now (view_for c.args.parts.now) (for_of c.for_head-h.result (out-ForParts c.args.parts.now).body) (sym c.for_head-h.ensures.parts) c.requires.ready) (subst (λ k. DoesUseBelow k (next_label c.args.t.now)) (sym c.for_head-h.ensures.parts) c.requires.uses) c.open_loop.new.t c.in_ok-open_loop.ensures.grows c.walk_for_rounds.new.t c.in_ok-walk_for_rounds.ensures c.len-at.result (c.len-at.ensures ∙ c.args.t.now.here.ok.0)

pub walk_for-end_for-requires-clause-counter : goal.walk_for-end_for-requires-clause-counter
walk_for-end_for-requires-clause-counter t c = for_counter c.args.t.now c.for_head-h.result (out-ForParts c.args.parts.now).body c.args.results.now (ap (λ (l : Label). l.0) c.for_head-h.ensures.counter ∙ c.next.ensures) (kind_can c.args.t.now c.args.results.now (view_for c.args.parts.now) (for_of c.for_head-h.result (out-ForParts c.args.parts.now).body) (sym c.for_head-h.ensures.parts) c.requires.ready) (subst (λ k. DoesUseBelow k (next_label c.args.t.now)) (sym c.for_head-h.ensures.parts) c.requires.uses) c.open_loop.new.t c.in_ok-open_loop.ensures.grows c.walk_for_rounds.new.t c.in_ok-walk_for_rounds.ensures c.in_ok-open_loop.ensures.counter

pub walk_for-end_for-requires-clause-arguments : goal.walk_for-end_for-requires-clause-arguments
walk_for-end_for-requires-clause-arguments t c = for_arguments c.args.t.now c.for_head-h.result (out-ForParts c.args.parts.now).body c.args.results.now (ap (λ (l : Label). l.0) c.for_head-h.ensures.counter ∙ c.next.ensures) (kind_can c.args.t.now c.args.results.now (view_for c.args.parts.now) (for_of c.for_head-h.result (out-ForParts c.args.parts.now).body) (sym c.for_head-h.ensures.parts) c.requires.ready) (subst (λ k. DoesUseBelow k (next_label c.args.t.now)) (sym c.for_head-h.ensures.parts) c.requires.uses) c.open_loop.new.t c.in_ok-open_loop.ensures.grows c.walk_for_rounds.new.t c.in_ok-walk_for_rounds.ensures (subst (λ k. CarriesResults k c.args.results.now) (sym c.for_head-h.ensures.parts) c.requires.carries)

pub walk_for-end_for-requires-clause-conditions : goal.walk_for-end_for-requires-clause-conditions
walk_for-end_for-requires-clause-conditions t c = (for_end c.args.t.now c.for_head-h.result (out-ForParts c.args.parts.now).body c.args.results.now (ap (λ (l : Label). l.0) c.for_head-h.ensures.counter ∙ c.next.ensures) (kind_can c.args.t.now c.args.results.now (view_for c.args.parts.now) (for_of c.for_head-h.result (out-ForParts c.args.parts.now).body) (sym c.for_head-h.ensures.parts) c.requires.ready) (subst (λ k. DoesUseBelow k (next_label c.args.t.now)) (sym c.for_head-h.ensures.parts) c.requires.uses) c.open_loop.new.t c.in_ok-open_loop.ensures.grows c.walk_for_rounds.new.t c.in_ok-walk_for_rounds.ensures).conditions

pub walk_for-returns : goal.walk_for-returns
walk_for-returns t c = kind_as c.args.t.now c.end_for.new.t c.args.results.now (view_for c.args.parts.now) (for_of c.for_head-h.result (out-ForParts c.args.parts.now).body) (sym c.for_head-h.ensures.parts) (for_said c.args.t.now c.for_head-h.result (out-ForParts c.args.parts.now).body c.args.results.now (ap (λ (l : Label). l.0) c.for_head-h.ensures.counter ∙ c.next.ensures) (kind_can c.args.t.now c.args.results.now (view_for c.args.parts.now) (for_of c.for_head-h.result (out-ForParts c.args.parts.now).body) (sym c.for_head-h.ensures.parts) c.requires.ready) (subst (λ k. DoesUseBelow k (next_label c.args.t.now)) (sym c.for_head-h.ensures.parts) c.requires.uses) c.open_loop.new.t c.in_ok-open_loop.ensures.grows c.walk_for_rounds.new.t c.in_ok-walk_for_rounds.ensures c.end_for.new.t c.in_ok-open_loop.ensures.counter c.in_ok-end_for.ensures)

pub walk_while-next-requires : goal.walk_while-next-requires
walk_while-next-requires t c = room_less c.args.t.now (inner_labels (view_while c.args.parts.now) + length c.args.results.now) 0 (omega arith) c.requires.ready.room

pub walk_while-open_loop-requires-clause-room : goal.walk_while-open_loop-requires-clause-room
walk_while-open_loop-requires-clause-room t c =
    let r = (kind_can c.args.t.now c.args.results.now (view_while c.args.parts.now) (while_of c.while_head-h.result (out-WhileParts c.args.parts.now).before (out-WhileParts c.args.parts.now).after) (sym c.while_head-h.ensures.parts) c.requires.ready) in
    room_less c.args.t.now (inner_labels (while_of c.while_head-h.result (out-WhileParts c.args.parts.now).before (out-WhileParts c.args.parts.now).after) + length c.args.results.now) 1 (omega arith) r.room

pub walk_while-open_loop-requires-clause-known : goal.walk_while-open_loop-requires-clause-known
walk_while-open_loop-requires-clause-known t c = c.requires.ready.known

pub walk_while-walk_while_rounds-requires : goal.walk_while-walk_while_rounds-requires
walk_while-walk_while_rounds-requires t c =
    let low : c.next.result.0 < 2 ^ 32 = c.next.type_inv.1.1.0.1 in (
      below (6 * (count_of (rows_of (out-WhileParts c.args.parts.now).before) + count_of (rows_of (out-WhileParts c.args.parts.now).after)) + 3) (6 * inner_count (view_while c.args.parts.now) + 4) t c.decreases (subst (λ k. (6 * (count_of (rows_of (out-WhileParts c.args.parts.now).before) + count_of (rows_of (out-WhileParts c.args.parts.now).after)) + 3) < 6 * inner_count k + 4) c.while_head-h.ensures.parts (omega arith)),
      (while_can c.args.t.now c.while_head-h.result (out-WhileParts c.args.parts.now).before (out-WhileParts c.args.parts.now).after c.args.results.now (ap (λ (l : Label). l.0) c.while_head-h.ensures.counter ∙ c.next.ensures) (kind_can c.args.t.now c.args.results.now (view_while c.args.parts.now) (while_of c.while_head-h.result (out-WhileParts c.args.parts.now).before (out-WhileParts c.args.parts.now).after) (sym c.while_head-h.ensures.parts) c.requires.ready) (subst (λ k. DoesUseBelow k (next_label c.args.t.now)) (sym c.while_head-h.ensures.parts) c.requires.uses) c.open_loop.new.t c.in_ok-open_loop.ensures.grows, (while_place c.args.t.now c.while_head-h.result (out-WhileParts c.args.parts.now).before (out-WhileParts c.args.parts.now).after c.args.results.now (ap (λ (l : Label). l.0) c.while_head-h.ensures.counter ∙ c.next.ensures) (kind_can c.args.t.now c.args.results.now (view_while c.args.parts.now) (while_of c.while_head-h.result (out-WhileParts c.args.parts.now).before (out-WhileParts c.args.parts.now).after) (sym c.while_head-h.ensures.parts) c.requires.ready) (subst (λ k. DoesUseBelow k (next_label c.args.t.now)) (sym c.while_head-h.ensures.parts) c.requires.uses) c.open_loop.new.t c.in_ok-open_loop.ensures.grows, (while_labels c.args.t.now c.while_head-h.result (out-WhileParts c.args.parts.now).before (out-WhileParts c.args.parts.now).after c.args.results.now (ap (λ (l : Label). l.0) c.while_head-h.ensures.counter ∙ c.next.ensures) (kind_can c.args.t.now c.args.results.now (view_while c.args.parts.now) (while_of c.while_head-h.result (out-WhileParts c.args.parts.now).before (out-WhileParts c.args.parts.now).after) (sym c.while_head-h.ensures.parts) c.requires.ready) (subst (λ k. DoesUseBelow k (next_label c.args.t.now)) (sym c.while_head-h.ensures.parts) c.requires.uses) (subst (λ n. n < 2 ^ 32) c.next.ensures low), while_uses c.args.t.now c.while_head-h.result (out-WhileParts c.args.parts.now).before (out-WhileParts c.args.parts.now).after c.args.results.now (ap (λ (l : Label). l.0) c.while_head-h.ensures.counter ∙ c.next.ensures) (kind_can c.args.t.now c.args.results.now (view_while c.args.parts.now) (while_of c.while_head-h.result (out-WhileParts c.args.parts.now).before (out-WhileParts c.args.parts.now).after) (sym c.while_head-h.ensures.parts) c.requires.ready) (subst (λ k. DoesUseBelow k (next_label c.args.t.now)) (sym c.while_head-h.ensures.parts) c.requires.uses)))),
    )

pub walk_while-end_while-requires-clause-room : goal.walk_while-end_while-requires-clause-room
walk_while-end_while-requires-clause-room t c = (while_end c.args.t.now c.while_head-h.result (out-WhileParts c.args.parts.now).before (out-WhileParts c.args.parts.now).after c.args.results.now (ap (λ (l : Label). l.0) c.while_head-h.ensures.counter ∙ c.next.ensures) (kind_can c.args.t.now c.args.results.now (view_while c.args.parts.now) (while_of c.while_head-h.result (out-WhileParts c.args.parts.now).before (out-WhileParts c.args.parts.now).after) (sym c.while_head-h.ensures.parts) c.requires.ready) (subst (λ k. DoesUseBelow k (next_label c.args.t.now)) (sym c.while_head-h.ensures.parts) c.requires.uses) c.open_loop.new.t c.in_ok-open_loop.ensures.grows c.walk_while_rounds.new.t c.in_ok-walk_while_rounds.ensures).room

pub walk_while-end_while-requires-clause-known : goal.walk_while-end_while-requires-clause-known
walk_while-end_while-requires-clause-known t c = (while_end c.args.t.now c.while_head-h.result (out-WhileParts c.args.parts.now).before (out-WhileParts c.args.parts.now).after c.args.results.now (ap (λ (l : Label). l.0) c.while_head-h.ensures.counter ∙ c.next.ensures) (kind_can c.args.t.now c.args.results.now (view_while c.args.parts.now) (while_of c.while_head-h.result (out-WhileParts c.args.parts.now).before (out-WhileParts c.args.parts.now).after) (sym c.while_head-h.ensures.parts) c.requires.ready) (subst (λ k. DoesUseBelow k (next_label c.args.t.now)) (sym c.while_head-h.ensures.parts) c.requires.uses) c.open_loop.new.t c.in_ok-open_loop.ensures.grows c.walk_while_rounds.new.t c.in_ok-walk_while_rounds.ensures).known

pub walk_while-end_while-requires-clause-index : goal.walk_while-end_while-requires-clause-index
walk_while-end_while-requires-clause-index t c = while_index c.args.t.now c.while_head-h.result (out-WhileParts c.args.parts.now).before (out-WhileParts c.args.parts.now).after c.args.results.now (ap (λ (l : Label). l.0) c.while_head-h.ensures.counter ∙ c.next.ensures) (kind_can c.args.t.now c.args.results.now (view_while c.args.parts.now) (while_of c.while_head-h.result (out-WhileParts c.args.parts.now).before (out-WhileParts c.args.parts.now).after) (sym c.while_head-h.ensures.parts) c.requires.ready) (subst (λ k. DoesUseBelow k (next_label c.args.t.now)) (sym c.while_head-h.ensures.parts) c.requires.uses) c.open_loop.new.t c.in_ok-open_loop.ensures.grows c.walk_while_rounds.new.t c.in_ok-walk_while_rounds.ensures c.len-at.result (c.len-at.ensures ∙ c.args.t.now.here.ok.0)

pub walk_while-end_while-requires-clause-label : goal.walk_while-end_while-requires-clause-label
walk_while-end_while-requires-clause-label t c = while_label c.args.t.now c.while_head-h.result (out-WhileParts c.args.parts.now).before (out-WhileParts c.args.parts.now).after c.args.results.now (ap (λ (l : Label). l.0) c.while_head-h.ensures.counter ∙ c.next.ensures) (kind_can c.args.t.now c.args.results.now (view_while c.args.parts.now) (while_of c.while_head-h.result (out-WhileParts c.args.parts.now).before (out-WhileParts c.args.parts.now).after) (sym c.while_head-h.ensures.parts) c.requires.ready) (subst (λ k. DoesUseBelow k (next_label c.args.t.now)) (sym c.while_head-h.ensures.parts) c.requires.uses) c.open_loop.new.t c.in_ok-open_loop.ensures.grows c.walk_while_rounds.new.t c.in_ok-walk_while_rounds.ensures c.len-at.result (c.len-at.ensures ∙ c.args.t.now.here.ok.0)

pub walk_while-end_while-requires-clause-counter : goal.walk_while-end_while-requires-clause-counter
walk_while-end_while-requires-clause-counter t c = while_counter c.args.t.now c.while_head-h.result (out-WhileParts c.args.parts.now).before (out-WhileParts c.args.parts.now).after c.args.results.now (ap (λ (l : Label). l.0) c.while_head-h.ensures.counter ∙ c.next.ensures) (kind_can c.args.t.now c.args.results.now (view_while c.args.parts.now) (while_of c.while_head-h.result (out-WhileParts c.args.parts.now).before (out-WhileParts c.args.parts.now).after) (sym c.while_head-h.ensures.parts) c.requires.ready) (subst (λ k. DoesUseBelow k (next_label c.args.t.now)) (sym c.while_head-h.ensures.parts) c.requires.uses) c.open_loop.new.t c.in_ok-open_loop.ensures.grows c.walk_while_rounds.new.t c.in_ok-walk_while_rounds.ensures c.in_ok-open_loop.ensures.counter

pub walk_while-end_while-requires-clause-passed : goal.walk_while-end_while-requires-clause-passed
walk_while-end_while-requires-clause-passed t c = subst (λ ls. AreBelow ls (next_label c.walk_while_rounds.new.t)) (sym c.as_slice.ensures) (while_passed c.args.t.now c.while_head-h.result (out-WhileParts c.args.parts.now).before (out-WhileParts c.args.parts.now).after c.args.results.now (ap (λ (l : Label). l.0) c.while_head-h.ensures.counter ∙ c.next.ensures) (kind_can c.args.t.now c.args.results.now (view_while c.args.parts.now) (while_of c.while_head-h.result (out-WhileParts c.args.parts.now).before (out-WhileParts c.args.parts.now).after) (sym c.while_head-h.ensures.parts) c.requires.ready) (subst (λ k. DoesUseBelow k (next_label c.args.t.now)) (sym c.while_head-h.ensures.parts) c.requires.uses) c.open_loop.new.t c.in_ok-open_loop.ensures.grows c.walk_while_rounds.new.t c.in_ok-walk_while_rounds.ensures)

pub walk_while-end_while-requires-clause-conditions : goal.walk_while-end_while-requires-clause-conditions
walk_while-end_while-requires-clause-conditions t c = (while_end c.args.t.now c.while_head-h.result (out-WhileParts c.args.parts.now).before (out-WhileParts c.args.parts.now).after c.args.results.now (ap (λ (l : Label). l.0) c.while_head-h.ensures.counter ∙ c.next.ensures) (kind_can c.args.t.now c.args.results.now (view_while c.args.parts.now) (while_of c.while_head-h.result (out-WhileParts c.args.parts.now).before (out-WhileParts c.args.parts.now).after) (sym c.while_head-h.ensures.parts) c.requires.ready) (subst (λ k. DoesUseBelow k (next_label c.args.t.now)) (sym c.while_head-h.ensures.parts) c.requires.uses) c.open_loop.new.t c.in_ok-open_loop.ensures.grows c.walk_while_rounds.new.t c.in_ok-walk_while_rounds.ensures).conditions

pub walk_while-returns : goal.walk_while-returns
walk_while-returns t c = kind_as c.args.t.now c.end_while.new.t c.args.results.now (view_while c.args.parts.now) (while_of c.while_head-h.result (out-WhileParts c.args.parts.now).before (out-WhileParts c.args.parts.now).after) (sym c.while_head-h.ensures.parts) (while_said c.args.t.now c.while_head-h.result (out-WhileParts c.args.parts.now).before (out-WhileParts c.args.parts.now).after c.args.results.now (ap (λ (l : Label). l.0) c.while_head-h.ensures.counter ∙ c.next.ensures) (kind_can c.args.t.now c.args.results.now (view_while c.args.parts.now) (while_of c.while_head-h.result (out-WhileParts c.args.parts.now).before (out-WhileParts c.args.parts.now).after) (sym c.while_head-h.ensures.parts) c.requires.ready) (subst (λ k. DoesUseBelow k (next_label c.args.t.now)) (sym c.while_head-h.ensures.parts) c.requires.uses) c.open_loop.new.t c.in_ok-open_loop.ensures.grows c.walk_while_rounds.new.t c.in_ok-walk_while_rounds.ensures c.end_while.new.t c.as_slice.result.now c.as_slice.ensures c.in_ok-open_loop.ensures.counter c.in_ok-end_while.ensures)

pub walk_for_rounds-begin_for-requires-clause-room : goal.walk_for_rounds-begin_for-requires-clause-room
walk_for_rounds-begin_for-requires-clause-room t c = round_room c.args.t.now c.args.h.now c.args.body.now c.requires.ready c.requires.place c.requires.uses

pub walk_for_rounds-begin_for-requires-clause-known : goal.walk_for_rounds-begin_for-requires-clause-known
walk_for_rounds-begin_for-requires-clause-known t c = c.requires.ready.known

pub walk_for_rounds-begin_for-requires-clause-place : goal.walk_for_rounds-begin_for-requires-clause-place
walk_for_rounds-begin_for-requires-clause-place t c = c.requires.place

pub walk_for_rounds-begin_for-requires-clause-lower : goal.walk_for_rounds-begin_for-requires-clause-lower
walk_for_rounds-begin_for-requires-clause-lower t c = c.requires.uses.0.0

pub walk_for_rounds-begin_for-requires-clause-step : goal.walk_for_rounds-begin_for-requires-clause-step
walk_for_rounds-begin_for-requires-clause-step t c = c.requires.uses.0.1.1.0

pub walk_for_rounds-walk_ops-requires : goal.walk_for_rounds-walk_ops-requires
walk_for_rounds-walk_ops-requires t c =
    ops_asked c.begin_for.new.t t c.as_slice.result.now (out-Region c.args.body.now).ops c.as_slice.ensures (below (6 * count_of (rows_of c.args.body.now)) (6 * count_of (rows_of c.args.body.now) + 3) t c.decreases (omega arith))
    (body_can c.args.t.now c.args.h.now c.args.body.now c.requires.ready c.requires.place c.requires.uses c.begin_for.new.t c.in_ok-begin_for.ensures.grows) (body_uses c.args.t.now c.args.h.now c.args.body.now c.requires.ready c.requires.place c.requires.uses c.begin_for.new.t c.in_ok-begin_for.ensures.grows)

pub walk_for_rounds-rounds-init : goal.walk_for_rounds-rounds-init
walk_for_rounds-rounds-init t c = (
  round_first c.args.t.now c.args.h.now c.args.body.now c.requires.ready c.requires.place c.requires.uses c.begin_for.new.t c.walk_ops.new.t c.in_ok-begin_for.ensures (ops_read c.begin_for.new.t c.walk_ops.new.t c.as_slice.result.now (out-Region c.args.body.now).ops c.as_slice.ensures c.in_ok-walk_ops.ensures),
  c.len-len.ensures ∙ c.args.t.now.here.ok.0,
)

pub walk_for_rounds-next_for-requires-clause-known : goal.walk_for_rounds-next_for-requires-clause-known
walk_for_rounds-next_for-requires-clause-known t c = c.rounds.invariant.0.grows.known

pub walk_for_rounds-next_for-requires-clause-inits : goal.walk_for_rounds-next_for-requires-clause-inits
walk_for_rounds-next_for-requires-clause-inits t c = c.requires.uses.0.1.1.1

pub walk_for_rounds-next_for-requires-clause-lower : goal.walk_for_rounds-next_for-requires-clause-lower
walk_for_rounds-next_for-requires-clause-lower t c = c.requires.uses.0.0

pub walk_for_rounds-next_for-requires-clause-step : goal.walk_for_rounds-next_for-requires-clause-step
walk_for_rounds-next_for-requires-clause-step t c = c.requires.uses.0.1.1.0

pub walk_for_rounds-next_for-requires-clause-labels : goal.walk_for_rounds-next_for-requires-clause-labels
walk_for_rounds-next_for-requires-clause-labels t c = c.requires.labels

pub walk_for_rounds-next_for-requires-clause-begun : goal.walk_for_rounds-next_for-requires-clause-begun
walk_for_rounds-next_for-requires-clause-begun t c = round_begun c.args.t.now c.args.h.now c.args.body.now c.requires.ready c.requires.place c.requires.uses c.rounds.round c.rounds.t c.rounds.invariant.0 c.len-len.result c.rounds.invariant.1

pub walk_for_rounds-returns-then-not-more : goal.walk_for_rounds-returns-then-not-more
walk_for_rounds-returns-then-not-more t c = rounds_end c.args.t.now c.args.h.now c.args.body.now c.requires.ready c.requires.place c.requires.uses c.rounds.round c.rounds.t c.rounds.invariant.0 c.len-len.result c.rounds.invariant.1 c.next_for.new.t c.as_slice-in-rounds.result.now c.in_ok-more.more c.as_slice-in-rounds.ensures c.if-not-more.true (omega (arith, c.rounds-test.true)) (c.in_ok-more.ensures c.args.t.now (round_begins c.args.t.now c.args.h.now c.args.body.now c.requires.ready c.requires.place c.requires.uses c.rounds.round c.rounds.t c.rounds.invariant.0 c.len-len.result c.rounds.invariant.1))

pub walk_for_rounds-walk_ops-requires-in-rounds : goal.walk_for_rounds-walk_ops-requires-in-rounds
walk_for_rounds-walk_ops-requires-in-rounds t c =
    let g = (more_grows c.args.t.now c.args.h.now c.args.body.now c.requires.ready c.requires.place c.requires.uses c.rounds.round c.rounds.t c.rounds.invariant.0 c.len-len.result c.rounds.invariant.1 c.next_for.new.t c.as_slice-in-rounds.result.now c.in_ok-more.more c.if-not-more.false (c.in_ok-more.ensures c.args.t.now (round_begins c.args.t.now c.args.h.now c.args.body.now c.requires.ready c.requires.place c.requires.uses c.rounds.round c.rounds.t c.rounds.invariant.0 c.len-len.result c.rounds.invariant.1))) in
    ops_asked c.next_for.new.t t c.as_slice-in-rounds-2.result.now (out-Region c.args.body.now).ops c.as_slice-in-rounds-2.ensures (below (6 * count_of (rows_of c.args.body.now)) (6 * count_of (rows_of c.args.body.now) + 3) t c.decreases (omega arith))
    (body_can c.args.t.now c.args.h.now c.args.body.now c.requires.ready c.requires.place c.requires.uses c.next_for.new.t g) (body_uses c.args.t.now c.args.h.now c.args.body.now c.requires.ready c.requires.place c.requires.uses c.next_for.new.t g)

pub walk_for_rounds-rounds-preserved : goal.walk_for_rounds-rounds-preserved
walk_for_rounds-rounds-preserved t c = (
  rounds_more c.args.t.now c.args.h.now c.args.body.now c.requires.ready c.requires.place c.requires.uses c.rounds.round c.rounds.t c.rounds.invariant.0 c.len-len.result c.rounds.invariant.1 c.next_for.new.t c.walk_ops-in-rounds.new.t c.as_slice-in-rounds.result.now c.in_ok-more.more c.as_slice-in-rounds.ensures c.if-not-more.false (c.in_ok-more.ensures c.args.t.now (round_begins c.args.t.now c.args.h.now c.args.body.now c.requires.ready c.requires.place c.requires.uses c.rounds.round c.rounds.t c.rounds.invariant.0 c.len-len.result c.rounds.invariant.1))
      (ops_read c.next_for.new.t c.walk_ops-in-rounds.new.t c.as_slice-in-rounds-2.result.now (out-Region c.args.body.now).ops c.as_slice-in-rounds-2.ensures c.in_ok-walk_ops-2.ensures),
  c.rounds.invariant.1,
)

pub walk_for_rounds-returns : goal.walk_for_rounds-returns
walk_for_rounds-returns t c =
    let e : c.rounds.round ≡ round_limit = omega (arith, c.rounds-test.false, c.rounds.auto) in
    subst (λ n. SaysRounds c.args.t.now c.args.h.now c.args.body.now c.requires.ready c.requires.place c.requires.uses n c.rounds.t) e c.rounds.invariant.0

pub walk_regions-walk_ops-requires : goal.walk_regions-walk_ops-requires
walk_regions-walk_ops-requires t c =
    ops_asked c.args.t.now t c.as_slice.result.now (out-Region c.args.before.now).ops c.as_slice.ensures (below (6 * count_of (rows_of c.args.before.now)) (6 * (count_of (rows_of c.args.before.now) + count_of (rows_of c.args.after.now)) + 2) t c.decreases (omega arith)) (before_can c.args.t.now c.args.h.now c.args.before.now c.args.after.now c.requires.ready c.requires.place c.requires.uses) (before_uses c.args.t.now c.args.h.now c.args.before.now c.args.after.now c.requires.ready c.requires.place c.requires.uses)

pub walk_regions-pass_on-requires-clause-room : goal.walk_regions-pass_on-requires-clause-room
walk_regions-pass_on-requires-clause-room t c = params_room c.args.t.now c.args.h.now c.args.before.now c.args.after.now c.requires.ready c.requires.place c.requires.uses c.walk_ops.new.t (ops_read c.args.t.now c.walk_ops.new.t c.as_slice.result.now (out-Region c.args.before.now).ops c.as_slice.ensures c.in_ok-walk_ops.ensures)

pub walk_regions-pass_on-requires-clause-known : goal.walk_regions-pass_on-requires-clause-known
walk_regions-pass_on-requires-clause-known t c = (params_can c.args.t.now c.args.h.now c.args.before.now c.args.after.now c.requires.ready c.requires.place c.requires.uses c.walk_ops.new.t (ops_read c.args.t.now c.walk_ops.new.t c.as_slice.result.now (out-Region c.args.before.now).ops c.as_slice.ensures c.in_ok-walk_ops.ensures)).known

pub walk_regions-pass_on-requires-clause-passed : goal.walk_regions-pass_on-requires-clause-passed
walk_regions-pass_on-requires-clause-passed t c = passed_below c.args.t.now c.args.h.now c.args.before.now c.args.after.now c.requires.ready c.requires.place c.requires.uses c.walk_ops.new.t (ops_read c.args.t.now c.walk_ops.new.t c.as_slice.result.now (out-Region c.args.before.now).ops c.as_slice.ensures c.in_ok-walk_ops.ensures) c.as_slice-2.result.now c.as_slice-2.ensures

pub walk_regions-walk_ops-requires-2 : goal.walk_regions-walk_ops-requires-2
walk_regions-walk_ops-requires-2 t c =
    ops_asked c.pass_on.new.t t c.as_slice-3.result.now (out-Region c.args.after.now).ops c.as_slice-3.ensures (below (6 * count_of (rows_of c.args.after.now)) (6 * (count_of (rows_of c.args.before.now) + count_of (rows_of c.args.after.now)) + 2) t c.decreases (omega arith))
    (after_can c.args.t.now c.args.h.now c.args.before.now c.args.after.now c.requires.ready c.requires.place c.requires.uses c.walk_ops.new.t (ops_read c.args.t.now c.walk_ops.new.t c.as_slice.result.now (out-Region c.args.before.now).ops c.as_slice.ensures c.in_ok-walk_ops.ensures) c.pass_on.new.t c.as_slice-2.result.now c.as_slice-2.ensures c.in_ok-pass_on.ensures) (after_uses c.args.t.now c.args.h.now c.args.before.now c.args.after.now c.requires.ready c.requires.place c.requires.uses c.walk_ops.new.t (ops_read c.args.t.now c.walk_ops.new.t c.as_slice.result.now (out-Region c.args.before.now).ops c.as_slice.ensures c.in_ok-walk_ops.ensures) c.pass_on.new.t c.as_slice-2.result.now c.as_slice-2.ensures c.in_ok-pass_on.ensures)

pub walk_regions-returns : goal.walk_regions-returns
walk_regions-returns t c = regions_said c.args.t.now c.args.h.now c.args.before.now c.args.after.now c.requires.ready c.requires.place c.requires.uses c.walk_ops.new.t (ops_read c.args.t.now c.walk_ops.new.t c.as_slice.result.now (out-Region c.args.before.now).ops c.as_slice.ensures c.in_ok-walk_ops.ensures) c.pass_on.new.t c.as_slice-2.result.now c.as_slice-2.ensures c.in_ok-pass_on.ensures c.walk_ops-2.new.t (ops_read c.pass_on.new.t c.walk_ops-2.new.t c.as_slice-3.result.now (out-Region c.args.after.now).ops c.as_slice-3.ensures c.in_ok-walk_ops-2.ensures)

pub walk_while_rounds-begin_while-requires-clause-room : goal.walk_while_rounds-begin_while-requires-clause-room
walk_while_rounds-begin_while-requires-clause-room t c = turn_room c.args.t.now c.args.h.now c.args.before.now c.args.after.now c.requires.ready c.requires.place c.requires.uses

pub walk_while_rounds-begin_while-requires-clause-known : goal.walk_while_rounds-begin_while-requires-clause-known
walk_while_rounds-begin_while-requires-clause-known t c = c.requires.ready.known

pub walk_while_rounds-begin_while-requires-clause-place : goal.walk_while_rounds-begin_while-requires-clause-place
walk_while_rounds-begin_while-requires-clause-place t c = c.requires.place

pub walk_while_rounds-walk_regions-requires : goal.walk_while_rounds-walk_regions-requires
walk_while_rounds-walk_regions-requires t c = (
  below (6 * (count_of (rows_of c.args.before.now) + count_of (rows_of c.args.after.now)) + 2) (6 * (count_of (rows_of c.args.before.now) + count_of (rows_of c.args.after.now)) + 3) t c.decreases (omega arith),
  (regions_can c.args.t.now c.args.h.now c.args.before.now c.args.after.now c.requires.ready c.requires.place c.requires.uses c.begin_while.new.t c.in_ok-begin_while.ensures.grows, (regions_place c.args.t.now c.args.h.now c.args.before.now c.args.after.now c.requires.ready c.requires.place c.requires.uses c.begin_while.new.t c.in_ok-begin_while.ensures.grows, c.requires.uses)),
)

pub walk_while_rounds-rounds-init : goal.walk_while_rounds-rounds-init
walk_while_rounds-rounds-init t c = (
  turn_first c.args.t.now c.args.h.now c.args.before.now c.args.after.now c.requires.ready c.requires.place c.requires.uses c.begin_while.new.t c.walk_regions.new.t c.in_ok-begin_while.ensures.grows c.in_ok-walk_regions.ensures c.in_ok-begin_while.ensures,
  c.len-len.ensures ∙ c.args.t.now.here.ok.0,
)

pub walk_while_rounds-next_while-requires-clause-known : goal.walk_while_rounds-next_while-requires-clause-known
walk_while_rounds-next_while-requires-clause-known t c = c.rounds.invariant.0.grows.known

pub walk_while_rounds-next_while-requires-clause-inits : goal.walk_while_rounds-next_while-requires-clause-inits
walk_while_rounds-next_while-requires-clause-inits t c = c.requires.uses.0

pub walk_while_rounds-next_while-requires-clause-labels : goal.walk_while_rounds-next_while-requires-clause-labels
walk_while_rounds-next_while-requires-clause-labels t c = c.requires.labels

pub walk_while_rounds-next_while-requires-clause-begun : goal.walk_while_rounds-next_while-requires-clause-begun
walk_while_rounds-next_while-requires-clause-begun t c = turn_begun c.args.t.now c.args.h.now c.args.before.now c.args.after.now c.requires.ready c.requires.place c.requires.uses c.rounds.round c.rounds.t c.rounds.invariant.0 c.len-len.result c.rounds.invariant.1

pub walk_while_rounds-returns-then-not-more : goal.walk_while_rounds-returns-then-not-more
walk_while_rounds-returns-then-not-more t c = turns_end c.args.t.now c.args.h.now c.args.before.now c.args.after.now c.requires.ready c.requires.place c.requires.uses c.rounds.round c.rounds.t c.rounds.invariant.0 c.len-len.result c.rounds.invariant.1 c.next_while.new.t c.as_slice.result.now c.in_ok-more.more c.as_slice.ensures c.if-not-more.true (omega (arith, c.rounds-test.true)) (c.in_ok-more.ensures c.args.t.now (turn_begins c.args.t.now c.args.h.now c.args.before.now c.args.after.now c.requires.ready c.requires.place c.requires.uses c.rounds.round c.rounds.t c.rounds.invariant.0 c.len-len.result c.rounds.invariant.1))

pub walk_while_rounds-walk_regions-requires-in-rounds : goal.walk_while_rounds-walk_regions-requires-in-rounds
walk_while_rounds-walk_regions-requires-in-rounds t c =
    let g = (turn_grows_more c.args.t.now c.args.h.now c.args.before.now c.args.after.now c.requires.ready c.requires.place c.requires.uses c.rounds.round c.rounds.t c.rounds.invariant.0 c.len-len.result c.rounds.invariant.1 c.next_while.new.t c.as_slice.result.now c.in_ok-more.more c.if-not-more.false (c.in_ok-more.ensures c.args.t.now (turn_begins c.args.t.now c.args.h.now c.args.before.now c.args.after.now c.requires.ready c.requires.place c.requires.uses c.rounds.round c.rounds.t c.rounds.invariant.0 c.len-len.result c.rounds.invariant.1))) in (
      below (6 * (count_of (rows_of c.args.before.now) + count_of (rows_of c.args.after.now)) + 2) (6 * (count_of (rows_of c.args.before.now) + count_of (rows_of c.args.after.now)) + 3) t c.decreases (omega arith),
      (regions_can c.args.t.now c.args.h.now c.args.before.now c.args.after.now c.requires.ready c.requires.place c.requires.uses c.next_while.new.t g, (regions_place c.args.t.now c.args.h.now c.args.before.now c.args.after.now c.requires.ready c.requires.place c.requires.uses c.next_while.new.t g, c.requires.uses)),
    )

pub walk_while_rounds-rounds-preserved : goal.walk_while_rounds-rounds-preserved
walk_while_rounds-rounds-preserved t c = (
  turns_more c.args.t.now c.args.h.now c.args.before.now c.args.after.now c.requires.ready c.requires.place c.requires.uses c.rounds.round c.rounds.t c.rounds.invariant.0 c.len-len.result c.rounds.invariant.1 c.next_while.new.t c.walk_regions-in-rounds.new.t c.as_slice.result.now c.in_ok-more.more c.as_slice.ensures c.if-not-more.false (c.in_ok-more.ensures c.args.t.now (turn_begins c.args.t.now c.args.h.now c.args.before.now c.args.after.now c.requires.ready c.requires.place c.requires.uses c.rounds.round c.rounds.t c.rounds.invariant.0 c.len-len.result c.rounds.invariant.1)) c.in_ok-walk_regions-2.ensures,
  c.rounds.invariant.1,
)

pub walk_while_rounds-returns : goal.walk_while_rounds-returns
walk_while_rounds-returns t c =
    let e : c.rounds.round ≡ round_limit = omega (arith, c.rounds-test.false, c.rounds.auto) in
    subst (λ n. SaysTurns c.args.t.now c.args.h.now c.args.before.now c.args.after.now c.requires.ready c.requires.place c.requires.uses n c.rounds.t) e c.rounds.invariant.0
