use Rattle.std.proofs.Common.{◌≡◌, ◌||◌, ◌+◌, drop, Bool, ap, sym, subst, arith, length, ◌∙◌}
use Rattle.pass_copy.specs.Places.{operation_in}
use Rattle.pass_copy.specs.Renaming.{renamed}
use Rattle.pass_indvar.specs.Grown.{IsPushedUnless}
use Rattle.pass_indvar.proofs.LeftOps.{IsLeftCopied, copied_next, copied_all, was_done, was_not_done}
use Rattle.pass_indvar.proofs.reductions.copy_left.Goals.{then-done, else-done}
use Rattle.pass_indvar.proofs.reductions.copy_left.Goals as goal

pub loop-op-preserved : goal.loop-op-preserved
loop-op-preserved c =
    let f = renamed c.args.map.now.spans.items in
    let now = c.loop-op in
    let op = c.op-item.result in
    let out = c.is_left_out-out.result in
    let n = ap length c.as_slice.ensures in
    let k = c.in_ok-pass_kind.ensures in
    let a = c.in_ok-advance.ensures in
    let done : c.if-done.done ≡ (now.done || out) = elim c.if-done.branch [
      | then-done w ↦ was_done now.done out c.if-done.done w.if-done.true w.done-is
      | else-done w ↦ was_not_done now.done out c.if-done.done w.if-done.false w.done-is
    ] in
    subst (λ (b : Bool). IsLeftCopied f c.args.product.0 c.args.at c.args.ops.now c.push_unless.new.made.items c.push_unless.new.names b c.advance.new.at (drop (now.op-index + 1) c.args.ops.now))
    (sym (done ∙ ap (λ (b : Bool). now.done || b) c.is_left_out-out.ensures))
    (copied_next f c.args.product.0 c.args.at c.args.ops.now now.made.items c.push_unless.new.made.items now.names c.push_unless.new.names now.done now.at c.advance.new.at now.op-index op
    c.loop-op-test.true c.op-item.is (omega (arith, n, k, a))
    (subst (λ (b : Bool). IsPushedUnless f b (operation_in op) now.made.items now.names c.push_unless.new.made.items c.push_unless.new.names) c.is_left_out-out.ensures c.in_ok-push_unless.ensures)
    now.invariant)

pub returns : goal.returns
returns c =
    let now = c.loop-op in
    copied_all (renamed c.args.map.now.spans.items) c.args.product.0 c.args.at c.args.ops.now now.made.items now.names now.done now.at now.op-index (omega arith) now.invariant
