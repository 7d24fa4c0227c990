use Rattle.std.proofs.Common.{◌≡◌, ◌+◌, ◌∙◌, ℕ, List, ap, length, length-append, arith}
use Rattle.arith_word.specs.Labels.{label_at}
use Rattle.mlir_ir.specs.View.{view_ops}
use Rattle.mlir_ir.specs.declared.types.Op.{Op}
use Rattle.pass_copy.specs.Places.{ops_in}
use Rattle.pass_copy.specs.Renaming.{renamed}
use Rattle.pass_copy.proofs.ChildOps.{items_step, items_done}
use Rattle.pass_copy.proofs.replacing.replace_items.Goals as goal

pub loop-item-preserved : goal.loop-item-preserved
loop-item-preserved c =
    let change = c.args.change.now in
    let i = c.loop-item.item-index in
    let number : c.len.result ≡ c.loop-item.item-index = omega (arith, c.len.ensures, c.loop-item.made.ok.0, c.loop-item.invariant.1) in (
      items_step (renamed change.map.now.spans.items) change.target.0 (view_ops change.others.now) c.args.func i c.in_ok-at.at c.args.items.now c.loop-item.made.items c.push.new.self.items c.item-item.result
          (record { ops = c.from_vec.result }) _ c.loop-item-test.true c.item-item.is
          (ap view_ops c.from_vec.ensures ∙ c.in_ok-ops.ensures.ops ∙ ap (λ (xs : List Op). ops_in change c.in_ok-at.at (view_ops xs)) c.as_slice.ensures)
          (c.in_ok-at.ensures ∙ ap (λ (n : ℕ). label_at c.args.func (n + 1) 0) number)
          c.in_ok-push.ensures.items c.loop-item.invariant.0,
      (let e = ap length c.in_ok-push.ensures.items in omega (arith, simp length-append at e, c.loop-item.invariant.1)),
    )

pub returns : goal.returns
returns c =
    let change = c.args.change.now in
    items_done (renamed change.map.now.spans.items) change.target.0 (view_ops change.others.now) c.args.func _ c.loop-item.item-index c.args.items.now c.loop-item.made.items _
    c.loop-item-test.false c.loop-item.invariant.0
