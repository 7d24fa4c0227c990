use Rattle.std.proofs.Common.{◌≡◌, ◌+◌, length, ap, ◌∙◌}
use Rattle.mlir_ir.specs.Operations.{inner_labels}
use Rattle.mlir_ir.specs.View.{view_kind}
use Rattle.fresh_scev.specs.Answers.{facts_shown}
use Rattle.pass_indvar.specs.Reductions.{is_product}
use Rattle.pass_chain.proofs.GivenEntries.{more_products, product_added, nothing_added}
use Rattle.pass_chain.proofs.given.products_in.Goals.{then-is_product+in_ok-expr+in_ok-push, else-is_product}
use Rattle.pass_chain.proofs.given.products_in.Goals as goal

pub loop-op-preserved : goal.loop-op-preserved
loop-op-preserved c =
    let F = facts_shown c.args.facts.now in
    let op = c.op-item.result in
    more_products F c.loop-op.at c.advance.new.at c.loop-op.op-index c.args.ops.now op c.loop-op.made.items
    c.if-is_product.made.items _ c.loop-op-test.true c.op-item.is
    (elim c.if-is_product.branch [
      | then-is_product+in_ok-expr+in_ok-push w ↦ product_added F c.loop-op.at (is_product (view_kind op.kind)) c.is_product.result
          c.loop-op.made.items c.if-is_product.made.items w.in_ok-expr.expr w.if-is_product.true c.is_product.ensures
          (ap (λ v. v.items) w.made-is ∙ w.in_ok-push.ensures.items) w.in_ok-expr.ensures
      | else-is_product w ↦ nothing_added F c.loop-op.at (is_product (view_kind op.kind)) c.is_product.result
          c.loop-op.made.items c.if-is_product.made.items w.if-is_product.false c.is_product.ensures (ap (λ v. v.items) w.made-is)
    ])
    (let behind : c.pass_kind.new.at ≡ c.loop-op.at + inner_labels (view_kind op.kind) = c.in_ok-pass_kind.ensures in
    c.in_ok-advance.ensures ∙ (ap (λ n. n + length c.as_slice.result.now) behind
    ∙ ap (λ xs. c.loop-op.at + inner_labels (view_kind op.kind) + length xs) c.as_slice.ensures)) c.loop-op.invariant
