use Rattle.std.proofs.Common.{ap, ◌∙◌, sym, arith, length}
use Rattle.mlir_ir.specs.Operations.{joined, nil}
use Rattle.mlir_ir.specs.View.{view_ops}
use Rattle.mlir_ir.specs.declared.types.ForParts.{out-ForParts}
use Rattle.mlir_ir.proofs.PartViews.{region_rows}
use Rattle.pass_copy.specs.Built.{fresh_at, label, sum}
use Rattle.pass_unroll.specs.Built.{loop_of}
use Rattle.pass_indvar.proofs.ReducedBodies.{body_made}
use Rattle.pass_indvar.proofs.reductions.reduced_region.Goals as goal

pub returns-clause-ops : goal.returns-clause-ops
returns-clause-ops c =
    let source = c.args.source.now in
    let out = c.args.out.now in
    let body = (out-ForParts source.parts.now).body in
    let n = ap length c.as_slice.ensures in
    let a = c.in_ok-ahead.ensures in
    let b = c.in_ok-arg.ensures in
    c.region_of.ensures.ops
    ∙ body_made source.start.0 (loop_of source) c.args.g.now.product.0 out.at (fresh_at out out.fresh.given) c.args.g.now.ty c.args.step c.args.map.now.spans.items
    (view_ops c.as_slice-2.result.now) (view_ops c.in_ok-left.left.items) (view_ops c.replace-made.result.items) source.body_at c.in_ok-arg.arg
    c.requires.map (ap view_ops c.as_slice-2.ensures ∙ sym (region_rows body)) source.inside (omega (arith, n, a, b)) c.in_ok-left.ensures
    ((λ j. view_ops (c.replace-made.ensures.value j).items) ∙ c.in_ok-sum.ensures.built.ops
    ∙ (λ j. joined (view_ops (c.replace-outer.ensures.after j).items) (sum (fresh_at out out.fresh.given) c.args.g.now.ty (label c.in_ok-arg.arg) c.args.step nil)))
