use Rattle.std.proofs.Common.{◌∙◌, ap, refl}
use Rattle.mlir_ir.specs.View.{view_for, view_ops}
use Rattle.pass_copy.proofs.BuiltBehind.{view_pushed}
use Rattle.pass_unroll.proofs.unrolled.push_loop.Goals as goal

pub returns-clause-ops : goal.returns-clause-ops
returns-clause-ops c =
    ap view_ops c.in_ok-push.ensures.items
    ∙ view_pushed c.args.out.now.ops.items _ c.args.packs c.args.source.now.op.now.results (view_for c.args.parts) refl (c.in_ok-results.ensures ∙ c.as_slice.ensures) refl
