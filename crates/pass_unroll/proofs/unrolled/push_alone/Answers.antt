use Rattle.std.proofs.Common.{◌∙◌, List, ap}
use Rattle.mlir_ir.specs.Operations.{next, nil, joined}
use Rattle.mlir_ir.specs.View.{view_for, view_ops}
use Rattle.mlir_ir.specs.declared.types.Pack.{Pack}
use Rattle.pass_unroll.proofs.unrolled.push_alone.Goals as goal

pub returns-clause-ops : goal.returns-clause-ops
returns-clause-ops c =
    c.in_ok-push_loop.ensures.ops
    ∙ ap (λ (packs : List Pack). joined (view_ops c.args.out.now.ops.items) (next packs c.args.source.now.op.now.results (view_for c.args.main) nil)) (c.in_ok-names.ensures ∙ c.as_slice.ensures)
