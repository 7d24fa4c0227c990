use Rattle.std.proofs.Common.{◌∙◌}
use Rattle.mlir_ir.specs.View.{view_ops}
use Rattle.pass_copy.specs.Renamed.{rename_ops}
use Rattle.pass_copy.specs.Renaming.{renamed}
use Rattle.pass_copy.proofs.CopiedOps.{naming_kept, ops_kept}
use Rattle.pass_copy.proofs.same.same_ops.Goals as goal

pub returns : goal.returns
returns c =
    let names = c.kept-names.result in
    c.in_ok-made.ensures.ops
    ∙ (λ j. rename_ops (renamed (c.new.ensures.items j)) (naming_kept names c.kept-names.ensures.kept j) names.given (view_ops c.args.ops.now))
    ∙ ops_kept names.given (view_ops c.args.ops.now)
