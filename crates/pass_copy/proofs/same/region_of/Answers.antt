use Rattle.std.proofs.Common.{◌∙◌, ap}
use Rattle.mlir_ir.specs.View.{view_ops}
use Rattle.mlir_ir.specs.declared.types.Region.{roll-Region, out-roll-Region}
use Rattle.mlir_ir.proofs.PartViews.{region_rows}
use Rattle.pass_copy.proofs.same.region_of.Goals as goal

pub returns-clause-ops : goal.returns-clause-ops
returns-clause-ops c =
    region_rows (roll-Region record { ops = c.from_vec.result; ends = c.args.ends })
    ∙ rw (out-roll-Region record { ops = c.from_vec.result; ends = c.args.ends }) (ap view_ops c.from_vec.ensures)
