use Rattle.std.proofs.Common.{◌∙◌, ap, refl}
use Rattle.mlir_ir.specs.View.{view_ops}
use Rattle.mlir_ir.specs.declared.types.Region.{roll-Region, out-roll-Region}
use Rattle.mlir_ir.proofs.PartViews.{region_rows, region_ends}
use Rattle.mlir_scope.proofs.built_regions.region_of.Goals as goal

pub returns : goal.returns
returns c = record {
  rows = region_rows (roll-Region record { ops = c.from_vec.result; ends = c.args.ends }) ∙ rw (out-roll-Region record { ops = c.from_vec.result; ends = c.args.ends }) (ap view_ops c.from_vec.ensures);
  gives = region_ends (roll-Region record { ops = c.from_vec.result; ends = c.args.ends }) ∙ rw (out-roll-Region record { ops = c.from_vec.result; ends = c.args.ends }) refl;
}
