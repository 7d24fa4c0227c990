use Rattle.std.proofs.Common.{rules}
use Rattle.mlir_ir.specs.declared.types.Region.{the_lemmas}
use Rattle.mlir_ir.proofs.PartViews.{region_rows}
use Rattle.scf_eval.proofs.labels.+labels.Goals as goal

pub past_region-past_ops-requires : goal.past_region-past_ops-requires
past_region-past_ops-requires t c = (search (rules, the_lemmas), rw (c.as_slice.ensures, ← region_rows c.args.region.now) c.requires)
