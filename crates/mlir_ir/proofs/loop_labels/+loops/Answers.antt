use Rattle.std.proofs.Common.{rules}
use Rattle.mlir_ir.specs.declared.types.Region.{the_lemmas}
use Rattle.mlir_ir.proofs.LoopOrder.{set_behind, set_behind_two}
use Rattle.mlir_ir.proofs.RegionItems.{region_labels_items}
use Rattle.mlir_ir.proofs.loop_labels.+loops.Goals as goal

pub push_region-push_ops-requires : goal.push_region-push_ops-requires
push_region-push_ops-requires t c = (search (rules, the_lemmas), rw (c.as_slice.ensures, ← region_labels_items c.args.region.now) c.requires)

pub push_for-returns-clause-loops : goal.push_for-returns-clause-loops
push_for-returns-clause-loops t c = rw (c.in_ok-behind.ensures.loops, c.in_ok-place.ensures.added, c.in_ok-place.ensures.place, set_behind) (search (rules, the_lemmas))

pub push_while-returns-clause-loops : goal.push_while-returns-clause-loops
push_while-returns-clause-loops t c = rw (c.in_ok-behind-2.ensures.loops, c.in_ok-behind.ensures.loops, c.in_ok-place.ensures.added, c.in_ok-place.ensures.place, set_behind_two) (search (rules, the_lemmas))
