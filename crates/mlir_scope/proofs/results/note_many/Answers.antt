use Rattle.std.proofs.Common.{◌∙◌, ap, sym, map, length, ◌<◌, arith, lit<, refl}
use Rattle.mlir_scope.specs.Reading.{packed_said}
use Rattle.mlir_scope.specs.declared.digits.TheConstants.{CAP}
use Rattle.mlir_scope.proofs.Counts.{many_step}
use Rattle.mlir_scope.proofs.Parted.{cut_at}
use Rattle.mlir_scope.proofs.results.note_many.Goals as goal

pub each-preserved : goal.each-preserved
each-preserved c =
    let inside : c.each.pack-index < length c.args.packs.now = omega arith in
    let cut = cut_at c.args.packs.now c.each.pack-index _ inside in
    let step =
    many_step c.each.first.best c.note_if.new.self.best _ _ _ c.each.sum c.count_of.result c.min-sum.result CAP _ (ap (map packed_said) cut) c.count_of.ensures.value c.min-sum.ensures (lit< tt) refl c.note_if.ensures in
    (sym step ∙ c.each.invariant.0, omega arith)
