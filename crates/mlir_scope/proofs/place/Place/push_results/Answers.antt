use Rattle.std.proofs.Common.{ap, map, length, ◌<◌, arith}
use Rattle.mlir_scope.specs.Built.{scope_at, values_in}
use Rattle.mlir_scope.specs.Reading.{packed_said}
use Rattle.mlir_scope.proofs.PlacedResults.{place_step}
use Rattle.mlir_scope.proofs.Parted.{cut_at}
use Rattle.mlir_scope.proofs.place.Place.push_results.Goals as goal

pub each-preserved : goal.each-preserved
each-preserved c =
    let inside : c.each.pack-index < length c.args.packs.now = omega arith in
    let cut = cut_at c.args.packs.now c.each.pack-index _ inside in
    let step =
    place_step
    (scope_at c.each.self)
    (values_in c.push_pack.new.scope)
    _
    c.args.self.now.next
    c.each.at
    c.share-many.result
    _
    _
    _
    c.args.types.now
    c.part.result.now
    c.each.self.next
    (ap (map packed_said) cut)
    c.share-many.ensures
    c.each.invariant.1
    c.part.ensures
    c.each.invariant.2
    c.in_ok-push_pack.ensures
    c.each.invariant.0 in
    (step.0, step.1, c.each.invariant.2)
