use Rattle.std.proofs.Common.{ap, map, length, ◌<◌, arith}
use Rattle.mlir_scope.specs.Reading.{packed_said}
use Rattle.mlir_scope.specs.Scopes.{scope_said}
use Rattle.mlir_scope.proofs.Counts.{push_step}
use Rattle.mlir_scope.proofs.Parted.{cut_at}
use Rattle.mlir_scope.proofs.results.push_results.Goals as goal

pub each-preserved : goal.each-preserved
each-preserved c =
    let inside : c.each.pack-index < length c.args.packs.now = omega arith in
    let cut = cut_at c.args.packs.now c.each.pack-index _ inside in
    push_step
    (scope_said c.each.scope)
    (scope_said c.push_pack.new.scope)
    _
    c.each.at
    c.share-many.result
    _
    _
    _
    c.args.types.now
    c.part.result.now
    (ap (map packed_said) cut)
    c.share-many.ensures
    c.each.invariant.1
    c.part.ensures
    c.in_ok-push_pack.ensures
    c.each.invariant.0
