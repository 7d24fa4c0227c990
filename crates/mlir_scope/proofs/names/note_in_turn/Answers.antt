use Rattle.std.proofs.Common.{refl, ◌∙◌, ap, sym, map, length, ◌<◌, arith}
use Rattle.mlir_scope.specs.Reading.{defined_said}
use Rattle.mlir_scope.specs.Scopes.{scope_said}
use Rattle.mlir_scope.proofs.Parted.{cut_at}
use Rattle.mlir_scope.proofs.Repeats.{repeated_step, kept_before}
use Rattle.mlir_scope.proofs.names.note_in_turn.Goals as goal

pub each-preserved : goal.each-preserved
each-preserved c =
    let inside : c.each.d-index < length c.args.definitions.now = omega arith in
    let cut = cut_at c.args.definitions.now c.each.d-index _ inside in
    let step =
    repeated_step
    c.each.first.best
    c.note_if.new.self.best
    (scope_said c.each.scope)
    (scope_said c.push.new.self)
    _
    _
    _
    _
    c.has-taken.result
    (ap (map defined_said) cut)
    c.in_ok-push.ensures
    refl
    c.has-taken.ensures
    c.note_if.ensures in
    let kept = kept_before c.len-len.result (scope_said c.each.scope) (scope_said c.push.new.self) _ c.in_ok-push.ensures c.each.invariant.2 in
    (sym step ∙ c.each.invariant.0, kept.0 ∙ c.each.invariant.1, kept.1)
