use Rattle.std.proofs.Common.{ℕ, ◌+◌, ◌∙◌, ap, sym, refl, arith}
use Rattle.std.proofs.lemmas.List.{length-map}
use Rattle.mlir_ir.specs.Phrases.{inside}
use Rattle.mlir_ir.specs.Resolved.{nth_use, tys}
use Rattle.mlir_ir.specs.Source as source
use Rattle.mlir_ir.specs.View.{view_ops}
use Rattle.mlir_ir.specs.declared.syntax.Form.TheVariants as forms
use Rattle.mlir_ir.specs.declared.terminal.Terminal.TheVariants as terminals
use Rattle.mlir_scope.specs.Built.{scope_at, names_said}
use Rattle.mlir_scope.specs.Reading.{type_said}
use Rattle.mlir_scope.specs.Said.{said}
use Rattle.mlir_scope.specs.Walked.{steps}
use Rattle.mlir_scope.proofs.BuiltOps.{ops_begin, ops_step, ops_made, ops_behind, one_op, one_behind, kind_if, kind_for, kind_while, past_as}
use Rattle.mlir_scope.proofs.BuiltBranches.{region_built, region_past, second_built, second_past, some_else, none_else, none_past, if_made, if_left, for_made, for_left}
use Rattle.mlir_scope.proofs.BuiltWhiles.{on_while, while_made, while_left}
use Rattle.mlir_scope.proofs.built_ops.+build.Goals as goal

pub build_ops-each-init : goal.build_ops-each-init
build_ops-each-init t c = (ops_begin c.args.place.now c.new-made.result.items _ c.new-made.ensures.items, omega arith)

pub build_ops-each-preserved : goal.build_ops-each-preserved
build_ops-each-preserved t c =
    let e = ap steps c.in-Some.ensures in (
      ops_step c.args.origin c.args.place.now c.each.place c.build_op.new.place c.each.left c.in-Some.rest c.in-Some.o c.each.made.items c.push.new.self.items c.in_ok-build_op.field-0 _
          c.each.invariant.0 c.in-Some.ensures c.in_ok-build_op.ensures.built c.in_ok-build_op.ensures.behind c.in_ok-push.ensures.items,
      omega (arith, e, c.each.invariant.1),
    )

pub build_op-returns-clause-built : goal.build_op-returns-clause-built
build_op-returns-clause-built t c =
    one_op c.args.origin c.args.o c.args.place.now c.in_ok-op.op _ _ _ c.in_ok-op.ensures.built c.in_ok-packs.ensures c.in_ok-types.ensures c.in_ok-kind.ensures.built

pub build_op-returns-clause-behind : goal.build_op-returns-clause-behind
build_op-returns-clause-behind t c =
    one_behind c.args.origin c.args.o c.args.place.now c.build_kind.new.place c.close_op.new.place _ _ c.in_ok-packs.ensures c.in_ok-types.ensures c.in_ok-kind.ensures.past c.in_ok-op.ensures.scope
    (c.in_ok-op.ensures.next ∙ ap (λ (n : ℕ). c.build_kind.new.place.next + n) (sym (length-map c.in_ok-types.types.items type_said)))

pub build_region-returns-clause-built : goal.build_region-returns-clause-built
build_region-returns-clause-built t c =
    region_built c.args.place.now c.build_ops.new.place c.in_ok-region.region _ _ _ c.in_ok-made.ensures.built c.in_ok-made.ensures.behind c.in_ok-region.ensures.parts

pub build_region-returns-clause-past : goal.build_region-returns-clause-past
build_region-returns-clause-past t c =
    region_past c.args.place.now c.build_ops.new.place c.close_region.new.place c.len-outer.result _ c.len-outer.ensures c.in_ok-made.ensures.behind c.in_ok-region.ensures.left

pub build_tested-returns-clause-built : goal.build_tested-returns-clause-built
build_tested-returns-clause-built t c =
    region_built c.args.place.now c.build_ops.new.place c.in_ok-tested.tested.region _ _ _ c.in_ok-made.ensures.built c.in_ok-made.ensures.behind c.in_ok-tested.ensures.parts

pub build_tested-returns-clause-cond : goal.build_tested-returns-clause-cond
build_tested-returns-clause-cond t c =
    c.in_ok-tested.ensures.cond ∙ ap (λ s. nth_use s 0 (said c.args.origin.tokens.now c.args.kind.now)) c.in_ok-made.ensures.behind.scope

pub build_tested-returns-clause-past : goal.build_tested-returns-clause-past
build_tested-returns-clause-past t c =
    region_past c.args.place.now c.build_ops.new.place c.close_tested.new.place c.len-outer.result _ c.len-outer.ensures c.in_ok-made.ensures.behind c.in_ok-tested.ensures.left

pub build_second-returns-clause-built : goal.build_second-returns-clause-built
build_second-returns-clause-built t c =
    second_built (names_said c.args.origin.funcs.now) c.args.place.now c.in_ok-region.region _ _ _ c.behind_word-rest.ensures c.in_ok-region.ensures.built

pub build_second-returns-clause-past : goal.build_second-returns-clause-past
build_second-returns-clause-past t c =
    second_past (names_said c.args.origin.funcs.now) c.args.place.now c.build_region.new.place _ _ c.behind_word-rest.ensures c.in_ok-region.ensures.past

pub build_else-returns-in_ok-other-clause-built : goal.build_else-returns-in_ok-other-clause-built
build_else-returns-in_ok-other-clause-built t c =
    some_else c.args.origin c.args.kind.now c.args.place.now c.in_ok-other.other _ c.has.result c.has.ensures c.if-has.true (c.inside-parts.ensures ∙ ap (inside forms.Region) c.behind.ensures) c.in_ok-other.ensures.built

pub build_else-returns-in_ok-other-clause-past : goal.build_else-returns-in_ok-other-clause-past
build_else-returns-in_ok-other-clause-past t c = c.in_ok-other.ensures.past

pub build_else-returns-else-has-2-clause-built : goal.build_else-returns-else-has-2-clause-built
build_else-returns-else-has-2-clause-built t c =
    none_else c.args.origin c.args.kind.now c.args.place.now c.has.result c.has-else-has.result c.has.ensures c.if-has.false c.has-else-has.ensures c.if-has-2.false

pub build_else-returns-else-has-2-clause-past : goal.build_else-returns-else-has-2-clause-past
build_else-returns-else-has-2-clause-past t c =
    none_past c.args.origin c.args.kind.now c.args.place.now c.has.result c.has-else-has.result c.has.ensures c.if-has.false c.has-else-has.ensures c.if-has-2.false

pub build_if-returns-clause-built : goal.build_if-returns-clause-built
build_if-returns-clause-built t c =
    c.made_if.ensures
    ∙ if_made c.args.origin c.args.kind.now c.args.place.now c.build_region.new.place c.in_ok-cond.cond c.in_ok-first.first c.in_ok-other.other _
    c.in_ok-cond.ensures c.inside-parts.ensures c.in_ok-first.ensures.built c.in_ok-first.ensures.past c.in_ok-other.ensures.built
    ∙ kind_if c.args.origin c.args.kind.now c.args.place.now _ refl c.requires

pub build_if-returns-clause-past : goal.build_if-returns-clause-past
build_if-returns-clause-past t c =
    past_as c.args.place.now c.build_else.new.place _ _ (kind_if c.args.origin c.args.kind.now c.args.place.now _ refl c.requires)
    (if_left c.args.origin c.args.kind.now c.args.place.now c.build_region.new.place c.build_else.new.place c.in_ok-first.ensures.past c.in_ok-other.ensures.past)

pub build_for-returns-clause-built : goal.build_for-returns-clause-built
build_for-returns-clause-built t c =
    let k = said c.args.origin.tokens.now c.args.kind.now in
    c.made_for.ensures
    ∙ for_made c.args.origin c.args.kind.now c.args.place.now c.for_header.new.place c.in_ok-header.header c.in_ok-body.body _ _
    (c.requires.types ∙ ap (λ w. tys (source.op_types w k)) c.requires.word)
    c.in_ok-header.ensures.built c.in_ok-header.ensures.scope c.in_ok-header.ensures.next c.inside-parts.ensures c.in_ok-body.ensures.built
    ∙ kind_for c.args.origin c.args.kind.now c.args.place.now _ refl c.requires.word

pub build_for-returns-clause-past : goal.build_for-returns-clause-past
build_for-returns-clause-past t c =
    let k = said c.args.origin.tokens.now c.args.kind.now in
    past_as c.args.place.now c.leave.new.self _ _ (kind_for c.args.origin c.args.kind.now c.args.place.now _ refl c.requires.word)
    (for_left c.args.origin c.args.kind.now c.args.place.now c.for_header.new.place c.build_region.new.place c.leave.new.self c.in_ok-header.header _ c.len-outer.result
    (c.requires.types ∙ ap (λ w. tys (source.op_types w k)) c.requires.word)
    c.in_ok-header.ensures.built c.in_ok-header.ensures.scope c.in_ok-header.ensures.next c.in_ok-body.ensures.past c.len-outer.ensures c.leave.ensures.scope c.leave.ensures.next)

pub build_while-returns-clause-built : goal.build_while-returns-clause-built
build_while-returns-clause-built t c =
    let w =
    on_while c.args.origin c.args.kind.now c.args.place.now c.while_header.new.place c.leave.new.self c.after_header.new.place c.build_tested.new.place c.len-outer.result
    c.in_ok-header.ensures.scope c.in_ok-header.ensures.next c.in_ok-tested.ensures.past c.len-outer.ensures c.leave.ensures.scope c.leave.ensures.next c.in_ok-after_args.ensures.scope c.in_ok-after_args.ensures.next in
    c.made_while.ensures
    ∙ while_made c.args.origin c.args.kind.now c.args.place.now c.while_header.new.place c.leave.new.self c.after_header.new.place
    c.in_ok-header.header.args c.in_ok-after_args.after_args c.in_ok-header.header.inits c.in_ok-tested.tested.region c.in_ok-after.after c.in_ok-tested.tested.cond _
    w c.in_ok-header.ensures.args c.in_ok-header.ensures.inits c.in_ok-after_args.ensures.args c.in_ok-tested.ensures.built c.in_ok-tested.ensures.cond c.behind-parts.ensures c.in_ok-after.ensures.built
    ∙ kind_while c.args.origin c.args.kind.now c.args.place.now _ refl c.requires

pub build_while-returns-clause-past : goal.build_while-returns-clause-past
build_while-returns-clause-past t c =
    let w =
    on_while c.args.origin c.args.kind.now c.args.place.now c.while_header.new.place c.leave.new.self c.after_header.new.place c.build_tested.new.place c.len-outer.result
    c.in_ok-header.ensures.scope c.in_ok-header.ensures.next c.in_ok-tested.ensures.past c.len-outer.ensures c.leave.ensures.scope c.leave.ensures.next c.in_ok-after_args.ensures.scope c.in_ok-after_args.ensures.next in
    past_as c.args.place.now c.leave-2.new.self _ _ (kind_while c.args.origin c.args.kind.now c.args.place.now _ refl c.requires)
    (while_left c.args.origin c.args.kind.now c.args.place.now c.while_header.new.place c.leave.new.self c.after_header.new.place c.build_second.new.place c.leave-2.new.self c.len-outer.result
    w c.in_ok-after.ensures.past c.len-outer.ensures c.leave-2.ensures.scope c.leave-2.ensures.next)

pub build_ops-returns-clause-built : goal.build_ops-returns-clause-built
build_ops-returns-clause-built t c = ops_made c.args.origin c.args.place.now c.each.place c.each.left (view_ops c.each.made.items) _ c.each.invariant.0 c.in_default.ensures

pub build_ops-returns-clause-behind : goal.build_ops-returns-clause-behind
build_ops-returns-clause-behind t c = ops_behind c.args.origin c.args.place.now c.each.place c.each.left (view_ops c.each.made.items) _ c.each.invariant.0 c.in_default.ensures
