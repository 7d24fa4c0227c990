-- A function in which a loop is peeled or unrolled means what it meant before.
use Rattle.std.proofs.Common.{ℕ, ◌≤◌, List, ◌∙◌, sym, arith}
use Rattle.mlir_ir.specs.Check.{IsWellFormed}
use Rattle.mlir_ir.specs.Places.{DoLabelsFit}
use Rattle.mlir_ir.specs.declared.types.Func.{Func}
use Rattle.pass_copy.specs.Fresh.{fresh_names}
use Rattle.pass_copy.specs.Meaning.{HasSameMeaning}
use Rattle.pass_copy.specs.Renaming.{renamed}
use Rattle.pass_copy.specs.Scopes.{AnyScope}
use Rattle.pass_copy.proofs.ItemPlaces.{in_item}
use Rattle.pass_copy.proofs.LoopScopes.{any_scope}
use Rattle.pass_copy.proofs.SameMeaning.{child_means_the_same}
use Rattle.pass_copy.proofs.TypedChildren.{loop_typed}
use Rattle.pass_unroll.specs.Children.{peel_spans, peeled, full_spans, unrolled_full, unroll_spans, unrolled, IsPeeled, IsUnrolledFull, IsUnrolled}
use Rattle.pass_unroll.specs.Copies.{operation_of}
use Rattle.pass_unroll.specs.Planned.{HasHeader, IsPlanned, IsPlannedBy}
use Rattle.pass_unroll.specs.declared.plan.Plan.{Plan}
use Rattle.pass_unroll.proofs.FullWorks.{full_works}
use Rattle.pass_unroll.proofs.LoopLabels.{peel_before, peel_has, peel_behind, labels_peeled, full_before, full_has, full_behind, unroll_before, unroll_has, unroll_behind}
use Rattle.pass_unroll.proofs.PeelWorks.{peel_works}
use Rattle.pass_unroll.proofs.LoopLengths.{inits_length, results_length, ends_length}
use Rattle.pass_unroll.proofs.UnrollWorks.{unroll_works}

module _ (f child : Func) (t : ℕ) (plan : Plan) (well : IsWellFormed f) (fit : DoLabelsFit child) where
  abbrev fresh : ℕ → List ℕ
  fresh = fresh_names f

  pub peeled_means : IsPeeled f t plan child → 1 ≤ plan.count → IsPlanned f t plan → HasSameMeaning f child
  peeled_means child_is some planned =
      let o = child_is.o in
      let fits = (in_item f well t (operation_of o) child_is.stands).whole in
      let labels = labels_peeled fresh t plan o in
      child_means_the_same AnyScope (HasHeader t o plan) (renamed (peel_spans fresh t plan o)) 1 t (operation_of o) (peeled fresh t plan o) f child (omega arith)
      (peel_before fresh t plan o) (λ y low high. let e = peel_has fresh t plan o y (omega arith) high in omega (arith, e, labels)) (peel_behind fresh t plan o)
      (planned.headed o child_is.stands)
      (λ T ctx held typed inside covers below. peel_works fresh t plan o T typed inside fits (planned.turns o child_is.stands) some ctx covers below)
      well child_is.stands (any_scope f t) child_is.is fit

  pub unrolled_full_means : IsUnrolledFull f t plan child → plan.count ≤ 31 → IsPlanned f t plan → HasSameMeaning f child
  unrolled_full_means child_is few planned =
      let o = child_is.o in
      let fits = (in_item f well t (operation_of o) child_is.stands).whole in
      let loop = loop_typed f well t (operation_of o) child_is.stands in
      let inits = inits_length loop.scope t o loop.op loop.regions in
      let ends_len = ends_length loop.scope t o loop.op loop.regions ∙ sym inits in
      let results_len = inits ∙ results_length loop.scope t o loop.op loop.regions in
      child_means_the_same AnyScope (HasHeader t o plan) (renamed (full_spans fresh t plan o)) plan.count t (operation_of o) (unrolled_full fresh t plan o) f child few
      (λ y h. full_before fresh t plan o y (omega arith)) (full_has fresh t plan o ends_len results_len fits) (full_behind fresh t plan o ends_len results_len fits)
      (planned.headed o child_is.stands)
      (λ T ctx held typed inside covers below. full_works fresh t plan o T typed inside (planned.turns o child_is.stands) ctx covers below)
      well child_is.stands (any_scope f t) child_is.is fit

  pub unrolled_means : (factor : ℕ) → IsUnrolled f t factor plan child → IsPlannedBy f t factor plan → HasSameMeaning f child
  unrolled_means factor child_is planned =
      let o = child_is.o in
      let fits = (in_item f well t (operation_of o) child_is.stands).whole in
      child_means_the_same AnyScope (HasHeader t o plan) (renamed (unroll_spans fresh t plan o factor)) 0 t (operation_of o) (unrolled fresh t plan o factor) f child (omega arith)
      (λ y h. unroll_before fresh t plan o factor fits y (omega arith)) (unroll_has fresh t plan o factor fits) (unroll_behind fresh t plan o factor fits)
      (planned.planned.headed o child_is.stands)
      (λ T ctx held typed inside covers below.
      unroll_works fresh t plan o factor T typed inside fits planned.factor_low planned.factor_high (planned.planned.turns o child_is.stands) (planned.main o child_is.stands) ctx covers below)
      well child_is.stands (any_scope f t) child_is.is fit
