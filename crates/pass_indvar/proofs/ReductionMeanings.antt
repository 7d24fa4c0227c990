-- A function in which a product of a loop became an argument means what it meant before.
use Rattle.std.proofs.Common.{◌≡◌, ℕ, ◌+◌, List, length, sym, subst, arith, Option}
use Rattle.mlir_ir.specs.Check.{IsWellFormed}
use Rattle.mlir_ir.specs.Places.{DoLabelsFit}
use Rattle.mlir_ir.specs.declared.types.Func.{Func}
use Rattle.pass_copy.specs.Fresh.{fresh_names}
use Rattle.pass_copy.specs.Meaning.{HasSameMeaning}
use Rattle.pass_copy.specs.Renaming.{renamed}
use Rattle.pass_copy.proofs.ItemPlaces.{in_item}
use Rattle.pass_copy.proofs.LoopScopes.{scope_and_stands}
use Rattle.pass_copy.proofs.SameMeaning.{child_means_the_same}
use Rattle.pass_indvar.specs.Reductions.{reduced_spans, reduced, IsReduced, IsProgression, DoesProgressionHold}
use Rattle.pass_indvar.proofs.FirstProducts.{IsParted, first_parted}
use Rattle.pass_indvar.proofs.ReducedLabels.{stays, moves, beyond}
use Rattle.pass_indvar.proofs.ReducedWorks.{reduced_works}
use Rattle.pass_unroll.specs.Copies.{operation_of}
use Rattle.pass_unroll.proofs.LoopLengths.{inner_types, body_typed}
use Rattle.scev_tree.specs.Polynomial.{Polynomial}

module _ (f child : Func) (t : ℕ) (exprs : List (Option Polynomial)) (well : IsWellFormed f) (is : IsReduced f t exprs child) where
  -- the body of the loop, parted at the product
  pub parted_there : IsParted is.scope is.g (t + 2 + length is.o.args) is.o.body
  parted_there =
      let o = is.o in
      let there = scope_and_stands f t (λ T. T ≡ is.scope) (operation_of o) is.in_scope well is.stands in
      first_parted is.scope t is.g o.body (t + 2 + length o.args) exprs (inner_types there.scope t o there.op there.regions) (body_typed there.scope t o there.op there.regions) is.first

  pub reduction_means : DoLabelsFit child → DoesProgressionHold f t exprs → HasSameMeaning f child
  reduction_means fit holds =
      let o = is.o in
      let g = is.g in
      let fresh = fresh_names f in
      let fits = (in_item f well t (operation_of o) is.stands).whole in
      child_means_the_same (λ T. T ≡ is.scope) (IsProgression t g) (renamed (reduced_spans fresh t o g)) 0 t (operation_of o) (reduced fresh t o g) f child (omega arith)
      (λ y h. stays fresh t o g is.scope parted_there y (omega arith)) (moves fresh t o g is.scope parted_there fits) (beyond fresh t o g is.scope parted_there fits)
      (holds o is.scope g is.stands is.in_scope is.first)
      (λ T ctx held typed inside covers below.
      reduced_works fresh t o g T typed inside (subst (λ V. IsParted V g (t + 2 + length o.args) o.body) (sym held) parted_there) ctx covers below)
      well is.stands is.in_scope is.is fit
