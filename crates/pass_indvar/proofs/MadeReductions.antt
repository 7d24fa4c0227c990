-- The child of a reduction, as it is made of what was built.
use Rattle.std.proofs.Common.{◌≡◌, ℕ, ◌+◌, Bool, true, false, List, length, Option, Some, None, ap, ◌∙◌, sym}
use Rattle.std.specs.Prelude.{nat_le}
use Rattle.mlir_ir.specs.Check.{IsWellFormed}
use Rattle.mlir_ir.specs.Limits.{label_limit}
use Rattle.mlir_ir.specs.Operations.{OpList, labels_of}
use Rattle.mlir_ir.specs.Reads.{plain_func}
use Rattle.mlir_ir.specs.Typed.{Types}
use Rattle.mlir_ir.specs.declared.types.Func.{Func}
use Rattle.pass_copy.specs.Fresh.{fresh_names}
use Rattle.pass_copy.specs.InScope.{InScope}
use Rattle.pass_copy.specs.ItemLabels.{DoesItemFit, item_labels}
use Rattle.pass_copy.specs.Meaning.{HasSameMeaning}
use Rattle.pass_copy.specs.Renaming.{renamed}
use Rattle.pass_copy.specs.Replaced.{op_labels, StandsAt, replaced_func}
use Rattle.pass_copy.specs.declared.renaming.Span.{Span}
use Rattle.pass_copy.proofs.ChildLabels.{child_labels_fit}
use Rattle.pass_copy.proofs.OneScope.{OneScope, one_scope, in_scope}
use Rattle.pass_copy.proofs.LoopScopes.{scope_and_stands}
use Rattle.pass_expand.specs.Expandable.{IsInSymbols}
use Rattle.pass_expand.proofs.ScopedSymbols.{expands_plain}
use Rattle.pass_indvar.proofs.FirstProducts.{IsParted, first_parted}
use Rattle.pass_unroll.proofs.LoopLengths.{inner_types, body_typed}
use Rattle.pass_indvar.specs.Reductions.{Progression, first_progression, reduced, reduced_spans, IsReduced, HasNoProgression, DoesProgressionHold}
use Rattle.pass_indvar.proofs.ReductionMeanings.{reduction_means}
use Rattle.pass_unroll.specs.Copies.{ForLoop, operation_of}
use Rattle.pass_unroll.proofs.LoopRooms.{same_loop, room_fits, no_room}
use Rattle.scev_tree.specs.Polynomial.{Polynomial}

abbrev some_or : Progression → Option Progression → Progression
some_or g None = g
some_or g (Some other) = other

module _ (f : Func) (well : IsWellFormed f) (t : ℕ) (o : ForLoop) (stands : StandsAt f t (operation_of o)) (exprs : List (Option Polynomial)) (found : Option Progression)
    (search : InScope f t (λ T. found ≡ first_progression T t (t + 2 + length o.args) o.body exprs)) where
  one : OneScope f t
  one = one_scope f t (operation_of o) well stands

  abbrev T : Types
  T = one.scope

  -- no product is a progression
  pub nothing_reduced : found ≡ None → HasNoProgression f t exprs
  nothing_reduced none other S there here =
      let same : o ≡ other = same_loop f well t o other stands there in
      ap (λ (x : ForLoop). first_progression S t (t + 2 + length x.args) x.body exprs) (sym same) ∙ sym (search.there S here) ∙ none

  module _ (g : Progression) (is : found ≡ Some g) where
    first : first_progression T t (t + 2 + length o.args) o.body exprs ≡ Some g
    first = sym (search.there T one.is) ∙ is

    parted : IsParted T g (t + 2 + length o.args) o.body
    parted =
        let there = scope_and_stands f t (λ now. now ≡ T) (operation_of o) one.is well stands in
        first_parted T t g o.body (t + 2 + length o.args) exprs (inner_types there.scope t o there.op there.regions) (body_typed there.scope t o there.op there.regions) first

    -- no counter stands in its start and its step
    pub found_starts : IsInSymbols g.start
    found_starts = expands_plain T g.ty g.start parted.starts

    pub found_steps : IsInSymbols g.step
    found_steps = expands_plain T g.ty g.step parted.steps

    abbrev spans : List Span
    spans = reduced_spans (fresh_names f) t o g

    abbrev seg : OpList
    seg = reduced (fresh_names f) t o g

    -- a child of the reduction is this one
    same_child : (child : Func) → IsReduced f t exprs child → plain_func child ≡ replaced_func (renamed spans) t seg f
    same_child child r =
        let same : r.o ≡ o = same_loop f well t r.o o r.stands stands in
        let scope : r.scope ≡ T = (in_scope f t (λ now. now ≡ T) (operation_of o) well stands one.is).there r.scope r.in_scope in
        let both : Some r.g ≡ Some g = sym r.first ∙ (λ j. first_progression (scope j) t (t + 2 + length (same j).args) (same j).body exprs) ∙ first in
        let ours : r.g ≡ g = ap (some_or g) both in
        r.is ∙ (λ j. replaced_func (renamed (reduced_spans (fresh_names f) t (same j) (ours j))) t (reduced (fresh_names f) t (same j) (ours j)) f)

    module _ (n : ℕ) (room : Bool) (count : n ≡ labels_of seg) (fits : room ≡ nat_le (item_labels f t + n) (label_limit + op_labels (operation_of o))) where
      pub none_has_room : room ≡ false → (child : Func) → IsReduced f t exprs child → DoesItemFit child t → ⊥
      none_has_room r child reduced =
          no_room f well t (operation_of o) stands t n room (λ j. t) fits (renamed spans) seg child count (same_child child reduced) r

      pub child_fits : (child : Func) → plain_func child ≡ replaced_func (renamed spans) t seg f → room ≡ true → DoesItemFit child t
      child_fits child built r = room_fits f well t (operation_of o) stands t n room (λ j. t) fits (renamed spans) seg child count built r

    pub child_is : (child : Func) → plain_func child ≡ replaced_func (renamed spans) t seg f → IsReduced f t exprs child
    child_is child built = record { o = o; stands = stands; scope = T; in_scope = one.is; g = g; first = first; is = built }

pub made_means : (f child : Func) (t : ℕ) (exprs : List (Option Polynomial)) → IsWellFormed f → IsReduced f t exprs child → DoesItemFit child t → DoesProgressionHold f t exprs → HasSameMeaning f child
made_means f child t exprs well is fit holds =
    let fits = child_labels_fit f well (renamed (reduced_spans (fresh_names f) t is.o is.g)) t (reduced (fresh_names f) t is.o is.g) (operation_of is.o) child is.stands is.is fit in
    reduction_means f child t exprs well is fits holds
