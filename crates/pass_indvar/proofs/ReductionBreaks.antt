-- A function in which a product of a loop became an argument is well formed but for the limits.
use Rattle.std.proofs.Common.{◌≡◌, ℕ, List, arith, Option}
use Rattle.mlir_ir.specs.Check.{breaks, IsWellFormed}
use Rattle.mlir_ir.specs.Limits.{label_limit}
use Rattle.mlir_ir.specs.WellFormed.{OnlySize}
use Rattle.mlir_ir.specs.declared.types.Func.{Func}
use Rattle.pass_copy.specs.Fresh.{fresh_names}
use Rattle.pass_copy.specs.ItemLabels.{DoesItemFit}
use Rattle.pass_copy.specs.Renaming.{renamed}
use Rattle.pass_copy.proofs.ChildLabels.{child_labels_fit}
use Rattle.pass_copy.proofs.ItemPlaces.{in_item}
use Rattle.pass_copy.proofs.TypedChildren.{are_fresh, few_labels, child_breaks}
use Rattle.pass_expand.proofs.ExpansionLabels.{expansion_names}
use Rattle.pass_indvar.specs.Reductions.{IsReduced, step_at, start_ops, reduced_spans, reduced}
use Rattle.pass_copy.specs.Renamed.{names_of}
use Rattle.pass_indvar.proofs.NamedReduction.{reduced_names}
use Rattle.pass_indvar.proofs.ReducedLabels.{reduced_labels}
use Rattle.pass_indvar.proofs.ReductionMeanings.{parted_there}
use Rattle.pass_indvar.proofs.TypedReduction.{reduced_others, reduced_types}
use Rattle.pass_unroll.specs.Copies.{operation_of}
use Rattle.scev_tree.specs.Polynomial.{Polynomial}

pub reduction_breaks : (f child : Func) (t : ℕ) (exprs : List (Option Polynomial)) → IsWellFormed f → IsReduced f t exprs child → DoesItemFit child t → OnlySize (breaks child)
reduction_breaks f child t exprs w is fit =
    let o = is.o in
    let g = is.g in
    let fresh = fresh_names f in
    let r = renamed (reduced_spans fresh t o g) in
    let seg = reduced fresh t o g in
    let parted = parted_there f child t exprs w is in
    let fits = child_labels_fit f w r t seg (operation_of o) child is.stands is.is fit in
    let few = few_labels f w r t seg (operation_of o) child is.stands is.is fits in
    let whole = (in_item f w t (operation_of o) is.stands).whole in
    let count = reduced_labels fresh t o g is.scope parted in
    let a = expansion_names fresh g.ty 0 t g.start in
    let b = expansion_names fresh g.ty (names_of (start_ops fresh t o g)) (step_at fresh t o g) g.step in
    child_breaks f w r t seg (operation_of o) child is.stands is.is fits (λ T. T ≡ is.scope) is.in_scope (reduced_types fresh t o g is.scope parted whole)
    (reduced_others fresh t o g is.scope parted whole) (reduced_names fresh label_limit (are_fresh f w) t o g is.scope parted (omega (arith, count, a, b, few)))
