-- A function with exit values breaks no rule but limits.
use Rattle.std.proofs.Common.{◌≡◌, ℕ, ◌+◌, List, Option, arith}
use Rattle.mlir_ir.specs.Check.{breaks, IsWellFormed}
use Rattle.mlir_ir.specs.Limits.{label_limit}
use Rattle.mlir_ir.specs.WellFormed.{OnlySize}
use Rattle.mlir_ir.specs.declared.types.Func.{Func}
use Rattle.pass_copy.specs.Fresh.{fresh_names}
use Rattle.pass_copy.specs.ItemLabels.{DoesItemFit}
use Rattle.pass_copy.specs.Renaming.{renamed}
use Rattle.pass_copy.specs.Replaced.{op_labels}
use Rattle.pass_copy.proofs.ChildLabels.{child_labels_fit}
use Rattle.pass_copy.proofs.ItemPlaces.{in_item}
use Rattle.pass_copy.proofs.TypedChildren.{are_fresh, few_labels, child_breaks}
use Rattle.pass_indvar.specs.Exits.{exits, exit_spans, with_exits, HasExitValues}
use Rattle.pass_indvar.proofs.ExitMeanings.{exits_chosen}
use Rattle.pass_indvar.proofs.ExitScopes.{exit_names}
use Rattle.pass_indvar.proofs.NamedExits.{exit_names_kept}
use Rattle.pass_indvar.proofs.TypedExits.{exit_types, exit_others}
use Rattle.scev_tree.specs.Polynomial.{Polynomial}

pub exit_values_break : (f child : Func) (t : ℕ) (exprs : List (Option Polynomial)) → IsWellFormed f → HasExitValues f t exprs child → DoesItemFit child t → OnlySize (breaks child)
exit_values_break f child t exprs w is fit =
    let o = is.o in
    let T = is.scope in
    let fresh = fresh_names f in
    let es = exits f T t o exprs in
    let g = renamed (exit_spans fresh t o es) in
    let seg = with_exits fresh t o es in
    let chosen = exits_chosen f t o T exprs in
    let item = in_item f w t o is.stands in
    let same_end = item.same_end (t + op_labels o) (omega arith) (omega (arith, item.whole)) in
    let fits = child_labels_fit f w g t seg o child is.stands is.is fit in
    let few = few_labels f w g t seg o child is.stands is.is fits in
    let names = exit_names fresh 0 (t + op_labels o) es in
    child_breaks f w g t seg o child is.stands is.is fits (λ now. now ≡ T) is.in_scope (exit_types fresh t o es T chosen item.whole same_end) (exit_others fresh t o es T chosen item.whole same_end)
    (exit_names_kept fresh label_limit (are_fresh f w) t o es (omega (arith, names, few)))
