-- The label of a value that is used, by its name and its place.
use Rattle.std.proofs.Common.{◌≡◌, ℕ, List, find, Option, Some, None, refl, ap, ◌∙◌, sym, subst}
use Rattle.std.specs.Option.{option_map, option_map_or}
use Rattle.arith_word.specs.declared.label.Label.{Label}
use Rattle.mlir_ir.specs.Resolved.{used}
use Rattle.mlir_ir.specs.Resolved as resolved
use Rattle.mlir_ir.specs.Source.{Use}
use Rattle.mlir_ir.specs.Values.{Value}
use Rattle.mlir_scope.specs.InScope.{value_of, is_named}
use Rattle.mlir_scope.specs.declared.scope_names.Named.{Named}

abbrev label_of_value : Option Value → Label
label_of_value o = record { 0 = option_map_or (λ (v : Value). v.label) o 0 }

-- the label of what was looked up
pub label_found : (vs : List Value) (u : Use) (place : ℕ) (r : Option Named) → place ≡ u.pick → option_map value_of r ≡ find (is_named u.name place) vs
    → resolved.label vs u ≡ record { 0 = option_map_or (λ (v : Named). v.label) r 0 }
label_found vs u place None same found = ap label_of_value (sym (found ∙ ap (λ p. find (is_named u.name p) vs) same))
label_found vs u place (Some v) same found = ap label_of_value (sym (found ∙ ap (λ p. find (is_named u.name p) vs) same))
