-- Results of packs that are put in scope from a label on.
use Rattle.std.proofs.Common.{◌≡◌, ℕ, ◌+◌, ◌-◌, ◌≤◌, min, List, ◌∷◌, ◌++◌, map, length, take, drop, ap, ◌∙◌, sym, arith, length-drop, append_assoc}
use Rattle.std.specs.List.{drop-map}
use Rattle.std.proofs.lemmas.List.{length-map, take-map, drop-drop}
use Rattle.mlir_ir.specs.Resolved.{packs_of}
use Rattle.mlir_ir.specs.Source.{Packed}
use Rattle.mlir_ir.specs.Values.{Value, pack_values, result_values}
use Rattle.mlir_scope.specs.Arguments.{pack_of}
use Rattle.mlir_scope.specs.Reading.{type_said}
use Rattle.mlir_scope.specs.declared.said.ValueType.{ValueType}
use Rattle.mlir_scope.proofs.Counts.{results_step}

-- the results of one pack are put in scope, of types of which `at` are taken
pub place_step : (scope new goal : List Value) (base at many : ℕ) (p : Packed) (ps all : List Packed) (types front : List ValueType) (next : ℕ)
    → all ≡ p ∷ ps → many ≡ min p.count (length types - at) → at ≤ length types → front ≡ take many (drop at types) → next ≡ base
    → new ≡ scope ++ pack_values (next + at) (pack_of p) 0 (map type_said front)
    → scope ++ result_values (base + at) (packs_of all) (map type_said (drop at types)) ≡ goal
    → (new ++ result_values (base + (at + many)) (packs_of ps) (map type_said (drop (at + many) types)) ≡ goal) × (at + many ≤ length types)
place_step scope new goal base at many p ps all types front next parts many_is within front_is begin new_is goal_is =
    let tys = map type_said (drop at types) in
    let left : length tys ≡ length types - at = length-map (drop at types) type_said ∙ length-drop at types in
    let step = results_step (base + at) many p ps tys (many_is ∙ ap (λ (n : ℕ). min p.count n) (sym left)) in
    let first : map type_said front ≡ take many tys = ap (map type_said) front_is ∙ sym (take-map type_said many (drop at types)) in
    let behind : map type_said (drop (at + many) types) ≡ drop many tys = ap (map type_said) (sym (drop-drop many at types)) ∙ sym (drop-map type_said many (drop at types)) in
    let later = result_values (base + at + many) (packs_of ps) (drop many tys) in
    let sum : base + (at + many) ≡ base + at + many = omega arith in (
      ap (λ ts. new ++ result_values (base + (at + many)) (packs_of ps) ts) behind
          ∙ ap (λ n. new ++ result_values n (packs_of ps) (drop many tys)) sum
          ∙ ap (λ s. s ++ later) (new_is ∙ ap (λ ts. scope ++ pack_values (next + at) (pack_of p) 0 ts) first ∙ ap (λ n. scope ++ pack_values (n + at) (pack_of p) 0 (take many tys)) begin)
          ∙ append_assoc scope (pack_values (base + at) (pack_of p) 0 (take many tys)) later
          ∙ ap (λ vs. scope ++ vs) (sym step)
          ∙ ap (λ xs. scope ++ result_values (base + at) (packs_of xs) tys) (sym parts)
          ∙ goal_is,
      omega arith,
    )
