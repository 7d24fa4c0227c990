-- Operations use values that are defined before: each use has a label below that of what uses it, and each result of an `scf.for`
-- has an argument that is carried to it.
use Rattle.std.specs.Prelude.{ℕ, ◌+◌, ◌<◌, ◌≤◌, List, [], ◌∷◌, length}
use Rattle.std.specs.List.{AllByRecursion}
use Rattle.arith_word.specs.Labels.{label_at}
use Rattle.arith_word.specs.declared.label.Label.{Label}
use Rattle.mlir_ir.specs.Operations.{OpKind, Simple, If, For, While, OpList, nil, next, labels_of, inner_labels}
use Rattle.mlir_ir.specs.Typed.{simple_uses}
use Rattle.mlir_ir.specs.declared.types.IrType.{IrType}

abbrev pub AreBelow : List Label → ℕ → Type 0
AreBelow uses at = AllByRecursion (λ (label : Label). label.0 < at) uses

-- an `scf.for` has as many arguments as results
abbrev pub CarriesResults : OpKind → List IrType → Type 0
CarriesResults (For lower upper step iv args inits body ends) results = length results ≤ length args
CarriesResults _ results = Unit {0}

abbrev mutual
  -- operations from a label on
  pub DoUseBelow : OpList → ℕ → Type 0
  DoUseBelow nil at = Unit {0}
  DoUseBelow (next packs results kind rest) at = DoesUseBelow kind at × DoUseBelow rest (at + (inner_labels kind + length results)) × CarriesResults kind results

  pub DoesUseBelow : OpKind → ℕ → Type 0
  DoesUseBelow (Simple does) at = AreBelow (simple_uses does) at
  DoesUseBelow (If c first firsts has_else other others) at =
      let behind = at + labels_of first in
      (c.0 < at)
      × DoUseBelow first at × AreBelow firsts behind
      × DoUseBelow other behind × AreBelow others (behind + labels_of other)
  DoesUseBelow (For lower upper step iv args inits body ends) at =
      let in_body = at + 2 + length args in
      AreBelow (lower ∷ upper ∷ step ∷ inits) at
      × DoUseBelow body in_body × AreBelow ends (in_body + labels_of body)
  DoesUseBelow (While args inits before passed cond after_args after ends) at =
      let in_before = at + 1 + length args in
      let params = in_before + labels_of before in
      let in_after = params + length after_args in
      AreBelow inits at
      × DoUseBelow before in_before × AreBelow (cond ∷ passed) params
      × DoUseBelow after in_after × AreBelow ends (in_after + labels_of after)

-- the items of a function from number k on
abbrev pub DoItemsUseBelow : ℕ → ℕ → List OpList → Type 0
DoItemsUseBelow func k [] = Unit {0}
DoItemsUseBelow func k (ops ∷ items) = DoUseBelow ops (label_at func k 0) × DoItemsUseBelow func (k + 1) items
