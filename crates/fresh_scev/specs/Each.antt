-- A property P of values, by label and type, and a property Q of loops, by the label of the counter, of all that operations define.
use Rattle.std.specs.Prelude.{◌≡◌, ℕ, ◌+◌, List, [], ◌∷◌, length, Some}
use Rattle.arith_word.specs.Labels.{label_at}
use Rattle.mlir_ir.specs.declared.types.IrType.{IrType}
use Rattle.mlir_ir.specs.Operations.{OpKind, Simple, If, For, While, OpList, nil, next, labels_of, inner_labels}
use Rattle.mlir_ir.specs.Rules.{arg_types}
use Rattle.mlir_ir.specs.Typed.{Types}

-- values from a label on
abbrev pub Each : (ℕ → IrType → Type 0) → ℕ → List IrType → Type 0
Each P label [] = Unit {0}
Each P label (ty ∷ tys) = P label ty × Each P (label + 1) tys

-- the values of a scope
abbrev pub EachInScope : (ℕ → IrType → Type 0) → Types → Type 0
EachInScope P T = (label : ℕ) (ty : IrType) → T label ≡ Some ty → P label ty

abbrev mutual
  -- operations from a label on
  pub EachOps : (ℕ → IrType → Type 0) → (ℕ → Type 0) → OpList → ℕ → Type 0
  EachOps P Q nil at = Unit {0}
  EachOps P Q (next packs results kind rest) at =
      EachInside P Q kind at × Each P (at + inner_labels kind) results × EachOps P Q rest (at + (inner_labels kind + length results))

  -- what is inside an operation
  pub EachInside : (ℕ → IrType → Type 0) → (ℕ → Type 0) → OpKind → ℕ → Type 0
  EachInside P Q (Simple does) at = Unit {0}
  EachInside P Q (If c first firsts has_else other others) at = EachOps P Q first at × EachOps P Q other (at + labels_of first)
  EachInside P Q (For lower upper step iv args inits body ends) at =
      Q at × Each P (at + 1) (iv.ty ∷ []) × Each P (at + 2) (arg_types args) × EachOps P Q body (at + 2 + length args)
  EachInside P Q (While args inits before passed cond after_args after ends) at =
      let in_before = at + 1 + length args in
      let params = in_before + labels_of before in
      Q at × Each P (at + 1) (arg_types args) × EachOps P Q before in_before
      × Each P params (arg_types after_args) × EachOps P Q after (params + length after_args)

-- the items of a function from number k on
abbrev pub EachItems : (ℕ → IrType → Type 0) → (ℕ → Type 0) → ℕ → ℕ → List OpList → Type 0
EachItems P Q func k [] = Unit {0}
EachItems P Q func k (ops ∷ items) = EachOps P Q ops (label_at func k 0) × EachItems P Q func (k + 1) items
