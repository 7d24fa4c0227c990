-- What holds of the values in scope wherever a loop begins with some label.
use Rattle.std.specs.Prelude.{ℕ, ◌≡◌, ◌+◌, true, List, [], ◌∷◌, length, Option, Some, None}
use Rattle.arith_word.specs.Labels.{label_at}
use Rattle.mlir_ir.specs.declared.types.Body.{Body}
use Rattle.mlir_ir.specs.declared.types.Func.{Func}
use Rattle.mlir_ir.specs.Operations.{OpKind, Simple, If, For, While, OpList, nil, next, labels_of, inner_labels}
use Rattle.mlir_ir.specs.Rules.{arg_types}
use Rattle.mlir_ir.specs.Typed.{Types, with_types, types_after, args_typed}
use Rattle.mlir_ir.specs.View.{view_items}
use Rattle.pass_copy.specs.Replaced.{is_loop}

-- Q holds of the scope of each loop that begins with label t
module _ (t : ℕ) (Q : Types → Type 0) where
  abbrev mutual
    -- in operations in scope T, of which the first begins with label `at`
    pub ScopeIn : Types → ℕ → OpList → Type 0
    ScopeIn T at nil = Unit {0}
    ScopeIn T at (next packs results kind rest) =
        (at ≡ t → is_loop kind ≡ true → Q T) × ScopeInside T at kind
        × ScopeIn (with_types T (at + inner_labels kind) results) (at + (inner_labels kind + length results)) rest

    -- in the regions of an operation that begins with label `at`
    pub ScopeInside : Types → ℕ → OpKind → Type 0
    ScopeInside T at (Simple does) = Unit {0}
    ScopeInside T at (If c first firsts has_else other others) = ScopeIn T at first × ScopeIn T (at + labels_of first) other
    ScopeInside T at (For lower upper step iv args inits body ends) =
        ScopeIn (with_types (with_types T (at + 1) (iv.ty ∷ [])) (at + 2) (arg_types args)) (at + 2 + length args) body
    ScopeInside T at (While args inits before passed cond after_args after ends) =
        let in_before = at + 1 + length args in
        let params = in_before + labels_of before in
        ScopeIn (with_types T (at + 1) (arg_types args)) in_before before
        × ScopeIn (with_types T params (arg_types after_args)) (params + length after_args) after

  -- in items from number k on
  abbrev pub ScopeInItems : Types → ℕ → ℕ → List OpList → Type 0
  ScopeInItems T func k [] = Unit {0}
  ScopeInItems T func k (ops ∷ items) = ScopeIn T (label_at func k 0) ops × ScopeInItems (types_after T (label_at func k 0) ops) func (k + 1) items

  abbrev pub ScopeInBody : Func → Option Body → Type 0
  ScopeInBody f None = Unit {0}
  ScopeInBody f (Some body) = ScopeInItems (args_typed f.index f.args) f.index 1 (view_items body.items)

-- in a function
abbrev pub HasScope : Func → ℕ → (Types → Type 0) → Type 0
HasScope f t Q = ScopeInBody t Q f f.body

-- what holds of each scope
abbrev pub AnyScope : Types → Type 0
AnyScope T = Unit {0}
