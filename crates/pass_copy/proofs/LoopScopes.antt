-- The scope in which a loop stands, by what holds of each scope in which it may stand.
use Rattle.std.proofs.Common.{ℕ, ◌+◌, List, [], ◌∷◌, length, inl, inr, subst, Option, Some, None}
use Rattle.arith_word.specs.Labels.{label_at}
use Rattle.mlir_ir.specs.Check.{IsWellFormed}
use Rattle.mlir_ir.specs.Operations.{OpKind, Simple, If, For, While, OpList, nil, next, labels_of, inner_labels}
use Rattle.mlir_ir.specs.Rules.{arg_types}
use Rattle.mlir_ir.specs.Typed.{Types, with_types, types_after, args_typed, TypedOp, TypedOps, TypedRegions, TypedItems}
use Rattle.mlir_ir.specs.View.{view_items}
use Rattle.mlir_ir.specs.WellFormed.{IsTypedBody}
use Rattle.mlir_ir.specs.declared.types.Body.{Body}
use Rattle.mlir_ir.specs.declared.types.Func.{Func}
use Rattle.mlir_ir.specs.declared.types.IrType.{IrType}
use Rattle.mlir_ir.proofs.SizedFunctions.{well_formed}
use Rattle.pass_copy.specs.Replaced.{Operation, StandsIn, StandsInside, StandsInItems, StandsInBody, StandsAt}
use Rattle.pass_copy.specs.Scopes.{ScopeIn, ScopeInside, ScopeInItems, ScopeInBody, HasScope, AnyScope}

-- what holds of each scope holds where the loop stands

module _ (t : ℕ) (Q : Types → Type 0) (all : (T : Types) → Q T) where
  mutual
    every_in : (ops : OpList) (T : Types) (at : ℕ) → ScopeIn t Q T at ops
    every_in nil T at = tt
    every_in (next packs results kind rest) T at = (
      λ e l. all T,
      every_inside kind T at,
      every_in rest (with_types T (at + inner_labels kind) results) (at + (inner_labels kind + length results)),
    )

    every_inside : (kind : OpKind) (T : Types) (at : ℕ) → ScopeInside t Q T at kind
    every_inside (Simple does) T at = tt
    every_inside (If c first firsts has_else other others) T at = (every_in first T at, every_in other T (at + labels_of first))
    every_inside (For lower upper step iv args inits body ends) T at =
        every_in body (with_types (with_types T (at + 1) (iv.ty ∷ [])) (at + 2) (arg_types args)) (at + 2 + length args)
    every_inside (While args inits before passed cond after_args after ends) T at =
        let in_before = at + 1 + length args in
        let params = in_before + labels_of before in (
          every_in before (with_types T (at + 1) (arg_types args)) in_before,
          every_in after (with_types T params (arg_types after_args)) (params + length after_args),
        )

  every_in_items : (items : List OpList) (T : Types) (func k : ℕ) → ScopeInItems t Q T func k items
  every_in_items [] T func k = tt
  every_in_items (ops ∷ items) T func k = (every_in ops T (label_at func k 0), every_in_items items (types_after T (label_at func k 0) ops) func (k + 1))

  every_in_body : (f : Func) (body : Option Body) → ScopeInBody t Q f body
  every_in_body f None = tt
  every_in_body f (Some body) = every_in_items (view_items body.items) (args_typed f.index f.args) f.index 1

pub every_scope : (f : Func) (t : ℕ) (Q : Types → Type 0) → ((T : Types) → Q T) → HasScope f t Q
every_scope f t Q all = every_in_body t Q all f f.body

pub any_scope : (f : Func) (t : ℕ) → HasScope f t AnyScope
any_scope f t = every_scope f t AnyScope (λ T. tt)

-- a scope with the property, in which the loop is typed
pub record ScopedThere (t : ℕ) (Q : Types → Type 0) (o : Operation) : Type 0 where
  pub scope : Types
  pub holds : Q scope
  pub op : TypedOp scope o.packs o.results o.kind
  pub regions : TypedRegions scope t o.results o.kind

module _ (t : ℕ) (Q : Types → Type 0) (o : Operation) where
  mutual
    scoped_in : (ops : OpList) (T : Types) (at : ℕ) → StandsIn t o at ops → ScopeIn t Q T at ops → TypedOps T at ops → ScopedThere t Q o
    scoped_in nil T at s q u = absurd s
    scoped_in (next packs results kind rest) T at (inl s) q u =
        subst (λ x. ScopedThere t Q x) s.2 (record { scope = T; holds = q.0 s.0 s.1; op = u.0; regions = subst (λ p. TypedRegions T p results kind) s.0 u.1 })
    scoped_in (next packs results kind rest) T at (inr (inl s)) q u = scoped_inside kind T at results s q.1 u.1
    scoped_in (next packs results kind rest) T at (inr (inr s)) q u =
        scoped_in rest (with_types T (at + inner_labels kind) results) (at + (inner_labels kind + length results)) s q.2 u.2

    scoped_inside : (kind : OpKind) (T : Types) (at : ℕ) (results : List IrType) → StandsInside t o at kind → ScopeInside t Q T at kind
        → TypedRegions T at results kind → ScopedThere t Q o
    scoped_inside (Simple does) T at results s q u = absurd s
    scoped_inside (If c first firsts has_else other others) T at results (inl s) q u = scoped_in first T at s q.0 u.0
    scoped_inside (If c first firsts has_else other others) T at results (inr s) q u = scoped_in other T (at + labels_of first) s q.1 u.2
    scoped_inside (For lower upper step iv args inits body ends) T at results s q u =
        scoped_in body (with_types (with_types T (at + 1) (iv.ty ∷ [])) (at + 2) (arg_types args)) (at + 2 + length args) s q u.0
    scoped_inside (While args inits before passed cond after_args after ends) T at results (inl s) q u =
        scoped_in before (with_types T (at + 1) (arg_types args)) (at + 1 + length args) s q.0 u.0
    scoped_inside (While args inits before passed cond after_args after ends) T at results (inr s) q u =
        let params = at + 1 + length args + labels_of before in
        scoped_in after (with_types T params (arg_types after_args)) (params + length after_args) s q.1 u.3

  scoped_in_items : (items : List OpList) (T : Types) (func k : ℕ) → StandsInItems t o func k items → ScopeInItems t Q T func k items
      → TypedItems T func k items → ScopedThere t Q o
  scoped_in_items [] T func k s q u = absurd s
  scoped_in_items (ops ∷ items) T func k (inl s) q u = scoped_in ops T (label_at func k 0) s q.0 u.0
  scoped_in_items (ops ∷ items) T func k (inr s) q u = scoped_in_items items (types_after T (label_at func k 0) ops) func (k + 1) s q.1 u.1

  scoped_in_body : (f : Func) (body : Option Body) → StandsInBody t o f.index body → ScopeInBody t Q f body → IsTypedBody f body → ScopedThere t Q o
  scoped_in_body f None s q u = absurd s
  scoped_in_body f (Some body) s q u = scoped_in_items (view_items body.items) (args_typed f.index f.args) f.index 1 s q u.inside

-- a loop of a well-formed function is typed in a scope with the property
pub scope_and_stands : (f : Func) (t : ℕ) (Q : Types → Type 0) (o : Operation) → HasScope f t Q → IsWellFormed f → StandsAt f t o → ScopedThere t Q o
scope_and_stands f t Q o q well s = scoped_in_body t Q o f f.body s q (well_formed f well).0
