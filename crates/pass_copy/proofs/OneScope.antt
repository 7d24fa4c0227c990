-- The scope of a loop is one: what holds of it wherever the loop stands holds of the one scope there.
use Rattle.std.proofs.Common.{◌≡◌, ℕ, ◌+◌, inl, inr, List, [], ◌∷◌, length, refl, subst, arith, Option, Some, None}
use Rattle.std.specs.List.{All}
use Rattle.std.specs.Prelude.{IfSome}
use Rattle.arith_word.specs.Labels.{label_at}
use Rattle.mlir_ir.specs.Check.{IsWellFormed}
use Rattle.mlir_ir.specs.Places.{HasFewLabels}
use Rattle.mlir_ir.specs.Operations.{OpKind, Simple, If, For, While, OpList, nil, next, labels_of, inner_labels}
use Rattle.mlir_ir.specs.Rules.{arg_types}
use Rattle.mlir_ir.specs.Typed.{Types, with_types, types_after, args_typed}
use Rattle.mlir_ir.specs.View.{view_items}
use Rattle.mlir_ir.specs.declared.types.Body.{Body}
use Rattle.mlir_ir.specs.declared.types.Func.{Func}
use Rattle.pass_copy.specs.InScope.{InScope}
use Rattle.pass_copy.specs.Replaced.{Operation, StandsIn, StandsInside, StandsInItems, StandsInBody, StandsAt}
use Rattle.pass_copy.specs.Scopes.{ScopeIn, ScopeInside, ScopeInItems, ScopeInBody, HasScope}
use Rattle.pass_copy.proofs.AloneLoops.{not_both}
use Rattle.pass_copy.proofs.ItemPlaces.{ItemsFit, items_fit, next_item, stands_behind}
use Rattle.pass_copy.proofs.LoopScopes.{scope_and_stands}
use Rattle.pass_copy.proofs.ScopesAway.{away_in, away_inside, inside_loop, behind_in_items}
use Rattle.pass_copy.proofs.UntouchedParts.{loop_labels, stands, stands_inside}
use Rattle.mlir_ir.proofs.LabelsFit.{labels_fit}

module _ (t : ℕ) (Q R : Types → Type 0) where
  abbrev Both : Types → Type 0
  Both T = Q T × R T

  mutual
    both_in : (ops : OpList) (T : Types) (at : ℕ) → ScopeIn t Q T at ops → ScopeIn t R T at ops → ScopeIn t Both T at ops
    both_in nil T at q r = tt
    both_in (next packs results kind rest) T at q r = (
      λ e l. (q.0 e l, r.0 e l),
      both_inside kind T at q.1 r.1,
      both_in rest (with_types T (at + inner_labels kind) results) (at + (inner_labels kind + length results)) q.2 r.2,
    )

    both_inside : (kind : OpKind) (T : Types) (at : ℕ) → ScopeInside t Q T at kind → ScopeInside t R T at kind → ScopeInside t Both T at kind
    both_inside (Simple does) T at q r = tt
    both_inside (If c first firsts has_else other others) T at q r = (both_in first T at q.0 r.0, both_in other T (at + labels_of first) q.1 r.1)
    both_inside (For lower upper step iv args inits body ends) T at q r =
        both_in body (with_types (with_types T (at + 1) (iv.ty ∷ [])) (at + 2) (arg_types args)) (at + 2 + length args) q r
    both_inside (While args inits before passed cond after_args after ends) T at q r =
        let in_before = at + 1 + length args in
        let params = in_before + labels_of before in (
          both_in before (with_types T (at + 1) (arg_types args)) in_before q.0 r.0,
          both_in after (with_types T params (arg_types after_args)) (params + length after_args) q.1 r.1,
        )

  both_in_items : (items : List OpList) (T : Types) (func k : ℕ) → ScopeInItems t Q T func k items → ScopeInItems t R T func k items → ScopeInItems t Both T func k items
  both_in_items [] T func k q r = tt
  both_in_items (ops ∷ items) T func k q r =
      (both_in ops T (label_at func k 0) q.0 r.0, both_in_items items (types_after T (label_at func k 0) ops) func (k + 1) q.1 r.1)

  both_in_body : (f : Func) (body : Option Body) → ScopeInBody t Q f body → ScopeInBody t R f body → ScopeInBody t Both f body
  both_in_body f None q r = tt
  both_in_body f (Some body) q r = both_in_items (view_items body.items) (args_typed f.index f.args) f.index 1 q r

pub both_scopes : (f : Func) (t : ℕ) (Q R : Types → Type 0) → HasScope f t Q → HasScope f t R → HasScope f t (λ T. Q T × R T)
both_scopes f t Q R q r = both_in_body t Q R f f.body q r

-- what holds of each scope of a loop that stands in a function holds of the scope there
pub in_scope : (f : Func) (t : ℕ) (Q : Types → Type 0) (o : Operation) → IsWellFormed f → StandsAt f t o → HasScope f t Q → InScope f t Q
in_scope f t Q o well stands q = record {
  there = λ T here.
      let found = scope_and_stands f t (λ now. Q now × (now ≡ T)) o (both_scopes f t Q (λ now. now ≡ T) q here) well stands in
      subst Q found.holds.1 found.holds.0;
}

-- ---- the scope of a loop that stands in a function

record IsOneIn (t : ℕ) (ops : OpList) (T : Types) (at : ℕ) : Type 0 where
  pub scope : Types
  pub is : ScopeIn t (λ now. now ≡ scope) T at ops

record IsOneInside (t : ℕ) (kind : OpKind) (T : Types) (at : ℕ) : Type 0 where
  pub scope : Types
  pub is : ScopeInside t (λ now. now ≡ scope) T at kind

record IsOneInItems (t func k : ℕ) (items : List OpList) (T : Types) : Type 0 where
  pub scope : Types
  pub is : ScopeInItems t (λ now. now ≡ scope) T func k items

-- a loop with label t stands in it, and in no other place
pub record OneScope (f : Func) (t : ℕ) : Type 0 where
  pub scope : Types
  pub is : HasScope f t (λ now. now ≡ scope)

module _ (t : ℕ) (o : Operation) where
  abbrev is_now : Types → Types → Type 0
  is_now S now = now ≡ S

  mutual
    one_in : (ops : OpList) (T : Types) (at : ℕ) → StandsIn t o at ops → IsOneIn t ops T at
    one_in nil T at s = absurd s
    one_in (next packs results kind rest) T at (inl s) =
        let some = loop_labels kind s.1 in record {
          scope = T;
          is = (
            λ e l. refl,
            inside_loop t (is_now T) kind T at s.1 (omega (arith, s.0)),
            away_in t (is_now T) rest (with_types T (at + inner_labels kind) results) (at + (inner_labels kind + length results)) (inl (omega (arith, s.0, some))),
          );
        }
    one_in (next packs results kind rest) T at (inr (inl s)) =
        let g = stands_inside t o kind at s in
        let found = one_inside kind T at s in record {
          scope = found.scope;
          is = (
            λ e l. absurd (not_both t o kind at e l s),
            found.is,
            away_in t (is_now found.scope) rest (with_types T (at + inner_labels kind) results) (at + (inner_labels kind + length results)) (inl (omega (arith, g.some, g.ends))),
          );
        }
    one_in (next packs results kind rest) T at (inr (inr s)) =
        let behind = at + (inner_labels kind + length results) in
        let g = stands t o rest behind s in
        let found = one_in rest (with_types T (at + inner_labels kind) results) behind s in record {
          scope = found.scope;
          is = (
            λ e l. absurd (let some = loop_labels kind l in omega (arith, e, g.begins, some)),
            away_inside t (is_now found.scope) kind T at (inr (omega (arith, g.begins))),
            found.is,
          );
        }

    one_inside : (kind : OpKind) (T : Types) (at : ℕ) → StandsInside t o at kind → IsOneInside t kind T at
    one_inside (Simple does) T at s = absurd s
    one_inside (If c first firsts has_else other others) T at (inl s) =
        let g = stands t o first at s in
        let found = one_in first T at s in
        record { scope = found.scope; is = (found.is, away_in t (is_now found.scope) other T (at + labels_of first) (inl (omega (arith, g.some, g.ends)))) }
    one_inside (If c first firsts has_else other others) T at (inr s) =
        let g = stands t o other (at + labels_of first) s in
        let found = one_in other T (at + labels_of first) s in
        record { scope = found.scope; is = (away_in t (is_now found.scope) first T at (inr (omega (arith, g.begins))), found.is) }
    one_inside (For lower upper step iv args inits body ends) T at s =
        let found = one_in body (with_types (with_types T (at + 1) (iv.ty ∷ [])) (at + 2) (arg_types args)) (at + 2 + length args) s in
        record { scope = found.scope; is = found.is }
    one_inside (While args inits before passed cond after_args after ends) T at (inl s) =
        let in_before = at + 1 + length args in
        let params = in_before + labels_of before in
        let g = stands t o before in_before s in
        let found = one_in before (with_types T (at + 1) (arg_types args)) in_before s in record {
          scope = found.scope;
          is = (found.is, away_in t (is_now found.scope) after (with_types T params (arg_types after_args)) (params + length after_args) (inl (omega (arith, g.some, g.ends))));
        }
    one_inside (While args inits before passed cond after_args after ends) T at (inr s) =
        let in_before = at + 1 + length args in
        let params = in_before + labels_of before in
        let g = stands t o after (params + length after_args) s in
        let found = one_in after (with_types T params (arg_types after_args)) (params + length after_args) s in record {
          scope = found.scope;
          is = (away_in t (is_now found.scope) before (with_types T (at + 1) (arg_types args)) in_before (inr (omega (arith, g.begins))), found.is);
        }

  one_in_items : (items : List OpList) (T : Types) (func k : ℕ) → ItemsFit items → StandsInItems t o func k items → IsOneInItems t func k items T
  one_in_items [] T func k fit s = absurd s
  one_in_items (ops ∷ items) T func k fit (inl s) =
      let at = label_at func k 0 in
      let g = stands t o ops at s in
      let n = next_item func k (labels_of ops) fit.0 in
      let found = one_in ops T at s in
      record { scope = found.scope; is = (found.is, behind_in_items t (is_now found.scope) items (types_after T at ops) func (k + 1) (omega (arith, g.some, g.ends, n))) }
  one_in_items (ops ∷ items) T func k fit (inr s) =
      let at = label_at func k 0 in
      let g = stands_behind t o func (k + 1) items s in
      let n = next_item func k (labels_of ops) fit.0 in
      let found = one_in_items items (types_after T at ops) func (k + 1) fit.1 s in
      record { scope = found.scope; is = (away_in t (is_now found.scope) ops T at (inr (omega (arith, g, n))), found.is) }

  one_in_body : (f : Func) (body : Option Body) → IfSome body (λ (b : Body). All HasFewLabels b.items) → StandsInBody t o f.index body
      → (S : Types) × ScopeInBody t (is_now S) f body
  one_in_body f None fit s = absurd s
  one_in_body f (Some body) fit s =
      let found = one_in_items (view_items body.items) (args_typed f.index f.args) f.index 1 (items_fit body.items fit) s in (found.scope, found.is)

pub one_scope : (f : Func) (t : ℕ) (o : Operation) → IsWellFormed f → StandsAt f t o → OneScope f t
one_scope f t o well s = let found = one_in_body t o f f.body (labels_fit f well).items_fit s in record { scope = found.0; is = found.1 }
