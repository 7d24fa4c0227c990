-- What holds of the scope and the label at each operation, in regions too.
use Rattle.std.proofs.Common.{◌≡◌, ℕ, ◌+◌, ◌<◌, ◌≤◌, inl, inr, true, List, [], ◌∷◌, length, ap, subst, arith, Option, Some, None}
use Rattle.std.specs.Option.{option_or}
use Rattle.arith_word.specs.Labels.{label_at}
use Rattle.mlir_ir.specs.Operations.{OpKind, Simple, If, For, While, OpList, nil, next, labels_of, inner_labels}
use Rattle.mlir_ir.specs.Rules.{arg_types}
use Rattle.mlir_ir.specs.Sized.{SizedItems}
use Rattle.mlir_ir.specs.Typed.{Types, typed_from, with_types, types_after, TypedOp, TypedOps, TypedRegions, TypedItems}
use Rattle.mlir_ir.specs.declared.types.IrType.{IrType}
use Rattle.fresh_scev.proofs.FittingLabels.{item_ends}
use Rattle.fresh_scev.proofs.StandingFacts.{types_length}
use Rattle.pass_copy.specs.Replaced.{Operation, is_loop, StandsIn, StandsInside, StandsInItems}
use Rattle.pass_chain.proofs.Stands.{loop_some, stands_within, inside_within, items_within}

-- ---- scopes that know more

abbrev pub Extends : Types → Types → Type 0
Extends T U = (l : ℕ) (ty : IrType) → T l ≡ Some ty → U l ≡ Some ty

pub with_extends : (T : Types) (at : ℕ) (tys : List IrType) → Extends T (with_types T at tys)
with_extends T at tys l ty e = ap (λ o. option_or o (typed_from at tys l)) e

pub after_extends : (ops : OpList) (T : Types) (at : ℕ) → Extends T (types_after T at ops)
after_extends nil T at l ty e = e
after_extends (next packs results kind rest) T at l ty e =
    after_extends rest (with_types T (at + inner_labels kind) results) (at + (inner_labels kind + length results)) l ty
    (with_extends T (at + inner_labels kind) results l ty e)

-- no results, no other scope
with_none : (T : Types) (at : ℕ) (tys : List IrType) → length tys ≡ 0 → Extends (with_types T at tys) T
with_none T at [] none l ty e = known (T l) e
  where
    known : (o : Option IrType) → option_or o None ≡ Some ty → o ≡ Some ty
    known (Some u) e = e
    known None e = absurd cc
with_none T at (u ∷ tys) none l ty e = absurd (omega (arith, none))

after_none : (ops : OpList) (T : Types) (at : ℕ) → labels_of ops ≡ 0 → Extends (types_after T at ops) T
after_none nil T at none l ty e = e
after_none (next packs results kind rest) T at none l ty e =
    with_none T (at + inner_labels kind) results (omega (arith, none)) l ty
    (after_none rest (with_types T (at + inner_labels kind) results) (at + (inner_labels kind + length results))
    (omega (arith, none)) l ty e)

-- ---- positions

module _ (P : Types → ℕ → Type 0) where
  abbrev mutual
    pub AtEach : Types → ℕ → OpList → Type 0
    AtEach T at nil = Unit {0}
    AtEach T at (next packs results kind rest) =
        P T at × AtEachInside T at kind
        × AtEach (with_types T (at + inner_labels kind) results) (at + (inner_labels kind + length results)) rest

    pub AtEachInside : Types → ℕ → OpKind → Type 0
    AtEachInside T at (Simple does) = Unit {0}
    AtEachInside T at (If c first firsts has_else other others) =
        AtEach T at first × AtEach T (at + labels_of first) other
    AtEachInside T at (For lower upper step iv args inits body ends) =
        AtEach (with_types (with_types T (at + 1) (iv.ty ∷ [])) (at + 2) (arg_types args)) (at + 2 + length args) body
    AtEachInside T at (While args inits before passed cond after_args after ends) =
        AtEach (with_types T (at + 1) (arg_types args)) (at + 1 + length args) before
        × AtEach (with_types T (at + 1 + length args + labels_of before) (arg_types after_args))
        (at + 1 + length args + labels_of before + length after_args) after

  abbrev pub AtEachItem : Types → ℕ → ℕ → List OpList → Type 0
  AtEachItem T func k [] = Unit {0}
  AtEachItem T func k (ops ∷ items) =
      AtEach T (label_at func k 0) ops × AtEachItem (types_after T (label_at func k 0) ops) func (k + 1) items

-- ---- what the scope at a loop knows, the scope at each operation with the loop's label knows too

module _ (t : ℕ) (o : Operation) (K : Types → Type 0) (more : (T U : Types) → Extends T U → K T → K U)
    (own : (T : Types) → TypedOp T o.packs o.results o.kind → K T) where
  abbrev pub AtLabel : Types → ℕ → Type 0
  AtLabel T at = at ≡ t → K T

  mutual
    above : (ops : OpList) (T : Types) (at : ℕ) → t < at → AtEach AtLabel T at ops
    above nil T at lt = tt
    above (next packs results kind rest) T at lt = (
      λ e. absurd (omega (arith, lt, e)),
      above_in kind T at lt,
      above rest (with_types T (at + inner_labels kind) results) (at + (inner_labels kind + length results)) (omega arith),
    )

    above_in : (kind : OpKind) (T : Types) (at : ℕ) → t < at → AtEachInside AtLabel T at kind
    above_in (Simple does) T at lt = tt
    above_in (If c first firsts has_else other others) T at lt =
        (above first T at lt, above other T (at + labels_of first) (omega arith))
    above_in (For lower upper step iv args inits body ends) T at lt =
        above body (with_types (with_types T (at + 1) (iv.ty ∷ [])) (at + 2) (arg_types args)) (at + 2 + length args)
        (omega arith)
    above_in (While args inits before passed cond after_args after ends) T at lt = (
      above before (with_types T (at + 1) (arg_types args)) (at + 1 + length args) (omega arith),
      above after (with_types T (at + 1 + length args + labels_of before) (arg_types after_args))
          (at + 1 + length args + labels_of before + length after_args) (omega arith),
    )

  -- inside the loop
  above_loop : (kind : OpKind) (T : Types) (at : ℕ) → is_loop kind ≡ true → t < at + 1 → AtEachInside AtLabel T at kind
  above_loop (Simple does) T at e lt = tt
  above_loop (If c first firsts has_else other others) T at e lt = absurd cc
  above_loop (For lower upper step iv args inits body ends) T at e lt =
      above body (with_types (with_types T (at + 1) (iv.ty ∷ [])) (at + 2) (arg_types args)) (at + 2 + length args)
      (omega arith)
  above_loop (While args inits before passed cond after_args after ends) T at e lt = (
    above before (with_types T (at + 1) (arg_types args)) (at + 1 + length args) (omega arith),
    above after (with_types T (at + 1 + length args + labels_of before) (arg_types after_args))
        (at + 1 + length args + labels_of before + length after_args) (omega arith),
  )

  -- behind operations without results the scope is that in front of them
  less_results : (T : Types) (at : ℕ) (results : List IrType) → length results ≡ 0 → K (with_types T at results) → K T
  less_results T at results none k = more (with_types T at results) T (with_none T at results none) k

  less_after : (ops : OpList) (T : Types) (at : ℕ) → labels_of ops ≡ 0 → K (types_after T at ops) → K T
  less_after ops T at none k = more (types_after T at ops) T (after_none ops T at none) k

  mutual
    below : (ops : OpList) (T : Types) (at : ℕ) → at + labels_of ops ≤ t
        → (at + labels_of ops ≡ t → K (types_after T at ops)) → AtEach AtLabel T at ops
    below nil T at le k = tt
    below (next packs results kind rest) T at le k =
        let mid = at + (inner_labels kind + length results) in
        let U = with_types T (at + inner_labels kind) results in
        let last : mid ≡ t → K U = λ e. less_after rest U mid (omega (arith, le, e)) (k (omega (arith, le, e))) in (
          λ e. less_results T (at + inner_labels kind) results (omega (arith, le, e)) (last (omega (arith, le, e))),
          below_in kind T at results (omega (arith, le)) last,
          below rest U mid (omega (arith, le)) (λ e. k (omega (arith, e))),
        )

    below_in : (kind : OpKind) (T : Types) (at : ℕ) (results : List IrType) → at + (inner_labels kind + length results) ≤ t
        → (at + (inner_labels kind + length results) ≡ t → K (with_types T (at + inner_labels kind) results))
        → AtEachInside AtLabel T at kind
    below_in (Simple does) T at results le k = tt
    below_in (If c first firsts has_else other others) T at results le k =
        let first_at = at + labels_of first in
        let here : length results ≡ 0 → first_at + labels_of other ≡ t → K T = λ none e.
        less_results T (at + inner_labels (If c first firsts has_else other others)) results none
        (k (omega (arith, none, e))) in (
          below first T at (omega (arith, le))
              (λ e. more T (types_after T at first) (after_extends first T at)
              (here (omega (arith, le, e)) (omega (arith, le, e)))),
          below other T first_at (omega (arith, le))
              (λ e. more T (types_after T first_at other) (after_extends other T first_at)
              (here (omega (arith, le, e)) e)),
        )
    below_in (For lower upper step iv args inits body ends) T at results le k =
        let in_body = at + 2 + length args in
        let V = with_types T (at + 1) (iv.ty ∷ []) in
        let U = with_types V (at + 2) (arg_types args) in
        below body U in_body (omega (arith, le))
        (λ e. more T (types_after U in_body body)
        (λ l ty h. after_extends body U in_body l ty
        (with_extends V (at + 2) (arg_types args) l ty (with_extends T (at + 1) (iv.ty ∷ []) l ty h)))
        (less_results T (at + inner_labels (For lower upper step iv args inits body ends)) results
        (omega (arith, le, e)) (k (omega (arith, le, e)))))
    below_in (While args inits before passed cond after_args after ends) T at results le k =
        let in_before = at + 1 + length args in
        let params = in_before + labels_of before in
        let in_after = params + length after_args in
        let U = with_types T (at + 1) (arg_types args) in
        let V = with_types T params (arg_types after_args) in
        let here : length results ≡ 0 → in_after + labels_of after ≡ t → K T = λ none e.
        less_results T (at + inner_labels (While args inits before passed cond after_args after ends)) results none
        (k (omega (arith, none, e))) in (
          below before U in_before (omega (arith, le))
              (λ e. more T (types_after U in_before before)
              (λ l ty h. after_extends before U in_before l ty (with_extends T (at + 1) (arg_types args) l ty h))
              (here (omega (arith, le, e)) (omega (arith, le, e)))),
          below after V in_after (omega (arith, le))
              (λ e. more T (types_after V in_after after)
              (λ l ty h. after_extends after V in_after l ty (with_extends T params (arg_types after_args) l ty h))
              (here (omega (arith, le, e)) (omega (arith, le, e)))),
        )

  -- operations that begin with the loop's label, and in which it stands
  mutual
    begins_known : (ops : OpList) (T : Types) (at : ℕ) → TypedOps T at ops → StandsIn t o at ops → at ≡ t → K T
    begins_known nil T at typed h e = absurd h
    begins_known (next packs results kind rest) T at typed (inl h) e =
        own T (subst (λ (q : Operation). TypedOp T q.packs q.results q.kind) h.2 typed.0)
    begins_known (next packs results kind rest) T at typed (inr (inl h)) e = begins_known_in kind T at results typed.1 h e
    begins_known (next packs results kind rest) T at typed (inr (inr h)) e =
        let mid = at + (inner_labels kind + length results) in
        let U = with_types T (at + inner_labels kind) results in
        let g = stands_within t o mid rest h in
        less_results T (at + inner_labels kind) results (omega (arith, g.0, e))
        (begins_known rest U mid typed.2 h (omega (arith, g.0, e)))

    begins_known_in : (kind : OpKind) (T : Types) (at : ℕ) (results : List IrType) → TypedRegions T at results kind
        → StandsInside t o at kind → at ≡ t → K T
    begins_known_in (Simple does) T at results typed h e = absurd h
    begins_known_in (If c first firsts has_else other others) T at results typed (inl h) e =
        begins_known first T at typed.0 h e
    begins_known_in (If c first firsts has_else other others) T at results typed (inr h) e =
        let g = stands_within t o (at + labels_of first) other h in
        begins_known other T (at + labels_of first) typed.2 h (omega (arith, g.0, e))
    begins_known_in (For lower upper step iv args inits body ends) T at results typed h e =
        let g = stands_within t o (at + 2 + length args) body h in
        absurd (omega (arith, g.0, e))
    begins_known_in (While args inits before passed cond after_args after ends) T at results typed (inl h) e =
        let g = stands_within t o (at + 1 + length args) before h in
        absurd (omega (arith, g.0, e))
    begins_known_in (While args inits before passed cond after_args after ends) T at results typed (inr h) e =
        let g = stands_within t o (at + 1 + length args + labels_of before + length after_args) after h in
        absurd (omega (arith, g.0, e))

  mutual
    around : (ops : OpList) (T : Types) (at : ℕ) → TypedOps T at ops → StandsIn t o at ops → AtEach AtLabel T at ops
    around nil T at typed h = absurd h
    around (next packs results kind rest) T at typed (inl h) =
        let mid = at + (inner_labels kind + length results) in
        let U = with_types T (at + inner_labels kind) results in
        let some = loop_some kind h.1 in (
          begins_known (next packs results kind rest) T at typed (inl h),
          above_loop kind T at h.1 (omega (arith, h.0)),
          above rest U mid (omega (arith, h.0, some)),
        )
    around (next packs results kind rest) T at typed (inr (inl h)) =
        let mid = at + (inner_labels kind + length results) in
        let U = with_types T (at + inner_labels kind) results in
        let g = inside_within t o at kind h in (
          begins_known (next packs results kind rest) T at typed (inr (inl h)),
          around_in kind T at results typed.1 h,
          above rest U mid (omega (arith, g.1)),
        )
    around (next packs results kind rest) T at typed (inr (inr h)) =
        let mid = at + (inner_labels kind + length results) in
        let U = with_types T (at + inner_labels kind) results in
        let g = stands_within t o mid rest h in (
          begins_known (next packs results kind rest) T at typed (inr (inr h)),
          below_in kind T at results (omega (arith, g.0)) (λ e. begins_known rest U mid typed.2 h e),
          around rest U mid typed.2 h,
        )

    around_in : (kind : OpKind) (T : Types) (at : ℕ) (results : List IrType) → TypedRegions T at results kind
        → StandsInside t o at kind → AtEachInside AtLabel T at kind
    around_in (Simple does) T at results typed h = absurd h
    around_in (If c first firsts has_else other others) T at results typed (inl h) =
        let g = stands_within t o at first h in
        (around first T at typed.0 h, above other T (at + labels_of first) (omega (arith, g.1)))
    around_in (If c first firsts has_else other others) T at results typed (inr h) =
        let first_at = at + labels_of first in
        let g = stands_within t o first_at other h in (
          below first T at g.0
              (λ e. more T (types_after T at first) (after_extends first T at)
              (begins_known other T first_at typed.2 h e)),
          around other T first_at typed.2 h,
        )
    around_in (For lower upper step iv args inits body ends) T at results typed h =
        around body (with_types (with_types T (at + 1) (iv.ty ∷ [])) (at + 2) (arg_types args)) (at + 2 + length args)
        typed.0 h
    around_in (While args inits before passed cond after_args after ends) T at results typed (inl h) =
        let in_before = at + 1 + length args in
        let params = in_before + labels_of before in
        let in_after = params + length after_args in
        let g = stands_within t o in_before before h in (
          around before (with_types T (at + 1) (arg_types args)) in_before typed.0 h,
          above after (with_types T params (arg_types after_args)) in_after (omega (arith, g.1)),
        )
    around_in (While args inits before passed cond after_args after ends) T at results typed (inr h) =
        let in_before = at + 1 + length args in
        let params = in_before + labels_of before in
        let in_after = params + length after_args in
        let U = with_types T (at + 1) (arg_types args) in
        let V = with_types T params (arg_types after_args) in
        let g = stands_within t o in_after after h in (
          below before U in_before (omega (arith, g.0))
              (λ e. more T (types_after U in_before before)
              (λ l ty k. after_extends before U in_before l ty (with_extends T (at + 1) (arg_types args) l ty k))
              (less_results T params (arg_types after_args) (omega (arith, g.0, e, types_length after_args))
              (begins_known after V in_after typed.3 h (omega (arith, g.0, e))))),
          around after V in_after typed.3 h,
        )

  above_items : (items : List OpList) (T : Types) (func k : ℕ) → t < label_at func k 0 → AtEachItem AtLabel T func k items
  above_items [] T func k lt = tt
  above_items (ops ∷ items) T func k lt = (
    above ops T (label_at func k 0) lt,
    above_items items (types_after T (label_at func k 0) ops) func (k + 1) (omega (arith, lt)),
  )

  -- where the loop stands in the items of a function
  pub around_items : (items : List OpList) (T : Types) (func k : ℕ) → SizedItems items → TypedItems T func k items
      → StandsInItems t o func k items → AtEachItem AtLabel T func k items
  around_items [] T func k sized typed h = absurd h
  around_items (ops ∷ items) T func k sized typed (inl h) =
      let g = stands_within t o (label_at func k 0) ops h in
      let e = item_ends func k ops sized.0.labels in (
        around ops T (label_at func k 0) typed.0 h,
        above_items items (types_after T (label_at func k 0) ops) func (k + 1) (omega (arith, g.1, e)),
      )
  around_items (ops ∷ items) T func k sized typed (inr h) =
      let g = items_within t o func (k + 1) items sized.1 h in
      let e = item_ends func k ops sized.0.labels in (
        below ops T (label_at func k 0) (omega (arith, g, e)) (λ q. absurd (omega (arith, g, e, q))),
        around_items items (types_after T (label_at func k 0) ops) func (k + 1) sized.1 typed.1 h,
      )
