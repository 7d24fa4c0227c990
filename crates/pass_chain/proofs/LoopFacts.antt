-- What the facts of a function say of the loop that stands at a label.
use Rattle.std.proofs.Common.{ℕ, ◌+◌, inl, inr, List, [], ◌∷◌, ◌++◌, length, subst, Option, Some, None}
use Rattle.arith_word.specs.Labels.{label_at}
use Rattle.arith_word.specs.declared.label.Label.{Label}
use Rattle.mlir_ir.specs.Operations.{OpKind, Simple, If, For, While, OpList, nil, next, labels_of, inner_labels}
use Rattle.mlir_ir.specs.View.{view_items}
use Rattle.mlir_ir.specs.declared.types.Body.{Body}
use Rattle.mlir_ir.specs.declared.types.Func.{Func}
use Rattle.mlir_ir.specs.declared.types.IrType.{IrType}
use Rattle.fresh_scev.specs.Facts.{Facts, IsOps, IsKind, IsItems, IsFacts, items_in, round_limit}
use Rattle.fresh_scev.specs.Insides.{for_loop, while_loop, IsForInside, IsWhileInside}
use Rattle.scev_soundness.proofs.Rounds.{last_inside}
use Rattle.pass_copy.specs.Replaced.{Operation, StandsIn, StandsInside, StandsInItems, StandsInBody, StandsAt}

module _ (t : ℕ) (o : Operation) (F : Facts) where
  -- the clause of the loop
  abbrev pub HasClause : Type 0
  HasClause = (conditions : List Label) × IsKind conditions o.kind o.results t F

  mutual
    clause_in : (ops : OpList) (conditions : List Label) (at : ℕ) → IsOps conditions ops at F → StandsIn t o at ops
        → HasClause
    clause_in nil conditions at is h = absurd h
    clause_in (next packs results kind rest) conditions at is (inl h) = (
      conditions,
      subst (λ l. IsKind conditions o.kind o.results l F) h.0
          (subst (λ (q : Operation). IsKind conditions q.kind q.results at F) h.2 is.0),
    )
    clause_in (next packs results kind rest) conditions at is (inr (inl h)) =
        clause_inside kind conditions at results is.0 h
    clause_in (next packs results kind rest) conditions at is (inr (inr h)) =
        clause_in rest conditions (at + (inner_labels kind + length results)) is.1 h

    clause_inside : (kind : OpKind) (conditions : List Label) (at : ℕ) (results : List IrType)
        → IsKind conditions kind results at F → StandsInside t o at kind → HasClause
    clause_inside (Simple does) conditions at results is h = absurd h
    clause_inside (If c first firsts has_else other others) conditions at results is (inl h) =
        clause_in first (conditions ++ c ∷ []) at is.0 h
    clause_inside (If c first firsts has_else other others) conditions at results is (inr h) =
        clause_in other conditions (at + labels_of first) is.1 h
    clause_inside (For lower upper step iv args inits body ends) conditions at results is h =
        let in_body = at + 2 + length args in
        let inside = last_inside (for_loop at args inits ends) (IsForInside conditions at lower step iv in_body body)
        round_limit F is.0 in
        clause_in body conditions in_body inside.2 h
    clause_inside (While args inits before passed cond after_args after ends) conditions at results is (inl h) =
        let in_before = at + 1 + length args in
        let inside = last_inside (while_loop at args inits ends)
        (IsWhileInside conditions in_before before passed after_args after) round_limit F is.0 in
        clause_in before conditions in_before inside.0 h
    clause_inside (While args inits before passed cond after_args after ends) conditions at results is (inr h) =
        let in_before = at + 1 + length args in
        let inside = last_inside (while_loop at args inits ends)
        (IsWhileInside conditions in_before before passed after_args after) round_limit F is.0 in
        clause_in after conditions (in_before + labels_of before + length after_args) inside.2 h

  clause_items : (items : List OpList) (func k : ℕ) → IsItems func k items F → StandsInItems t o func k items → HasClause
  clause_items [] func k is h = absurd h
  clause_items (ops ∷ items) func k is (inl h) = clause_in ops [] (label_at func k 0) is.0 h
  clause_items (ops ∷ items) func k is (inr h) = clause_items items func (k + 1) is.1 h

  clause_body : (func : ℕ) (body : Option Body) → IsItems func 1 (items_in body) F → StandsInBody t o func body → HasClause
  clause_body func None is h = absurd h
  clause_body func (Some body) is h = clause_items (view_items body.items) func 1 is h

  -- the facts of a function have a clause for each of its loops
  pub has_clause : (f : Func) → IsFacts f F → StandsAt f t o → HasClause
  has_clause f is h = clause_body f.index f.body is.items h
