-- Where no loop can begin with a label, each property holds of the scopes there.
use Rattle.std.proofs.Common.{◌≡◌, ℕ, ◌+◌, ◌<◌, ◌≤◌, inl, true, List, [], ◌∷◌, length, arith}
use Rattle.arith_word.specs.Labels.{label_at}
use Rattle.mlir_ir.specs.Operations.{OpKind, Simple, If, For, While, OpList, nil, next, labels_of, inner_labels}
use Rattle.mlir_ir.specs.Rules.{arg_types}
use Rattle.mlir_ir.specs.Typed.{Types, with_types, types_after}
use Rattle.pass_copy.specs.Replaced.{is_loop}
use Rattle.pass_copy.specs.Scopes.{ScopeIn, ScopeInside, ScopeInItems}
use Rattle.pass_copy.proofs.UntouchedParts.{Away, away_part, away_other, loop_labels}

module _ (t : ℕ) (Q : Types → Type 0) where
  mutual
    pub away_in : (ops : OpList) (T : Types) (at : ℕ) → Away t at (labels_of ops) → ScopeIn t Q T at ops
    away_in nil T at a = tt
    away_in (next packs results kind rest) T at a =
        let n = inner_labels kind + length results + labels_of rest in
        let next_at = at + (inner_labels kind + length results) in (
          λ e l. absurd (let some = loop_labels kind l in away_other t at n (omega (arith, some)) a e),
          away_inside kind T at (away_part t at n at (inner_labels kind) (omega arith) (omega arith) a),
          away_in rest (with_types T (at + inner_labels kind) results) next_at (away_part t at n next_at (labels_of rest) (omega arith) (omega arith) a),
        )

    pub away_inside : (kind : OpKind) (T : Types) (at : ℕ) → Away t at (inner_labels kind) → ScopeInside t Q T at kind
    away_inside (Simple does) T at a = tt
    away_inside (If c first firsts has_else other others) T at a =
        let n = labels_of first + labels_of other in (
          away_in first T at (away_part t at n at (labels_of first) (omega arith) (omega arith) a),
          away_in other T (at + labels_of first) (away_part t at n (at + labels_of first) (labels_of other) (omega arith) (omega arith) a),
        )
    away_inside (For lower upper step iv args inits body ends) T at a =
        away_in body (with_types (with_types T (at + 1) (iv.ty ∷ [])) (at + 2) (arg_types args)) (at + 2 + length args)
        (away_part t at (2 + length args + labels_of body) (at + 2 + length args) (labels_of body) (omega arith) (omega arith) a)
    away_inside (While args inits before passed cond after_args after ends) T at a =
        let n = 1 + length args + labels_of before + length after_args + labels_of after in
        let in_before = at + 1 + length args in
        let params = in_before + labels_of before in (
          away_in before (with_types T (at + 1) (arg_types args)) in_before (away_part t at n in_before (labels_of before) (omega arith) (omega arith) a),
          away_in after (with_types T params (arg_types after_args)) (params + length after_args)
              (away_part t at n (params + length after_args) (labels_of after) (omega arith) (omega arith) a),
        )

  -- a loop stands in no other at its label
  pub inside_loop : (kind : OpKind) (T : Types) (at : ℕ) → is_loop kind ≡ true → t ≤ at → ScopeInside t Q T at kind
  inside_loop (Simple does) T at l h = tt
  inside_loop (If c first firsts has_else other others) T at l h = absurd cc
  inside_loop (For lower upper step iv args inits body ends) T at l h =
      away_in body (with_types (with_types T (at + 1) (iv.ty ∷ [])) (at + 2) (arg_types args)) (at + 2 + length args) (inl (omega arith))
  inside_loop (While args inits before passed cond after_args after ends) T at l h =
      let in_before = at + 1 + length args in
      let params = in_before + labels_of before in (
        away_in before (with_types T (at + 1) (arg_types args)) in_before (inl (omega arith)),
        away_in after (with_types T params (arg_types after_args)) (params + length after_args) (inl (omega arith)),
      )

  -- items behind a label
  pub behind_in_items : (items : List OpList) (T : Types) (func k : ℕ) → t < label_at func k 0 → ScopeInItems t Q T func k items
  behind_in_items [] T func k h = tt
  behind_in_items (ops ∷ items) T func k h =
      (away_in ops T (label_at func k 0) (inl h), behind_in_items items (types_after T (label_at func k 0) ops) func (k + 1) (omega arith))
