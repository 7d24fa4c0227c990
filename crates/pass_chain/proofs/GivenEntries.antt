-- Expressions as far as they are read from facts.
use Rattle.std.proofs.Common.{◌≡◌, ℕ, suc, ◌+◌, ◌<◌, Bool, true, false, List, [], ◌∷◌, ◌++◌, length, get_or, drop, drop-cons, add-one, append_assoc, append-nil, refl, ap, ◌∙◌, sym, subst, arith, Option, Some, if◌then◌else◌}
use Rattle.mlir_ir.specs.Operations.{inner_labels}
use Rattle.mlir_ir.specs.View.{view_kind, view_ops}
use Rattle.mlir_ir.specs.declared.types.Op.{Op}
use Rattle.fresh_scev.specs.Facts.{Facts}
use Rattle.pass_indvar.specs.Entries.{entries}
use Rattle.pass_indvar.specs.Reductions.{is_product}
use Rattle.scev_tree.specs.Polynomial.{Polynomial}
use Rattle.scev_tree.specs.Tree.{polynomial_of}
use Rattle.scev_tree.specs.declared.expr.Expr.{Expr}
use Rattle.pass_chain.specs.Given.{given_from, given_products}

entries_append : (xs ys : List (Option Expr)) → entries (xs ++ ys) ≡ entries xs ++ entries ys
entries_append [] ys = refl
entries_append (x ∷ xs) ys = rw (entries_append xs ys) refl

module _ (F : Facts) (at : ℕ) where
  pushed : (made new : List (Option Expr)) (e : Expr) → new ≡ made ++ Some e ∷ []
      → polynomial_of e.tree ≡ (F.expr at).p → entries new ≡ entries made ++ Some (F.expr at).p ∷ []
  pushed made new e n is =
      ap entries n ∙ (entries_append made (Some e ∷ []) ∙ ap (λ p. entries made ++ Some p ∷ []) is)

  -- one value more
  pub more_given : (at2 n m : ℕ) (made new : List (Option Expr)) (e : Expr) (all : List (Option Polynomial)) → n ≡ suc m
      → new ≡ made ++ Some e ∷ [] → polynomial_of e.tree ≡ (F.expr at).p → at2 ≡ at + 1
      → entries made ++ given_from F at n ≡ all → entries new ++ given_from F at2 m ≡ all
  more_given at2 n m made new e all s is p a inv =
      let inv2 = rw s at inv in
      rw (pushed made new e is p, a)
      (append_assoc (entries made) (Some (F.expr at).p ∷ []) (given_from F (at + 1) m) ∙ inv2)

  -- what an operation adds: a product its expression, and another operation nothing
  abbrev pub added : Bool → List (Option Polynomial)
  added c = if c then Some (F.expr at).p ∷ [] else []

  pub product_added : (c found : Bool) (made new : List (Option Expr)) (e : Expr) → found ≡ true → found ≡ c
      → new ≡ made ++ Some e ∷ [] → polynomial_of e.tree ≡ (F.expr at).p → entries new ≡ entries made ++ added c
  product_added true found made new e t f n is = pushed made new e n is
  product_added false found made new e t f n is = absurd cc

  pub nothing_added : (c found : Bool) (made new : List (Option Expr)) → found ≡ false → found ≡ c → new ≡ made
      → entries new ≡ entries made ++ added c
  nothing_added false found made new t f n = ap entries n ∙ sym (append-nil (entries made))
  nothing_added true found made new t f n = absurd cc

  added_first : (c : Bool) (rest : List (Option Polynomial))
      → (if c then Some (F.expr at).p ∷ rest else rest) ≡ added c ++ rest
  added_first true rest = refl
  added_first false rest = refl

  -- one operation more
  pub more_products : (at2 i : ℕ) (ops : List Op) (op : Op) (made new : List (Option Expr))
      (all : List (Option Polynomial)) → i < length ops → op ≡ get_or ops i op
      → entries new ≡ entries made ++ added (is_product (view_kind op.kind))
      → at2 ≡ at + inner_labels (view_kind op.kind) + length op.results
      → entries made ++ given_products F at (view_ops (drop i ops)) ≡ all
      → entries new ++ given_products F at2 (view_ops (drop (i + 1) ops)) ≡ all
  more_products at2 i ops op made new all h e n a inv =
      let c = is_product (view_kind op.kind) in
      let rest = view_ops (drop (suc i) ops) in
      let mid = at + (inner_labels (view_kind op.kind) + length op.results) in
      let m : at2 ≡ mid = omega (arith, a) in
      let dc : drop i ops ≡ op ∷ drop (suc i) ops = drop-cons ops i op h ∙ ap (λ (x : Op). x ∷ drop (suc i) ops) (sym e) in
      let inv2 : entries made ++ given_products F at (view_ops (op ∷ drop (suc i) ops)) ≡ all =
      subst (λ (xs : List Op). entries made ++ given_products F at (view_ops xs) ≡ all) dc inv in
      rw (n, m, add-one i) (append_assoc (entries made) (added c) (given_products F mid rest)
      ∙ (ap (λ xs. entries made ++ xs) (sym (added_first c (given_products F mid rest))) ∙ inv2))
