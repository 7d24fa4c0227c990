-- Trees of equal polynomials are equal, and equality of polynomials is decided.
use Rattle.std.proofs.Common.{◌≡◌, ℕ, ◌+◌, ◌*◌, ◌^◌, ◌⊎◌, inl, inr, Bool, true, false, ◌∷◌, refl, ap, ◌∙◌, sym, subst, arith}
use Rattle.std.proofs.lemmas.Bool.{cases_eq, cases_lt}
use Rattle.arith_word.specs.declared.label.Label.{Label}
use Rattle.scev_tree.specs.declared.expr.Expr.{Expr}
use Rattle.scev_tree.specs.declared.tree.Tree.{Tree, Num, Ext, Ext', Row_of-Tree, end_of-Tree, more_of-Tree, out-Tree, roll-Tree, roll-out-Tree, items-the_row-Tree, items_shown-the_row-Tree-0}
use Rattle.scev_tree.specs.Polynomial.{Polynomial, Polynomials, num, ext, none, more, Under, IsCanonical, canonical_prop, variable_of}
use Rattle.scev_tree.specs.Tree.{polynomial_of, polynomials_of}

-- ---- polynomials

head_same : (x y : ℕ) (ps qs : Polynomials) → ext x ps ≡ ext y qs → (x ≡ y) × (ps ≡ qs)
head_same x y ps qs e = (cc, cc)

num_same : (u v : ℕ) → num u ≡ num v → u ≡ v
num_same u v e = cc

more_same : (p q : Polynomial) (ps qs : Polynomials) → more p ps ≡ more q qs → (p ≡ q) × (ps ≡ qs)
more_same p q ps qs e = (cc, cc)

ext_of : (x y : ℕ) (ps qs : Polynomials) → x ≡ y → ps ≡ qs → ext x ps ≡ ext y qs
ext_of x y ps qs e f = cc

more_of : (p q : Polynomial) (ps qs : Polynomials) → p ≡ q → ps ≡ qs → more p ps ≡ more q qs
more_of p q ps qs e f = cc

mutual
  pub polynomial_or : (p q : Polynomial) → (p ≡ q) ⊎ (p ≡ q → ⊥)
  polynomial_or (num u) (num v) = elim (cases_eq u v) [ inl e ↦ inl (ap num e) | inr ne ↦ inr (λ h. ne (num_same u v h)) ]
  polynomial_or (num u) (ext y qs) = inr (λ h. cc)
  polynomial_or (ext x ps) (num v) = inr (λ h. cc)
  polynomial_or (ext x ps) (ext y qs) = elim (cases_eq x y) [
    | inl e ↦ (elim (polynomials_or ps qs) [
      | inl f ↦ inl (ext_of x y ps qs e f)
      | inr nf ↦ inr (λ h. nf (head_same x y ps qs h).1)
    ])
    | inr ne ↦ inr (λ h. ne (head_same x y ps qs h).0)
  ]

  polynomials_or : (ps qs : Polynomials) → (ps ≡ qs) ⊎ (ps ≡ qs → ⊥)
  polynomials_or none none = inl refl
  polynomials_or none (more q qs) = inr (λ h. cc)
  polynomials_or (more p ps) none = inr (λ h. cc)
  polynomials_or (more p ps) (more q qs) = elim (polynomial_or p q) [
    | inl e ↦ (elim (polynomials_or ps qs) [
      | inl f ↦ inl (more_of p q ps qs e f)
      | inr nf ↦ inr (λ h. nf (more_same p q ps qs h).1)
    ])
    | inr ne ↦ inr (λ h. ne (more_same p q ps qs h).0)
  ]

pub under_or : (p : Polynomial) (top : ℕ) → Under p top ⊎ (Under p top → ⊥)
under_or (num v) top = inl tt
under_or (ext x ps) top = elim (cases_lt x top) [ inl lt ↦ inl lt | inr ge ↦ inr (λ lt. absurd (omega (arith, ge, lt))) ]

-- ---- trees

same_variable : (c d : Bool) (x y : Label) → variable_of c x.0 ≡ variable_of d y.0 → (c ≡ d) × (x ≡ y)
same_variable true true x y e = (refl, ap (λ n. record { 0 = n }) (same_half x.0 y.0 e))
  where
    same_half : (m n : ℕ) → 2 * m ≡ 2 * n → m ≡ n
    same_half m n e = omega (arith, e)
same_variable true false x y e = absurd (omega (arith, e))
same_variable false true x y e = absurd (omega (arith, e))
same_variable false false x y e = (refl, ap (λ n. record { 0 = n }) (same_half x.0 y.0 e))
  where
    same_half : (m n : ℕ) → 2 * m + 1 ≡ 2 * n + 1 → m ≡ n
    same_half m n e = omega (arith, e)

-- a tree by the list of its places
as_list : (c : Bool) (x : Label) (shape : _) (r : _) → Ext' c x shape r ≡ Ext c x (items-the_row-Tree _ r)
unfolding out-Tree roll-Tree denote.Hole.Carrier.roll denote.Hole.Carrier.out
as_list c x shape r = sym (roll-out-Tree (Ext' c x shape r)) ∙ ap (λ ts. Ext c x ts) (items_shown-the_row-Tree-0 shape r)

mutual
  unfolding polynomial_of polynomials_of

  pub tree_one : (t u : Tree) → polynomial_of t ≡ polynomial_of u → t ≡ u
  tree_one (Num u) (Num v) e = ap Num (num_same u v e)
  tree_one (Num u) (Ext' d y shape s) e = absurd (cc)
  tree_one (Ext' c x shape r) (Num v) e = absurd (cc)
  tree_one (Ext' c x shape r) (Ext' d y shape2 s) e =
      let h = head_same (variable_of c x.0) (variable_of d y.0) (polynomials_of r) (polynomials_of s) e in
      let v = same_variable c d x y h.0 in
      let ts = items-the_row-Tree _ r in
      as_list c x shape r ∙ ap (λ c. Ext c x ts) v.0 ∙ ap (λ x. Ext d x ts) v.1 ∙ ap (λ ts. Ext d y ts) (row_one _ r _ s h.1) ∙ sym (as_list d y shape2 s)

  row_one : (m : _) (r : Row_of-Tree m) (n : _) (s : Row_of-Tree n) → polynomials_of r ≡ polynomials_of s → items-the_row-Tree m r ≡ items-the_row-Tree n s
  row_one m end_of-Tree n end_of-Tree e = refl
  row_one m end_of-Tree n (more_of-Tree u s) e = absurd (cc)
  row_one m (more_of-Tree t r) n end_of-Tree e = absurd (cc)
  row_one m (more_of-Tree t r) n (more_of-Tree u s) e =
      let h = more_same (polynomial_of t) (polynomial_of u) (polynomials_of r) (polynomials_of s) e in
      ap (λ x. x ∷ items-the_row-Tree _ r) (tree_one t u h.0) ∙ ap (λ ts. u ∷ ts) (row_one _ r _ s h.1)

abbrev made : (w : ℕ) (t : Tree) → IsCanonical (2 ^ w) (polynomial_of t) → Expr
made w t c = record { w = w; tree = t; canonical = c }

same_proof : (w : ℕ) (t : Tree) (c d : IsCanonical (2 ^ w) (polynomial_of t)) → made w t c ≡ made w t d
same_proof w t c d = λ i. record { w = w; tree = t; canonical = canonical_prop (2 ^ w) (polynomial_of t) c d i }

same_tree : (w : ℕ) (t u : Tree) (c : IsCanonical (2 ^ w) (polynomial_of t)) (d : IsCanonical (2 ^ w) (polynomial_of u)) → t ≡ u → made w t c ≡ made w u d
same_tree w t u c d e = subst (λ z. (d : IsCanonical (2 ^ w) (polynomial_of z)) → made w t c ≡ made w z d) e (λ d. same_proof w t c d) d

same_expr : (v w : ℕ) (t u : Tree) (c : IsCanonical (2 ^ v) (polynomial_of t)) (d : IsCanonical (2 ^ w) (polynomial_of u)) → v ≡ w → t ≡ u → made v t c ≡ made w u d
same_expr v w t u c d e f = subst (λ z. (d : IsCanonical (2 ^ z) (polynomial_of u)) → made v t c ≡ made z u d) e (λ d. same_tree v t u c d f) d

-- expressions of the program with one width and one polynomial
pub expr_one : (a b : Expr) → a.w ≡ b.w → polynomial_of a.tree ≡ polynomial_of b.tree → a ≡ b
expr_one a b e h = same_expr a.w b.w a.tree b.tree a.canonical b.canonical e (tree_one a.tree b.tree h)
