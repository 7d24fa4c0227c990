-- expressions whose variables belong to labels below
use Rattle.std.proofs.Common.{◌≡◌, ℕ, ◌+◌, ◌*◌, ◌%◌, ◌^◌, ◌<◌, ◌≤◌, ◌⊎◌, inl, inr, ap, ◌∙◌, sym, subst, arith}
use Rattle.std.proofs.lemmas.Bool.{cases_eq, cases_lt}
use Rattle.scev_tree.specs.Measure.{monomials, total_degree}
use Rattle.scev_tree.specs.Polynomial.{Polynomial, num, ext, coefficient, Under, IsCanonical, IsSamePolynomial}
use Rattle.scev_tree.specs.Tree.{polynomial_of}
use Rattle.scev_tree.specs.declared.expr.Expr.{Expr}
pub use Rattle.scev_tree.proofs.ListedTrees.{polynomial_of_num, polynomial_of_ext}
use Rattle.scev_tree.proofs.EqualTrees.{polynomial_or}
use Rattle.scev_tree.proofs.Unique.{unique_law}
use Rattle.chrec_algebra.specs.Limits.{IsWithin}
use Rattle.chrec_algebra.proofs.UniqueResults.{number_within, variable_within}
use Rattle.fresh_scev.specs.Expressions.{Expression, expression_of, symbol, counter, number, own, IsCut, IsBefore}

pub under_later : (p : Polynomial) (x y : ℕ) → Under p x → x ≤ y → Under p y
under_later (num v) x y u le = tt
under_later (ext z ps) x y u le = omega arith

pub same_expression : (e f : Expression) → e.w ≡ f.w → e.p ≡ f.p → e ≡ f
same_expression e f d h =
    let first : e ≡ record { w = f.w; p = e.p } = ap (λ (n : ℕ). record { w = n; p = e.p }) d in
    first ∙ ap (λ (q : Polynomial). record { w = f.w; p = q }) h

pub expression_or : (a b : Expression) → (a ≡ b) ⊎ (a ≡ b → ⊥)
expression_or a b = elim (cases_eq a.w b.w) [
  | inl e ↦ (elim (polynomial_or a.p b.p) [
    | inl f ↦ inl (same_expression a b e f)
    | inr nf ↦ inr (λ h. nf (ap (λ (x : Expression). x.p) h))
  ])
  | inr ne ↦ inr (λ h. ne (ap (λ (x : Expression). x.w) h))
]

-- equal polynomials at one width
pub equal_expressions : (a b : Expr) → (a.w ≡ b.w) × IsSamePolynomial (polynomial_of a.tree) (polynomial_of b.tree) → expression_of a ≡ expression_of b
equal_expressions a b s =
    let ca : IsCanonical (2 ^ b.w) (polynomial_of a.tree) = subst (λ n. IsCanonical (2 ^ n) (polynomial_of a.tree)) s.0 a.canonical in
    same_expression (expression_of a) (expression_of b) s.0 ((unique_law (2 ^ b.w) (polynomial_of a.tree) (polynomial_of b.tree) ca b.canonical).0 s.1)

pub equal_polynomials : (a b : Expr) → expression_of a ≡ expression_of b → (a.w ≡ b.w) × IsSamePolynomial (polynomial_of a.tree) (polynomial_of b.tree)
equal_polynomials a b e =
    let d : a.w ≡ b.w = ap (λ (x : Expression). x.w) e in
    let h : polynomial_of a.tree ≡ polynomial_of b.tree = ap (λ (x : Expression). x.p) e in
    (d, λ m top is. ap (λ (q : Polynomial). coefficient q m) h)

pub own_before : (w label : ℕ) (e : Expression) → e ≡ own w label → IsBefore (label + 1) e
own_before w label e h =
    let low : 2 * label + 1 < 2 * (label + 1) = omega arith in
    subst (IsBefore (label + 1)) (sym h) (record { within = variable_within (symbol label); under = low })

pub number_before : (w v label : ℕ) (e : Expression) → e ≡ number w v → IsBefore label e
number_before w v label e h = subst (IsBefore label) (sym h) (record { within = number_within (v % 2 ^ w); under = tt })

pub before_later : (label : ℕ) (e : Expression) → IsBefore label e → IsBefore (label + 1) e
before_later label e b =
    let le : 2 * label ≤ 2 * (label + 1) = omega arith in
    record { within = b.within; under = under_later e.p (counter label) (counter (label + 1)) b.under le }

pub within_or : (p : Polynomial) → IsWithin p ⊎ (IsWithin p → ⊥)
within_or p = elim (cases_lt (monomials p) 65) [
  | inl few ↦ (elim (cases_lt (total_degree p) 9) [
    | inl low ↦ inl (record { few = omega (arith, few); low = omega (arith, low) })
    | inr high ↦ inr (λ i. omega (arith, high, i.low))
  ])
  | inr many ↦ inr (λ i. omega (arith, many, i.few))
]

pub cut_before : (w label : ℕ) (p : Polynomial) (r : Expression) → IsCut w label p r → Under p (counter (label + 1)) → IsBefore (label + 1) r
cut_before w label p r cut u = elim (within_or p) [
  | inl i ↦ record { within = subst IsWithin (sym (cut.kept i)) i; under = subst (λ (q : Polynomial). Under q (counter (label + 1))) (sym (cut.kept i)) u }
  | inr n ↦ own_before w label r (same_expression r (own w label) cut.width (cut.dropped n))
]
