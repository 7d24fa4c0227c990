-- the value depends on the numbers of the variables alone
use Rattle.std.proofs.Common.{◌≡◌, ℕ, zero, suc, ◌*◌, ◌%◌, ◌/◌, ◌^◌, ◌<◌, inl, inr, List, [], ◌∷◌, refl, ap, ◌∙◌, arith, Bool, true, false}
use Rattle.std.proofs.lemmas.Bool.{eq-eqb, ne_eqb, cases_eq}
use Rattle.std.proofs.Math.Nat.{pow-zero, pow-succ'}
use Rattle.arith_word.specs.declared.label.Label.{Label}
use Rattle.scev_tree.specs.declared.tree.Tree.{Tree, Num, Ext}
use Rattle.scev_tree.specs.Polynomial.{Polynomial, Polynomials, num, ext, none, more, Under, IsCanonical, AreCanonical, variable, variable_of}
use Rattle.scev_tree.specs.Standing.{Stands, StandsIn, HasTree}
use Rattle.scev_tree.specs.Tree.{polynomials}
use Rattle.arith_word.specs.Binomial.{binomial}
use Rattle.scev_tree.specs.Value.{worth, value, values}
use Rattle.scev_tree.proofs.ListedTrees.{polynomial_of_ext, polynomial_of_num}

worth_same : (s t : ℕ → ℕ) (x j : ℕ) → s x ≡ t x → worth s x j ≡ worth t x j
unfolding worth
worth_same s t x j e = rw e refl

mutual
  unfolding value

  pub value_agrees : (s t : ℕ → ℕ) (p : Polynomial) → ((x : ℕ) → Stands x p → s x ≡ t x) → value s p ≡ value t p
  value_agrees s t (num v) h = refl
  value_agrees s t (ext y ps) h = values_agree s t y ps 0 (h y (inl refl)) (λ x i. h x (inr i))

  pub values_agree : (s t : ℕ → ℕ) (y : ℕ) (ps : Polynomials) (j : ℕ) → s y ≡ t y → ((x : ℕ) → StandsIn x ps → s x ≡ t x) → values s y ps j ≡ values t y ps j
  values_agree s t y none j e h = refl
  values_agree s t y (more p ps) j e h =
      let a = value_agrees s t p (λ x i. h x (inl i)) in
      let b = values_agree s t y ps (suc j) e (λ x i. h x (inr i)) in
      let w = worth_same s t y j e in
      rw (a, w, b) refl

mutual
  pub stands_below : (M top x : ℕ) (p : Polynomial) → IsCanonical M p → Under p top → Stands x p → x < top
  stands_below M top x (num v) c u h = absurd h
  stands_below M top x (ext y none) c u h = absurd c
  stands_below M top x (ext y (more p ps)) c u h = elim h [
    | inl e ↦ omega (arith, e, u)
    | inr i ↦ (let l = stands_in_below M y x (more p ps) (c.0, c.1, c.2) i in omega (arith, l, u))
  ]

  stands_in_below : (M y x : ℕ) (ps : Polynomials) → AreCanonical M ps y → StandsIn x ps → x < y
  stands_in_below M y x none c h = absurd h
  stands_in_below M y x (more p ps) c h = elim h [ inl i ↦ stands_below M y x p c.1 c.0 i | inr i ↦ stands_in_below M y x ps c.2 i ]

pub value_same : (s t : ℕ → ℕ) (M : ℕ) (p : Polynomial) (top : ℕ) → Under p top → IsCanonical M p → ((x : ℕ) → x < top → s x ≡ t x) → value s p ≡ value t p
value_same s t M p top u c h = value_agrees s t p (λ x i. h x (stands_below M top x p c u i))

-- ---- numbers and variables

pub value_number : (s : ℕ → ℕ) (v : ℕ) → value s (num v) ≡ v
unfolding value
value_number s v = refl

binomial_zero : (n : ℕ) → binomial n 0 ≡ 1
unfolding binomial
binomial_zero zero = refl
binomial_zero (suc n) = refl

pub binomial_one : (n : ℕ) → binomial n 1 ≡ n
unfolding binomial
binomial_one zero = refl
binomial_one (suc n) = let e = binomial_one n in let z = binomial_zero n in omega arith

power_one : (n : ℕ) → n ^ 1 ≡ n
power_one n = pow-succ' n 0 ∙ rw (pow-zero n) (omega arith)

pub worth_zero : (s : ℕ → ℕ) (x : ℕ) → worth s x 0 ≡ 1
unfolding worth
worth_zero s x = elim (cases_eq (x % 2) 0) [
  | inl e ↦ rw (eq-eqb (x % 2) 0 e) (binomial_zero (s x))
  | inr ne ↦ rw (ne_eqb (x % 2) 0 ne) (pow-zero (s x))
]

pub worth_one : (s : ℕ → ℕ) (x : ℕ) → worth s x 1 ≡ s x
unfolding worth
worth_one s x = elim (cases_eq (x % 2) 0) [
  | inl e ↦ rw (eq-eqb (x % 2) 0 e) (binomial_one (s x))
  | inr ne ↦ rw (ne_eqb (x % 2) 0 ne) (power_one (s x))
]

pub value_variable : (s : ℕ → ℕ) (x : ℕ) → value s (variable x) ≡ s x
unfolding value
value_variable s x = let e = worth_one s x in let p : 1 * worth s x 1 ≡ 1 * s x = ap (λ n. 1 * n) e in let z : 0 * worth s x 0 ≡ 0 = omega arith in omega arith

-- ---- trees

kind : (x : ℕ) → (c : Bool) × (l : ℕ) × (variable_of c l ≡ x)
kind x = elim (cases_eq (x % 2) 0) [ inl e ↦ (true, x / 2, omega arith) | inr ne ↦ (false, x / 2, omega arith) ]

mutual
  pub tree_for : (p : Polynomial) → HasTree p
  tree_for (num v) = (Num v, polynomial_of_num v)
  tree_for (ext x ps) =
      let k = kind x in
      let r = trees_for ps in
      let label : Label = record { 0 = k.1 } in
      (Ext k.0 label r.0, polynomial_of_ext k.0 label r.0 ∙ (ap (λ y. ext y (polynomials r.0)) k.2 ∙ ap (ext x) r.1))

  trees_for : (ps : Polynomials) → (ts : List Tree) × (polynomials ts ≡ ps)
  trees_for none = ([], refl)
  trees_for (more p ps) =
      let t = tree_for p in
      let r = trees_for ps in
      (t.0 ∷ r.0, ap (λ q. more q (polynomials r.0)) t.1 ∙ ap (λ qs. more p qs) r.1)
