-- the polynomial of a tree, and how lists of trees change
use Rattle.std.specs.Prelude.{◌≡◌, ℕ, ◌+◌, ◌%◌, List, [], ◌∷◌, Bool, Option, Some, None}
use Rattle.arith_word.specs.declared.label.Label.{Label}
use Rattle.scev_tree.specs.declared.tree.Tree.{Tree, Num, Ext', Row_of-Tree, end_of-Tree, more_of-Tree}
use Rattle.scev_tree.specs.Polynomial.{Polynomial, Polynomials, num, ext, none, more, Power, place, variable_of, EndsNonzero, AreCanonical}

-- the polynomial that a tree stands for
unfoldable mutual
  pub polynomial_of : Tree → Polynomial
  polynomial_of (Num v) = num v
  polynomial_of (Ext' counter var shape row) = ext (variable_of counter var.0) (polynomials_of row)

  pub polynomials_of : {n : _} → Row_of-Tree n → Polynomials
  polynomials_of end_of-Tree = none
  polynomials_of (more_of-Tree t rest) = more (polynomial_of t) (polynomials_of rest)

-- the polynomials of a list of trees
abbrev pub polynomials : List Tree → Polynomials
polynomials [] = none
polynomials (t ∷ ts) = more (polynomial_of t) (polynomials ts)

-- the label of the greatest variable of a polynomial, or none where it is a number
abbrev pub IsMainVariable : Option Label → Polynomial → Type 0
IsMainVariable None p = (v : ℕ) × (p ≡ num v)
IsMainVariable (Some label) p = (counter : Bool) × (places : Polynomials) × (p ≡ ext (variable_of counter label.0) places)

-- no zeros at the end
abbrev pub Tidy : Polynomials → Type 0
Tidy none = Unit {0}
Tidy (more p ps) = EndsNonzero (more p ps)

-- the last place is 0
abbrev pub EndsZero : Polynomials → Type 0
EndsZero none = ⊥
EndsZero (more p none) = p ≡ num 0
EndsZero (more p (more q ps)) = EndsZero (more q ps)

-- the same polynomial in each place, without zeros at the end
pub record IsTrimmed (old new : Polynomials) : Type 0 where
  pub at : (j : ℕ) (m : List Power) → place new j m ≡ place old j m
  pub canon : (M x : ℕ) → AreCanonical M old x → AreCanonical M new x

-- rs are related to ps, place by place
abbrev pub Each : (Polynomial → Polynomial → Type 0) → Polynomials → Polynomials → Type 0
Each R none none = Unit {0}
Each R none (more p ps) = ⊥
Each R (more r rs) none = ⊥
Each R (more r rs) (more p ps) = R r p × Each R rs ps

abbrev mutual
  -- a measure for recursions over trees
  pub weight : Polynomial → ℕ
  weight (num v) = 1
  weight (ext x ps) = 3 + weights ps

  pub weights : Polynomials → ℕ
  weights none = 0
  weights (more p ps) = weight p + 1 + weights ps

-- the number of places
abbrev pub len : Polynomials → ℕ
len none = 0
len (more p ps) = len ps + 1

-- numbers modulo M, as places
abbrev pub residues : ℕ → List ℕ → Polynomials
residues M [] = none
residues M (v ∷ vs) = more (num (v % M)) (residues M vs)
