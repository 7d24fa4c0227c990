-- polynomials in one variable whose places are numbers
use Rattle.std.specs.Prelude.{◌≡◌, ℕ, ◌<◌, ◌≤◌, List, [], ◌∷◌}
use Rattle.scev_tree.specs.Polynomial.{Polynomial, Polynomials, num, ext, none, more, Power, place, AreCanonical}

abbrev pub IsNumber : Polynomial → Type 0
IsNumber (num v) = Unit {0}
IsNumber (ext x ps) = ⊥

abbrev pub AreNumbers : Polynomials → Type 0
AreNumbers none = Unit {0}
AreNumbers (more p ps) = IsNumber p × AreNumbers ps

-- numbers as places
abbrev pub numbers : List ℕ → Polynomials
numbers [] = none
numbers (v ∷ vs) = more (num v) (numbers vs)

-- us are the first n of the places ts, and zeros
pub record IsNumbersOf (n : ℕ) (us ts : Polynomials) : Type 0 where
  pub canon : (M x : ℕ) → 0 < M → AreCanonical M ts x → AreCanonical M us x
  pub first : (k : ℕ) (m : List Power) → k < n → place us k m ≡ place ts k m
  pub rest : (k : ℕ) (m : List Power) → n ≤ k → place us k m ≡ 0
