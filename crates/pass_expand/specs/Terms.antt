-- The terms of a polynomial in symbols: for each monomial its coefficient and its symbols.
use Rattle.std.specs.Prelude.{ℕ, ◌/◌, ◌==◌, List, [], ◌∷◌, ◌++◌, if◌then◌else◌}
use Rattle.arith_word.specs.declared.label.Label.{Label}
use Rattle.pass_copy.specs.Built.{label}
use Rattle.scev_tree.specs.Polynomial.{Polynomial, Polynomials, num, ext, none, more}

-- a coefficient, and each symbol as often as its exponent says
pub record Term : Type 0 where
  pub coefficient : ℕ
  pub symbols : List Label

abbrev pub term : ℕ → List Label → Term
term v symbols = record { coefficient = v; symbols = symbols }

-- the value that a variable stands for where it is a symbol
abbrev pub symbol : ℕ → Label
symbol x = label (x / 2)

abbrev mutual
  -- the terms of a polynomial times these symbols; variables inside are smaller, so labels rise
  pub terms : Polynomial → List Label → List Term
  terms (num v) symbols = if v == 0 then [] else term v symbols ∷ []
  terms (ext x ps) symbols = place_terms x ps symbols

  -- each place has the variable once more than the one before it
  pub place_terms : ℕ → Polynomials → List Label → List Term
  place_terms x none symbols = []
  place_terms x (more p ps) symbols = terms p symbols ++ place_terms x ps (symbol x ∷ symbols)

-- the number 0 has one term too
abbrev pub some_term : List Term → List Term
some_term [] = term 0 [] ∷ []
some_term (t ∷ ts) = t ∷ ts

abbrev pub terms_of : Polynomial → List Term
terms_of p = some_term (terms p [])
