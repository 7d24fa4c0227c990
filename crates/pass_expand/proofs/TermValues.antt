-- The sum of the terms of a polynomial is its value, where its variables are symbols.
use Rattle.std.proofs.Common.{◌≡◌, ℕ, suc, ◌+◌, ◌*◌, ◌/◌, ◌%◌, ◌^◌, inl, inr, List, [], ◌∷◌, ◌++◌, refl, ap, ◌∙◌, sym, arith}
use Rattle.std.proofs.Math.Nat.{pow-suc, pow-zero}
use Rattle.std.proofs.lemmas.Bool.{cases_eq, eq-eqb, ne_eqb}
use Rattle.arith_word.specs.declared.label.Label.{Label}
use Rattle.mlir_ir.specs.Runs.{Binding, look}
use Rattle.pass_expand.specs.Terms.{Term, symbol, terms, place_terms, some_term}
use Rattle.pass_expand.proofs.StepValues.{times, total}
use Rattle.scev_tree.specs.Polynomial.{Polynomial, Polynomials, num, ext, none, more}
use Rattle.scev_tree.specs.Standing.{Stands, StandsIn}
use Rattle.scev_tree.specs.Value.{worth, value, values}

mul_group : (a b c : ℕ) → a * (b * c) ≡ a * b * c
mul_group a b c = grind arith

sum_group : (a b c d : ℕ) → a * (b * c) + d * c ≡ (a * b + d) * c
sum_group a b c d = grind arith

total_append : (env : List Binding) (ts us : List Term) → total env (ts ++ us) ≡ total env ts + total env us
total_append env [] us = omega arith
total_append env (t ∷ ts) us = let e = total_append env ts us in omega arith

pub total_some : (env : List Binding) (ts : List Term) → total env (some_term ts) ≡ total env ts
total_some env [] = refl
total_some env (t ∷ ts) = refl

-- a variable is the number of its symbol
abbrev pub IsNumbered : List Binding → (ℕ → ℕ) → ℕ → Type 0
IsNumbered env numbers x = (x % 2 ≡ 1) × (numbers x ≡ (look env (x / 2)).v)

module _ (env : List Binding) (numbers : ℕ → ℕ) where
  symbol_worth : (x j : ℕ) → x % 2 ≡ 1 → worth numbers x j ≡ numbers x ^ j
  unfolding worth
  symbol_worth x j e = rw (ne_eqb (x % 2) 0 (λ z. omega arith)) refl

  next_worth : (x j : ℕ) → IsNumbered env numbers x → worth numbers x (suc j) ≡ (look env (x / 2)).v * worth numbers x j
  next_worth x j h =
      let a : numbers x ^ j * numbers x ≡ numbers x * numbers x ^ j = grind arith in
      symbol_worth x (suc j) h.0 ∙ pow-suc (numbers x) j ∙ a ∙ (λ i. h.1 i * sym (symbol_worth x j h.0) i)

  first_worth : (x : ℕ) → x % 2 ≡ 1 → worth numbers x 0 ≡ 1
  first_worth x h = symbol_worth x 0 h ∙ pow-zero (numbers x)

  mutual
    unfolding value

    pub total_value : (p : Polynomial) (symbols : List Label) → ((x : ℕ) → Stands x p → IsNumbered env numbers x) → total env (terms p symbols) ≡ value numbers p * times env symbols
    total_value (num v) symbols h = elim (cases_eq v 0) [ inl e ↦ rw (eq-eqb v 0 e, e) (omega arith) | inr ne ↦ rw (ne_eqb v 0 ne) (omega arith) ]
    total_value (ext x ps) symbols h =
        let here = h x (inl refl) in
        let one : 1 * times env symbols ≡ times env symbols = omega arith in
        total_places x ps symbols 0 (times env symbols) here (λ y s. h y (inr s)) (sym one ∙ ap (λ n. n * times env symbols) (sym (first_worth x here.0)))

    total_places : (x : ℕ) (ps : Polynomials) (symbols : List Label) (j n : ℕ) → IsNumbered env numbers x → ((y : ℕ) → StandsIn y ps → IsNumbered env numbers y)
        → times env symbols ≡ worth numbers x j * n → total env (place_terms x ps symbols) ≡ values numbers x ps j * n
    total_places x none symbols j n here h e = omega arith
    total_places x (more p ps) symbols j n here h e =
        let a : total env (terms p symbols) ≡ value numbers p * times env symbols = total_value p symbols (λ y s. h y (inl s)) in
        let next : times env (symbol x ∷ symbols) ≡ worth numbers x (suc j) * n =
        ap (λ z. (look env (x / 2)).v * z) e ∙ mul_group (look env (x / 2)).v (worth numbers x j) n ∙ ap (λ z. z * n) (sym (next_worth x j here)) in
        let b : total env (place_terms x ps (symbol x ∷ symbols)) ≡ values numbers x ps (suc j) * n = total_places x ps (symbol x ∷ symbols) (suc j) n here (λ y s. h y (inr s)) next in
        total_append env (terms p symbols) (place_terms x ps (symbol x ∷ symbols)) ∙ (λ i. (a ∙ ap (λ z. value numbers p * z) e) i + b i)
        ∙ sum_group (value numbers p) (worth numbers x j) n (values numbers x ps (suc j))
