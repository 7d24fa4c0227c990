-- a value depends on the numbers of the polynomial's variables alone
use Rattle.std.proofs.Common.{◌≡◌, ℕ, suc, ◌%◌, ◌<◌, refl, arith}
use Rattle.std.proofs.lemmas.Bool.{eq-eqb, ne_eqb}
use Rattle.arith_word.specs.Binomial.{binomial}
use Rattle.scev_tree.specs.Polynomial.{Polynomial, Polynomials, num, ext, none, more, Under, IsCanonical, AreCanonical}
use Rattle.scev_tree.specs.Value.{worth, value, values, with_value}

pub worth_other : (env : ℕ → ℕ) (x n y j : ℕ) → (y ≡ x → ⊥) → worth (with_value env x n) y j ≡ worth env y j
unfolding worth
worth_other env x n y j ne = rw (ne_eqb y x ne) refl

mutual
  unfolding value

  pub value_under : (env : ℕ → ℕ) (x n M : ℕ) (p : Polynomial) → Under p x → IsCanonical M p → value (with_value env x n) p ≡ value env p
  value_under env x n M (num v) u c = refl
  value_under env x n M (ext y none) u c = refl
  value_under env x n M (ext y (more p ps)) u c = values_under env x n M y (more p ps) 0 u (c.0, c.1, c.2)

  pub values_under : (env : ℕ → ℕ) (x n M y : ℕ) (ps : Polynomials) (j : ℕ) → y < x → AreCanonical M ps y → values (with_value env x n) y ps j ≡ values env y ps j
  values_under env x n M y none j lt c = refl
  values_under env x n M y (more p ps) j lt c =
      let a = value_under env x n M p (later p y x c.0 lt) c.1 in
      let b = values_under env x n M y ps (suc j) lt c.2 in
      let w = worth_other env x n y j (λ e. omega arith) in
      rw (a, w, b) refl

  later : (p : Polynomial) (y x : ℕ) → Under p y → y < x → Under p x
  later (num v) y x u lt = tt
  later (ext z ps) y x u lt = omega arith

pub worth_here : (env : ℕ → ℕ) (x n j : ℕ) → x % 2 ≡ 0 → worth (with_value env x n) x j ≡ binomial n j
unfolding worth
worth_here env x n j e = rw (eq-eqb (x % 2) 0 e, eq-eqb x x refl) refl
