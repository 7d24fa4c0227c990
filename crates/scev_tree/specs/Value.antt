-- the value of a polynomial where its symbols are numbers and its counters are at a turn
use Rattle.std.specs.Prelude.{ℕ, zero, suc, ◌+◌, ◌*◌, ◌/◌, ◌%◌, ◌^◌, if◌then◌else◌, ◌==◌}
use Rattle.scev_tree.specs.Polynomial.{Polynomial, Polynomials, num, ext, none, more}
use Rattle.arith_word.specs.Binomial.{binomial}

-- what the place j of a variable is multiplied by: C(n,j) for a counter at the turn n, v ^ j for a
-- symbol that is v
unfoldable pub worth : (ℕ → ℕ) → ℕ → ℕ → ℕ
worth env x j = if x % 2 == 0 then binomial (env x) j else env x ^ j

unfoldable mutual
  -- the value over the natural numbers, where `env` has the number of each variable; modulo M it is
  -- the value of the expression
  pub value : (ℕ → ℕ) → Polynomial → ℕ
  value env (num v) = v
  value env (ext x ps) = values env x ps 0

  pub values : (ℕ → ℕ) → ℕ → Polynomials → ℕ → ℕ
  values env x none j = 0
  values env x (more p ps) j = value env p * worth env x j + values env x ps (suc j)

-- the numbers of the variables, from those of the symbols and the turns of the counters by label
abbrev pub numbers : (ℕ → ℕ) → (ℕ → ℕ) → ℕ → ℕ
numbers symbols turns x = if x % 2 == 0 then turns (x / 2) else symbols (x / 2)

-- the same numbers, but for n at x
abbrev pub with_value : (ℕ → ℕ) → ℕ → ℕ → ℕ → ℕ
with_value env x n y = if y == x then n else env y
