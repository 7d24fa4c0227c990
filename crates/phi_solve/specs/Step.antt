-- the recurrence of a loop argument
use Rattle.std.specs.Prelude.{◌≡◌, ℕ, suc, ◌+◌, ◌%◌, ◌^◌, List, ◌∷◌}
use Rattle.phi_solve.specs.declared.solve.Solved.{Solved}
use Rattle.phi_solve.specs.declared.solve.Solved.TheVariants.{As, Not}
use Rattle.scev_tree.specs.Polynomial.{Polynomial, Power, power, coefficient, IsMonomial, Under, IsCanonical, with_power, variable}
use Rattle.scev_tree.specs.Tree.{polynomial_of}

-- yielded is arg + p modulo M, and all variables of p are at most x
pub record IsStep (M arg x : ℕ) (yielded p : Polynomial) : Type 0 where
  pub canon : IsCanonical M p
  pub under : Under p (suc x)
  pub at : (m : List Power) (top : ℕ) → IsMonomial m top → coefficient yielded m ≡ (coefficient (variable arg) m + coefficient p m) % M

-- r is init plus the sum of p over the turns of the counter x: C(x,k) sums to C(x,k+1), so each
-- coefficient of C(x,k) in p is that of C(x,k+1) in r
pub record IsChain (M x : ℕ) (r init p : Polynomial) : Type 0 where
  pub canon : IsCanonical M r
  pub under : Under r (suc x)
  pub first : (m : List Power) → IsMonomial m x → coefficient r m ≡ coefficient init m
  pub later : (k : ℕ) (m : List Power) → IsMonomial m x → coefficient r (power x (suc k) ∷ m) ≡ coefficient p (with_power x k m)

-- a chain exactly where the yielded value is the argument plus a step, at the width w
abbrev pub IsSolved : ℕ → ℕ → ℕ → Polynomial → Polynomial → Solved → Type 0
IsSolved w arg x yielded init (As r) = (r.w ≡ w) × (p : Polynomial) × IsStep (2 ^ w) arg x yielded p × IsChain (2 ^ w) x (polynomial_of r.tree) init p
IsSolved w arg x yielded init Not = (p : Polynomial) → IsStep (2 ^ w) arg x yielded p → ⊥
