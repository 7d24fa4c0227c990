-- Values of polynomials at points of a run.
use Rattle.std.proofs.Common.{◌≡◌, ℕ, zero, suc, ◌+◌, ◌*◌, ◌%◌, ◌/◌, ◌<◌, ◌≤◌, inl, inr, List, ◌∷◌, refl, ap, ◌∙◌, sym, arith}
use Rattle.std.proofs.lemmas.Bool.{eq-eqb, ne_eqb, cases_eq}
use Rattle.scev_tree.specs.Polynomial.{Polynomial, num, ext, Under, IsCanonical, variable}
use Rattle.scev_tree.specs.Value.{value, with_value}
use Rattle.chrec_algebra.specs.Limits.{IsWithin}
use Rattle.scev_tree.proofs.Agreeing.{value_same}
use Rattle.phi_solve.specs.Step.{IsChain}
use Rattle.phi_solve.proofs.Chains.{chain_begins, chain_grows}
use Rattle.mlir_ir.specs.Runs.{Number, Binding, Iteration, look}
use Rattle.fresh_scev.specs.Expressions.{symbol, counter}
use Rattle.scev_soundness.specs.Holding.{symbol_in, iteration_in, point}
use Rattle.scev_soundness.specs.Agreement.{Keeps}
use Rattle.scev_soundness.specs.Arguments.{turn_of}

abbrev pub bind : ℕ → Number → Binding
bind label n = record { label = label; number = n }

-- ---- points

-- the loops around with labels below are in the same iterations
abbrev pub KeepsTurns : List Iteration → List Iteration → ℕ → Type 0
KeepsTurns around later at = (label : ℕ) → label < at → iteration_in later label ≡ iteration_in around label

pub look_here : (x : ℕ) (n : Number) (env : List Binding) → look (bind x n ∷ env) x ≡ n
look_here x n env = rw (eq-eqb x x refl) refl

pub look_other : (x : ℕ) (n : Number) (y : ℕ) (env : List Binding) → (x ≡ y → ⊥)
    → look (bind x n ∷ env) y ≡ look env y
look_other x n y env ne = rw (ne_eqb x y ne) refl

pub keeps_push : (env : List Binding) (x : ℕ) (n : Number) (a : ℕ) → a ≤ x → Keeps env (bind x n ∷ env) a
keeps_push env x n a le y lt = look_other x n y env (λ e. omega arith)

pub keeps_both : (a b c : List Binding) (at : ℕ) → Keeps a b at → Keeps b c at → Keeps a c at
keeps_both a b c at k l y lt = l y lt ∙ k y lt

turn_here : (x k : ℕ) (around : List Iteration) → iteration_in (turn_of x k ∷ around) x ≡ k
turn_here x k around = rw (eq-eqb x x refl) refl

turn_other : (x k y : ℕ) (around : List Iteration) → (x ≡ y → ⊥)
    → iteration_in (turn_of x k ∷ around) y ≡ iteration_in around y
turn_other x k y around ne = rw (ne_eqb x y ne) refl

pub keeps_turn : (around : List Iteration) (x k a : ℕ) → a ≤ x → KeepsTurns around (turn_of x k ∷ around) a
keeps_turn around x k a le y lt = turn_other x k y around (λ e. omega arith)

pub at_symbol : (env : List Binding) (around : List Iteration) (x : ℕ) → point env around (symbol x) ≡ symbol_in env x
at_symbol env around x =
    let a : (2 * x + 1) / 2 ≡ x = omega arith in
    rw (ne_eqb ((2 * x + 1) % 2) 0 (λ e. omega arith), a) refl

point_even : (env : List Binding) (around : List Iteration) (z : ℕ) → z % 2 ≡ 0
    → point env around z ≡ iteration_in around (z / 2)
point_even env around z e = rw (eq-eqb (z % 2) 0 e) refl

point_odd : (env : List Binding) (around : List Iteration) (z : ℕ) → (z % 2 ≡ 0 → ⊥)
    → point env around z ≡ symbol_in env (z / 2)
point_odd env around z e = rw (ne_eqb (z % 2) 0 e) refl

point_same : (env later : List Binding) (around after : List Iteration) (a c top z : ℕ) → Keeps env later a
    → KeepsTurns around after c
    → top ≤ 2 * a + 1 → top ≤ 2 * c → z < top → point later after z ≡ point env around z
point_same env later around after a c top z ke kc la lc lt = elim (cases_eq (z % 2) 0) [
  | inl e ↦ point_even later after z e ∙ (kc (z / 2) (omega arith) ∙ sym (point_even env around z e))
  | inr ne ↦ point_odd later after z ne
      ∙ (ap (λ (n : Number). n.v) (ke (z / 2) (omega arith)) ∙ sym (point_odd env around z ne))
]

-- the value of what has only variables below top
pub value_keeps : (env later : List Binding) (around after : List Iteration) (a c top M : ℕ) (p : Polynomial)
    → Under p top
    → IsCanonical M p → top ≤ 2 * a + 1 → top ≤ 2 * c → Keeps env later a → KeepsTurns around after c
    → value (point later after) p ≡ value (point env around) p
value_keeps env later around after a c top M p u cp la lc ke kc =
    value_same (point later after) (point env around) M p top u cp
    (λ z lt. point_same env later around after a c top z ke kc la lc lt)

-- ---- the counter of a loop

turn_point : (env : List Binding) (around : List Iteration) (x k z : ℕ)
    → point env (turn_of x k ∷ around) z ≡ with_value (point env around) (counter x) k z
turn_point env around x k z = elim (cases_eq z (2 * x)) [
  | inl e ↦ (let h : z / 2 ≡ x = omega arith in
      point_even env (turn_of x k ∷ around) z (omega arith)
      ∙ (ap (λ y. iteration_in (turn_of x k ∷ around) y) h
      ∙ (turn_here x k around ∙ sym (rw (eq-eqb z (2 * x) e) refl))))
  | inr ne ↦ (let r : with_value (point env around) (counter x) k z ≡ point env around z = rw
      (ne_eqb z (2 * x) ne) refl in
      elim (cases_eq (z % 2) 0) [
        | inl e ↦ point_even env (turn_of x k ∷ around) z e
            ∙ (turn_other x k (z / 2) around (λ q. ne (omega arith)) ∙ (sym (point_even env around z e) ∙ sym r))
        | inr o ↦ point_odd env (turn_of x k ∷ around) z o ∙ (sym (point_odd env around z o) ∙ sym r)
      ])
]

height : Polynomial → ℕ
height (num v) = 0
height (ext x ps) = suc x

under_height : (p : Polynomial) → Under p (height p)
unfolding height
under_height (num v) = tt
under_height (ext x ps) = omega arith

pub turn_value : (env : List Binding) (around : List Iteration) (x k M : ℕ) (p : Polynomial) → IsCanonical M p
    → value (point env (turn_of x k ∷ around)) p ≡ value (with_value (point env around) (counter x) k) p
turn_value env around x k M p c =
    value_same (point env (turn_of x k ∷ around)) (with_value (point env around) (counter x) k) M p (height p)
    (under_height p) c
    (λ z lt. turn_point env around x k z)

-- counters are even variables
pub even : (x : ℕ) → (2 * x) % 2 ≡ 0
even x = omega arith

-- ---- chains at the iterations of their loop

module _ (env : List Binding) (around : List Iteration) (M x : ℕ) (r init p : Polynomial) (ci : IsCanonical M init)
    (ui : Under init (counter x)) (cp : IsCanonical M p) (up : Under p (counter x + 1))
    (ch : IsChain M (counter x) r init p) where
  pub chain_first : value (point env (turn_of x 0 ∷ around)) r ≡ value (point env around) init
  chain_first = turn_value env around x 0 M r ch.canon
      ∙ chain_begins (point env around) M (counter x) r init p (even x) ci ui cp up ch

  pub chain_next : (k : ℕ) → value (point env (turn_of x (k + 1) ∷ around)) r
      ≡ value (point env (turn_of x k ∷ around)) r + value (point env (turn_of x k ∷ around)) p
  chain_next k =
      let a = turn_value env around x (k + 1) M r ch.canon in
      let b = turn_value env around x k M r ch.canon in
      let c = turn_value env around x k M p cp in
      let g = chain_grows (point env around) M (counter x) k r init p (even x) ci ui cp up ch in
      omega arith

  -- with a step that doesn't know the counter
  pub line_is : Under p (counter x) → (k : ℕ) → value (point env (turn_of x k ∷ around)) r
      ≡ value (point env around) init + value (point env around) p * k
  line_is u zero = chain_first ∙ omega arith
  line_is u (suc k) =
      let e : suc k ≡ k + 1 = omega arith in
      let a = line_is u k in
      let b = chain_next k in
      let d : value (point env (turn_of x k ∷ around)) p ≡ value (point env around) p =
      value_keeps env env around (turn_of x k ∷ around) x x (counter x) M p u cp (omega arith) (omega arith)
      (λ y lt. refl)
      (keeps_turn around x k x (omega arith)) in
      let f : value (point env (turn_of x (suc k) ∷ around)) r ≡ value (point env (turn_of x (k + 1) ∷ around)) r =
      ap (λ n. value (point env (turn_of x n ∷ around)) r) e in
      f ∙ (b ∙ omega arith)

-- ---- a symbol, and a number

pub own_canonical : (M x : ℕ) → 1 < M → IsCanonical M (variable (symbol x))
own_canonical M x some = (tt, omega arith, (tt, some, tt), omega arith)

pub own_within : (x : ℕ) → IsWithin (variable (symbol x))
own_within x = record { few = omega arith; low = omega arith }

pub num_within : (v : ℕ) → IsWithin (num v)
num_within zero = record { few = omega arith; low = omega arith }
num_within (suc v) = let e = ne_eqb (suc v) 0 (λ e. omega arith) in
    record { few = rw e (omega arith); low = omega arith }
