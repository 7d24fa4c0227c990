-- the laws of steps and chains
use Rattle.std.proofs.Common.{◌≡◌, ℕ, zero, suc, ◌+◌, ◌-◌, ◌*◌, ◌%◌, ◌/◌, ◌<◌, inl, inr, List, [], ◌∷◌, ap, ◌∙◌, sym, subst, arith}
use Rattle.std.proofs.lemmas.Bool.{cases_order}
use Rattle.std.proofs.Math.Nat.{mod-lt, mod-eq_of_lt, mod-add-mod, mod-add-div, add-mul-mod_self_left}
use Rattle.scev_tree.specs.Polynomial.{Polynomial, num, ext, Power, power, coefficient, IsMonomial, Under, IsCanonical, variable}
use Rattle.scev_tree.specs.Value.{value, with_value}
use Rattle.scev_tree.proofs.Agreeing.{worth_zero, worth_one}
use Rattle.scev_tree.proofs.TreePlaces.{fits}
use Rattle.scev_tree.proofs.Unique.{unique_law, above}
use Rattle.scev_tree.proofs.ValueSupport.{value_under}
use Rattle.phi_solve.specs.Step.{IsStep, IsChain}
use Rattle.phi_solve.proofs.Chains.{chain_begins, chain_grows}
use Rattle.phi_solve.proofs.StepTrees.{step_tree, plus}

-- ---- the yielded value is the argument plus p

plus_value : (s : ℕ → ℕ) (x : ℕ) (p : Polynomial) → value s (plus x p) ≡ s x + value s p
unfolding value
plus_value s x p = rw (worth_zero s x, worth_one s x) (omega arith)

pub step_value : (s : ℕ → ℕ) (M arg x : ℕ) (y p : Polynomial) → 1 < M → x < arg → IsCanonical M y → IsStep M arg x y p → value s y ≡ s arg + value s p
step_value s M arg x y p some lt cy st = ap (λ q. value s q) (step_tree M arg x y p some lt cy st) ∙ plus_value s arg p

-- ---- a step that doesn't know the counter

later : (p : Polynomial) (x : ℕ) → Under p x → Under p (x + 1)
later (num v) x u = tt
later (ext y ps) x u = omega arith

module _ (env : ℕ → ℕ) (M x : ℕ) (r init p : Polynomial) (even : x % 2 ≡ 0) (ci : IsCanonical M init) (ui : Under init x) (cp : IsCanonical M p) (up : Under p x) (ch : IsChain M x r init p) where
  pub fixed_chain : (n : ℕ) → value (with_value env x n) r ≡ value env init + value env p * n
  fixed_chain zero = chain_begins env M x r init p even ci ui cp (later p x up) ch ∙ omega arith
  fixed_chain (suc n) =
      let e : suc n ≡ n + 1 = omega arith in
      let a = fixed_chain n in
      let b = chain_grows env M x n r init p even ci ui cp (later p x up) ch in
      let d = value_under env x n M p up cp in
      ap (λ k. value (with_value env x k) r) e ∙ (b ∙ omega arith)

-- ---- one step, one chain

same_is : (M : ℕ) (p q : Polynomial) → IsCanonical M p → IsCanonical M q → ((m : List Power) (top : ℕ) → IsMonomial m top → coefficient p m ≡ coefficient q m) → p ≡ q
same_is M p q cp cq h = (unique_law M p q cp cq).0 h

-- (v + a) and (v + b) modulo M
cancel : (M v a b : ℕ) → 0 < M → a < M → b < M → (v + a) % M ≡ (v + b) % M → a ≡ b
cancel M v a b some la lb e =
    let f = removed M v a some la in
    let g = removed M v b some lb in
    sym f ∙ (ap (λ z. (z + (M - v % M)) % M) e ∙ g)
  where
    removed : (M v a : ℕ) → 0 < M → a < M → ((v + a) % M + (M - v % M)) % M ≡ a
    removed M v a some la =
        let d : v % M + M * (v / M) ≡ v = mod-add-div v M in
        let l : v % M < M = mod-lt v some in
        let t : M * (v / M + 1) ≡ M * (v / M) + M = omega arith in
        let k : v + a + (M - v % M) ≡ a + M * (v / M + 1) = omega arith in
        mod-add-mod (v + a) M (M - v % M) ∙ (ap (λ z. z % M) k ∙ (add-mul-mod_self_left a M (v / M + 1) ∙ mod-eq_of_lt la))

pub step_one : (M arg x : ℕ) (y p q : Polynomial) → 0 < M → IsStep M arg x y p → IsStep M arg x y q → p ≡ q
step_one M arg x y p q some s t = same_is M p q s.canon t.canon (λ m top is.
    cancel M (coefficient (variable arg) m) (coefficient p m) (coefficient q m) some (fits M p m some s.canon) (fits M q m some t.canon) (sym (s.at m top is) ∙ t.at m top is))

module _ (M x : ℕ) (r q init p : Polynomial) (s : IsChain M x r init p) (t : IsChain M x q init p) where
  in_x : (j : ℕ) (m : List Power) → 0 < j → IsMonomial m x → coefficient r (power x j ∷ m) ≡ coefficient q (power x j ∷ m)
  in_x zero m l is = absurd (omega arith)
  in_x (suc k) m l is = s.later k m is ∙ sym (t.later k m is)

  chain_same : (m : List Power) (top : ℕ) → IsMonomial m top → coefficient r m ≡ coefficient q m
  chain_same [] top is = s.first [] tt ∙ sym (t.first [] tt)
  chain_same (w ∷ m) top is = elim (cases_order w.var x) [
    | inl e ↦ (let P : ℕ → Type 0 = λ z. coefficient r (power z w.exp ∷ m) ≡ coefficient q (power z w.exp ∷ m) in
        subst P (sym e) (in_x w.exp m is.1 (subst (IsMonomial m) e is.2)))
    | inr o ↦ (elim o [
      | inl lt ↦ s.first (w ∷ m) (lt, is.1, is.2) ∙ sym (t.first (w ∷ m) (lt, is.1, is.2))
      | inr gt ↦ above M r (suc x) w m s.canon s.under (omega arith) ∙ sym (above M q (suc x) w m t.canon t.under (omega arith))
    ])
  ]

  pub chain_one : r ≡ q
  chain_one = same_is M r q s.canon t.canon chain_same
