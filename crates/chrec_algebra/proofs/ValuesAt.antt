-- the value where a counter is replaced by a number
use Rattle.std.proofs.Common.{◌≡◌, ℕ, zero, suc, ◌+◌, ◌*◌, ◌%◌, ◌<◌, ◌≤◌, inl, inr, List, [], ◌∷◌, refl, ap, ◌∙◌, sym, subst, arith}
use Rattle.std.proofs.lemmas.Bool.{cases_lt, cases_eq, lt-ltb, le-ltb}
use Rattle.std.proofs.Math.Nat.{mod-mod}
use Rattle.arith_word.specs.Binomial.{binomial}
use Rattle.scev_tree.specs.Polynomial.{Polynomial, Polynomials, num, ext, none, more, Power, power, coefficient, IsMonomial, IsCanonical}
use Rattle.chrec_algebra.specs.Product.{Narrow, NarrowAll, sum_to}
use Rattle.scev_tree.specs.Polynomial.{with_power}
use Rattle.chrec_algebra.specs.Place.{insert, Has, IsAt}
use Rattle.scev_tree.specs.Value.{worth, value, with_value}
use Rattle.scev_tree.proofs.Unique.{raised}
use Rattle.chrec_algebra.proofs.Products.{mul_same, add_same, sum_mod, sum_same, sum_zero, sum_bound}
use Rattle.chrec_algebra.proofs.PolynomialValues.{ev, ev_mod, ev_sum, ev_times, ev_zero, worth_zero, sum_front, value_is, height, under_height, width, wide_width, HasHigh, Wide, WideAll, low_coeff}
use Rattle.scev_tree.proofs.ValueSupport.{worth_other, worth_here}
use Rattle.chrec_algebra.proofs.Replacements.{insert_low, insert_high, var_at_least}

module _ (env : ℕ → ℕ) (M x n e : ℕ) (even : x % 2 ≡ 0) where
  low_env : (top : ℕ) (f : List Power → ℕ) → top ≤ x → ev (with_value env x n) (suc e) top f ≡ ev env (suc e) top f
  unfolding ev
  low_env zero f le = refl
  low_env (suc y) f le = sum_same (suc e) _ _ (λ j lj. rw (low_env y (λ m. f (with_power y j m)) (omega arith), worth_other env x n y j (λ q. omega arith)) refl)

  abbrev Combines : ℕ → (List Power → ℕ) → (List Power → ℕ) → Type 0
  Combines top f g = (m : List Power) → IsMonomial m top → (Has x m → ⊥) → g m % M ≡ sum_to (suc e) (λ k. binomial n k * f (insert x k m)) % M

  abbrev Gone : ℕ → (List Power → ℕ) → Type 0
  Gone top g = (m : List Power) → IsMonomial m top → Has x m → g m % M ≡ 0 % M

  not_has : (m : List Power) → IsMonomial m x → Has x m → ⊥
  not_has m is h = let l = var_at_least x x m is h in omega arith

  here : (f g : List Power → ℕ) → Combines (suc x) f g → Gone (suc x) g → ev (with_value env x n) (suc e) (suc x) f % M ≡ ev env (suc e) (suc x) g % M
  unfolding ev
  here f g c z =
      ap (λ s. s % M) (sum_same (suc e) _ (λ k. binomial n k * ev env (suc e) x (λ m. f (with_power x k m))) (λ j lj. rw (low_env x (λ m. f (with_power x j m)) (omega arith), worth_here env x n j even) (omega arith)))
      ∙ (sym (ap (λ s. s % M) (ev_sum env (suc e) x (suc e) (λ k m. binomial n k * f (with_power x k m)) ∙ sum_same (suc e) _ _ (λ k lk. ev_times env (suc e) x (binomial n k) (λ m. f (with_power x k m)))))
      ∙ (sym (ev_mod env (suc e) M x g (λ m. sum_to (suc e) (λ k. binomial n k * f (with_power x k m))) (λ m is. c m (raised M m x (suc x) is (omega arith)) (not_has m is) ∙ ap (λ s. s % M) (sum_same (suc e) _ _ (λ k lk. ap (λ m. binomial n k * f m) (insert_low x k m is)))))
      ∙ sym front))
    where
      later : (j : ℕ) → (ev env (suc e) x (λ m. g (with_power x (suc j) m)) * worth env x (suc j)) % M ≡ 0 % M
      later j = mul_same M _ (worth env x (suc j)) 0 (worth env x (suc j)) (ev_mod env (suc e) M x (λ m. g (with_power x (suc j) m)) (λ m. 0) (λ m is. z (power x (suc j) ∷ m) (omega arith, omega arith, is) (inl refl)) ∙ ap (λ s. s % M) (ev_zero env (suc e) x (λ m. 0) (λ m is. refl))) refl ∙ ap (λ s. s % M) (omega arith)

      rest : sum_to e (λ j. ev env (suc e) x (λ m. g (with_power x (suc j) m)) * worth env x (suc j)) % M ≡ 0 % M
      rest = sum_mod M e _ (λ j. 0) (λ j lj. later j) ∙ ap (λ s. s % M) (sum_zero e (λ j. 0) (λ j lj. refl))

      front : sum_to (suc e) (λ j. ev env (suc e) x (λ m. g (with_power x j m)) * worth env x j) % M ≡ ev env (suc e) x g % M
      front = ap (λ s. s % M) (sum_front e (λ j. ev env (suc e) x (λ m. g (with_power x j m)) * worth env x j))
          ∙ (add_same M (ev env (suc e) x g * worth env x 0) (sum_to e (λ j. ev env (suc e) x (λ m. g (with_power x (suc j) m)) * worth env x (suc j))) (ev env (suc e) x g * worth env x 0) 0 refl rest
          ∙ ap (λ s. s % M) (let w = ap (λ t. ev env (suc e) x g * t) (worth_zero env x) in omega arith))

  pub replaced : (top : ℕ) (f g : List Power → ℕ) → x < top → Combines top f g → Gone top g → ev (with_value env x n) (suc e) top f % M ≡ ev env (suc e) top g % M
  unfolding ev
  replaced zero f g lt c z = absurd (omega arith)
  replaced (suc y) f g lt c z =
      elim (cases_eq y x) [
        | inl eq ↦ (let P : ℕ → Type 0 = λ t. Combines (suc t) f g → Gone (suc t) g → ev (with_value env x n) (suc e) (suc t) f % M ≡ ev env (suc e) (suc t) g % M in subst P (sym eq) (here f g) c z)
        | inr ne ↦ sum_mod M (suc e) _ _ (λ j lj. rw (worth_other env x n y j ne) (mul_same M _ (worth env y j) _ (worth env y j) (replaced y (λ m. f (with_power y j m)) (λ m. g (with_power y j m)) (omega arith) (step j (omega arith)) (gone_step j)) refl))
      ]
    where
      step : (j : ℕ) → x < y → Combines y (λ m. f (with_power y j m)) (λ m. g (with_power y j m))
      step zero xy m is lacks = c m (raised M m y (suc y) is (omega arith)) lacks
      step (suc j) xy m is lacks = c (power y (suc j) ∷ m) (omega arith, omega arith, is) (λ h. elim h [ inl q ↦ omega arith | inr w ↦ lacks w ])
          ∙ ap (λ s. s % M) (sum_same (suc e) _ _ (λ k lk. ap (λ m. binomial n k * f m) (insert_high x k (power y (suc j)) m xy)))

      gone_step : (j : ℕ) → Gone y (λ m. g (with_power y j m))
      gone_step zero m is h = z m (raised M m y (suc y) is (omega arith)) h
      gone_step (suc j) m is h = z (power y (suc j) ∷ m) (omega arith, omega arith, is) (inr h)

high_insert : (x k : ℕ) (m : List Power) → 9 ≤ k → HasHigh 9 (insert x k m)
unfolding insert
high_insert x zero m h = absurd (omega arith)
high_insert x (suc k) [] h = inl h
high_insert x (suc k) (q ∷ m) h = elim (cases_lt x q.var) [
  | inl lt ↦ rw (lt-ltb x q.var lt) (inr (high_insert x (suc k) m h))
  | inr ge ↦ rw (le-ltb x q.var ge) (inl h)
]

mutual
  wide_narrow : (p : Polynomial) → Narrow p → Wide 9 p
  wide_narrow (num v) w = tt
  wide_narrow (ext x ps) w = (w.0, wide_narrows ps w.1)

  wide_narrows : (ps : Polynomials) → NarrowAll ps → WideAll 9 ps
  wide_narrows none w = tt
  wide_narrows (more p ps) w = (wide_narrow p w.0, wide_narrows ps w.1)

-- the value where the counter is replaced is the value where the counter is that number
pub value_at : (env : ℕ → ℕ) (M x n : ℕ) (r a : Polynomial) → x % 2 ≡ 0 → IsCanonical M a → Narrow a → IsAt M x n r a → value env r % M ≡ value (with_value env x n) a % M
value_at env M x n r a even ca na s =
    let t = height r + height a + suc x in
    let e = width r + width a + 9 in
    let some : 0 < suc e = omega arith in
    let vr = value_is env M (suc e) some t r s.canon (under_height r t (omega arith)) (wide_width r (suc e) (omega arith)) in
    let va = value_is (with_value env x n) M (suc e) some t a ca (under_height a t (omega arith)) (wide_width a (suc e) (omega arith)) in
    let gone = λ (k : ℕ) (m : List Power) (le : 9 ≤ k). ap (λ z. binomial n k * z) (low_coeff 9 a (insert x k m) (wide_narrow a na) (high_insert x k m le)) in
    rw (← vr, ← va) (sym (replaced env M x n e even t (coefficient a) (coefficient r) (omega arith)
    (λ m is lacks. ap (λ z. z % M) (s.at m t is lacks) ∙ (mod-mod _ M ∙ ap (λ z. z % M) (sum_bound 9 (suc e) _ (λ k le. gone k m le ∙ (omega arith)) (λ k le. gone k m (omega arith) ∙ (omega arith)))))
    (λ m is h. ap (λ z. z % M) (s.gone m t is h))))
