-- The trip count of a loop whose bounds and step are numbers, as the values of its variable.
use Rattle.std.proofs.Common.{◌≡◌, ℕ, zero, suc, ◌+◌, ◌*◌, ◌%◌, ◌^◌, ◌==◌, ◌<◌, ◌≤◌, Bool, true, false, List, [], ◌∷◌, refl, ap, ◌∙◌, sym, subst, max, arith, if◌then◌else◌}
use Rattle.std.proofs.lemmas.Bool.{eq-eqb, ne_eqb}
use Rattle.std.proofs.lemmas.Nat.{pow_pos, mul-mod_first}
use Rattle.std.proofs.Math.Nat.{mod-lt, mod-eq_of_lt, mod-add-mod}
use Rattle.arith_word.specs.Operation.{holds}
use Rattle.arith_word.specs.declared.op.Pred.TheVariants.{Slt}
use Rattle.chrec_algebra.specs.Limits.{IsWithin}
use Rattle.chrec_algebra.proofs.UniqueResults.{number_within}
use Rattle.phi_solve.specs.Step.{IsChain}
use Rattle.phi_solve.proofs.Recurrences.{chain_one, fixed_chain}
use Rattle.scev_tree.specs.Polynomial.{Polynomial, num, ext, none, more, Power, power, IsMonomial, coefficient, with_power, Under, IsCanonical}
use Rattle.scev_tree.specs.Value.{value, with_value}
use Rattle.scev_tree.proofs.Agreeing.{value_number}
use Rattle.trip_count.specs.Failing.{IsLeastNumber, holds_of}
use Rattle.trip_count.specs.declared.answer.Turns.TheVariants.{Count}
use Rattle.trip_count.proofs.Exits.{compare_trip}
use Rattle.fresh_scev.specs.Expressions.{Expression, counter, number}
use Rattle.fresh_scev.specs.Loops.{IsVariable, AreComparedTurns}
use Rattle.fresh_scev.specs.Rules.{have_width, fitting, IsCutOf}
use Rattle.scev_soundness.proofs.LoopExits.{compared_are}
use Rattle.pass_unroll.specs.Planned.{Turns}

-- ---- a number with a number as its step

abbrev line : ℕ → ℕ → ℕ → Polynomial
line x a zero = num a
line x a (suc b) = ext x (more (num a) (more (num (suc b)) none))

line_canonical : (M x a b : ℕ) → a < M → b < M → IsCanonical M (line x a b)
line_canonical M x a zero la lb = la
line_canonical M x a (suc b) la lb = (tt, la, (tt, lb, tt), omega arith)

line_first : (x a b : ℕ) (m : List Power) → IsMonomial m x → coefficient (line x a b) m ≡ coefficient (num a) m
line_first x a zero m is = refl
line_first x a (suc b) [] is = refl
line_first x a (suc b) (q ∷ m) is = rw (ne_eqb q.var x (λ e. omega (arith, e, is.0))) refl

line_later : (x a b k : ℕ) (m : List Power)
    → coefficient (line x a b) (power x (suc k) ∷ m) ≡ coefficient (num b) (with_power x k m)
line_later x a zero zero [] = refl
line_later x a zero zero (q ∷ m) = refl
line_later x a zero (suc k) m = refl
line_later x a (suc b) zero m = rw (eq-eqb x x refl) refl
line_later x a (suc b) (suc k) m = rw (eq-eqb x x refl) refl

line_chain : (M x a b : ℕ) → a < M → b < M → IsChain M x (line x a b) (num a) (num b)
line_chain M x a b la lb = record {
  canon = line_canonical M x a b la lb;
  under = under b;
  first = line_first x a b;
  later = λ k m is. line_later x a b k m;
}
  where
    under : (b : ℕ) → Under (line x a b) (suc x)
    under zero = tt
    under (suc b) = omega arith

line_within : (x a b : ℕ) → IsWithin (line x a b)
line_within x a zero = number_within a
line_within x a (suc b) = record { few = few (a == 0) (suc b == 0); low = low (a == 0) (suc b == 0) }
  where
    few : (i j : Bool) → (if i then 0 else 1) + ((if j then 0 else 1) + 0) ≤ 64
    few true true = omega arith
    few true false = omega arith
    few false true = omega arith
    few false false = omega arith

    low : (i j : Bool) → max (if i then 0 else 0 + 0) (max (if j then 0 else 1 + 0) 0) ≤ 8
    low true true = omega arith
    low true false = omega arith
    low false true = omega arith
    low false false = omega arith

-- ---- the variable of the loop t

module _ (t w lower step : ℕ) (e : Expression)
    (is : IsVariable t w (t + 1) (number w lower) (number w step) e) where
  abbrev M : ℕ
  M = 2 ^ w

  abbrev a : ℕ
  a = lower % M

  abbrev b : ℕ
  b = step % M

  low_a : a < M
  low_a = mod-lt lower (pow_pos w)

  low_b : b < M
  low_b = mod-lt step (pow_pos w)

  of_numbers : (wide : Bool) → wide ≡ true → (rule : Type 0) → fitting wide w (t + 1) e rule → rule
  of_numbers true q rule h = h
  of_numbers false q rule h = absurd cc

  variable_cut : IsCutOf w (t + 1) e (λ p. IsChain M (counter t) p (num a) (num b))
  variable_cut = of_numbers (have_width w (number w lower) (number w step)) (rw (eq-eqb w w refl) refl)
      (IsCutOf w (t + 1) e (λ p. IsChain M (counter t) p (num a) (num b))) is

  pub variable_width : e.w ≡ w
  variable_width = variable_cut.2.width

  pub variable_is : e.p ≡ line (counter t) a b
  variable_is =
      let p = variable_cut.0 in
      let same = chain_one M (counter t) p (line (counter t) a b) (num a) (num b) variable_cut.1
      (line_chain M (counter t) a b low_a low_b) in
      variable_cut.2.kept (subst IsWithin (sym same) (line_within (counter t) a b)) ∙ same

  -- in iteration k
  pub variable_value : (env : ℕ → ℕ) (k : ℕ) → value (with_value env (counter t) k) e.p ≡ a + b * k
  variable_value env k =
      ap (λ p. value (with_value env (counter t) k) p) variable_is
      ∙ (fixed_chain env M (counter t) (line (counter t) a b) (num a) (num b) (even t) low_a tt low_b tt
      (line_chain M (counter t) a b low_a low_b) k
      ∙ (ap (λ v. v + value env (num b) * k) (value_number env a) ∙ ap (λ v. a + v * k) (value_number env b)))
    where
      even : (t : ℕ) → (2 * t) % 2 ≡ 0
      even t = omega arith

  -- ---- how often it turns

  module _ (upper : ℕ) (u : Expression) (bound : u ≡ number w upper) where
    abbrev c : ℕ
    c = upper % M

    low_c : c < M
    low_c = mod-lt upper (pow_pos w)

    -- the test of iteration k
    abbrev Test : ℕ → Bool
    Test k = holds Slt w ((a + k * step) % M) c

    no_numbers : ℕ → ℕ
    no_numbers z = 0

    abbrev TestBy : ℕ → Bool
    TestBy k = holds_of (with_value no_numbers (counter t) k) e.w Slt e.p u.p

    step_less : (k : ℕ) → (a + b * k) % M ≡ (a + k * step) % M
    step_less k =
        let flip : (x y : ℕ) → x + y ≡ y + x = λ x y. omega arith in
        let turn : step * k + a ≡ a + k * step = turned step k a in
        ap (λ v. v % M) (flip a (b * k)) ∙ (sym (mod-add-mod (b * k) M a)
        ∙ (ap (λ v. (v + a) % M) (mul-mod_first step k M) ∙ (mod-add-mod (step * k) M a ∙ ap (λ v. v % M) turn)))
      where
        turned : (s k a : ℕ) → s * k + a ≡ a + k * s
        turned s k a = omega arith

    same_test : (k : ℕ) → TestBy k ≡ Test k
    same_test k =
        let left : value (with_value no_numbers (counter t) k) e.p ≡ a + b * k = variable_value no_numbers k in
        let right : value (with_value no_numbers (counter t) k) u.p ≡ c =
        ap (λ (x : Expression). value (with_value no_numbers (counter t) k) x.p) bound
        ∙ value_number (with_value no_numbers (counter t) k) c in
        ap (λ z. holds Slt z (value (with_value no_numbers (counter t) k) e.p % 2 ^ z) (value (with_value no_numbers (counter t) k) u.p % 2 ^ z)) variable_width
        ∙ (ap (λ v. holds Slt w (v % M) (value (with_value no_numbers (counter t) k) u.p % M)) left
        ∙ (ap (λ v. holds Slt w ((a + b * k) % M) (v % M)) right
        ∙ (ap (λ v. holds Slt w ((a + b * k) % M) v) (mod-eq_of_lt low_c)
        ∙ ap (λ v. holds Slt w v c) (step_less k))))

    pub number_turns : (n : ℕ) → AreComparedTurns t Slt e u (Count n) → Turns w a c step n
    number_turns n h =
        let wide : u.w ≡ e.w = ap (λ (x : Expression). x.w) bound ∙ sym variable_width in
        let compared = compared_are t Slt e u (Count n) wide h in
        let ce : IsCanonical (2 ^ e.w) e.p = subst (λ z. IsCanonical (2 ^ z) e.p) (sym variable_width)
        (subst (IsCanonical M) (sym variable_is) (line_canonical M (counter t) a b low_a low_b)) in
        let cu : IsCanonical (2 ^ e.w) u.p = subst (λ z. IsCanonical (2 ^ z) u.p) (sym variable_width)
        (subst (λ (x : Expression). IsCanonical M x.p) (sym bound) low_c) in
        let least : IsLeastNumber (λ k. TestBy k ≡ false) n =
        compare_trip no_numbers e.w (counter t) Slt e.p u.p compared.d (Count n) ce cu
        compared.difference.canon compared.difference compared.count in
        record {
          enters = λ k lt. is_true (Test k) (λ f. (let le = least.1 k (same_test k ∙ f) in absurd (omega (arith, le, lt))));
          leaves = sym (same_test n) ∙ least.0;
        }
      where
        is_true : (x : Bool) → (x ≡ false → ⊥) → x ≡ true
        is_true true h = refl
        is_true false h = absurd (h refl)
