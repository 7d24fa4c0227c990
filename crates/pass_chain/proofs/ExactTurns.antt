-- The least exit of a header, and how often a loop with it turns.
use Rattle.std.proofs.Common.{◌≡◌, inl, inr, ℕ, ◌+◌, ◌*◌, ◌/◌, ◌%◌, ◌^◌, ◌<◌, ◌↔◌, ◌==◌, IsTrue, Bool, true, false, refl, ap, ◌∙◌, sym, subst, arith}
use Rattle.std.proofs.lemmas.Bool.{both_ways, cases_lt, eq-eqb, eqb-true}
use Rattle.std.proofs.lemmas.Nat.{mul-mod_first}
use Rattle.std.proofs.Math.Nat.{mod-eq_of_lt, mod-add-mod}
use Rattle.arith_word.specs.Operation.{holds}
use Rattle.arith_word.specs.declared.op.Pred.TheVariants.{Slt}
use Rattle.exit_solver.specs.Exit.{IsLeast}
use Rattle.exit_solver.specs.declared.hit.Hit.TheVariants.{At, Never}
use Rattle.pass_unroll.specs.Planned.{Turns}
use Rattle.pass_unroll.specs.declared.plan.Plan.{Plan}
use Rattle.pass_chain.specs.Parts.{TurnInParts}

is_true : (x : Bool) → (x ≡ false → ⊥) → x ≡ true
is_true true h = refl
is_true false h = absurd (h refl)

-- the same values of the variable
module _ (w l s a b u n : ℕ) (same : (k : ℕ) → (l + k * s) % 2 ^ w ≡ (a + k * b) % 2 ^ w) where
  pub same_turns : Turns w l u s n → Turns w a u b n
  same_turns t = record {
    enters = λ k lt. ap (λ v. holds Slt w v u) (sym (same k)) ∙ t.enters k lt;
    leaves = ap (λ v. holds Slt w v u) (sym (same n)) ∙ t.leaves;
  }

module _ (w lower upper step : ℕ) where
  abbrev pub Fails : ℕ → Type 0
  Fails k = holds Slt w ((lower + step * k) % 2 ^ w) upper ≡ false

  turned : (k : ℕ) → holds Slt w ((lower + step * k) % 2 ^ w) upper ≡ holds Slt w ((lower + k * step) % 2 ^ w) upper
  turned k = ap (λ v. holds Slt w ((lower + v) % 2 ^ w) upper) (flip step k)
    where
      flip : (s k : ℕ) → s * k ≡ k * s
      flip s k = omega arith

  -- the least exit is the number of turns
  turns_at : (n : ℕ) → IsLeast Fails (At n) → Turns w lower upper step n
  turns_at n least = record {
    enters = λ k lt. is_true _ (λ f. (let le = least.1 k (turned k ∙ f) in absurd (omega (arith, le, lt))));
    leaves = sym (turned n) ∙ least.0;
  }

  turns_at_other : (n m : ℕ) → IsLeast Fails (At m) → Turns w lower upper step n → m ≡ n
  turns_at_other n m least t =
      let le = least.1 n (turned n ∙ t.leaves) in
      elim (cases_lt m n) [
        | inl lt ↦ absurd (both_ways _ (sym (turned m) ∙ least.0) (t.enters m lt))
        | inr ge ↦ omega (arith, le, ge)
      ]

  pub turns_never : (n : ℕ) → IsLeast Fails Never → Turns w lower upper step n → ⊥
  turns_never n least t = least n (turned n ∙ t.leaves)

  pub turns_exact : (n m : ℕ) → IsLeast Fails (At m) → IsTrue (m == n) ↔ Turns w lower upper step n
  turns_exact n m least = (
    λ i. subst (λ k. Turns w lower upper step k) (eqb-true m n i) (turns_at m least),
    λ t. eq-eqb m n (turns_at_other n m least t),
  )

-- ---- the headers of a loop that is unrolled

module _ (w : ℕ) (plan : Plan) (factor behind wide : ℕ) (low : plan.upper < 2 ^ w)
    (behind_is : behind ≡ (plan.lower + plan.count / factor * factor * plan.step % 2 ^ w) % 2 ^ w)
    (wide_is : wide ≡ factor * plan.step % 2 ^ w) where
  abbrev M : ℕ
  M = 2 ^ w

  -- what is added may be taken modulo M
  sum_less : (a b : ℕ) → (a + b % M) % M ≡ (a + b) % M
  sum_less a b =
      ap (λ v. v % M) (flip a (b % M)) ∙ (mod-add-mod b M a ∙ ap (λ v. v % M) (flip b a))
    where
      flip : (x y : ℕ) → x + y ≡ y + x
      flip x y = omega arith

  same_behind : behind ≡ (plan.lower + plan.count / factor * factor * plan.step) % M
  same_behind = behind_is ∙ sum_less plan.lower (plan.count / factor * factor * plan.step)

  same_wide : (k : ℕ) → (plan.lower + k * wide) % M ≡ (plan.lower + k * (factor * plan.step)) % M
  same_wide k =
      ap (λ v. (plan.lower + k * v) % M) wide_is
      ∙ (ap (λ v. (plan.lower + v) % M) (flip k (factor * plan.step % M))
      ∙ (sym (sum_less plan.lower (factor * plan.step % M * k))
      ∙ (ap (λ v. (plan.lower + v) % M) (mul-mod_first (factor * plan.step) k M)
      ∙ (sum_less plan.lower (factor * plan.step * k) ∙ ap (λ v. (plan.lower + v) % M) (flip (factor * plan.step) k)))))
    where
      flip : (x y : ℕ) → x * y ≡ y * x
      flip x y = omega arith

  same_from : (k : ℕ) → (behind + k * plan.step) % M
      ≡ (plan.lower + plan.count / factor * factor * plan.step + k * plan.step) % M
  same_from k =
      ap (λ v. (v + k * plan.step) % M) same_behind
      ∙ mod-add-mod (plan.lower + plan.count / factor * factor * plan.step) M (k * plan.step)

  pub parts_turn : Turns w plan.lower behind wide (plan.count / factor)
      → Turns w behind plan.upper plan.step (plan.count % factor) → TurnInParts w plan factor
  parts_turn main rest = record {
    main = subst (λ u. Turns w plan.lower u (factor * plan.step) (plan.count / factor)) same_behind
        (same_turns w plan.lower wide plan.lower (factor * plan.step) behind (plan.count / factor) same_wide main);
    rest = subst (λ u. Turns w (plan.lower + plan.count / factor * factor * plan.step) u plan.step (plan.count % factor))
        (sym (mod-eq_of_lt low))
        (same_turns w behind plan.step (plan.lower + plan.count / factor * factor * plan.step) plan.step plan.upper
        (plan.count % factor) same_from rest);
  }

  pub main_turns : TurnInParts w plan factor → Turns w plan.lower behind wide (plan.count / factor)
  main_turns t = same_turns w plan.lower (factor * plan.step) plan.lower wide behind (plan.count / factor)
      (λ k. sym (same_wide k))
      (subst (λ u. Turns w plan.lower u (factor * plan.step) (plan.count / factor)) (sym same_behind) t.main)

  pub rest_turns : TurnInParts w plan factor → Turns w behind plan.upper plan.step (plan.count % factor)
  rest_turns t = same_turns w (plan.lower + plan.count / factor * factor * plan.step) plan.step behind plan.step
      plan.upper (plan.count % factor) (λ k. sym (same_from k))
      (subst (λ u. Turns w (plan.lower + plan.count / factor * factor * plan.step) u plan.step (plan.count % factor))
      (mod-eq_of_lt low) t.rest)
