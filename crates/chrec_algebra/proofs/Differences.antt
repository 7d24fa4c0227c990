-- differences and negations as sums with multiples
use Rattle.std.proofs.Common.{◌≡◌, ℕ, zero, suc, ◌+◌, ◌-◌, ◌*◌, ◌/◌, ◌%◌, ◌<◌, refl, ap, ◌∙◌, sym, arith}
use Rattle.std.proofs.Math.Nat.{add-mul-mod_self_left, mod-eq_of_lt, mod-mod}
use Rattle.std.proofs.lemmas.Nat.{div-add-mod', mod_below}
use Rattle.scev_tree.specs.Polynomial.{Polynomial, num, coefficient, IsCanonical, IsScaled}
use Rattle.scev_tree.specs.Value.{value}
use Rattle.scev_tree.proofs.TreePlaces.{fits}
use Rattle.scev_tree.proofs.GrowingLists.{zero_coeff}
use Rattle.chrec_algebra.specs.Product.{IsAdded}
use Rattle.chrec_algebra.specs.Sum.{IsDifference, IsNegated, IsTruncated}
use Rattle.chrec_algebra.proofs.Products.{add_same}
use Rattle.chrec_algebra.proofs.PolynomialValues.{value_sum_at, value_scaled}

-- M - 1 times b is what b lacks to M
lacking : (M c a b : ℕ) → c + 1 ≡ M → b < M → (a + c * b) % M ≡ (a + (M - b)) % M
lacking M c a zero e lt =
    let h : a + (M - 0) ≡ (a + c * 0) + M * 1 = omega arith in
    sym (ap (λ n. n % M) h ∙ add-mul-mod_self_left (a + c * 0) M 1)
lacking M c a (suc b) e lt =
    let m : M * b ≡ (c + 1) * b = ap (λ z. z * b) (sym e) in
    let h : a + c * suc b ≡ (a + (M - suc b)) + M * b = omega arith in
    ap (λ n. n % M) h ∙ add-mul-mod_self_left (a + (M - suc b)) M b

pub added_difference : (M c : ℕ) (r a b : Polynomial) → c + 1 ≡ M → IsCanonical M b → IsAdded M c r a b → IsDifference M r a b
added_difference M c r a b e cb s = record {
  canon = s.canon;
  under = s.under;
  at = λ m top is. s.at m top is ∙ lacking M c (coefficient a m) (coefficient b m) e (fits M b m (omega arith) cb);
}

pub scaled_negation : (M c : ℕ) (r a : Polynomial) → c + 1 ≡ M → IsCanonical M a → IsScaled M c r a → IsNegated M r a
scaled_negation M c r a e ca s = record {
  canon = s.canon;
  under = s.under;
  at = λ m top is. (let l = lacking M c 0 (coefficient a m) e (fits M a m (omega arith) ca) in
      let p : c * coefficient a m ≡ 0 + c * coefficient a m = omega arith in
      let q : 0 + (M - coefficient a m) ≡ M - coefficient a m = omega arith in
      s.at m top is ∙ (ap (λ n. n % M) p ∙ (l ∙ ap (λ n. n % M) q)));
}

-- r = a - b gives a = r + b
back : (M r a b : ℕ) → a < M → b < M → r ≡ (a + (M - b)) % M → a ≡ (r + b) % M
back M r a b la lb e =
    let s : (r + b) % M ≡ ((a + (M - b)) + b) % M = add_same M r b (a + (M - b)) b (ap (λ n. n % M) e ∙ mod-mod (a + (M - b)) M) refl in
    let h : (a + (M - b)) + b ≡ a + M * 1 = omega arith in
    sym (s ∙ (ap (λ n. n % M) h ∙ (add-mul-mod_self_left a M 1 ∙ mod-eq_of_lt la)))

solve : (M R A B : ℕ) → 0 < M → A % M ≡ (R + B) % M → R % M ≡ (A + (M - B % M)) % M
solve M R A B some e =
    let s : (A + (M - B % M)) % M ≡ ((R + B) + (M - B % M)) % M = add_same M A (M - B % M) (R + B) (M - B % M) e refl in
    let d = div-add-mod' B M in
    let l : B % M < M = mod_below B M some in
    let h : (R + B) + (M - B % M) ≡ R + M * (B / M + 1) = omega arith in
    sym (s ∙ (ap (λ n. n % M) h ∙ add-mul-mod_self_left R M (B / M + 1)))

pub value_difference : (env : ℕ → ℕ) (M : ℕ) (r a b : Polynomial) → 0 < M → IsCanonical M a → IsCanonical M b → IsDifference M r a b → value env r % M ≡ (value env a + (M - value env b % M)) % M
value_difference env M r a b some ca cb s =
    solve M (value env r) (value env a) (value env b) some
    (value_sum_at env M a r b ca s.canon cb (λ m top is. back M (coefficient r m) (coefficient a m) (coefficient b m) (fits M a m some ca) (fits M b m some cb) (s.at m top is)))

zero_value : (env : ℕ → ℕ) → value env (num 0) ≡ 0
unfolding value
zero_value env = refl

pub value_negation : (env : ℕ → ℕ) (M : ℕ) (r a : Polynomial) → 0 < M → IsCanonical M a → IsNegated M r a → value env r % M ≡ (M - value env a % M) % M
value_negation env M r a some ca s =
    let v = value_sum_at env M (num 0) r a some s.canon ca (λ m top is.
    zero_coeff m ∙ back M (coefficient r m) 0 (coefficient a m) some (fits M a m some ca) (s.at m top is ∙ (let q : M - coefficient a m ≡ 0 + (M - coefficient a m) = omega arith in ap (λ n. n % M) q))) in
    solve M (value env r) (value env (num 0)) (value env a) some v ∙ (let q : value env (num 0) + (M - value env a % M) ≡ M - value env a % M = omega (arith, zero_value env) in ap (λ n. n % M) q)

pub value_truncation : (env : ℕ → ℕ) (M K : ℕ) (r a : Polynomial) → IsCanonical K a → IsTruncated M r a → value env r % M ≡ value env a % M
value_truncation env M K r a ca s =
    let t : IsScaled M 1 r a = record { canon = s.canon; under = s.under; at = λ m top is. (let h : coefficient a m ≡ 1 * coefficient a m = omega arith in s.at m top is ∙ ap (λ n. n % M) h) } in
    value_scaled env M K 1 r a ca t ∙ (let q : 1 * value env a ≡ value env a = omega arith in ap (λ n. n % M) q)
