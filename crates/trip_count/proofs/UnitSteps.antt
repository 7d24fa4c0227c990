-- going by one from a first reaches c after c - a iterations
use Rattle.std.proofs.Common.{◌≡◌, ℕ, ◌+◌, ◌-◌, ◌*◌, ◌%◌, ◌<◌, ◌≤◌, ap, ◌∙◌, arith, inl, inr, false}
use Rattle.std.specs.Prelude.{nat_lt, if◌then◌else◌}
use Rattle.std.proofs.lemmas.Bool.{cases_lt, lt-ltb, le-ltb, ltb-false}
use Rattle.std.proofs.Math.Nat.{mod-eq_of_lt, add-mul-mod_self_left}
use Rattle.trip_count.specs.Failing.{IsLeastNumber}

-- f is how far a is in an order, and g how far c is; e is c - a modulo M
up_at : (M f g e n : ℕ) → f < g → g < M → (e ≡ g - f) → n < e → (f + n) % M < g
up_at M f g e n lt lg is h = let s : (f + n) % M ≡ f + n = mod-eq_of_lt (omega arith) in omega arith

up_end : (M f g e : ℕ) → f < g → g < M → e ≡ g - f → (f + e) % M ≡ g
up_end M f g e lt lg is = let s : f + e ≡ g = omega arith in ap (λ k. k % M) s ∙ mod-eq_of_lt lg

pub up_least : (M f g e : ℕ) (P : ℕ → Type 0) → f < M → g < M → (f < g → e ≡ g - f) → ((n : ℕ) → P n → nat_lt ((f + n) % M) g ≡ false) → ((n : ℕ) → nat_lt ((f + n) % M) g ≡ false → P n) → IsLeastNumber P (if nat_lt f g then e else 0)
up_least M f g e P lf lg is down up =
    elim (cases_lt f g) [
      | inl lt ↦ rw (lt-ltb f g lt) (
        up e (le-ltb ((f + e) % M) g (let q = up_end M f g e lt lg (is lt) in omega arith)),
        λ k p. elim (cases_lt k e) [ inl less ↦ (let q = up_at M f g e k lt lg (is lt) less in let r = ltb-false ((f + k) % M) g (down k p) in absurd (omega arith)) | inr ge' ↦ ge' ],
      )
      | inr ge ↦ rw (le-ltb f g ge) (
        up 0 (le-ltb ((f + 0) % M) g (let z : f + 0 ≡ f = omega arith in let q : (f + 0) % M ≡ f = ap (λ k. k % M) z ∙ mod-eq_of_lt lf in omega arith)),
        λ k p. omega arith,
      )
    ]

-- and down by one
down_step : (M f n : ℕ) → n ≤ f → f < M → (f + (M - 1) * n) % M ≡ f - n
down_step M f n le lf =
    let m = M - 1 in
    let e : M ≡ m + 1 = omega arith in
    let p : M * n ≡ (m + 1) * n = ap (λ k. k * n) e in
    let s : f + m * n ≡ f - n + M * n = omega (arith, p) in
    ap (λ k. k % M) s ∙ (add-mul-mod_self_left (f - n) M n ∙ mod-eq_of_lt (omega arith))

pub down_least : (M f g e : ℕ) (P : ℕ → Type 0) → f < M → g < M → (g < f → e ≡ f - g) → ((n : ℕ) → P n → nat_lt g ((f + (M - 1) * n) % M) ≡ false) → ((n : ℕ) → nat_lt g ((f + (M - 1) * n) % M) ≡ false → P n) → IsLeastNumber P (if nat_lt g f then e else 0)
down_least M f g e P lf lg is down up =
    elim (cases_lt g f) [
      | inl lt ↦ rw (lt-ltb g f lt) (
        up e (le-ltb g ((f + (M - 1) * e) % M) (let i = is lt in let q = down_step M f e (omega arith) lf in omega arith)),
        λ k p. elim (cases_lt k e) [ inl less ↦ (let i = is lt in let q = down_step M f k (omega arith) lf in let r = ltb-false g ((f + (M - 1) * k) % M) (down k p) in absurd (omega arith)) | inr ge' ↦ ge' ],
      )
      | inr ge ↦ rw (le-ltb g f ge) (
        up 0 (le-ltb g ((f + (M - 1) * 0) % M) (let q = down_step M f 0 (omega arith) lf in omega arith)),
        λ k p. omega arith,
      )
    ]
