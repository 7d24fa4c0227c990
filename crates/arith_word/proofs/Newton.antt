-- A round of Newton's iteration for an inverse doubles the bits that are right.
use Rattle.std.proofs.Common.{◌≡◌, ℕ, zero, suc, ◌+◌, ◌-◌, ◌*◌, ◌%◌, ◌/◌, ◌^◌, ◌<◌, ◌≤◌, ap, ◌∙◌, sym, subst, arith, add-one}
use Rattle.std.proofs.lemmas.Nat.{pow-add, pow_pos, mul-mod_first, mul-mod_second, div-add-mod', and_mask}
use Rattle.std.proofs.Math.Nat.{add-mul-mod_self_left, pow-suc, mod-eq_of_lt, pow-le-pow_right}
use Rattle.std.specs.Prelude.{bit_and}
use Rattle.arith_word.proofs.Residues.{mod_64, pow_parts}

whole_is : (p q r M : ℕ) → p ≡ 1 + q → r + p ≡ M → p * (2 + r) + q * q ≡ M * (q + 1) + 1
whole_is p q r M ep er = rw (ep, ← er, ep) (omega arith)

-- M is the modulus, K divides it, and p is 1 modulo the square root k of K
round : (K M d k s p r : ℕ) → M ≡ K * d → K ≡ k * k → p ≡ 1 + k * s → r + p ≡ M → 1 < K → (p * (2 + r)) % K ≡ 1
round K M d k s p r eM eK ep er big =
    let q = k * s in
    let square : q * q ≡ K * (s * s) = rw eK (omega arith) in
    let whole : p * (2 + r) + q * q ≡ M * (q + 1) + 1 = whole_is p q r M ep er in
    let left : p * (2 + r) + K * (s * s) ≡ 1 + K * (d * (q + 1)) = ap (λ n. p * (2 + r) + n) (sym square) ∙ (whole ∙ (ap (λ n. n * (q + 1) + 1) eM ∙ omega arith)) in
    sym (add-mul-mod_self_left (p * (2 + r)) K (s * s)) ∙ (ap (λ n. n % K) left ∙ (add-mul-mod_self_left 1 K (d * (q + 1)) ∙ mod-eq_of_lt big))

mul_assoc : (a b c : ℕ) → a * (b * c) ≡ a * b * c
mul_assoc a b c = omega arith

pub one-lt-pow : (k : ℕ) → 1 ≤ k → 1 < 2 ^ k
one-lt-pow zero h = absurd (omega arith)
one-lt-pow (suc k) h = let p : 0 < 2 ^ k = pow_pos k in let e : 2 ^ suc k ≡ 2 ^ k * 2 = pow-suc 2 k in omega arith

-- a number that is 1 modulo m
one_and : (a m : ℕ) → a % m ≡ 1 → a ≡ 1 + m * (a / m)
one_and a m e = let d = div-add-mod' a m in omega arith

newton : (o x k : ℕ) → 1 ≤ k → k + k ≤ 64 → (o * x) % 2 ^ k ≡ 1 → (o * ((x * ((2 + (2 ^ 64 - (o * x) % 2 ^ 64)) % 2 ^ 64)) % 2 ^ 64)) % 2 ^ (k + k) ≡ 1
newton o x k low high e =
    let M = 2 ^ 64 in let K = 2 ^ (k + k) in
    let p = (o * x) % M in
    let y = 2 + (M - p) in
    let above : 0 < M = pow_pos 64 in
    let lt : p < M = omega arith in
    let right : p % 2 ^ k ≡ 1 = mod_64 (o * x) k (omega arith) ∙ e in
    let parts = pow_parts (k + k) 64 high in
    let eM : M ≡ K * (1 + parts.0) = parts.1 ∙ omega arith in
    let done = round K M (1 + parts.0) (2 ^ k) (p / 2 ^ k) p (M - p) eM (pow-add 2 k k) (one_and p (2 ^ k) right) (omega arith) (one-lt-pow (k + k) (omega arith)) in
    let a : (o * ((x * (y % M)) % M)) % M ≡ (p * y) % M =
    mul-mod_second o (x * (y % M)) M ∙ (ap (λ n. n % M) (mul_assoc o x (y % M)) ∙ (mul-mod_second (o * x) y M ∙ sym (mul-mod_first (o * x) y M))) in
    sym (mod_64 (o * ((x * (y % M)) % M)) (k + k) high) ∙ (ap (λ n. n % K) a ∙ (mod_64 (p * y) (k + k) high ∙ done))

pub newton_round : (o x r : ℕ) → r < 6 → (o * x) % 2 ^ (2 ^ r) ≡ 1 → (o * ((x * ((2 + (2 ^ 64 - (o * x) % 2 ^ 64)) % 2 ^ 64)) % 2 ^ 64)) % 2 ^ (2 ^ (r + 1)) ≡ 1
newton_round o x r lt e =
    let k = 2 ^ r in
    let low : 0 < k = pow_pos r in
    let twice : 2 ^ (r + 1) ≡ k + k = rw (add-one, pow-suc) (omega arith) in
    let top : 2 ^ (r + 1) ≤ 2 ^ 6 = (let up : r + 1 ≤ 6 = omega arith in let two : 0 < 2 = omega arith in pow-le-pow_right two up) in
    let high : k + k ≤ 64 = omega arith in
    rw twice (newton o x k (omega arith) high e)

-- after six rounds the low w bits are the inverse
pub inverse_at : (o x w r m : ℕ) → 1 ≤ w → w ≤ 64 → r ≡ 6 → m + 1 ≡ 2 ^ w → (o * x) % 2 ^ (2 ^ r) ≡ 1 → (o * bit_and x m) % 2 ^ w ≡ 1
inverse_at o x w r m some le er em e =
    let at64 : (o * x) % 2 ^ 64 ≡ 1 = (let P : ℕ → Type 0 = λ n. (o * x) % 2 ^ (2 ^ n) ≡ 1 in subst P er e) in
    let em' : m ≡ 2 ^ w - 1 = omega arith in
    let big : 1 < 2 ^ w = one-lt-pow w some in
    rw (em', and_mask, mul-mod_second) (sym (mod_64 (o * x) w le) ∙ ap (λ n. n % 2 ^ w) at64 ∙ mod-eq_of_lt big)
