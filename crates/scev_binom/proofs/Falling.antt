-- n * (n - 1) * .. is the binomial times the factorial
use Rattle.std.proofs.Common.{◌≡◌, ℕ, zero, suc, ◌+◌, ◌-◌, ◌*◌, ◌%◌, ◌/◌, ◌^◌, ◌<◌, ◌≤◌, refl, ap, ◌∙◌, sym, subst, arith, add-one}
use Rattle.std.proofs.lemmas.Nat.{and_mask, pow_pos, mul-mod_first, mul-mod_second, shl-shr, field_of, mod-pow-add, mod_low, mod_below}
use Rattle.std.specs.Prelude.{bit_and}
use Rattle.arith_word.proofs.Residues.{mod_64, masked}
use Rattle.arith_word.specs.Binomial.{binomial}
use Rattle.scev_binom.specs.Binomial.{factorial}
use Rattle.scev_binom.specs.Division.{Divides}

pub binomial_none : (n : ℕ) → binomial n 0 ≡ 1
unfolding binomial
binomial_none zero = refl
binomial_none (suc n) = refl

pub past : (n k : ℕ) → n < k → binomial n k ≡ 0
unfolding binomial
past n zero h = absurd (omega arith)
past zero (suc k) h = refl
past (suc n) (suc k) h = rw (past n k (omega arith), past n (suc k) (omega arith)) refl

pub absorb : (n k : ℕ) → binomial n (suc k) * suc k + binomial n k * k ≡ binomial n k * n
unfolding binomial
absorb zero zero = refl
absorb zero (suc k) = omega arith
absorb (suc n) zero = let e = binomial_none n in let h = absorb n zero in let m : binomial n 0 * n ≡ 1 * n = ap (λ x. x * n) e in omega arith
absorb (suc n) (suc k) = let h = absorb n k in let i = absorb n (suc k) in omega arith

-- one more factor
pub next_is : (n k d : ℕ) → d + k ≡ n → binomial n k * factorial k * d ≡ binomial n (suc k) * factorial (suc k)
unfolding factorial
next_is n k d e =
    let h = absorb n k in
    let m : binomial n k * n ≡ binomial n k * (d + k) = ap (λ x. binomial n k * x) (sym e) in
    let g : binomial n k * d ≡ binomial n (suc k) * suc k = omega arith in
    let p : binomial n k * d * factorial k ≡ binomial n (suc k) * suc k * factorial k = ap (λ x. x * factorial k) g in
    omega arith

pub falling_next : (n k f : ℕ) → k ≤ n → f ≡ (binomial n k * factorial k) % 2 ^ 128 → (f * (n - k)) % 2 ^ 128 ≡ (binomial n (k + 1) * factorial (k + 1)) % 2 ^ 128
falling_next n k f h e = rw (e, add-one) (mul-mod_first (binomial n k * factorial k) (n - k) (2 ^ 128) ∙ ap (λ x. x % 2 ^ 128) (next_is n k (n - k) (omega arith)))

pub falling_first : (n : ℕ) → 1 ≡ (binomial n 0 * factorial 0) % 2 ^ 128
unfolding factorial
falling_first n = rw binomial_none refl

mod_mod : (a j w : ℕ) → a % 2 ^ (j + w) % 2 ^ w ≡ a % 2 ^ w
mod_mod a j w = rw (mod-pow-add a j w) (mod_low (a / 2 ^ w % 2 ^ j) w (a % 2 ^ w) (mod_below a (2 ^ w) (pow_pos w)))

-- the low 64 bits above the power of 2
low_bits : (a t : ℕ) → t ≤ 7 → (a * 2 ^ t) % 2 ^ 128 / 2 ^ t % 2 ^ 64 ≡ a % 2 ^ 64
low_bits a t h =
    let e : (128 - t) + t ≡ 128 = omega arith in
    let e' : (64 - t) + 64 ≡ 128 - t = omega arith in
    let P : ℕ → Type 0 = λ n. (a * 2 ^ t) % 2 ^ n / 2 ^ t ≡ a % 2 ^ (128 - t) in
    let Q : ℕ → Type 0 = λ n. a % 2 ^ n % 2 ^ 64 ≡ a % 2 ^ 64 in
    let f = subst P e (field_of (a * 2 ^ t) (128 - t) t ∙ ap (λ x. x % 2 ^ (128 - t)) (shl-shr a t)) in
    ap (λ x. x % 2 ^ 64) f ∙ subst Q e' (mod_mod a (64 - t) 64)

pub lifted : (c f k t v w : ℕ) → w ≤ 64 → Divides k t v → f ≡ (c * factorial k) % 2 ^ 128 → (f / 2 ^ t % 2 ^ 64 * v) % 2 ^ w ≡ c % 2 ^ w
lifted c f k t v w h l e =
    let M = 2 ^ 64 in
    let o = l.odd in
    let s : c * factorial k ≡ c * o * 2 ^ t = ap (λ x. c * x) l.whole ∙ omega arith in
    let low : f / 2 ^ t % M ≡ (c * o) % M = rw (e, s) (low_bits (c * o) t l.few) in
    let a : ((c * o) % M * v) % M ≡ (c * (o * v)) % M = mul-mod_first (c * o) v M ∙ ap (λ x. x % M) (omega arith) in
    let b : (c * (o * v)) % M ≡ (c * 1) % M = sym (mul-mod_second c (o * v) M) ∙ ap (λ x. (c * x) % M) l.inverted in
    let d : (c * 1) % M ≡ c % M = ap (λ x. x % M) (omega arith) in
    rw low (sym (mod_64 ((c * o) % M * v) w h) ∙ (ap (λ x. x % 2 ^ w) (a ∙ (b ∙ d)) ∙ mod_64 c w h))

pub none : (n k w : ℕ) → n < k → 0 ≡ binomial n k % 2 ^ w
none n k w h = let e = past n k h in let p = pow_pos w in let z : 0 % 2 ^ w ≡ 0 = omega arith in sym (ap (λ x. x % 2 ^ w) e ∙ z)

pub chosen : (n i k f t v w low m r : ℕ) → w ≤ 64 → i ≡ k → Divides k t v → f ≡ (binomial n i * factorial i) % 2 ^ 128 → low ≡ 2 ^ 64 - 1 → m + 1 ≡ 2 ^ w → r ≡ bit_and ((bit_and (f / 2 ^ t) low * v) % 2 ^ 64) m → r ≡ binomial n k % 2 ^ w
chosen n i k f t v w low m r h ei d ef el em er =
    let ef' : f ≡ (binomial n k * factorial k) % 2 ^ 128 = ef ∙ ap (λ x. (binomial n x * factorial x) % 2 ^ 128) ei in
    er ∙ (masked (bit_and (f / 2 ^ t) low * v) w m h em ∙ (ap (λ x. bit_and (f / 2 ^ t) x * v % 2 ^ w) el ∙ (ap (λ x. x * v % 2 ^ w) (and_mask (f / 2 ^ t) 64) ∙ lifted (binomial n k) f k t v w h d ef')))
