-- Residues modulo a power of 2, as masks of words of 64 bits give them.
use Rattle.std.proofs.Common.{◌≡◌, ℕ, ◌+◌, ◌-◌, ◌*◌, ◌%◌, ◌/◌, ◌^◌, ◌<◌, ◌≤◌, refl, ap, ◌∙◌, sym, subst, arith}
use Rattle.std.proofs.lemmas.Nat.{and_mask, pow-add, mod-pow-add, mod_low, mod_below, pow_pos, div-add-mod', div_below}
use Rattle.std.proofs.Math.Nat.{add-mul-mod_self_left}
use Rattle.std.specs.Prelude.{bit_and}

mod_mod : (a j w : ℕ) → a % 2 ^ (j + w) % 2 ^ w ≡ a % 2 ^ w
mod_mod a j w = rw (mod-pow-add a j w) (mod_low (a / 2 ^ w % 2 ^ j) w (a % 2 ^ w) (mod_below a (2 ^ w) (pow_pos w)))

-- the low w bits of a residue modulo 2 ^ 64
pub mod_64 : (a w : ℕ) → w ≤ 64 → a % 2 ^ 64 % 2 ^ w ≡ a % 2 ^ w
mod_64 a w h =
    let e : 64 - w + w ≡ 64 = omega arith in
    let P : ℕ → Type 0 = λ n. a % 2 ^ n % 2 ^ w ≡ a % 2 ^ w in
    subst P e (mod_mod a (64 - w) w)

pub masked : (a w m : ℕ) → w ≤ 64 → m + 1 ≡ 2 ^ w → bit_and (a % 2 ^ 64) m ≡ a % 2 ^ w
masked a w m h e = let e' : m ≡ 2 ^ w - 1 = omega arith in rw (e', and_mask) (mod_64 a w h)

-- 2 ^ n is 2 ^ w and some more multiples of it
pub pow_parts : (w n : ℕ) → w ≤ n → (c : ℕ) × (2 ^ n ≡ 2 ^ w + 2 ^ w * c)
pow_parts w n h =
    let d = 2 ^ (n - w) in
    let e : w + (n - w) ≡ n = omega arith in
    let p : 2 ^ n ≡ 2 ^ w * d = ap (λ k. 2 ^ k) (sym e) ∙ pow-add 2 w (n - w) in
    let above : 0 < d = pow_pos (n - w) in
    let s : d ≡ 1 + (d - 1) = omega arith in
    let q : 2 ^ w * d ≡ 2 ^ w * (1 + (d - 1)) = ap (λ k. 2 ^ w * k) s in
    (d - 1, p ∙ (q ∙ omega arith))

pub times_split : (m q c : ℕ) → q ≤ c → m * c ≡ m * q + m * (c - q)
times_split m q c h = let e : c ≡ q + (c - q) = omega arith in ap (λ x. m * x) e ∙ omega arith

-- what is missing to 2 ^ 64 is what is missing to 2 ^ w, modulo 2 ^ w
pub minus_parts : (a b w : ℕ) → w ≤ 64 → b < 2 ^ 64 → (a + (2 ^ 64 - b)) % 2 ^ w ≡ (a + (2 ^ w - b % 2 ^ w)) % 2 ^ w
minus_parts a b w h lt =
    let W = 2 ^ w in
    let p = pow_parts w 64 h in
    let q = b / W in
    let d = div-add-mod' b W in
    let above : 0 < W = pow_pos w in
    let r : b % W < W = mod_below b W above in
    let whole : W + W * p.0 ≡ (p.0 + 1) * W = omega arith in
    let fits : b < (p.0 + 1) * W = omega (arith, p.1) in
    let small : q < p.0 + 1 = div_below b W (p.0 + 1) above fits in
    let split : W * p.0 ≡ W * q + W * (p.0 - q) = times_split W q p.0 (omega arith) in
    let e : a + (2 ^ 64 - b) ≡ a + (W - b % W) + W * (p.0 - q) = omega (arith, p.1) in
    ap (λ n. n % W) e ∙ add-mul-mod_self_left (a + (W - b % W)) W (p.0 - q)

pub masked_minus : (a b w m : ℕ) → w ≤ 64 → b < 2 ^ 64 → m + 1 ≡ 2 ^ w → bit_and ((a + (2 ^ 64 - b)) % 2 ^ 64) m ≡ (a + (2 ^ w - b % 2 ^ w)) % 2 ^ w
masked_minus a b w m h lt e = masked (a + (2 ^ 64 - b)) w m h e ∙ minus_parts a b w h lt

pub low_bits_are : (a w m : ℕ) → m + 1 ≡ 2 ^ w → bit_and a m ≡ a % 2 ^ w
low_bits_are a w m e = let e' : m ≡ 2 ^ w - 1 = omega arith in rw (e', and_mask) refl
