-- Shifts, and the residue of a signed number.
use Rattle.std.proofs.Common.{◌≡◌, ℕ, suc, ◌+◌, ◌-◌, ◌*◌, ◌%◌, ◌/◌, ◌^◌, ◌<◌, ◌≤◌, refl, ap, ◌∙◌, arith, pos, negsuc, ℤ, of_z, SFits, w64}
use Rattle.std.proofs.lemmas.Nat.{and_mask, pow_pos, div-add-mod', div_below, mod_below, shr_le}
use Rattle.std.proofs.lemmas.Bool.{lt-ltb, le-ltb}
use Rattle.std.proofs.Math.Nat.{add-mul-mod_self_left, mod-eq_of_lt, mul-le-mul_left}
use Rattle.std.proofs.lemmas.Int.{ints}
use Rattle.std.specs.Prelude.{bit_and, nat_lt, if◌then◌else◌}
use Rattle.arith_word.specs.Word.{residue, signed_reading}
use Rattle.arith_word.specs.Operation.{floor_quotient}
use Rattle.arith_word.proofs.Residues.{masked, pow_parts, times_split}

pub shifted_left : (w x y m : ℕ) → w ≤ 64 → y < w → m + 1 ≡ 2 ^ w → bit_and ((x * 2 ^ y) % 2 ^ 64) m ≡ (if nat_lt y w then (x * 2 ^ y) % 2 ^ w else 0)
shifted_left w x y m le lt e = rw (lt-ltb y w lt) (masked (x * 2 ^ y) w m le e)

-- n less than all ones of 64 bits is n less than all ones of w bits, modulo 2 ^ w
below_is : (n w : ℕ) → w ≤ 64 → n < 2 ^ 64 → (2 ^ 64 - suc n) % 2 ^ w ≡ 2 ^ w - 1 - n % 2 ^ w
below_is n w le lt =
    let W = 2 ^ w in
    let p = pow_parts w 64 le in
    let q = n / W in
    let d = div-add-mod' n W in
    let above : 0 < W = pow_pos w in
    let r : n % W < W = mod_below n W above in
    let whole : W + W * p.0 ≡ (p.0 + 1) * W = omega arith in
    let fits : n < (p.0 + 1) * W = omega (arith, p.1) in
    let small : q < p.0 + 1 = div_below n W (p.0 + 1) above fits in
    let room : W * q ≤ W * p.0 = mul-le-mul_left W (omega arith) in
    let split : W * p.0 ≡ W * q + W * (p.0 - q) = times_split W q p.0 (omega arith) in
    let e : 2 ^ 64 - suc n ≡ (W - 1 - n % W) + W * (p.0 - q) = omega (arith, p.1) in
    ap (λ x. x % W) e ∙ (add-mul-mod_self_left (W - 1 - n % W) W (p.0 - q) ∙ mod-eq_of_lt (omega arith))

pub residue_is : (w m : ℕ) (z : ℤ) → w ≤ 64 → SFits w64 z → m + 1 ≡ 2 ^ w → bit_and (of_z w64 z) m ≡ residue w z
residue_is w m (pos n) le fits e = let e' : m ≡ 2 ^ w - 1 = omega arith in rw (e', and_mask) refl
residue_is w m (negsuc n) le fits e = let e' : m ≡ 2 ^ w - 1 = omega arith in rw (e', and_mask) (below_is n w le (omega (arith, ints)))

-- the highest bit is 1: m is all ones, and n is what x lacks to it
pub shifted_down : (w x y m : ℕ) → m + 1 ≡ 2 ^ w → x < 2 ^ w → m - (m - x) / 2 ^ y ≡ 2 ^ w - 1 - (2 ^ w - 1 - x) / 2 ^ y % 2 ^ w
shifted_down w x y m e lt =
    let em : m ≡ 2 ^ w - 1 = omega arith in
    let least : (2 ^ w - 1 - x) / 2 ^ y ≤ 2 ^ w - 1 - x = shr_le (2 ^ w - 1 - x) y in
    let low : (2 ^ w - 1 - x) / 2 ^ y % 2 ^ w ≡ (2 ^ w - 1 - x) / 2 ^ y = mod-eq_of_lt (omega arith) in
    rw (em, low) refl

pub shifted_down_is : (w x y m m' : ℕ) → m + 1 ≡ 2 ^ w → m' + 1 ≡ 2 ^ w → x < 2 ^ w → y < w → 2 ^ (w - 1) ≤ x → m - (m' - x) / 2 ^ y ≡ (if nat_lt y w then residue w (floor_quotient (signed_reading w x) (2 ^ y)) else 0)
shifted_down_is w x y m m' e e' lt under high =
    let same : m' ≡ m = omega arith in
    rw (lt-ltb y w under, le-ltb x (2 ^ (w - 1)) high, same) (shifted_down w x y m e lt)
