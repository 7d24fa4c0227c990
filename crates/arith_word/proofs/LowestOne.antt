-- The power of 2 in a number, from its lowest 1.
use Rattle.std.proofs.Common.{◌≡◌, ℕ, ◌+◌, ◌*◌, ◌%◌, ◌/◌, ◌^◌, ◌<◌, ◌∙◌, inl, inr, ap, sym, arith}
use Rattle.std.proofs.lemmas.Nat.{pow_pos, div-add-mod', mod_below}
use Rattle.std.proofs.lemmas.Nat.Bits.{bit_at-trailing_zeros, same_from_bits_below, bit_at_cat_low, bit_at-zero}
use Rattle.std.proofs.lemmas.Bool.{cases_lt}
use Rattle.std.specs.Int.{bit_at, trailing_zeros, w64}
use Rattle.arith_word.specs.Inverse.{IsGreatestTwo}

-- a number whose low t bits are 0
low_zero : (v t : ℕ) → ((i : ℕ) → i < t → bit_at v i ≡ 0) → v % 2 ^ t ≡ 0
low_zero v t h =
    let above : 0 < 2 ^ t = pow_pos t in
    let split : v ≡ v / 2 ^ t * 2 ^ t + v % 2 ^ t = sym (div-add-mod' v (2 ^ t)) in
    same_from_bits_below t (v % 2 ^ t) 0 (mod_below v (2 ^ t) above) above
    (λ i lt. sym (bit_at_cat_low (v / 2 ^ t) t (v % 2 ^ t) i lt) ∙ (ap (λ n. bit_at n i) (sym split) ∙ (h i lt ∙ sym (bit_at-zero i))))

-- where 2 ^ k divides v, each bit below k is 0
bit_zero : (v k i : ℕ) → v % 2 ^ k ≡ 0 → i < k → bit_at v i ≡ 0
bit_zero v k i e lt =
    let split : v ≡ v / 2 ^ k * 2 ^ k + v % 2 ^ k = sym (div-add-mod' v (2 ^ k)) in
    ap (λ n. bit_at n i) split ∙ (bit_at_cat_low (v / 2 ^ k) k (v % 2 ^ k) i lt ∙ (ap (λ n. bit_at n i) e ∙ bit_at-zero i))

pub greatest_two : (v : ℕ) → 0 < v → v < 2 ^ 64 → IsGreatestTwo v (trailing_zeros w64 v)
greatest_two v some lt =
    let b = bit_at-trailing_zeros w64 v some lt in
    record {
      divides = low_zero v (trailing_zeros w64 v) b.2;
      greatest = λ k e. elim (cases_lt (trailing_zeros w64 v) k) [ inl less ↦ (let z : bit_at v (trailing_zeros w64 v) ≡ 0 = bit_zero v k (trailing_zeros w64 v) e less in absurd (omega (arith, b.1))) | inr most ↦ most ];
    }
