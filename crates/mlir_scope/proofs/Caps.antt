-- Numbers that are cut at a cap.
use Rattle.std.proofs.Common.{◌≡◌, ℕ, nat_eq, ◌+◌, ◌*◌, ◌<◌, ◌≤◌, min, List, length, take, get_or, ap, sym, ◌∙◌, ⊎_elim, arith}
use Rattle.std.proofs.lemmas.Int.Digits.{digits_value_more}
use Rattle.std.specs.Char.{digit_value}
use Rattle.std.specs.Str.Parse.{digits_value}
use Rattle.std.proofs.Math.Nat.{mul-le-mul_right, le-mul_of_pos_right}
use Rattle.std.proofs.lemmas.Bool.{cases_lt}
use Rattle.std.proofs.lemmas.Bool.Decides.{nat_tests}

-- a number that is cut stays so after one more digit
pub capped_step : (value radix digit cap : ℕ) → 1 ≤ radix → min (min value cap * radix + digit) cap ≡ min (value * radix + digit) cap
capped_step value radix digit cap positive =
    ⊎_elim
    (λ small. let same : min value cap ≡ value = omega arith in rw same)
    (λ large.
    let same : min value cap ≡ cap = omega arith in
    let grown : cap ≤ cap * radix = le-mul_of_pos_right cap positive in
    let more : cap * radix ≤ value * radix = mul-le-mul_right radix large in
    rw same (omega arith))
    (cases_lt value cap)

-- the digits read so far, with one digit more
pub capped_more : (radix i : ℕ) (ds : List ℕ) (value from digit next cap : ℕ)
    → 1 ≤ radix → i < length ds → value ≡ min (digits_value radix (take i ds)) cap → from ≡ radix → digit ≡ digit_value (get_or ds i 0) → next ≡ min (value * from + digit) cap
    → (next ≡ min (digits_value radix (take (i + 1) ds)) cap) × (next ≤ cap)
capped_more radix i ds value from digit next cap positive here v f g is =
    let step = capped_step (digits_value radix (take i ds)) radix (digit_value (get_or ds i 0)) cap positive in
    let more = digits_value_more radix ds i here in
    let cut = rw (v, f, g) at is in
    (cut ∙ step ∙ sym (ap (λ (x : ℕ). min x cap) more), omega arith)

-- a number below the cap is that of digits, or is not, after the cut too
pub cut_same : (place number cap : ℕ) → place < cap → nat_eq place (min number cap) ≡ nat_eq place number
cut_same place number cap below = grind (arith, nat_tests)
