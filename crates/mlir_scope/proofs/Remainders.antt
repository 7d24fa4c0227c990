-- The remainder of a number by its digits.
use Rattle.std.proofs.Common.{◌≡◌, ℕ, ◌+◌, ◌*◌, ◌/◌, ◌%◌, ◌<◌, List, length, take, get_or, ap, ◌∙◌, sym, arith}
use Rattle.std.proofs.Math.Nat.{add-mul-mod_self_right, mod-add-div'}
use Rattle.std.proofs.lemmas.Int.Digits.{digits_value_more}
use Rattle.std.specs.Char.{digit_value}
use Rattle.std.specs.Str.Parse.{digits_value}

spread : (a c r d : ℕ) → (a + c) * r + d ≡ a * r + d + c * r
spread a c r d = grind arith

swapped : (b w r : ℕ) → b * w * r ≡ b * r * w
swapped b w r = grind arith

split : (v a b r d w : ℕ) → v ≡ a + b * w → v * r + d ≡ a * r + d + b * r * w
split v a b r d w e = ap (λ n. n * r + d) e ∙ spread a (b * w) r d ∙ ap (λ n. a * r + d + n) (swapped b w r)

-- one digit more
rest_step : (v r d w : ℕ) → (v % w * r + d) % w ≡ (v * r + d) % w
rest_step v r d w =
    let whole : v ≡ v % w + v / w * w = sym (mod-add-div' v w) in
    let sum : v * r + d ≡ v % w * r + d + v / w * r * w = split v (v % w) (v / w) r d w whole in
    sym (ap (λ n. n % w) sum ∙ add-mul-mod_self_right (v % w * r + d) (v / w * r) w)

pub rest_more : (radix i : ℕ) (ds : List ℕ) (value from digit next w : ℕ)
    → i < length ds → value ≡ digits_value radix (take i ds) % w → from ≡ radix → digit ≡ digit_value (get_or ds i 0) → next ≡ (value * from + digit) % w
    → next ≡ digits_value radix (take (i + 1) ds) % w
rest_more radix i ds value from digit next w here v f g is =
    is
    ∙ (λ j. (v j * f j + g j) % w)
    ∙ rest_step (digits_value radix (take i ds)) radix (digit_value (get_or ds i 0)) w
    ∙ sym (ap (λ n. n % w) (digits_value_more radix ds i here))
