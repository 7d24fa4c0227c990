-- The value of decimal digits, one by one.
use Rattle.std.proofs.Common.{◌≡◌, ℕ, ◌-◌, ◌^◌, ◌<◌, ◌≤◌, true, arith}
use Rattle.std.specs.Char.{digit_value}
use Rattle.std.proofs.lemmas.Bool.Decides.{nat_tests}
use Rattle.std.proofs.Math.Nat.{pow-le-pow_right}
use Rattle.mlir_ir.specs.Names.{is_digit}

pub digit_reads : (b : ℕ) → is_digit b ≡ true → digit_value b ≡ b - 48
digit_reads b is = grind (arith, nat_tests)

-- twenty digits fit into 128 bits
pub fits : (n i : ℕ) → n < 10 ^ i → i < 20 → n < 10 ^ 19
fits n i small few =
    let most : 10 ^ i ≤ 10 ^ 19 = pow-le-pow_right {n = 10} (omega arith) {i = i} {j = 19} (omega arith) in omega (arith, most)
