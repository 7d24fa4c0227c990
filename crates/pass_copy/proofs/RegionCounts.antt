-- How many values the regions of an operation yield, for its results.
use Rattle.std.proofs.Common.{◌≡◌, ℕ, ◌==◌, ◌&&◌, ◌||◌, nat_lt, Bool, true, false, refl, arith}
use Rattle.std.proofs.lemmas.Bool.{and_parts}
use Rattle.std.proofs.lemmas.Bool.Decides.{nat_tests}

zero_length : (m n : ℕ) → (m == 0 || m == n) ≡ true → (n == 0) ≡ true → m ≡ n
zero_length m n h z = grind (arith, nat_tests)

yielded_length : (m n : ℕ) → (m == 0 || m == n) ≡ true → nat_lt 0 m ≡ true → m ≡ n
yielded_length m n h z = grind (arith, nat_tests)

-- a region yields as many values as the operation has results, where it yields one if there are any
pub yields_all : (m n : ℕ) → (m == 0 || m == n) ≡ true → (n == 0 || nat_lt 0 m) ≡ true → m ≡ n
yields_all m n h z = grind (arith, nat_tests, zero_length, yielded_length)

pub or_both : (b x y : Bool) → (b || x && y) ≡ true → ((b || x) ≡ true) × ((b || y) ≡ true)
or_both true x y h = (refl, refl)
or_both false x y h = and_parts x y h

-- the counts of a region that yields as many values as the operation has results
pub some_ends : (e n : ℕ) → e ≡ n → (n == 0 || nat_lt 0 e) ≡ true
some_ends e n h = grind (arith, nat_tests)

pub all_ends : (e n : ℕ) → e ≡ n → (e == 0 || e == n) ≡ true
all_ends e n h = grind (arith, nat_tests)
