-- a measure: the greatest variable
use Rattle.std.proofs.Common.{◌≡◌, ℕ, suc, ◌≤◌, ◌<◌, arith, max, refl}
use Rattle.scev_tree.specs.Polynomial.{Polynomial, Polynomials, num, ext, Under}
use Rattle.chrec_algebra.specs.Align.{AreSides}
use Rattle.chrec_algebra.proofs.PolynomialValues.{height, under_height}

pub height_of : (x : ℕ) (ps : Polynomials) → height (ext x ps) ≡ suc x
unfolding height
height_of x ps = refl

pub below_height : (p : Polynomial) (x : ℕ) → Under p x → height p ≤ x
unfolding height
below_height (num v) x u = omega arith
below_height (ext y ps) x u = omega arith

pub sides_below : (x : ℕ) (ps qs : Polynomials) (a b : Polynomial) → AreSides x ps qs a b → x < max (height a) (height b)
sides_below x ps qs a b s = s.under (max (height a) (height b)) (under_height a _ (omega arith)) (under_height b _ (omega arith))
