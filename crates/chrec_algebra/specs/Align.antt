-- two polynomials as polynomials in one variable
use Rattle.std.specs.Prelude.{◌≡◌, ℕ, ◌+◌, ◌<◌, ◌≤◌}
use Rattle.chrec_algebra.specs.declared.align.Aligned.{Aligned}
use Rattle.chrec_algebra.specs.declared.align.Aligned.TheVariants.{Numbers, Places}
use Rattle.scev_tree.specs.Polynomial.{Polynomial, Polynomials, num, Under}
use Rattle.scev_tree.specs.Side.{IsSide}
use Rattle.scev_tree.specs.Variable.{rank_of}
use Rattle.chrec_algebra.specs.Product.{Narrow, NarrowAll}
use Rattle.scev_tree.specs.Tree.{polynomials, len, weight, weights}

-- ps and qs are places of x that stand for a and b, and are smaller than these
pub record AreSides (x : ℕ) (ps qs : Polynomials) (a b : Polynomial) : Type 0 where
  pub left : IsSide x ps a
  pub right : IsSide x qs b
  pub narrow_left : Narrow a → (len ps ≤ 9) × NarrowAll ps
  pub narrow_right : Narrow b → (len qs ≤ 9) × NarrowAll qs
  pub under : (y : ℕ) → Under a y → Under b y → x < y
  pub weight : weights ps + weights qs + 1 ≤ weight a + weight b

abbrev pub IsAligned : Aligned → Polynomial → Polynomial → Type 0
IsAligned (Numbers u v) a b = (a ≡ num u) × (b ≡ num v)
IsAligned (Places x left right) a b = AreSides (rank_of x) (polynomials left.now) (polynomials right.now) a b
