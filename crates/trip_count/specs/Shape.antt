-- an expression as a recurrence in the iterations of one loop
use Rattle.std.specs.Prelude.{ℕ, ◌<◌, ◌==◌, nat_lt, if◌then◌else◌, Bool, true, false, Option, Some, None}
use Rattle.scev_tree.specs.Polynomial.{Polynomial, Polynomials, num, ext, none, more, IsCanonical}

-- a + b * n with a number b, maybe 0, and all variables of a below the counter
-- a + b * n, where b is no number
-- a variable above the counter stands in it, or the counter with an index above 1
pub data Shape : Type 0 where
  affine : (a : Polynomial) (b : ℕ) → Shape
  symbolic_step : Shape
  moving : Shape

abbrev pub with_step : Polynomial → Polynomial → Shape
with_step a (num b) = affine a b
with_step a (ext y ps) = symbolic_step

-- from the places of the counter
abbrev pub shape_of_places : Polynomials → Shape
shape_of_places (more a (more b none)) = with_step a b
shape_of_places _ = moving

-- the shape of a canonical polynomial, where x is the counter
abbrev pub shape_of : ℕ → Polynomial → Shape
shape_of x (num v) = affine (num v) 0
shape_of x (ext y ps) = if nat_lt y x then affine (ext y ps) 0 else (if y == x then shape_of_places ps else moving)

-- a + b * n with numbers a and b
abbrev pub numeric : Shape → Option (ℕ × ℕ)
numeric (affine (num a) b) = Some (a, b)
numeric _ = None

-- a number
abbrev pub number : Shape → Option ℕ
number (affine (num a) b) = if b == 0 then Some a else None
number _ = None

abbrev pub is_moving : Shape → Bool
is_moving moving = true
is_moving _ = false

-- its numbers are below M
abbrev pub Fits : ℕ → Shape → Type 0
Fits M (affine a b) = IsCanonical M a × (b < M)
Fits M symbolic_step = Unit {0}
Fits M moving = Unit {0}
