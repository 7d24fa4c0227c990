-- an expression split by a counter that stands with an index of at most 1
use Rattle.std.specs.Prelude.{◌≡◌, ℕ, ◌<◌, ◌≤◌, ◌^◌, List, Option, Some, None}
use Rattle.chrec_algebra.specs.declared.lines.Line.{Line}
use Rattle.chrec_algebra.specs.Place.{insert, Has}
use Rattle.scev_tree.specs.Polynomial.{Polynomial, Polynomials, num, ext, none, more, Power, coefficient, place, IsMonomial, Under, IsCanonical, AreCanonical}
use Rattle.scev_tree.specs.Tree.{polynomial_of, len}

abbrev mutual
  -- x stands with an index of at most 1: where it stands, it has two places
  pub IsLinear : ℕ → Polynomial → Type 0
  IsLinear x (num v) = Unit {0}
  IsLinear x (ext y ps) = (y ≡ x → len ps ≤ 2) × AreLinear x ps

  pub AreLinear : ℕ → Polynomials → Type 0
  AreLinear x none = Unit {0}
  AreLinear x (more p ps) = IsLinear x p × AreLinear x ps

-- r has the coefficients of C(x,k) in a, and no x
pub record IsPart (M x k : ℕ) (r a : Polynomial) : Type 0 where
  pub canon : IsCanonical M r
  pub under : (y : ℕ) → Under a y → Under r y
  pub at : (m : List Power) (top : ℕ) → IsMonomial m top → (Has x m → ⊥) → coefficient r m ≡ coefficient a (insert x k m)
  pub gone : (m : List Power) (top : ℕ) → IsMonomial m top → Has x m → coefficient r m ≡ 0

-- the same at each modulus at which a is canonical
abbrev pub IsPartOf : ℕ → ℕ → Polynomial → Polynomial → Type 0
IsPartOf x k r a = (M : ℕ) → 0 < M → IsCanonical M a → IsPart M x k r a

-- r is the place k of ps, or 0 where they have fewer
pub record IsPlaceOf (k : ℕ) (r : Polynomial) (ps : Polynomials) : Type 0 where
  pub canon : (M x : ℕ) → 0 < M → AreCanonical M ps x → Under r x × IsCanonical M r
  pub at : (m : List Power) → coefficient r m ≡ place ps k m

-- a is p + q * x, and neither p nor q has x
pub record IsLine (M x : ℕ) (p q a : Polynomial) : Type 0 where
  pub linear : IsLinear x a
  pub base : IsPart M x 0 p a
  pub slope : IsPart M x 1 q a

-- a line exactly where x stands with an index of at most 1, at the width w
abbrev pub IsSplit : ℕ → ℕ → Polynomial → Option Line → Type 0
IsSplit w x a None = IsLinear x a → ⊥
IsSplit w x a (Some line) = (line.base.w ≡ w) × (line.slope.w ≡ w) × IsLine (2 ^ w) x (polynomial_of line.base.tree) (polynomial_of line.slope.tree) a
