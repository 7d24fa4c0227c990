-- The expression of the result of an operation without regions, by those of its operands. Operands that don't have the widths
-- of the operation, which no well-formed function has, make a value its own symbol.
use Rattle.std.specs.Prelude.{◌≡◌, ℕ, ◌==◌, ◌&&◌, ◌^◌, nat_le, nat_lt, Bool, true, false, Option, Some, None, if◌then◌else◌}
use Rattle.std.specs.Option.{option_map}
use Rattle.arith_word.specs.Operation.{value_of, cast_of, holds}
use Rattle.arith_word.specs.declared.op.BinOp.{BinOp}
use Rattle.arith_word.specs.declared.op.BinOp.TheVariants.{Addi, Subi, Muli, Shli}
use Rattle.arith_word.specs.declared.op.CastOp.{CastOp}
use Rattle.arith_word.specs.declared.op.CastOp.TheVariants.{IndexCast, IndexCastui, Trunci}
use Rattle.arith_word.specs.declared.op.Pred.{Pred}
use Rattle.chrec_algebra.specs.Product.{IsProduct}
use Rattle.chrec_algebra.specs.Sum.{IsSum, IsDifference, IsTruncated}
use Rattle.scev_tree.specs.Polynomial.{Polynomial, Under, IsScaled}
use Rattle.fresh_scev.specs.Expressions.{Expression, IsCut, number, own, number_in, counter}

abbrev pub have_width : ℕ → Expression → Expression → Bool
have_width w a b = a.w == w && b.w == w

-- the rule where the widths fit, else the own symbol
abbrev pub fitting : Bool → ℕ → ℕ → Expression → Type 0 → Type 0
fitting true w label e rule = rule
fitting false w label e rule = e ≡ own w label

-- the number that an operation gives, or the own symbol where it gives none
abbrev pub or_own : Option ℕ → ℕ → ℕ → Expression
or_own (Some v) w label = number w v
or_own None w label = own w label

-- what an operation gives for operands that are numbers, unless it traps
abbrev pub folded : BinOp → ℕ → Option ℕ → Option ℕ → Option ℕ
folded op w (Some a) (Some b) = value_of op w a b
folded op w _ _ = None

-- e is a polynomial of that kind, cut
abbrev pub IsCutOf : ℕ → ℕ → Expression → (Polynomial → Type 0) → Type 0
IsCutOf w label e kind = (p : Polynomial) × kind p × IsCut w label p e

-- a shift by a number below the width is a product
abbrev pub shift_factor : ℕ → Option ℕ → Option ℕ
shift_factor w (Some n) = if nat_lt n w then Some (2 ^ n) else None
shift_factor w None = None

abbrev pub IsShifted : Option ℕ → ℕ → ℕ → Expression → Expression → Expression → Type 0
IsShifted (Some c) w label a b e = IsCutOf w label e (λ p. IsScaled (2 ^ w) c p a.p)
IsShifted None w label a b e = e ≡ or_own (folded Shli w (number_in a.p) (number_in b.p)) w label

-- the result e of an operation on two operands, at width w
abbrev pub IsBin : BinOp → ℕ → ℕ → Expression → Expression → Expression → Type 0
IsBin Addi w label a b e = IsCutOf w label e (λ p. IsSum (2 ^ w) p a.p b.p)
IsBin Subi w label a b e = IsCutOf w label e (λ p. IsDifference (2 ^ w) p a.p b.p)
IsBin Muli w label a b e = IsCutOf w label e (λ p. IsProduct (2 ^ w) p a.p b.p)
IsBin Shli w label a b e = IsShifted (shift_factor w (number_in b.p)) w label a b e
IsBin op w label a b e = e ≡ or_own (folded op w (number_in a.p) (number_in b.p)) w label

-- casts that take a value modulo 2 to a lesser width
abbrev pub truncates : CastOp → ℕ → ℕ → Bool
truncates IndexCast from to = nat_le to from
truncates IndexCastui from to = nat_le to from
truncates Trunci from to = nat_le to from
truncates _ from to = false

abbrev pub IsTruncatedCast : Bool → CastOp → ℕ → ℕ → Expression → Expression → Type 0
IsTruncatedCast true op w label a e = IsCutOf w label e (λ p. IsTruncated (2 ^ w) p a.p)
IsTruncatedCast false op w label a e = e ≡ or_own (option_map (λ v. cast_of op a.w v w) (number_in a.p)) w label

abbrev pub IsCast : CastOp → ℕ → ℕ → Expression → Expression → Type 0
IsCast op w label a e = IsTruncatedCast (truncates op a.w w) op w label a e

-- what a comparison gives for numbers
abbrev pub compared : Pred → ℕ → Option ℕ → Option ℕ → Option ℕ
compared pred w (Some a) (Some b) = Some (if holds pred w a b then 1 else 0)
compared pred w _ _ = None

abbrev pub IsComparison : Pred → ℕ → ℕ → Expression → Expression → Expression → Type 0
IsComparison pred w label a b e = e ≡ or_own (compared pred a.w (number_in a.p) (number_in b.p)) w label

-- both arms are equal, or the value is its own symbol
pub record IsEither (w label : ℕ) (a b e : Expression) : Type 0 where
  pub same : a ≡ b → e ≡ a
  pub other : (a ≡ b → ⊥) → e ≡ own w label

abbrev pub IsSelectedBy : Option ℕ → ℕ → ℕ → Expression → Expression → Expression → Type 0
IsSelectedBy (Some v) w label a b e = e ≡ (if v == 0 then b else a)
IsSelectedBy None w label a b e = IsEither w label a b e

-- the result e of an `arith.select` with the condition c
abbrev pub IsSelected : ℕ → ℕ → Expression → Expression → Expression → Expression → Type 0
IsSelected w label c a b e = IsSelectedBy (number_in c.p) w label a b e

-- a result of an `scf.if` that begins with label `start`: what both regions yield, where it is the same and has only variables of
-- labels before the operation
pub record IsMerged (start w label : ℕ) (a b e : Expression) : Type 0 where
  pub same : a ≡ b → Under a.p (counter start) → e ≡ a
  pub other : (a ≡ b → Under a.p (counter start) → ⊥) → e ≡ own w label
