-- The operations of the MLIR arith dialect on words of w bits. x and y are unsigned readings.
use Rattle.std.specs.Prelude.{◌≡◌, ℕ, ℤ, pos, negsuc, ◌+◌, ◌-◌, ◌*◌, ◌/◌, ◌%◌, ◌^◌, ◌<◌, min, max, bit_and, bit_or, bit_xor, Bool, not, ◌==◌, ◌&&◌, ◌||◌, nat_lt, nat_le, if◌then◌else◌, Option, Some, None}
use Rattle.std.specs.Int.RustNames.{int_lt, int_le, int_div, int_rem}
use Rattle.arith_word.specs.Word.{signed_reading, residue}
use Rattle.arith_word.specs.declared.op.BinOp.{BinOp}
use Rattle.arith_word.specs.declared.op.BinOp.TheVariants.{Addi, Subi, Muli, Andi, Ori, Xori, Minsi, Maxsi, Minui, Maxui, Shli, Shrui, Shrsi, Divui, Remui, Divsi, Remsi}
use Rattle.arith_word.specs.declared.op.CastOp.{CastOp}
use Rattle.arith_word.specs.declared.op.CastOp.TheVariants.{Extsi, IndexCast, Extui, IndexCastui, Trunci}
use Rattle.arith_word.specs.declared.op.Pred.{Pred}
use Rattle.arith_word.specs.declared.op.Pred.TheVariants.{Eq, Ne, Slt, Sle, Sgt, Sge, Ult, Ule, Ugt, Uge}
use Rattle.arith_word.specs.declared.op.Step.{Step}
use Rattle.arith_word.specs.declared.op.Step.TheVariants.{Value, Trap}

-- z / d, rounded down
abbrev pub floor_quotient : ℤ → ℕ → ℤ
floor_quotient (pos n) d = pos (n / d)
floor_quotient (negsuc n) d = negsuc (n / d)

-- the signed quotient doesn't fit: x reads as the least number and y as -1
abbrev pub overflows : ℕ → ℕ → ℕ → Bool
overflows w x y = x == 2 ^ (w - 1) && y == 2 ^ w - 1

-- the value, unless the operation traps
abbrev pub unless : Bool → ℕ → Option ℕ
unless trap v = if trap then None else Some v

-- what an operation gives, or none where it traps
abbrev pub value_of : BinOp → ℕ → ℕ → ℕ → Option ℕ
value_of Addi w x y = Some ((x + y) % 2 ^ w)
value_of Subi w x y = Some ((x + (2 ^ w - y % 2 ^ w)) % 2 ^ w)
value_of Muli w x y = Some ((x * y) % 2 ^ w)
value_of Andi w x y = Some (bit_and x y)
value_of Ori w x y = Some (bit_or x y)
value_of Xori w x y = Some (bit_xor x y)
value_of Minsi w x y = Some (if int_lt (signed_reading w y) (signed_reading w x) then y else x)
value_of Maxsi w x y = Some (if int_lt (signed_reading w x) (signed_reading w y) then y else x)
value_of Minui w x y = Some (min x y)
value_of Maxui w x y = Some (max x y)
value_of Shli w x y = Some (if nat_lt y w then (x * 2 ^ y) % 2 ^ w else 0)
value_of Shrui w x y = Some (if nat_lt y w then x / 2 ^ y else 0)
value_of Shrsi w x y = Some (if nat_lt y w then residue w (floor_quotient (signed_reading w x) (2 ^ y)) else 0)
value_of Divui w x y = unless (y == 0) (x / y)
value_of Remui w x y = unless (y == 0) (x % y)
value_of Divsi w x y = unless (y == 0 || overflows w x y) (residue w (int_div (signed_reading w x) (signed_reading w y)))
value_of Remsi w x y = unless (y == 0 || overflows w x y) (residue w (int_rem (signed_reading w x) (signed_reading w y)))

-- the step is a word of w bits with this number, or the trap where there is none
abbrev pub IsStep : Step → ℕ → Option ℕ → Type 0
IsStep (Value x) w v = (x.w ≡ w) × (v ≡ Some x.v)
IsStep Trap w v = v ≡ None

-- a cast of x from w bits to another width
abbrev pub cast_of : CastOp → ℕ → ℕ → ℕ → ℕ
cast_of Extsi w x to = residue to (signed_reading w x)
cast_of IndexCast w x to = residue to (signed_reading w x)
cast_of Extui w x to = x % 2 ^ to
cast_of IndexCastui w x to = x % 2 ^ to
cast_of Trunci w x to = x % 2 ^ to

-- the widths that a cast takes: a wider target, a narrower one, or any
abbrev pub Casts : CastOp → ℕ → ℕ → Type 0
Casts Extsi w to = w < to
Casts IndexCast w to = Unit {0}
Casts Extui w to = w < to
Casts IndexCastui w to = Unit {0}
Casts Trunci w to = to < w

-- whether the predicate holds for x and y
abbrev pub holds : Pred → ℕ → ℕ → ℕ → Bool
holds Eq w x y = x == y
holds Ne w x y = not (x == y)
holds Slt w x y = int_lt (signed_reading w x) (signed_reading w y)
holds Sle w x y = int_le (signed_reading w x) (signed_reading w y)
holds Sgt w x y = int_lt (signed_reading w y) (signed_reading w x)
holds Sge w x y = int_le (signed_reading w y) (signed_reading w x)
holds Ult w x y = nat_lt x y
holds Ule w x y = nat_le x y
holds Ugt w x y = nat_lt y x
holds Uge w x y = nat_le y x
