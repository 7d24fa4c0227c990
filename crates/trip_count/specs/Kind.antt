-- which row of the table of exits a comparison has: the first that fits
use Rattle.std.specs.Prelude.{◌≡◌, ℕ, ◌%◌, ◌<◌, Bool, ◌==◌, ◌||◌, if◌then◌else◌, Option, Some, None}
use Rattle.arith_word.specs.Operation.{holds}
use Rattle.arith_word.specs.declared.op.Pred.{Pred}
use Rattle.scev_tree.specs.Polynomial.{Polynomial, IsCanonical}
use Rattle.trip_count.specs.Predicate.{swapped, is_equality, is_ne, is_unit_step}
use Rattle.trip_count.specs.Shape.{Shape, affine, is_moving, number, numeric, shape_of}
use Rattle.trip_count.specs.declared.answer.Why.{Why}
use Rattle.trip_count.specs.declared.answer.Why.TheVariants.{Moving, Symbolic}

-- the test is always the same
-- it is pred(a + b * n, c), with numbers
-- it is that a + o * n isn't 0, with an odd number o
-- it is pred(a + n, c) for a predicate of being less, or pred(a - n, c) for one of being greater
-- none of these
pub data Kind : Type 0 where
  constant : (b : Bool) → Kind
  all_numbers : (pred : Pred) (a b c : ℕ) → Kind
  odd_step : (a : Polynomial) (o : ℕ) → Kind
  unit_step : (pred : Pred) (a c : Polynomial) → Kind
  unsolved : (why : Why) → Kind

-- both sides are numbers
abbrev pub both_numbers : ℕ → Pred → Option ℕ → Option ℕ → Option Kind
both_numbers w pred (Some u) (Some v) = Some (constant (holds pred w u v))
both_numbers w pred _ _ = None

-- eq or ne, and the difference has numbers alone
abbrev pub by_difference : Pred → Option (ℕ × ℕ) → Option Kind
by_difference pred (Some l) = if is_equality pred then Some (all_numbers pred l.0 l.1 0) else None
by_difference pred None = None

-- another predicate, the left side has numbers alone and the right side is one
abbrev pub by_sides : Pred → Option (ℕ × ℕ) → Option ℕ → Option Kind
by_sides pred (Some l) (Some c) = if is_equality pred then None else Some (all_numbers pred l.0 l.1 c)
by_sides pred _ _ = None

-- ne, and the difference is a + o * n with an odd number o
abbrev pub by_odd_step : Pred → Shape → Option Kind
by_odd_step pred (affine a o) = if is_ne pred then (if o % 2 == 1 then Some (odd_step a o) else None) else None
by_odd_step pred _ = None

-- the left side goes by one towards the right side, which is the same in each iteration
abbrev pub by_unit_step : ℕ → Pred → Shape → Shape → Option Kind
by_unit_step w pred (affine a s) (affine c t) = if t == 0 then (if is_unit_step w pred s then Some (unit_step pred a c) else None) else None
by_unit_step w pred _ _ = None

abbrev pub reason : Shape → Shape → Why
reason l r = if is_moving l || is_moving r then Moving else Symbolic

abbrev pub or_else : Option Kind → Kind → Kind
or_else (Some k) rest = k
or_else None rest = rest

-- the kind of the test pred(l, r), where d is the difference
abbrev pub kind_of : ℕ → Pred → Shape → Shape → Shape → Kind
kind_of w pred l r d =
    or_else (both_numbers w pred (number l) (number r))
    (or_else (by_difference pred (numeric d))
    (or_else (by_sides pred (numeric l) (number r))
    (or_else (by_sides (swapped pred) (numeric r) (number l))
    (or_else (by_odd_step pred d)
    (or_else (by_unit_step w pred l r)
    (or_else (by_unit_step w (swapped pred) r l) (unsolved (reason l r))))))))

-- the kind of the test pred(l, r) with the difference d, where x is the counter
abbrev pub kind_at : ℕ → ℕ → Pred → Polynomial → Polynomial → Polynomial → Kind
kind_at w x pred l r d = kind_of w pred (shape_of x l) (shape_of x r) (shape_of x d)

-- its numbers are below M
abbrev pub KindFits : ℕ → Kind → Type 0
KindFits M (constant b) = Unit {0}
KindFits M (all_numbers pred a b c) = (a < M) × (b < M) × (c < M)
KindFits M (odd_step a o) = IsCanonical M a × (o % 2 ≡ 1)
KindFits M (unit_step pred a c) = IsCanonical M a × IsCanonical M c
KindFits M (unsolved why) = Unit {0}
