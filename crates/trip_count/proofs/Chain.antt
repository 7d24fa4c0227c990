-- a fact about the kind of a comparison, from those about each row of the table
use Rattle.std.proofs.Common.{◌≡◌, ℕ, refl, Bool, true, false, Option, Some, None}
use Rattle.std.specs.Prelude.{if◌then◌else◌}
use Rattle.arith_word.specs.declared.op.Pred.{Pred}
use Rattle.trip_count.specs.Predicate.{swapped}
use Rattle.trip_count.specs.Shape.{Shape, numeric, number}
use Rattle.trip_count.specs.Kind.{Kind, unsolved, both_numbers, by_difference, by_sides, by_odd_step, by_unit_step, reason, or_else, kind_of}

module _ (Q : Kind → Type 0) where
  abbrev pub Maybe : Option Kind → Type 0
  Maybe (Some k) = Q k
  Maybe None = Unit {0}

  first : (o : Option Kind) (k : Kind) → Maybe o → Q k → Q (or_else o k)
  first (Some j) k h g = h
  first None k h g = g

  pub where_true : (b : Bool) (o : Option Kind) → (b ≡ true → Maybe o) → Maybe (if b then o else None)
  where_true true o h = h refl
  where_true false o h = tt

  pub where_false : (b : Bool) (o : Option Kind) → Maybe o → Maybe (if b then None else o)
  where_false true o h = tt
  where_false false o h = h

  pub chain : (w : ℕ) (pred : Pred) (l r d : Shape) → Maybe (both_numbers w pred (number l) (number r)) → Maybe (by_difference pred (numeric d))
      → Maybe (by_sides pred (numeric l) (number r)) → Maybe (by_sides (swapped pred) (numeric r) (number l)) → Maybe (by_odd_step pred d)
      → Maybe (by_unit_step w pred l r) → Maybe (by_unit_step w (swapped pred) r l) → Q (unsolved (reason l r)) → Q (kind_of w pred l r d)
  chain w pred l r d numbers difference sides turned odd unit unit_turned rest =
      first (both_numbers w pred (number l) (number r)) _ numbers
      (first (by_difference pred (numeric d)) _ difference
      (first (by_sides pred (numeric l) (number r)) _ sides
      (first (by_sides (swapped pred) (numeric r) (number l)) _ turned
      (first (by_odd_step pred d) _ odd
      (first (by_unit_step w pred l r) _ unit
      (first (by_unit_step w (swapped pred) r l) _ unit_turned rest))))))
