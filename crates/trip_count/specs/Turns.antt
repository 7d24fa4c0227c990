-- the trip count that each kind of exit has
use Rattle.std.specs.Prelude.{◌≡◌, ℕ, ◌+◌, ◌-◌, ◌*◌, ◌%◌, ◌^◌, Bool, true, false}
use Rattle.arith_word.specs.Operation.{holds}
use Rattle.arith_word.specs.declared.op.Pred.{Pred}
use Rattle.chrec_algebra.specs.Sum.{IsDifference}
use Rattle.exit_solver.specs.Exit.{IsLeast}
use Rattle.exit_solver.specs.declared.hit.Hit.{Hit}
use Rattle.exit_solver.specs.declared.hit.Hit.TheVariants.{At, Never as NoHit}
use Rattle.scev_tree.specs.Polynomial.{Polynomial, IsScaled}
use Rattle.scev_tree.specs.Tree.{polynomial_of}
use Rattle.scev_tree.specs.declared.expr.Expr.{Expr}
use Rattle.trip_count.specs.Predicate.{is_less}
use Rattle.trip_count.specs.Kind.{Kind, constant, all_numbers, odd_step, unit_step, unsolved, kind_at}
use Rattle.trip_count.specs.declared.answer.Why.TheVariants.{NotACompare}
use Rattle.trip_count.specs.declared.answer.Turns.{Turns}
use Rattle.trip_count.specs.declared.answer.Turns.TheVariants.{Count, Never, Exactly, Guarded, Unknown}
use Rattle.trip_count.specs.declared.condition.Test.{Test}
use Rattle.trip_count.specs.declared.condition.Test.TheVariants.{Number, Compare, Other}

-- of a test that is always the same
abbrev pub always : Bool → Turns
always true = Never
always false = Count 0

abbrev pub count_of : Hit → Turns
count_of (At n) = Count n
count_of NoHit = Never

-- pred(a + b * n, c) is false in the iteration n
abbrev pub FailsInNumbers : ℕ → Pred → ℕ → ℕ → ℕ → ℕ → Type 0
FailsInNumbers w pred a b c n = holds pred w ((a + b * n) % 2 ^ w) c ≡ false

-- t is the least iteration in which pred(a + b * n, c) is false, or never where there is none
pub record IsFirstExit (w : ℕ) (pred : Pred) (a b c : ℕ) (t : Turns) : Type 0 where
  pub hit : Hit
  pub least : IsLeast (FailsInNumbers w pred a b c) hit
  pub is : t ≡ count_of hit

-- t is -a / o, that is, a times the negated inverse k of o
pub record IsQuotient (w : ℕ) (a : Polynomial) (o : ℕ) (t : Turns) : Type 0 where
  pub e : Expr
  pub k : ℕ
  pub is : t ≡ Exactly e
  pub width : e.w ≡ w
  pub inverse : (o * k) % 2 ^ w ≡ 1
  pub scaled : IsScaled (2 ^ w) ((2 ^ w - k % 2 ^ w) % 2 ^ w) (polynomial_of e.tree) a

-- e is c - a where less is true, else a - c
abbrev pub IsDistance : ℕ → Bool → Polynomial → Polynomial → Polynomial → Type 0
IsDistance M true e a c = IsDifference M e c a
IsDistance M false e a c = IsDifference M e a c

-- t is the distance of a and c, guarded by pred(a, c)
pub record IsGuarded (w : ℕ) (pred : Pred) (a c : Polynomial) (t : Turns) : Type 0 where
  pub from : Expr
  pub to : Expr
  pub e : Expr
  pub is : t ≡ Guarded pred from to e
  pub widths : (from.w ≡ w) × (to.w ≡ w) × (e.w ≡ w)
  pub start : polynomial_of from.tree ≡ a
  pub bound : polynomial_of to.tree ≡ c
  pub distance : IsDistance (2 ^ w) (is_less pred) (polynomial_of e.tree) a c

-- t is the trip count of an exit of this kind
abbrev pub IsCountOf : ℕ → Kind → Turns → Type 0
IsCountOf w (constant b) t = t ≡ always b
IsCountOf w (all_numbers pred a b c) t = IsFirstExit w pred a b c t
IsCountOf w (odd_step a o) t = IsQuotient w a o t
IsCountOf w (unit_step pred a c) t = IsGuarded w pred a c t
IsCountOf w (unsolved why) t = t ≡ Unknown why

-- the three expressions of a comparison have one width, and the last is the difference
abbrev pub IsTest : Test → Type 0
IsTest (Number b) = Unit {0}
IsTest (Compare pred l r d) = (r.w ≡ l.w) × (d.w ≡ l.w) × IsDifference (2 ^ l.w) (polynomial_of d.tree) (polynomial_of l.tree) (polynomial_of r.tree)
IsTest Other = Unit {0}

-- the trip count of a comparison, where x is the counter
abbrev pub IsCountOfCompare : ℕ → Pred → Expr → Expr → Expr → Turns → Type 0
IsCountOfCompare x pred l r d t = IsCountOf l.w (kind_at l.w x pred (polynomial_of l.tree) (polynomial_of r.tree) (polynomial_of d.tree)) t

-- the trip count of a test, where x is the counter
abbrev pub AreTurns : ℕ → Test → Turns → Type 0
AreTurns x (Number b) t = t ≡ always b
AreTurns x (Compare pred l r d) t = IsCountOfCompare x pred l r d t
AreTurns x Other t = t ≡ Unknown NotACompare
