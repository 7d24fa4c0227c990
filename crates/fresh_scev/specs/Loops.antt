-- The expressions of a loop: its induction variable, its arguments after each round, its trip count, and its results.
use Rattle.std.specs.Prelude.{◌≡◌, ℕ, ◌==◌, ◌≤◌, ◌^◌, ◌⊎◌, not, true, false, Bool, Option, Some, None}
use Rattle.arith_word.specs.declared.op.Pred.{Pred}
use Rattle.chrec_algebra.specs.Limits.{IsWithin}
use Rattle.chrec_algebra.specs.Line.{IsLine}
use Rattle.chrec_algebra.specs.Place.{IsAt}
use Rattle.chrec_algebra.specs.Product.{IsProduct}
use Rattle.chrec_algebra.specs.Sum.{IsSum, IsDifference, IsTruncated}
use Rattle.phi_solve.specs.Step.{IsStep, IsChain}
use Rattle.scev_tree.specs.Polynomial.{Polynomial, Under}
use Rattle.scev_tree.specs.Tree.{polynomial_of}
use Rattle.scev_tree.specs.declared.expr.Expr.{Expr}
use Rattle.trip_count.specs.Kind.{kind_at}
use Rattle.trip_count.specs.Predicate.{swapped}
use Rattle.trip_count.specs.Turns.{IsCountOf, always}
use Rattle.trip_count.specs.declared.answer.Turns.{Turns}
use Rattle.trip_count.specs.declared.answer.Turns.TheVariants.{Count, Exactly, Guarded, Unknown}
use Rattle.trip_count.specs.declared.answer.Why.TheVariants.{NotACompare}
use Rattle.fresh_scev.specs.Expressions.{Expression, expression_of, IsCut, own, symbol, counter}
use Rattle.fresh_scev.specs.Rules.{have_width, fitting, IsCutOf}

-- the induction variable e with that label: lower + step * C(n,1)
abbrev pub IsVariable : ℕ → ℕ → ℕ → Expression → Expression → Expression → Type 0
IsVariable loop w label lower step e =
    fitting (have_width w lower step) w label e (IsCutOf w label e (λ p. IsChain (2 ^ w) (counter loop) p lower.p step.p))

-- an argument is still its symbol, and is yielded as itself plus p
pub record Grows (loop w label : ℕ) (old init yielded : Expression) (p : Polynomial) : Type 0 where
  pub unsolved : old ≡ own w label
  pub widths : have_width w init yielded ≡ true
  pub step : IsStep (2 ^ w) (symbol label) (counter loop) yielded.p p

-- what a round makes of an argument: the initial value plus the sum of p over the iterations, or what it was
pub data IsNext (loop w label : ℕ) (old init yielded new : Expression) : Type 0 where
  solved : (p : Polynomial) → Grows loop w label old init yielded p
      → IsCutOf w label new (λ r. IsChain (2 ^ w) (counter loop) r init.p p) → IsNext loop w label old init yielded new
  stays : ((p : Polynomial) → Grows loop w label old init yielded p → ⊥) → new ≡ old → IsNext loop w label old init yielded new

-- the solved argument, or none where it stays
abbrev pub IsSolution : ℕ → ℕ → ℕ → Expression → Expression → Expression → Option Expr → Type 0
IsSolution loop w label old init yielded (Some e) =
    (p : Polynomial) × Grows loop w label old init yielded p
    × IsCutOf w label (expression_of e) (λ r. IsChain (2 ^ w) (counter loop) r init.p p)
IsSolution loop w label old init yielded None = (p : Polynomial) → Grows loop w label old init yielded p → ⊥

-- the trip count t of a loop whose test compares two expressions of one width
pub record IsCompared (loop : ℕ) (pred : Pred) (a b : Expression) (t : Turns) : Type 0 where
  pub d : Polynomial
  pub difference : IsDifference (2 ^ a.w) d a.p b.p
  pub count : IsCountOf a.w (kind_at a.w (counter loop) pred a.p b.p d) t

abbrev pub comparing : Bool → ℕ → Pred → Expression → Expression → Turns → Type 0
comparing true loop pred a b t = IsCompared loop pred a b t
comparing false loop pred a b t = t ≡ Unknown NotACompare

abbrev pub AreComparedTurns : ℕ → Pred → Expression → Expression → Turns → Type 0
AreComparedTurns loop pred a b t = comparing (b.w == a.w) loop pred a b t

-- the same of a condition that is a number
abbrev pub constant_turns : ℕ → Turns
constant_turns v = always (not (v == 0))

-- c is a, linear in the counter, in the iteration that the value of e names
pub record IsAtValue (w loop : ℕ) (e : Expr) (a c : Polynomial) : Type 0 where
  pub wide : w ≤ e.w
  pub within : IsWithin (polynomial_of e.tree)
  pub base : Polynomial
  pub slope : Polynomial
  pub line : IsLine (2 ^ w) (counter loop) base slope a
  pub turns : Polynomial
  pub truncated : IsTruncated (2 ^ w) turns (polynomial_of e.tree)
  pub moved : Polynomial
  pub product : IsProduct (2 ^ w) moved slope turns
  pub small : IsWithin moved
  pub sum : IsSum (2 ^ w) c base moved

-- c is a where the loop ends; a guarded count counts where its guard is proved
abbrev pub IsAtEnd : Type 0 → ℕ → ℕ → Turns → Polynomial → Polynomial → Type 0
IsAtEnd proved w loop (Count n) a c = IsAt (2 ^ w) (counter loop) n c a
IsAtEnd proved w loop (Exactly e) a c = IsAtValue w loop e a c
IsAtEnd proved w loop (Guarded pred from to e) a c = proved × IsAtValue w loop e a c
IsAtEnd proved w loop _ a c = ⊥

-- an expression of width w whose polynomial has the property, or none where no polynomial has it
abbrev pub IsFound : ℕ → (Polynomial → Type 0) → Option Expr → Type 0
IsFound w P (Some c) = (c.w ≡ w) × P (polynomial_of c.tree)
IsFound w P None = (c : Polynomial) → P c → ⊥

-- an exit value: all its variables are below the counter
pub record IsExitValue (proved : Type 0) (w loop : ℕ) (t : Turns) (a : Expression) (c : Polynomial) : Type 0 where
  pub width : a.w ≡ w
  pub ends : IsAtEnd proved w loop t a.p c
  pub under : Under c (counter loop)

-- the comparison of two expressions is the guard of a trip count, as it stands or turned
abbrev pub IsGuard : Turns → Pred → Expression → Expression → Type 0
IsGuard (Guarded pred a c e) test left right =
    ((test ≡ pred) × (left ≡ expression_of a) × (right ≡ expression_of c))
    ⊎ ((test ≡ swapped pred) × (left ≡ expression_of c) × (right ≡ expression_of a))
IsGuard _ test left right = ⊥

-- a result e of a loop, by the expression a of what is carried to it
pub data IsResult (proved : Type 0) (w loop label : ℕ) (t : Turns) (a e : Expression) : Type 0 where
  settled : (c : Polynomial) → IsExitValue proved w loop t a c → IsCut w label c e → IsResult proved w loop label t a e
  unsettled : ((c : Polynomial) → IsExitValue proved w loop t a c → ⊥) → e ≡ own w label → IsResult proved w loop label t a e
