-- What is carried through a run: the facts agree with the values in scope.
use Rattle.std.specs.Prelude.{ℕ, ◌≡◌, ◌≢◌, ◌+◌, ◌^◌, ◌<◌, ◌≤◌, List, [], ◌∷◌, Some, if◌then◌else◌}
use Rattle.arith_word.specs.Operation.{holds}
use Rattle.arith_word.specs.declared.label.Label.{Label}
use Rattle.chrec_algebra.specs.Limits.{IsWithin}
use Rattle.mlir_ir.specs.Runs.{Number, Binding, Iteration, End, Done, Stopped, Segment, look}
use Rattle.mlir_ir.specs.Typed.{Types}
use Rattle.mlir_ir.specs.Words.{bits_of}
use Rattle.mlir_ir.specs.declared.types.IrType.{IrType}
use Rattle.fresh_scev.specs.Expressions.{Expression, counter}
use Rattle.fresh_scev.specs.Facts.{Facts, Comparison, untested, tested}
use Rattle.scev_tree.specs.Polynomial.{IsCanonical, Under}
use Rattle.scev_soundness.specs.Holding.{HasValue, IsBound, AllHold}

-- the expression of a value of width w is canonical and within the limits, in variables of its
-- label and below
pub record IsGood (w label : ℕ) (e : Expression) : Type 0 where
  pub width : e.w ≡ w
  pub canon : IsCanonical (2 ^ w) e.p
  pub under : Under e.p (counter (label + 1))
  pub within : IsWithin e.p

-- a value is the result of that comparison of values before it
pub record IsTestOf (T : Types) (env : List Binding) (label : ℕ) (c : Comparison) : Type 0 where
  pub ty : IrType
  pub left : T c.left ≡ Some ty
  pub right : T c.right ≡ Some ty
  pub left_below : c.left < label
  pub right_below : c.right < label
  pub result : (look env label).v
      ≡ (if holds c.pred (bits_of ty) (look env c.left).v (look env c.right).v then 1 else 0)

-- a condition is in scope and isn't 0
pub record IsTrueIn (T : Types) (env : List Binding) (c : Label) : Type 0 where
  pub ty : IrType
  pub known : T c.0 ≡ Some ty
  pub true_it : (look env c.0).v ≢ 0

abbrev pub AreTrueIn : Types → List Binding → List Label → Type 0
AreTrueIn T env [] = Unit {0}
AreTrueIn T env (c ∷ conditions) = IsTrueIn T env c × AreTrueIn T env conditions

-- a value with that label, which is below `at`, has the number of its expression
pub record IsHeld (F : Facts) (at : ℕ) (env : List Binding) (around : List Iteration)
    (label : ℕ) : Type 0 where
  pub w : ℕ
  pub good : IsGood w label (F.expr label)
  pub below : label < at
  pub number : HasValue env around (F.expr label) (look env label)

-- the values in scope, whose labels are below `at`, have the numbers of their expressions, as has
-- each value that is bound, and the conditions hold
pub record Agrees (T : Types) (F : Facts) (conditions : List Label) (at : ℕ) (env : List Binding)
    (around : List Iteration) : Type 0 where
  pub wide : (label : ℕ) (ty : IrType) → T label ≡ Some ty → 1 ≤ bits_of ty
  pub good : (label : ℕ) (ty : IrType) → T label ≡ Some ty
      → IsGood (bits_of ty) label (F.expr label)
  pub below : (label : ℕ) (ty : IrType) → T label ≡ Some ty → label < at
  pub number : (label : ℕ) (ty : IrType) → T label ≡ Some ty
      → HasValue env around (F.expr label) (look env label)
  pub bound : (label : ℕ) → IsBound env label → IsHeld F at env around label
  pub tests : (label : ℕ) (ty : IrType) (c : Comparison) → T label ≡ Some ty
      → F.role label ≡ tested c → IsTestOf T env label c
  pub guards : AreTrueIn T env conditions

-- a value that is defined with the number n
pub record IsDefined (T : Types) (F : Facts) (label : ℕ) (ty : IrType) (n : Number)
    (env : List Binding) (around : List Iteration) : Type 0 where
  pub wide : 1 ≤ bits_of ty
  pub good : IsGood (bits_of ty) label (F.expr label)
  pub number : HasValue env around (F.expr label) n
  pub tests : (c : Comparison) → F.role label ≡ tested c → IsTestOf T env label c

-- the values with labels below are the same
abbrev pub Keeps : List Binding → List Binding → ℕ → Type 0
Keeps env later at = (label : ℕ) → label < at → look later label ≡ look env label

-- what holds behind operations that began at label `at` and end before label `end`
pub record After (T : Types) (F : Facts) (conditions : List Label) (at end : ℕ)
    (env later : List Binding) (around : List Iteration) : Type 0 where
  pub agrees : Agrees T F conditions end later around
  pub keeps : Keeps env later at

-- where a segment of a run ends, the values in scope have the property
abbrev pub Ends : End → (List Binding → Type 0) → Type 0
Ends (Done env s) P = P env
Ends (Stopped stop trace) P = Unit {0}

-- facts hold of all reports of a segment, and where it ends the values in scope have the property
pub record IsSound (F : Facts) (r : Segment) (P : List Binding → Type 0) : Type 0 where
  pub holds : AllHold F r.reports
  pub ends : Ends r.end P

-- a value that isn't a comparison's result gets the number n, whatever else is in scope from
-- label `at` on
pub record IsReady (F : Facts) (at : ℕ) (env : List Binding) (around : List Iteration)
    (label : ℕ) (ty : IrType) (n : Number) : Type 0 where
  pub wide : 1 ≤ bits_of ty
  pub good : IsGood (bits_of ty) label (F.expr label)
  pub number : (later : List Binding) → Keeps env later at → look later label ≡ n
      → HasValue later around (F.expr label) n
  pub plain : F.role label ≡ untested

-- the same of values beside one another
abbrev pub AreReady : Facts → ℕ → List Binding → List Iteration → ℕ → List IrType → List Number
    → Type 0
AreReady F at env around label [] [] = Unit {0}
AreReady F at env around label (ty ∷ tys) (n ∷ ns) =
    IsReady F at env around label ty n × AreReady F at env around (label + 1) tys ns
AreReady F at env around label _ _ = ⊥
