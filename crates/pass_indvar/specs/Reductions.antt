-- The child in which an addition in each iteration stands for a product that grows evenly from iteration to iteration.
use Rattle.std.specs.Prelude.{ℕ, ◌≡◌, ◌+◌, ◌-◌, ◌*◌, ◌==◌, ◌&&◌, Bool, true, false, drop, List, [], ◌∷◌, ◌++◌, length, Option, Some, None, if◌then◌else◌}
use Rattle.std.specs.Option.{option_or}
use Rattle.arith_word.specs.declared.op.BinOp.TheVariants.{Muli}
use Rattle.mlir_ir.specs.Operations.{OpKind, Simple, Bin, For, OpList, nil, next, labels_of, inner_labels, joined}
use Rattle.mlir_ir.specs.Reads.{plain_func}
use Rattle.mlir_ir.specs.Runs.{Iteration, arrived, defined, left, number}
use Rattle.mlir_ir.specs.Typed.{Types}
use Rattle.mlir_ir.specs.Words.{bits_of}
use Rattle.mlir_ir.specs.declared.types.Func.{Func}
use Rattle.mlir_ir.specs.declared.types.IrType.{IrType}
use Rattle.pass_copy.specs.Built.{label, sum, moved}
use Rattle.pass_copy.specs.Fresh.{fresh_names}
use Rattle.pass_copy.specs.Renamed.{relabels, keep, rename_ops, names_of}
use Rattle.pass_copy.specs.Renaming.{span, renamed}
use Rattle.pass_copy.specs.Replaced.{StandsAt, replaced_func}
use Rattle.pass_copy.specs.Reported.{Claim, HoldsIn}
use Rattle.pass_copy.specs.Scopes.{HasScope}
use Rattle.pass_copy.specs.declared.renaming.Span.{Span}
use Rattle.pass_expand.specs.Expandable.{expands}
use Rattle.pass_expand.specs.Expanded.{expansion, expansion_end}
use Rattle.pass_indvar.specs.Exits.{value_in}
use Rattle.pass_unroll.specs.Copies.{ForLoop, operation_of}
use Rattle.scev_tree.specs.Polynomial.{Polynomial, ext, none, more, variable_of}

-- ---- products that grow evenly

-- a product by its label, with its type: `start` in iteration 0, and `step` more in each next one
pub record Progression : Type 0 where
  pub product : ℕ
  pub ty : IrType
  pub start : Polynomial
  pub step : Polynomial

-- the progression that an expression is: {start,+,step} over the counter of the loop with label t alone, where the symbols of
-- both are in scope T where the loop begins, with the product's type
abbrev pub progression : Types → ℕ → ℕ → IrType → Polynomial → Option Progression
progression T t l ty (ext x (more a (more b none))) =
    if x == variable_of true t && expands T ty a && expands T ty b
    then Some (record { product = l; ty = ty; start = a; step = b })
    else None
progression T t l ty _ = None

abbrev pub is_product : OpKind → Bool
is_product (Simple (Bin Muli flags a b)) = true
is_product _ = false

-- that of a product with label l and the first entry, or else the one of what is behind it
abbrev pub first_of : Types → ℕ → ℕ → List IrType → List (Option Polynomial) → Option Progression → Option Progression
first_of T t l (ty ∷ tys) (Some p ∷ exprs) behind = option_or (progression T t l ty p) behind
first_of T t l _ _ behind = behind

-- the first product that is one, of operations of which the first begins with label `at`; `exprs` has an entry for each product
abbrev pub first_progression : Types → ℕ → ℕ → OpList → List (Option Polynomial) → Option Progression
first_progression T t at nil exprs = None
first_progression T t at (next packs results kind rest) exprs =
    if is_product kind
    then first_of T t at results exprs (first_progression T t (at + (inner_labels kind + length results)) rest (drop 1 exprs))
    else first_progression T t (at + (inner_labels kind + length results)) rest exprs

-- operations without the product that has label l
abbrev pub without : ℕ → ℕ → OpList → OpList
without l at nil = nil
without l at (next packs results kind rest) =
    if is_product kind && (at == l) then rest
    else next packs results kind (without l (at + (inner_labels kind + length results)) rest)

-- ---- the loop with one argument more

module _ (fresh : ℕ → List ℕ) (t : ℕ) (o : ForLoop) (g : Progression) where
  -- the operations of the start, and those of the step behind them
  abbrev pub start_ops : OpList
  start_ops = expansion fresh g.ty 0 t g.start

  abbrev pub step_at : ℕ
  step_at = t + labels_of start_ops

  abbrev pub step_ops : OpList
  step_ops = expansion fresh g.ty (names_of start_ops) step_at g.step

  -- the loop's label, and its fresh names from number `loop_names` on: of the argument, the addition, and the result
  abbrev pub loop_at : ℕ
  loop_at = step_at + labels_of step_ops

  abbrev pub loop_names : ℕ
  loop_names = names_of start_ops + names_of step_ops

  -- labels in the parent: what stands in the body, and the results
  abbrev pub in_body : ℕ
  in_body = t + 2 + length o.args

  abbrev pub results_at : ℕ
  results_at = in_body + labels_of o.body

  -- the argument, and what it becomes in the next iteration
  abbrev pub new_arg : ℕ
  new_arg = loop_at + 2 + length o.args

  abbrev pub new_end : ℕ
  new_end = new_arg + labels_of o.body

  -- the product's uses become the argument
  abbrev pub reduced_spans : List Span
  reduced_spans =
      span (t + 1) (1 + length o.args) (loop_at + 1)
      ∷ span in_body (g.product - in_body) (new_arg + 1)
      ∷ span g.product 1 new_arg
      ∷ span (g.product + 1) (results_at - (g.product + 1)) (g.product + 1 + (loop_at - t))
      ∷ span results_at (length o.results) (new_end + 1)
      ∷ moved (results_at + length o.results) (new_end + 2 + length o.results) ∷ []

  abbrev pub reduced_body : OpList
  reduced_body =
      joined (rename_ops (renamed reduced_spans) keep 0 (without g.product in_body o.body))
      (sum (fresh (loop_names + 1)) g.ty (label new_arg) (label (expansion_end step_at g.step)) nil)

  abbrev pub reduced_kind : OpKind
  reduced_kind =
      For o.lower o.upper o.step o.iv
      (o.args ++ record { name = fresh loop_names; ty = g.ty } ∷ [])
      (o.inits ++ label (expansion_end t g.start) ∷ [])
      reduced_body (relabels (renamed reduced_spans) o.ends ++ label new_end ∷ [])

  abbrev pub reduced_loop : OpList
  reduced_loop = next (o.packs ++ record { name = fresh (loop_names + 2); count = 1 } ∷ []) (o.results ++ g.ty ∷ []) reduced_kind nil

  abbrev pub reduced : OpList
  reduced = joined start_ops (joined step_ops reduced_loop)

-- ---- the child

-- the first product of the loop at label t that is a progression becomes an argument
pub record IsReduced (f : Func) (t : ℕ) (exprs : List (Option Polynomial)) (child : Func) : Type 0 where
  pub o : ForLoop
  pub stands : StandsAt f t (operation_of o)
  pub scope : Types
  pub in_scope : HasScope f t (λ T. T ≡ scope)
  pub g : Progression
  pub first : first_progression scope t (t + 2 + length o.args) o.body exprs ≡ Some g
  pub is : plain_func child ≡ replaced_func (renamed (reduced_spans (fresh_names f) t o g)) t (reduced (fresh_names f) t o g) f

-- no product is one
abbrev pub HasNoProgression : Func → ℕ → List (Option Polynomial) → Type 0
HasNoProgression f t exprs = (o : ForLoop) (T : Types) → StandsAt f t (operation_of o) → HasScope f t (λ now. now ≡ T)
    → first_progression T t (t + 2 + length o.args) o.body exprs ≡ None

-- ---- what the product has to be

-- in iteration k of the loop with label t the product has the number start + step * k
abbrev pub IsProgression : ℕ → Progression → Claim
IsProgression t g (arrived at env around) = Unit {0}
IsProgression t g (defined l n env around) = l ≡ g.product → (k : ℕ) (outer : List Iteration) → around ≡ record { loop = t; turn = k } ∷ outer
    → n ≡ number (bits_of g.ty) (value_in env g.start + value_in env g.step * k)
IsProgression t g (left loop turns env around) = Unit {0}

-- in every run the first product that is a progression has its numbers
abbrev pub DoesProgressionHold : Func → ℕ → List (Option Polynomial) → Type 0
DoesProgressionHold f t exprs = (o : ForLoop) (T : Types) (g : Progression) → StandsAt f t (operation_of o) → HasScope f t (λ now. now ≡ T)
    → first_progression T t (t + 2 + length o.args) o.body exprs ≡ Some g → HoldsIn (IsProgression t g) f
