-- Where a loop was left, each result that has an exit value has the number of its expression.
use Rattle.std.proofs.Common.{◌≡◌, ℕ, ◌+◌, ◌/◌, ◌%◌, ◌==◌, ◌<◌, ◌≤◌, inl, inr, List, [], ◌∷◌, length, if◌then◌else◌, ap, ◌∙◌, arith}
use Rattle.mlir_ir.specs.Runs.{Number, number, Binding, Iteration, Report, look, binds, definitions}
use Rattle.mlir_ir.specs.Words.{bits_of}
use Rattle.pass_copy.specs.Reported.{AllHoldAt}
use Rattle.pass_copy.proofs.Bindings.{bound, same_or, look_same, look_other}
use Rattle.pass_copy.proofs.KeptLabels.{binds_kept}
use Rattle.pass_expand.specs.Computed.{AreInFront, numbers_in}
use Rattle.pass_indvar.specs.Exits.{Exit, IsExit, AreExits, value_in}
use Rattle.scev_tree.specs.Polynomial.{Polynomial}
use Rattle.scev_tree.specs.Standing.{Stands}
use Rattle.scev_tree.specs.Value.{numbers}
use Rattle.scev_tree.proofs.Agreeing.{value_agrees}

-- the value of an expression whose symbols have the same numbers
pub value_in_same : (p : Polynomial) (env env' : List Binding) → ((x : ℕ) → Stands x p → look env (x / 2) ≡ look env' (x / 2)) → value_in env p ≡ value_in env' p
value_in_same p env env' same =
    value_agrees (numbers (numbers_in env) (λ l. 0)) (numbers (numbers_in env') (λ l. 0)) p (λ x s. λ j. if x % 2 == 0 then 0 else (same x s j).v)

module _ (e : Exit) (t : ℕ) (front : AreInFront t e.expr) where
  value_kept : (env : List Binding) (at : ℕ) (n : Number) → t ≤ at → number (bits_of e.ty) (value_in (bound at n ∷ env) e.expr) ≡ number (bits_of e.ty) (value_in env e.expr)
  value_kept env at n le =
      ap (number (bits_of e.ty)) (value_in_same e.expr (bound at n ∷ env) env (λ x s. look_other at n (x / 2) env (λ q. let lt = front x s in omega (arith, lt))))

  pub defined_number : (at : ℕ) (ns : List Number) (around : List Iteration) (env : List Binding) → t ≤ at → at ≤ e.result → e.result < at + length ns
      → AllHoldAt (IsExit e) (definitions at ns around env) → look (binds at ns env) e.result ≡ number (bits_of e.ty) (value_in env e.expr)
  defined_number at [] around env le low high h = absurd (omega arith)
  defined_number at (n ∷ ns) around env le low high h = elim (same_or at e.result) [
    | inl q ↦ binds_kept (at + 1) ns (bound at n ∷ env) e.result (omega arith) ∙ look_same at n e.result env q ∙ h.0 q ∙ value_kept env at n le
    | inr ne ↦ defined_number (at + 1) ns around (bound at n ∷ env) (omega arith) (omega (arith, ne)) (omega arith) h.1 ∙ value_kept env at n le
  ]

pub first_exit : (e : Exit) (es : List Exit) (reports : List Report) → AllHoldAt (AreExits (e ∷ es)) reports → AllHoldAt (IsExit e) reports
first_exit e es [] h = tt
first_exit e es (r ∷ reports) h = (h.0.0, first_exit e es reports h.1)

pub rest_exits : (e : Exit) (es : List Exit) (reports : List Report) → AllHoldAt (AreExits (e ∷ es)) reports → AllHoldAt (AreExits es) reports
rest_exits e es [] h = tt
rest_exits e es (r ∷ reports) h = (h.0.1, rest_exits e es reports h.1)
