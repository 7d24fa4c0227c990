-- The numbers of a loop's results are those of the expressions that facts give them.
use Rattle.std.proofs.Common.{◌≡◌, ℕ, ◌+◌, ◌%◌, ◌^◌, Bool, true, false, List, [], ◌∷◌, length, refl, ap, ◌∙◌, subst, arith, if◌then◌else◌}
use Rattle.std.proofs.lemmas.Bool.{and_parts}
use Rattle.arith_word.specs.declared.label.Label.{Label}
use Rattle.mlir_ir.proofs.LabelsFit.{labels_fit}
use Rattle.mlir_ir.specs.Check.{IsWellFormed}
use Rattle.mlir_ir.specs.Operations.{OpKind, Simple, If, For, While, labels_of, inner_labels}
use Rattle.mlir_ir.specs.Runs.{Number, number, Binding, Iteration, Report, arrived, defined, left, run_of}
use Rattle.mlir_ir.specs.Typed.{Types}
use Rattle.mlir_ir.specs.Words.{bits_of}
use Rattle.mlir_ir.specs.declared.types.Func.{Func}
use Rattle.mlir_ir.specs.declared.types.IrType.{IrType}
use Rattle.scev_tree.proofs.Agreeing.{value_agrees}
use Rattle.scev_tree.specs.Polynomial.{Polynomial}
use Rattle.scev_tree.specs.Value.{value, numbers}
use Rattle.fresh_scev.proofs.ResultWidths.{ruled_are_wide, merged_are_wide, carried_are_wide, passed_on_are_wide}
use Rattle.fresh_scev.specs.Bits.{HaveBits}
use Rattle.fresh_scev.specs.Expressions.{Expression}
use Rattle.fresh_scev.specs.Facts.{Facts, IsKind, IsFacts}
use Rattle.fresh_scev.specs.Widths.{AreWide}
use Rattle.scev_soundness.proofs.Functions.{function_sound}
use Rattle.scev_soundness.specs.Holding.{HasValue, Holds, AllHold, iteration_in, point}
use Rattle.pass_copy.proofs.AloneLoops.{alone_at_label}
use Rattle.pass_copy.specs.Replaced.{Operation, StandsAt}
use Rattle.pass_copy.specs.Reported.{Claim, AllHoldAt, HoldsIn}
use Rattle.pass_expand.proofs.ScopedSymbols.{expands_plain}
use Rattle.pass_expand.specs.Computed.{numbers_in}
use Rattle.pass_expand.specs.Expandable.{IsInSymbols, expands}
use Rattle.pass_indvar.specs.Exits.{Exit, is_used, fits, exits_from, exits, value_in, IsExit, AreExits, DoExitsHold}
use Rattle.pass_chain.proofs.FactPlans.{same_number}
use Rattle.pass_chain.proofs.LoopFacts.{has_clause}
use Rattle.pass_chain.specs.Given.{given_from, given_results}

-- ---- results have the widths of their types

pub results_are_wide : (F : Facts) (conditions : List Label) (kind : OpKind) (results : List IrType) (t : ℕ)
    → IsKind conditions kind results t F → AreWide F (t + inner_labels kind) results
results_are_wide F conditions (Simple does) results t h =
    let e : t ≡ t + inner_labels (Simple does) = omega arith in
    subst (λ l. AreWide F l results) e (ruled_are_wide F t results does h)
results_are_wide F conditions (If c first firsts has_else other others) results t h =
    let e : t + labels_of first + labels_of other ≡ t + inner_labels (If c first firsts has_else other others) = omega arith in
    subst (λ l. AreWide F l results) e
    (merged_are_wide F t (t + labels_of first + labels_of other) results firsts others h.2)
results_are_wide F conditions (For lower upper step iv args inits body ends) results t h =
    let res = t + 2 + length args + labels_of body in
    let e : res ≡ t + inner_labels (For lower upper step iv args inits body ends) = omega arith in
    subst (λ l. AreWide F l results) e (carried_are_wide F conditions t (t + 2) res results h.2)
results_are_wide F conditions (While args inits before passed cond after_args after ends) results t h =
    let res = t + 1 + length args + labels_of before + length after_args + labels_of after in
    let e : res ≡ t + inner_labels (While args inits before passed cond after_args after ends) = omega arith in
    subst (λ l. AreWide F l results) e (passed_on_are_wide F conditions t passed res results h.2)

-- ---- expressions in symbols

odd_number : (s a b : ℕ → ℕ) (x : ℕ) → x % 2 ≡ 1 → numbers s a x ≡ numbers s b x
odd_number s a b x e = rw e refl

-- the value of an expression in symbols is the same in all iterations
pub value_in_symbols : (env : List Binding) (around : List Iteration) (p : Polynomial) → IsInSymbols p
    → value (point env around) p ≡ value_in env p
value_in_symbols env around p plain =
    value_agrees (point env around) (numbers (numbers_in env) (λ l. 0)) p
    (λ x s. odd_number (numbers_in env) (iteration_in around) (λ l. 0) x (plain x s))

-- the number of a value by the value v of its expression
pub number_at : (w v : ℕ) (e : Expression) (n : Number) (env : List Binding) (around : List Iteration) → e.w ≡ w
    → value (point env around) e.p ≡ v → HasValue env around e n → n ≡ number w v
number_at w v e n env around wide is h =
    same_number n (number w v) (h.width ∙ wide)
    (h.number ∙ (ap (λ x. x % 2 ^ e.w) is ∙ ap (λ x. v % 2 ^ x) wide))

-- ---- the exits of a loop

chosen : (c : Bool) (e : Exit) (es : List Exit) (report : Report) → (c ≡ true → IsExit e report) → AreExits es report
    → AreExits (if c then e ∷ es else es) report
chosen true e es report one more = (one refl, more)
chosen false e es report one more = more

module _ (f : Func) (T : Types) (F : Facts) where
  abbrev exit_at : ℕ → IrType → Exit
  exit_at l ty = record { result = l; ty = ty; expr = (F.expr l).p }

  exit_holds : (l : ℕ) (ty : IrType) (report : Report) → (F.expr l).w ≡ bits_of ty
      → fits f T l ty (F.expr l).p ≡ true → Holds F report → IsExit (exit_at l ty) report
  exit_holds l ty (arrived at env around) wide fit h = tt
  exit_holds l ty (left loop turns env around) wide fit h = tt
  exit_holds l ty (defined label n env around) wide fit h = λ e. (
      let g : HasValue env around (F.expr l) n = subst (λ (x : ℕ). HasValue env around (F.expr x) n) e h in
      let plain = expands_plain T ty (F.expr l).p (and_parts (is_used f l) (expands T ty (F.expr l).p) fit).1 in
      number_at (bits_of ty) (value_in env (F.expr l).p) (F.expr l) n env around wide
      (value_in_symbols env around (F.expr l).p plain) g)

  exits_hold : (l : ℕ) (tys : List IrType) (report : Report) → AreWide F l tys → Holds F report
      → AreExits (exits_from f T l tys (given_from F l (length tys))) report
  exits_hold l [] report wide h = tt
  exits_hold l (ty ∷ tys) report wide h =
      chosen (fits f T l ty (F.expr l).p) (exit_at l ty) (exits_from f T (l + 1) tys (given_from F (l + 1) (length tys)))
      report (λ fit. exit_holds l ty report wide.0.0 fit h) (exits_hold (l + 1) tys report wide.1 h)

-- ---- all that runs report

pub claims_held : (F : Facts) (H : Claim) → ((report : Report) → Holds F report → H report) → (reports : List Report)
    → AllHold F reports → AllHoldAt H reports
claims_held F H says [] h = tt
claims_held F H says (report ∷ reports) h = (says report h.0, claims_held F H says reports h.1)

pub claim_in_runs : (f : Func) (F : Facts) (H : Claim) → IsWellFormed f → HaveBits f → IsFacts f F
    → ((report : Report) → Holds F report → H report) → HoldsIn H f
claim_in_runs f F H well bits is says args replies budget many =
    claims_held F H says (run_of f args replies budget).reports (function_sound f F args replies budget well bits is many)

-- results have the numbers of the expressions that facts give them
pub given_exits : (f : Func) (F : Facts) (t : ℕ) (o : Operation) → IsWellFormed f → HaveBits f → IsFacts f F
    → StandsAt f t o → DoExitsHold f t (given_results F t o)
given_exits f F t o well bits is stands q T there scope =
    let e : o ≡ q = alone_at_label f (labels_fit f well) t o q stands there in
    let clause = has_clause t o F f is stands in
    let wide = results_are_wide F clause.0 o.kind o.results t clause.1 in
    subst (λ (x : Operation). HoldsIn (AreExits (exits f T t x (given_results F t o))) f) e
    (claim_in_runs f F (AreExits (exits f T t o (given_results F t o))) well bits is
    (λ report h. exits_hold f T F (t + inner_labels o.kind) o.results report wide h))
