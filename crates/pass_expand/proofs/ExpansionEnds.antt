-- How a run of an expansion ends.
use Rattle.std.proofs.Common.{◌≡◌, ℕ, ◌+◌, ◌-◌, ◌*◌, ◌/◌, ◌%◌, List, [], ◌∷◌, length, None, refl, ap, ◌∙◌, arith}
use Rattle.std.proofs.lemmas.Bool.{ne_eqb}
use Rattle.mlir_ir.specs.Runs.{Binding, Iteration, State, Done, look, number, run_ops}
use Rattle.mlir_ir.specs.Words.{bits_of}
use Rattle.mlir_ir.specs.declared.types.IrType.{IrType}
use Rattle.pass_copy.proofs.KeptLabels.{Kept, kept_self}
use Rattle.pass_copy.proofs.RunEnds.{ends_ops, ops_ends}
use Rattle.pass_expand.specs.Computed.{AreInFront, AreOwn, IsComputed, numbers_in}
use Rattle.pass_expand.specs.Expandable.{IsInSymbols}
use Rattle.pass_expand.specs.Expanded.{expansion, expansion_end, steps, size}
use Rattle.pass_expand.specs.Terms.{Term, terms, some_term, terms_of}
use Rattle.pass_expand.proofs.PlainSteps.{after_steps, after_kept, plain_ends}
use Rattle.pass_expand.proofs.ExpansionLabels.{last_label, some_labels}
use Rattle.pass_expand.proofs.GivenNames.{given_labels}
use Rattle.pass_expand.proofs.StepReports.{plain_reports}
use Rattle.pass_expand.proofs.StepValues.{InFront, total, steps_plain, first_value}
use Rattle.pass_expand.proofs.TermSymbols.{TermsOf, symbols_of}
use Rattle.pass_expand.proofs.TermValues.{total_some, total_value}
use Rattle.scev_tree.specs.Polynomial.{Polynomial}
use Rattle.scev_tree.specs.Standing.{Stands}
use Rattle.scev_tree.specs.Value.{value, numbers}

-- the values in scope behind an expansion
abbrev pub scope_after : IrType → ℕ → Polynomial → List Binding → List Binding
scope_after ty at p env = after_steps ty at env (steps ty at None (terms_of p))

pub expansion_ends : (fresh : ℕ → List ℕ) (ty : IrType) (k at : ℕ) (p : Polynomial) (fuel : ℕ) (env : List Binding) (s : State)
    → ends_ops (expansion fresh ty k at p) fuel at env s ≡ Done (scope_after ty at p env) s
expansion_ends fresh ty k at p fuel env s = plain_ends ty fresh k at fuel (steps ty at None (terms_of p)) env s (steps_plain ty at None (terms_of p))

pub expansion_keeps : (ty : IrType) (at : ℕ) (p : Polynomial) (env : List Binding) → Kept at env (scope_after ty at p env)
expansion_keeps ty at p env = after_kept ty at env (steps ty at None (terms_of p))

some_value : (ty : IrType) (at : ℕ) (ts : List Term) (env : List Binding) → TermsOf (InFront at) (some_term ts)
    → look (after_steps ty at env (steps ty at None (some_term ts))) (at + size (some_term ts) - 2) ≡ number (bits_of ty) (total env (some_term ts))
some_value ty at [] env b = let i : at + 2 - 2 ≡ at + 0 + 0 = omega arith in ap (look (after_steps ty at env (steps ty at None (some_term [])))) i ∙ first_value ty at (record { coefficient = 0; symbols = [] }) [] env b
some_value ty at (t ∷ ts) env b =
    let i : at + size (t ∷ ts) - 2 ≡ at + length t.symbols + size ts = omega arith in
    ap (look (after_steps ty at env (steps ty at None (t ∷ ts)))) i ∙ first_value ty at t ts env b

-- the number of its value, where `symbols` has the numbers of the variables
pub expansion_value : (ty : IrType) (at : ℕ) (p : Polynomial) (env : List Binding) (symbols : ℕ → ℕ) → IsInSymbols p → AreInFront at p
    → ((x : ℕ) → Stands x p → symbols x ≡ (look env (x / 2)).v) → look (scope_after ty at p env) (expansion_end at p) ≡ number (bits_of ty) (value symbols p)
expansion_value ty at p env symbols odd front same =
    let one : value symbols p * 1 ≡ value symbols p = omega arith in
    some_value ty at (terms p []) env (symbols_of (InFront at) p front)
    ∙ ap (number (bits_of ty)) (total_some env (terms p []) ∙ total_value env symbols p [] (λ x s. (odd x s, same x s)) ∙ one)

pub expansion_reports : (fresh : ℕ → List ℕ) (ty : IrType) (k at : ℕ) (p : Polynomial) (fuel : ℕ) (around : List Iteration) (env : List Binding) (s : State)
    → AreOwn at (expansion_end at p) env around (run_ops (expansion fresh ty k at p) fuel at around env s).reports
expansion_reports fresh ty k at p fuel around env s =
    let does = steps ty at None (terms_of p) in
    let e = last_label fresh ty k at p in
    let n = given_labels fresh ty k does in
    let some = some_labels fresh ty k at p in
    plain_reports ty fresh at (expansion_end at p) around env k at fuel does env s (steps_plain ty at None (terms_of p)) (omega arith) (omega (arith, e, n, some)) (kept_self at env)

odd_symbol : (symbols turns : ℕ → ℕ) (x : ℕ) → x % 2 ≡ 1 → numbers symbols turns x ≡ symbols (x / 2)
odd_symbol symbols turns x e = rw (ne_eqb (x % 2) 0 (λ z. omega arith)) refl

pub expansion_computes : (fresh : ℕ → List ℕ) (ty : IrType) (k at : ℕ) (p : Polynomial) (fuel : ℕ) (around : List Iteration) (env : List Binding) (s : State) → IsInSymbols p
    → AreInFront at p → IsComputed ty at p env around s (run_ops (expansion fresh ty k at p) fuel at around env s)
expansion_computes fresh ty k at p fuel around env s odd front = record {
  scope = scope_after ty at p env;
  ends = ops_ends (expansion fresh ty k at p) fuel at around env s ∙ expansion_ends fresh ty k at p fuel env s;
  value = λ turns. expansion_value ty at p env (numbers (numbers_in env) turns) odd front (λ x h. odd_symbol (numbers_in env) turns x (odd x h));
  kept = expansion_keeps ty at p env;
  reports = expansion_reports fresh ty k at p fuel around env s;
}
