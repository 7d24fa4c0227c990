-- The reports of operations that never trap: each is come to, and then its value is defined.
use Rattle.std.proofs.Common.{ℕ, ◌+◌, ◌≤◌, List, [], ◌∷◌, length, refl, ◌∙◌, arith}
use Rattle.mlir_ir.specs.Operations.{SimpleOp, Const, Bin, Cast, Cmp, Select, Call}
use Rattle.mlir_ir.specs.Runs.{number, Binding, Iteration, State, look, run_ops}
use Rattle.mlir_ir.specs.Words.{bits_of}
use Rattle.mlir_ir.specs.declared.types.IrType.{IrType}
use Rattle.pass_copy.proofs.Bindings.{bound}
use Rattle.pass_copy.proofs.KeptLabels.{Kept, binds_kept}
use Rattle.pass_expand.specs.Computed.{AreOwn}
use Rattle.pass_expand.specs.Expanded.{given_names}
use Rattle.pass_expand.proofs.PlainSteps.{ArePlain}

module _ (ty : IrType) (fresh : ℕ → List ℕ) (at last : ℕ) (around : List Iteration) (begin : List Binding) where
  one_kept : (now v : ℕ) (env : List Binding) → at ≤ now → Kept at begin env → Kept at begin (bound now (number (bits_of ty) v) ∷ env)
  one_kept now v env le k y lt = binds_kept now (number (bits_of ty) v ∷ []) env y (omega arith) ∙ k y lt

  pub plain_reports : (k now fuel : ℕ) (does : List SimpleOp) (env : List Binding) (s : State) → ArePlain does → at ≤ now → now + length does ≤ last + 1 → Kept at begin env
      → AreOwn at last begin around (run_ops (given_names fresh ty k does) fuel now around env s).reports
  plain_reports k now fuel [] env s h low high kept = tt
  plain_reports k now fuel (Const v ∷ does) env s h low high kept =
      let kept1 = one_kept now v env low kept in
      let l : now ≤ last = omega arith in
      ((low, l, kept, refl), ((low, l, kept1, refl), plain_reports (k + 1) (now + 1) fuel does (bound now (number (bits_of ty) v) ∷ env) s h.1 (omega arith) (omega arith) kept1))
  plain_reports k now fuel (Bin op flags a b ∷ does) env s h low high kept =
      let e = h.0 (bits_of ty) (look env a.0).v (look env b.0).v in
      let kept1 = one_kept now e.0 env low kept in
      let l : now ≤ last = omega arith in
      rw e.1 ((low, l, kept, refl), ((low, l, kept1, refl), plain_reports (k + 1) (now + 1) fuel does (bound now (number (bits_of ty) e.0) ∷ env) s h.1 (omega arith) (omega arith) kept1))
  plain_reports k now fuel (Cast op flags a ∷ does) env s h low high kept = absurd h.0
  plain_reports k now fuel (Cmp pred a b ∷ does) env s h low high kept = absurd h.0
  plain_reports k now fuel (Select c a b ∷ does) env s h low high kept = absurd h.0
  plain_reports k now fuel (Call func passed ∷ does) env s h low high kept = absurd h.0
