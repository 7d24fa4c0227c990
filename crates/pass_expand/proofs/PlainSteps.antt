-- Operations that never trap and take nothing from the state: how a run of them ends.
use Rattle.std.proofs.Common.{◌≡◌, ℕ, suc, ◌+◌, List, [], ◌∷◌, ◌++◌, length, Option, Some, None, refl, ap, ◌∙◌, arith}
use Rattle.arith_word.specs.Operation.{value_of}
use Rattle.mlir_ir.specs.Operations.{SimpleOp, Const, Bin, Cast, Cmp, Select, Call}
use Rattle.mlir_ir.specs.Runs.{number, Binding, State, Done, look, computed}
use Rattle.mlir_ir.specs.Words.{bits_of}
use Rattle.mlir_ir.specs.declared.types.IrType.{IrType}
use Rattle.pass_copy.proofs.Bindings.{bound}
use Rattle.pass_copy.proofs.KeptLabels.{Kept, kept_self, kept_after, binds_kept}
use Rattle.pass_copy.proofs.RunEnds.{ends_ops}
use Rattle.pass_expand.specs.Expanded.{given_names}

-- constants, sums and products
abbrev pub IsPlain : SimpleOp → Type 0
IsPlain (Const v) = Unit {0}
IsPlain (Bin op flags a b) = (w x y : ℕ) → (v : ℕ) × (value_of op w x y ≡ Some v)
IsPlain _ = ⊥

abbrev pub ArePlain : List SimpleOp → Type 0
ArePlain [] = Unit {0}
ArePlain (d ∷ does) = IsPlain d × ArePlain does

pub plain_append : (does more : List SimpleOp) → ArePlain does → ArePlain more → ArePlain (does ++ more)
plain_append [] more h g = g
plain_append (d ∷ does) more h g = (h.0, plain_append does more h.1 g)

abbrev pub or_zero : Option ℕ → ℕ
or_zero None = 0
or_zero (Some v) = v

-- the numbers in scope after operations of one type, of which the first has the label `at`
abbrev pub after_steps : IrType → ℕ → List Binding → List SimpleOp → List Binding
after_steps ty at env [] = env
after_steps ty at env (d ∷ does) = after_steps ty (at + 1) (bound at (number (bits_of ty) (or_zero (computed env (bits_of ty) d))) ∷ env) does

module _ (ty : IrType) where
  pub after_kept : (at : ℕ) (env : List Binding) (does : List SimpleOp) → Kept at env (after_steps ty at env does)
  after_kept at env [] = kept_self at env
  after_kept at env (d ∷ does) =
      let n = number (bits_of ty) (or_zero (computed env (bits_of ty) d)) in
      kept_after at (at + 1) env (bound at n ∷ env) (after_steps ty (at + 1) (bound at n ∷ env) does) (omega arith) (binds_kept at (n ∷ []) env) (after_kept (at + 1) (bound at n ∷ env) does)

  pub after_more : (at : ℕ) (env : List Binding) (does more : List SimpleOp) → after_steps ty at env (does ++ more) ≡ after_steps ty (at + length does) (after_steps ty at env does) more
  after_more at env [] more = let e : at ≡ at + 0 = omega arith in ap (λ n. after_steps ty n env more) e
  after_more at env (d ∷ does) more =
      let now = bound at (number (bits_of ty) (or_zero (computed env (bits_of ty) d))) ∷ env in
      let e : at + 1 + length does ≡ at + suc (length does) = omega arith in
      after_more (at + 1) now does more ∙ ap (λ n. after_steps ty n (after_steps ty (at + 1) now does) more) e

  -- a run of them ends in the same state
  pub plain_ends : (fresh : ℕ → List ℕ) (k at fuel : ℕ) (does : List SimpleOp) (env : List Binding) (s : State) → ArePlain does
      → ends_ops (given_names fresh ty k does) fuel at env s ≡ Done (after_steps ty at env does) s
  plain_ends fresh k at fuel [] env s h = refl
  plain_ends fresh k at fuel (Const v ∷ does) env s h = plain_ends fresh (k + 1) (at + 1) fuel does (bound at (number (bits_of ty) v) ∷ env) s h.1
  plain_ends fresh k at fuel (Bin op flags a b ∷ does) env s h =
      let e = h.0 (bits_of ty) (look env a.0).v (look env b.0).v in
      rw e.1 (plain_ends fresh (k + 1) (at + 1) fuel does (bound at (number (bits_of ty) e.0) ∷ env) s h.1)
  plain_ends fresh k at fuel (Cast op flags a ∷ does) env s h = absurd h.0
  plain_ends fresh k at fuel (Cmp pred a b ∷ does) env s h = absurd h.0
  plain_ends fresh k at fuel (Select c a b ∷ does) env s h = absurd h.0
  plain_ends fresh k at fuel (Call func passed ∷ does) env s h = absurd h.0
