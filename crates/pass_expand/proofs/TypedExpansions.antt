-- An expansion is well typed where its symbols have the type, and its values have it then.
use Rattle.std.proofs.Common.{◌≡◌, ℕ, ◌+◌, ◌/◌, ◌^◌, ◌<◌, ◌≤◌, ◌||◌, Bool, inl, inr, nat_lt, true, false, List, [], ◌∷◌, length, Some, None, refl, ap, ◌∙◌, sym, subst, arith}
use Rattle.std.proofs.lemmas.Bool.{cases_eq, eq-eqb}
use Rattle.std.proofs.lemmas.Bool.Decides.{nat_tests}
use Rattle.std.specs.Option.{is_some}
use Rattle.mlir_ir.specs.Operations.{SimpleOp, Simple, Const, Bin, Cast, Cmp, Select, Call, labels_of}
use Rattle.mlir_ir.specs.Rules.{same_type, may_wrap}
use Rattle.mlir_ir.specs.Typed.{Types, with_types, types_after, TypedOp, TypedOps}
use Rattle.mlir_ir.specs.Words.{bits_of}
use Rattle.mlir_ir.specs.declared.types.IrType.{IrType}
use Rattle.mlir_ir.specs.declared.types.IrType.TheVariants.{Int, Index}
use Rattle.pass_copy.proofs.BuiltBehind.{one_pack}
use Rattle.pass_copy.proofs.CarriedTypes.{Carries, Below, below_with, below_after, with_keeps, after_keeps}
use Rattle.pass_copy.proofs.RenamedOps.{same}
use Rattle.pass_expand.specs.Expanded.{given_names, expansion, expansion_end, steps}
use Rattle.pass_expand.specs.Terms.{terms_of}
use Rattle.pass_expand.proofs.ExpansionLabels.{end_within}
use Rattle.pass_expand.proofs.GivenNames.{given_labels}
use Rattle.pass_expand.proofs.StepUses.{IsUsable, Uses, AllUse, steps_use}
use Rattle.pass_expand.proofs.TermSymbols.{symbols_of}
use Rattle.scev_tree.specs.Polynomial.{Polynomial}
use Rattle.scev_tree.specs.Standing.{Stands}

same_self : (ty : IrType) → same_type ty ty ≡ true
same_self (Int w) = eq-eqb w w refl
same_self Index = refl

or_true : (b : Bool) → (b || true) ≡ true
or_true true = refl
or_true false = refl

module _ (fresh : ℕ → List ℕ) (ty : IrType) where
  -- values of the type
  abbrev pub HasType : Types → ℕ → Type 0
  HasType T l = T l ≡ Some ty

  -- the scope behind one more value
  abbrev with_one : Types → ℕ → Types
  with_one T at = with_types T (at + 0) (ty ∷ [])

  one_known : (T : Types) (at : ℕ) → Below at T → HasType (with_one T at) at
  one_known T at b = let e : at + 0 ≡ at = omega arith in rw (b at (omega arith), eq-eqb (at + 0) at e) refl

  one_below : (T : Types) (at : ℕ) → Below at T → Below (at + 1) (with_one T at)
  one_below T at b = below_with at (at + 0) (at + 1) (ty ∷ []) T b (omega arith) (omega arith)

  kept_type : (T T' : Types) (l : ℕ) → Carries same T T' → HasType T l → HasType T' l
  kept_type T T' l c e = c l (ap is_some e) ∙ e

  constant_fits : (v : ℕ) → v < 2 ^ bits_of ty → nat_lt v (2 ^ bits_of ty) ≡ true
  constant_fits v h = grind (arith, nat_tests)

  module _ (P : ℕ → Type 0) (at : ℕ) where
    op_typed : (T : Types) (now : ℕ) (name : List ℕ) (d : SimpleOp) → ((l : ℕ) → IsUsable P ty at now l → HasType T l) → Uses P ty at now d
        → TypedOp T (one_pack name) (ty ∷ []) (Simple d)
    op_typed T now name (Const v) h u = record { in_scope = refl; typed = constant_fits v u; packed = refl; counted = refl }
    op_typed T now name (Bin op flags a b) h u =
        let p = h a.0 u.1 in
        let q = h b.0 u.2 in
        record { in_scope = rw (p, q) refl; typed = rw (u.0, or_true (may_wrap op), p, q, same_self ty) refl; packed = refl; counted = refl }
    op_typed T now name (Cast op flags a) h u = absurd u
    op_typed T now name (Cmp pred a b) h u = absurd u
    op_typed T now name (Select c a b) h u = absurd u
    op_typed T now name (Call func passed) h u = absurd u

    usable_later : (T : Types) (now : ℕ) → Below now T → ((l : ℕ) → IsUsable P ty at now l → HasType T l) → (l : ℕ) → IsUsable P ty at (now + 1) l → HasType (with_one T now) l
    usable_later T now b h l (inl p) = kept_type T (with_one T now) l (with_keeps T (now + 0) (ty ∷ [])) (h l (inl p))
    usable_later T now b h l (inr q) = elim (cases_eq l now) [
      | inl e ↦ subst (HasType (with_one T now)) (sym e) (one_known T now b)
      | inr ne ↦ let lt : l < now = omega (arith, q.0, q.1) in kept_type T (with_one T now) l (with_keeps T (now + 0) (ty ∷ [])) (h l (inr (q.0, lt)))
    ]

    given_typed : (T : Types) (k now : ℕ) (does : List SimpleOp) → Below now T → ((l : ℕ) → IsUsable P ty at now l → HasType T l) → AllUse P ty at now does
        → TypedOps T now (given_names fresh ty k does)
    given_typed T k now [] b h u = tt
    given_typed T k now (d ∷ does) b h u =
        (op_typed T now (fresh k) d h u.0, tt, given_typed (with_one T now) (k + 1) (now + 1) does (one_below T now b) (usable_later T now b h) u.1)

  given_known : (T : Types) (k now : ℕ) (does : List SimpleOp) (l : ℕ) → Below now T → now ≤ l → l < now + length does → HasType (types_after T now (given_names fresh ty k does)) l
  given_known T k now [] l b le lt = absurd (omega arith)
  given_known T k now (d ∷ does) l b le lt = elim (cases_eq l now) [
    | inl e ↦ kept_type (with_one T now) (types_after (with_one T now) (now + 1) (given_names fresh ty (k + 1) does)) l
        (after_keeps (with_one T now) (now + 1) (given_names fresh ty (k + 1) does)) (subst (HasType (with_one T now)) (sym e) (one_known T now b))
    | inr ne ↦ given_known (with_one T now) (k + 1) (now + 1) does l (one_below T now b) (omega arith) (omega arith)
  ]

  module _ (T : Types) (k at : ℕ) (p : Polynomial) (b : Below at T) where
    -- each symbol has the type
    abbrev pub HaveType : Type 0
    HaveType = (x : ℕ) → Stands x p → HasType T (x / 2)

    pub expansion_typed : HaveType → TypedOps T at (expansion fresh ty k at p)
    expansion_typed h =
        given_typed (HasType T) at T k at (steps ty at None (terms_of p)) b (λ l u. elim u [ inl e ↦ e | inr q ↦ absurd (omega (arith, q.0, q.1)) ])
        (steps_use (HasType T) ty at (terms_of p) (symbols_of (HasType T) p h))

    -- the values of its operations, the last of which is that of p
    pub expansion_known : (l : ℕ) → at ≤ l → l < at + labels_of (expansion fresh ty k at p) → HasType (types_after T at (expansion fresh ty k at p)) l
    expansion_known l le lt =
        let n = given_labels fresh ty k (steps ty at None (terms_of p)) in
        given_known T k at (steps ty at None (terms_of p)) l b le (omega (arith, n, lt))

    pub end_known : HasType (types_after T at (expansion fresh ty k at p)) (expansion_end at p)
    end_known = let w = end_within fresh ty k at p in expansion_known (expansion_end at p) w.0 w.1

    -- other values keep their types, and no label behind is in scope
    pub expansion_carries : Carries same T (types_after T at (expansion fresh ty k at p))
    expansion_carries = after_keeps T at (expansion fresh ty k at p)

    pub expansion_below : Below (at + labels_of (expansion fresh ty k at p)) (types_after T at (expansion fresh ty k at p))
    expansion_below = below_after at (expansion fresh ty k at p) T b
