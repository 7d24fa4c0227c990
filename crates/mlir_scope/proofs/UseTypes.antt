-- Operations and terminators whose uses have the types that belong to them are well typed.
use Rattle.std.proofs.Common.{◌≡◌, ℕ, zero, suc, ◌<◌, ◌==◌, ◌||◌, ◌^◌, not, nat_lt, Bool, true, List, [], ◌∷◌, length, map, refl, ap, ◌∙◌, sym, arith, eq-eqb, Some}
use Rattle.std.proofs.lemmas.List.{length-map}
use Rattle.std.specs.List.{list_all}
use Rattle.std.specs.Prelude.{slice_index_or}
use Rattle.arith_word.specs.declared.label.Label.{Label}
use Rattle.arith_word.specs.declared.op.BinOp.{BinOp}
use Rattle.arith_word.specs.declared.op.CastOp.{CastOp}
use Rattle.arith_word.specs.declared.op.Pred.{Pred}
use Rattle.mlir_ir.specs.Operations as plain
use Rattle.mlir_ir.specs.Rules.{same_type, same_types, truth, may_wrap, may_lose, has_flags, casts, packs_hold}
use Rattle.mlir_ir.specs.Typed.{Types, knows, fits, all_fit, yields, passes, TypedOp, TypedEnd}
use Rattle.mlir_ir.specs.Words.{bits_of}
use Rattle.mlir_ir.specs.declared.types.Flags.{Flags}
use Rattle.mlir_ir.specs.declared.types.IrType.{IrType}
use Rattle.mlir_ir.specs.declared.types.IrType.TheVariants.{Int, Index}
use Rattle.mlir_ir.specs.declared.types.Pack.{Pack}
use Rattle.mlir_scope.proofs.NoBreaks.{Each}
use Rattle.mlir_scope.proofs.Tests.{both, or_right}

pub same_self : (ty : IrType) → same_type ty ty ≡ true
same_self (Int n) = eq-eqb n n refl
same_self Index = refl

pub same_types_self : (tys : List IrType) → same_types tys tys ≡ true
same_types_self [] = refl
same_types_self (ty ∷ tys) = both (same_type ty ty) (same_types tys tys) (same_self ty) (same_types_self tys)

-- uses have these types, one each
abbrev pub Exact : Types → List Label → List IrType → Type 0
Exact T ls tys = map (λ (l : Label). T l.0) ls ≡ map Some tys

module _ (T : Types) where
  known : (l : Label) (ty : IrType) → T l.0 ≡ Some ty → knows T l ≡ true
  known l ty e = rw e refl

  pub fitting : (l : Label) (ty : IrType) → T l.0 ≡ Some ty → fits T ty l ≡ true
  fitting l ty e = rw e (same_self ty)

  pub exact_known : (ls : List Label) (tys : List IrType) → Exact T ls tys → list_all (knows T) ls ≡ true
  exact_known [] tys e = refl
  exact_known (l ∷ ls) [] e = cc
  exact_known (l ∷ ls) (ty ∷ tys) e =
      let first : T l.0 ≡ Some ty = cc in
      let rest : Exact T ls tys = cc in
      both (knows T l) (list_all (knows T) ls) (known l ty first) (exact_known ls tys rest)

  pub exact_fit : (ls : List Label) (tys : List IrType) → Exact T ls tys → all_fit T tys ls ≡ true
  exact_fit [] [] e = refl
  exact_fit [] (ty ∷ tys) e = cc
  exact_fit (l ∷ ls) [] e = cc
  exact_fit (l ∷ ls) (ty ∷ tys) e =
      let first : T l.0 ≡ Some ty = cc in
      let rest : Exact T ls tys = cc in
      both (fits T ty l) (all_fit T tys ls) (fitting l ty first) (exact_fit ls tys rest)

  pub exact_length : (ls : List Label) (tys : List IrType) → Exact T ls tys → length ls ≡ length tys
  exact_length ls tys e = sym (length-map ls (λ (l : Label). T l.0)) ∙ ap length e ∙ length-map tys Some

  pub all_known : (ls : List Label) (ty : IrType) → Each (λ (l : Label). T l.0 ≡ Some ty) ls → list_all (knows T) ls ≡ true
  all_known [] ty h = refl
  all_known (l ∷ ls) ty h = both (knows T l) (list_all (knows T) ls) (known l ty h.0) (all_known ls ty h.1)

  -- one of some uses of a type
  pub nth_has : (ls : List Label) (k : ℕ) (d : Label) (ty : IrType) → Each (λ (l : Label). T l.0 ≡ Some ty) ls → k < length ls → T (slice_index_or ls k d).0 ≡ Some ty
  nth_has [] k d ty h less = absurd (omega arith)
  nth_has (l ∷ ls) zero d ty h less = h.0
  nth_has (l ∷ ls) (suc k) d ty h less = nth_has ls k d ty h.1 (omega arith)

  pub end_typed : (wanted : List IrType) (ends : List Label) (counts : Bool) → Exact T ends wanted → counts ≡ true → TypedEnd T wanted ends counts
  end_typed wanted ends counts e h = record { in_scope = exact_known ends wanted e; typed = exact_fit ends wanted e; counted = h }

  pub end_passes : (wanted : List IrType) (ends : List Label) → Exact T ends wanted → passes wanted ends ≡ true
  end_passes wanted ends e = eq-eqb (length ends) (length wanted) (exact_length ends wanted e)

  pub end_yields : (wanted : List IrType) (ends : List Label) → Exact T ends wanted → yields wanted ends ≡ true
  end_yields wanted ends e = or_right (length ends == 0) (length ends == length wanted) (end_passes wanted ends e)

  -- operations without regions

  pub const_op : (packs : List Pack) (v : ℕ) (ty : IrType) → nat_lt v (2 ^ bits_of ty) ≡ true → packs_hold packs 1 ≡ true → TypedOp T packs (ty ∷ []) (plain.Simple (plain.Const v))
  const_op packs v ty less p = record { in_scope = refl; typed = less; packed = p; counted = refl }

  pub bin_op : (packs : List Pack) (op : BinOp) (flags : Flags) (a b : Label) (ty : IrType) → (may_wrap op || not (has_flags flags)) ≡ true → T a.0 ≡ Some ty → T b.0 ≡ Some ty → packs_hold packs 1 ≡ true
      → TypedOp T packs (ty ∷ []) (plain.Simple (plain.Bin op flags a b))
  bin_op packs op flags a b ty f ea eb p = record { in_scope = rw (ea, eb) refl; typed = rw (f, ea, eb, same_self ty) refl; packed = p; counted = refl }

  pub cast_op : (packs : List Pack) (op : CastOp) (flags : Flags) (a : Label) (from ty : IrType) → (may_lose op || not (has_flags flags)) ≡ true → T a.0 ≡ Some from → casts op from ty ≡ true → packs_hold packs 1 ≡ true
      → TypedOp T packs (ty ∷ []) (plain.Simple (plain.Cast op flags a))
  cast_op packs op flags a from ty f ea c p = record { in_scope = rw ea refl; typed = rw (f, ea, c) refl; packed = p; counted = refl }

  pub cmp_op : (packs : List Pack) (pred : Pred) (a b : Label) (ty : IrType) → T a.0 ≡ Some ty → T b.0 ≡ Some ty → packs_hold packs 1 ≡ true
      → TypedOp T packs (truth ∷ []) (plain.Simple (plain.Cmp pred a b))
  cmp_op packs pred a b ty ea eb p = record { in_scope = rw (ea, eb) refl; typed = rw (ea, eb, same_self ty) refl; packed = p; counted = refl }

  pub select_op : (packs : List Pack) (c a b : Label) (ty : IrType) → T c.0 ≡ Some truth → T a.0 ≡ Some ty → T b.0 ≡ Some ty → packs_hold packs 1 ≡ true
      → TypedOp T packs (ty ∷ []) (plain.Simple (plain.Select c a b))
  select_op packs c a b ty ec ea eb p = record { in_scope = rw (ec, ea, eb) refl; typed = rw (ec, ea, eb, same_self ty) refl; packed = p; counted = refl }

  pub call_op : (packs : List Pack) (results : List IrType) (func : ℕ) (passed : List Label) → list_all (knows T) passed ≡ true → packs_hold packs (length results) ≡ true
      → TypedOp T packs results (plain.Simple (plain.Call func passed))
  call_op packs results func passed k p = record { in_scope = k; typed = refl; packed = p; counted = refl }
