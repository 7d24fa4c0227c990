-- What well-typed operations say of their operands and results.
use Rattle.std.proofs.Common.{◌≡◌, ◌==◌, ◌&&◌, ◌||◌, not, true, List, [], ◌∷◌, length, refl, ap, sym, subst, arith, Option, Some, None}
use Rattle.std.proofs.lemmas.Bool.{and_parts, eqb-true}
use Rattle.std.specs.List.{list_all}
use Rattle.std.specs.Option.{option_map_or, is_some}
use Rattle.arith_word.specs.declared.label.Label.{Label}
use Rattle.arith_word.specs.declared.op.BinOp.{BinOp}
use Rattle.arith_word.specs.declared.op.CastOp.{CastOp}
use Rattle.arith_word.specs.declared.op.Pred.{Pred}
use Rattle.mlir_ir.specs.declared.types.Flags.{Flags}
use Rattle.mlir_ir.specs.declared.types.IrType.{IrType}
use Rattle.mlir_ir.specs.declared.types.IrType.TheVariants.{Int, Index}
use Rattle.mlir_ir.specs.declared.types.Pack.{Pack}
use Rattle.mlir_ir.specs.Operations.{Bin, Cast, Cmp, Select, Simple}
use Rattle.mlir_ir.specs.Rules.{same_type, same_types, truth, may_wrap, has_flags}
use Rattle.mlir_ir.specs.Typed.{Types, knows, fits, alike, all_fit, TypedOp}

-- ---- uses

pub is_same_type : (a b : IrType) → same_type a b ≡ true → a ≡ b
is_same_type (Int a) (Int b) h = ap Int (eqb-true a b h)
is_same_type (Int a) Index h = absurd (cc)
is_same_type Index (Int b) h = absurd (cc)
is_same_type Index Index h = refl

some_type : (o : Option IrType) → is_some o ≡ true → (ty : IrType) × (o ≡ Some ty)
some_type None h = absurd (cc)
some_type (Some ty) h = (ty, refl)

-- a use in scope has a type
pub known_type : (T : Types) (l : Label) → knows T l ≡ true → (ty : IrType) × (T l.0 ≡ Some ty)
known_type T l h = some_type (T l.0) h

fit_some : (o : Option IrType) (ty : IrType) → is_some o ≡ true → option_map_or (same_type ty) o true ≡ true
    → o ≡ Some ty
fit_some None ty k h = absurd (cc)
fit_some (Some u) ty k h = ap Some (sym (is_same_type ty u h))

-- a use in scope has the type that it has to have
pub fit_type : (T : Types) (ty : IrType) (l : Label) → knows T l ≡ true → fits T ty l ≡ true → T l.0 ≡ Some ty
fit_type T ty l k h = fit_some (T l.0) ty k h

-- two uses of one type
pub alike_type : (T : Types) (a b : Label) (ty : IrType) → T a.0 ≡ Some ty → knows T b ≡ true → alike T a b ≡ true
    → T b.0 ≡ Some ty
alike_type T a b ty e k h = fit_type T ty b k (subst (λ o. option_map_or (λ u. fits T u b) o true ≡ true) e h)

-- ---- operands and results of operations without regions

pub bin_typed : (T : Types) (packs : List Pack) (ty : IrType) (op : BinOp) (flags : Flags) (a b : Label)
    → TypedOp T packs (ty ∷ []) (Simple (Bin op flags a b))
    → (T a.0 ≡ Some ty) × (T b.0 ≡ Some ty)
bin_typed T packs ty op flags a b t =
    let k = and_parts (knows T a) (list_all (knows T) (b ∷ [])) t.in_scope in
    let kb = and_parts (knows T b) (list_all (knows T) []) k.1 in
    let f = and_parts ((may_wrap op || not (has_flags flags)) && alike T a b)
    (all_fit T (ty ∷ []) (a ∷ [])) t.typed in
    let g = and_parts (may_wrap op || not (has_flags flags)) (alike T a b) f.0 in
    let h = and_parts (fits T ty a) (all_fit T [] []) f.1 in
    let e = fit_type T ty a k.0 h.0 in
    (e, alike_type T a b ty e kb.0 g.1)

pub cast_typed : (T : Types) (packs : List Pack) (results : List IrType) (op : CastOp) (flags : Flags) (a : Label)
    → TypedOp T packs results (Simple (Cast op flags a))
    → (u : IrType) × (T a.0 ≡ Some u)
cast_typed T packs results op flags a t = known_type T a (and_parts (knows T a) (list_all (knows T) []) t.in_scope).0

pub cmp_typed : (T : Types) (packs : List Pack) (ty : IrType) (pred : Pred) (a b : Label)
    → TypedOp T packs (ty ∷ []) (Simple (Cmp pred a b))
    → (u : IrType) × (T a.0 ≡ Some u) × (T b.0 ≡ Some u) × (truth ≡ ty)
cmp_typed T packs ty pred a b t =
    let k = and_parts (knows T a) (list_all (knows T) (b ∷ [])) t.in_scope in
    let kb = and_parts (knows T b) (list_all (knows T) []) k.1 in
    let f = and_parts (alike T a b) (same_types (truth ∷ []) (ty ∷ [])) t.typed in
    let g = and_parts (same_type truth ty) (same_types [] []) f.1 in
    let u = known_type T a k.0 in
    (u.0, u.1, alike_type T a b u.0 u.1 kb.0 f.0, is_same_type truth ty g.0)

pub select_typed : (T : Types) (packs : List Pack) (ty : IrType) (c a b : Label)
    → TypedOp T packs (ty ∷ []) (Simple (Select c a b))
    → (T c.0 ≡ Some truth) × (T a.0 ≡ Some ty) × (T b.0 ≡ Some ty)
select_typed T packs ty c a b t =
    let kc = and_parts (knows T c) (list_all (knows T) (a ∷ b ∷ [])) t.in_scope in
    let k = and_parts (knows T a) (list_all (knows T) (b ∷ [])) kc.1 in
    let kb = and_parts (knows T b) (list_all (knows T) []) k.1 in
    let f = and_parts (fits T truth c && alike T a b) (all_fit T (ty ∷ []) (a ∷ [])) t.typed in
    let g = and_parts (fits T truth c) (alike T a b) f.0 in
    let h = and_parts (fits T ty a) (all_fit T [] []) f.1 in
    let e = fit_type T ty a k.0 h.0 in
    (fit_type T truth c kc.0 g.0, e, alike_type T a b ty e kb.0 g.1)

-- an operation that is no call has one result
pub one_type : (results : List IrType) → (length results == 1) ≡ true → (ty : IrType) × (results ≡ ty ∷ [])
one_type [] h = absurd (cc)
one_type (ty ∷ []) h = (ty, refl)
one_type (ty ∷ u ∷ tys) h = let e : length (ty ∷ u ∷ tys) ≡ 1 = eqb-true (length (ty ∷ u ∷ tys)) 1 h in
    absurd (omega (arith, e))

-- ---- lists of uses

-- uses that have these types, one for one
abbrev pub AreTyped : Types → List IrType → List Label → Type 0
AreTyped T (ty ∷ tys) (l ∷ ls) = (T l.0 ≡ Some ty) × AreTyped T tys ls
AreTyped T _ _ = Unit {0}

pub all_typed : (T : Types) (tys : List IrType) (ls : List Label) → list_all (knows T) ls ≡ true
    → all_fit T tys ls ≡ true → AreTyped T tys ls
all_typed T [] ls k h = tt
all_typed T (ty ∷ tys) [] k h = tt
all_typed T (ty ∷ tys) (l ∷ ls) k h =
    let p = and_parts (knows T l) (list_all (knows T) ls) k in
    let q = and_parts (fits T ty l) (all_fit T tys ls) h in
    (fit_type T ty l p.0 q.0, all_typed T tys ls p.1 q.1)
