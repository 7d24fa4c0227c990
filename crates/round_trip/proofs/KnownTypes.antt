-- The types of the values that operations use, and the lengths of what regions give on.
use Rattle.std.proofs.Common.{◌≡◌, ℕ, ◌==◌, ◌&&◌, ◌||◌, Bool, true, false, List, [], ◌∷◌, length, refl, ap, ◌∙◌, sym, subst, arith, Option, Some, nat_lt, inl, inr, eq-eqb, if◌then◌else◌, ◌⊎◌}
use Rattle.std.proofs.lemmas.Bool.{ne_eqb}
use Rattle.std.proofs.lemmas.Bool.Decides.{nat_tests}
use Rattle.std.specs.List.{list_all}
use Rattle.std.specs.Option.{option_map, option_map_or}
use Rattle.arith_word.specs.declared.label.Label.{Label}
use Rattle.arith_word.specs.declared.op.CastOp.{CastOp}
use Rattle.mlir_ir.specs.Canonical.{Naming}
use Rattle.mlir_ir.specs.Rules.{casts, is_in_scope, has_type, have_types, agree, gives_cast, same_type}
use Rattle.mlir_ir.specs.Values.{Value, value_at, type_at}
use Rattle.mlir_ir.specs.declared.types.IrType.{IrType}
use Rattle.round_trip.specs.Readable.{Reading, TypesAre, GivesType, CastGives, AreCompared}
use Rattle.round_trip.specs.Sound.{Each, IsType, Finds}
use Rattle.round_trip.proofs.HeldScopes.{Held}
use Rattle.round_trip.proofs.TypeTests.{same_type_is, equal_lengths}
use Rattle.round_trip.proofs.Tests.{and_parts, same_or}

-- the type of a label in scope, and among all values
record Knows (values scope : List Value) (l : Label) : Type 0 where
  pub ty : IrType
  pub here : type_at scope l.0 ≡ Some ty
  pub there : type_at values l.0 ≡ Some ty

knows : (values scope vs : List Value) (l : Label) → Each (Held values scope) vs → is_in_scope vs l ≡ true → Knows values vs l
knows values scope [] l h e = cc
knows values scope (v ∷ vs) l h e = elim (same_or v.label l.0) [
  | inl q ↦ record {
    ty = v.ty;
    here = ap (λ (c : Bool). option_map (λ (w : Value). w.ty) (if c then Some v else value_at vs l.0)) (eq-eqb v.label l.0 q);
    there = ap (option_map (λ (w : Value). w.ty)) (subst (λ (x : ℕ). value_at values x ≡ Some v) q h.0.found);
  }
  | inr ne ↦ (let k = knows values scope vs l h.1 (rw (ne_eqb v.label l.0 ne) at e) in
      record { ty = k.ty; here = ap (λ (c : Bool). option_map (λ (w : Value). w.ty) (if c then Some v else value_at vs l.0)) (ne_eqb v.label l.0 ne) ∙ k.here; there = k.there })
]

one_known : (values scope : List Value) (ty : IrType) (l : Label) → Knows values scope l → has_type scope ty l ≡ true → type_at values l.0 ≡ Some ty
one_known values scope ty l k t =
    let same : ty ≡ k.ty = same_type_is ty k.ty (subst (λ (o : Option IrType). option_map_or (same_type ty) o true ≡ true) k.here t) in
    k.there ∙ ap (λ (x : IrType). Some x) (sym same)

type_found : (naming : Naming) (l : Label) (ty : IrType) → Finds naming l → type_at naming.values l.0 ≡ Some ty → IsType ty
type_found naming l ty f t =
    let both : Some f.value.ty ≡ Some ty = sym (ap (option_map (λ (w : Value). w.ty)) f.found) ∙ t in
    let same : f.value.ty ≡ ty = cc in
    subst (λ (x : IrType). IsType x) same f.ty

module _ (r : Reading) (scope : List Value) (h : Each (Held r.naming.values scope) scope) where
  pub type_known : (ty : IrType) (l : Label) → is_in_scope scope l ≡ true → has_type scope ty l ≡ true → GivesType r (ty ∷ []) l
  type_known ty l e t = let k = knows r.naming.values scope scope l h e in λ i. one_known r.naming.values scope ty l k t i ∷ []

  pub types_known : (tys : List IrType) (ls : List Label) → list_all (is_in_scope scope) ls ≡ true → have_types scope tys ls ≡ true → length ls ≡ length tys → TypesAre r tys ls
  types_known [] [] e t n = refl
  types_known [] (l ∷ ls) e t n = absurd (omega arith)
  types_known (ty ∷ tys) [] e t n = absurd (omega arith)
  types_known (ty ∷ tys) (l ∷ ls) e t n =
      let p = and_parts (is_in_scope scope l) (list_all (is_in_scope scope) ls) e in
      let q = and_parts (has_type scope ty l) (have_types scope tys ls) t in
      let k = knows r.naming.values scope scope l h p.0 in
      λ i. one_known r.naming.values scope ty l k q.0 i ∷ types_known tys ls p.1 q.1 (omega (arith, n)) i

  pub agree_known : (a b : Label) → is_in_scope scope a ≡ true → is_in_scope scope b ≡ true → agree scope a b ≡ true → type_at r.naming.values a.0 ≡ type_at r.naming.values b.0
  agree_known a b ea eb t =
      let ka = knows r.naming.values scope scope a h ea in
      let kb = knows r.naming.values scope scope b h eb in
      let same = subst (λ (o : Option IrType). option_map_or (λ (ty : IrType). has_type scope ty b) o true ≡ true) ka.here t in
      ka.there ∙ sym (one_known r.naming.values scope ka.ty b kb same)

  pub compare_known : (a b : Label) → is_in_scope scope a ≡ true → is_in_scope scope b ≡ true → agree scope a b ≡ true → Finds r.naming a → AreCompared r a b
  compare_known a b ea eb t finds =
      let ka = knows r.naming.values scope scope a h ea in
      (ka.ty, type_found r.naming a ka.ty finds ka.there, ka.there, sym (agree_known a b ea eb t) ∙ ka.there)

  pub cast_known : (op : CastOp) (results : List IrType) (l : Label) → is_in_scope scope l ≡ true → gives_cast scope op l results ≡ true → length results ≡ 1 → Finds r.naming l → CastGives r op results l
  cast_known op [] l e t n finds = absurd (omega arith)
  cast_known op (ty ∷ []) l e t n finds =
      let k = knows r.naming.values scope scope l h e in
      (k.ty, type_found r.naming l k.ty finds k.there, k.there, (subst (λ (o : Option IrType). option_map_or (λ (from : IrType). casts op from ty) o true ≡ true) k.here t, tt))
  cast_known op (ty ∷ other ∷ more) l e t n finds = absurd (omega arith)

-- lengths

pub one_of : (a b : Bool) → (a || b) ≡ true → (a ≡ true) ⊎ (b ≡ true)
one_of true b h = inl refl
one_of false b h = inr h

false_true : false ≡ true → ⊥
false_true h = cc

-- a yield that may be missing where there are no results
pub yield_long : (e w : ℕ) (more : Bool) → (w == 0 || nat_lt 0 e && more) ≡ true → (e == 0 || e == w) ≡ true → e ≡ w
yield_long e w more h g = elim (one_of (e == 0) (e == w) g) [
  | inr same ↦ equal_lengths e w same
  | inl none ↦ elim (one_of (w == 0) (nat_lt 0 e && more) h) [
    | inl empty ↦ equal_lengths e 0 none ∙ sym (equal_lengths w 0 empty)
    | inr some ↦ (let s = and_parts (nat_lt 0 e) more some in let e0 = equal_lengths e 0 none in absurd (grind (arith, nat_tests, s.0, e0)))
  ]
]

pub no_results : (results : List IrType) (b : Bool) → (length results == 0 || b && false) ≡ true → results ≡ []
no_results [] b h = refl
no_results (ty ∷ tys) b h = elim (one_of (length (ty ∷ tys) == 0) (b && false) h) [
  | inl empty ↦ (let e = equal_lengths (length (ty ∷ tys)) 0 empty in absurd (omega (arith, e)))
  | inr never ↦ (let f = (and_parts b false never).1 in absurd (false_true f))
]
