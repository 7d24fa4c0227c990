-- Scopes that differ in labels alone, and the types of the uses that they settle.
use Rattle.std.proofs.Common.{◌≡◌, ℕ, ◌+◌, ◌&&◌, not, Bool, true, false, List, [], ◌∷◌, ◌++◌, length, map, take, drop, refl, ap, ◌∙◌, sym, arith, cond, Option, None, Some}
use Rattle.std.proofs.lemmas.Bool.Decides.{nat_tests}
use Rattle.std.proofs.lemmas.List.{map-append}
use Rattle.std.specs.List.{flat_map}
use Rattle.std.specs.Option.{option_map, option_map_or, is_some}
use Rattle.std.specs.Prelude.{find}
use Rattle.arith_word.specs.declared.label.Label.{Label}
use Rattle.mlir_ir.specs.Resolved.{is_of, used, label, labels}
use Rattle.mlir_ir.specs.Rules.{has_name, same_type}
use Rattle.mlir_ir.specs.ScopeFaults.{broken, differs, use_breaks, uses_breaks, type_breaks}
use Rattle.mlir_ir.specs.Source.{Use}
use Rattle.mlir_ir.specs.Values.{Value, arg_values, pack_values, result_values}
use Rattle.mlir_ir.specs.declared.scope_kind.ScopeKind.TheVariants.{Unknown, Arity, WrongType}
use Rattle.mlir_ir.specs.declared.types.Arg.{Arg}
use Rattle.mlir_ir.specs.declared.types.IrType.{IrType}
use Rattle.mlir_ir.specs.declared.types.IrType.TheVariants.{Int, Index}
use Rattle.mlir_ir.specs.declared.types.Pack.{Pack}
use Rattle.mlir_scope.proofs.NoBreaks.{Each, none_append, not_broken}
use Rattle.mlir_scope.proofs.Tests.{not_false}

-- a value without its label
abbrev pub unlabelled : Value → Value
unlabelled v = record v { label = 0 }

abbrev pub Alike : List Value → List Value → Type 0
Alike s t = map unlabelled s ≡ map unlabelled t

pub alike_append : (s t x y : List Value) → Alike s t → Alike x y → Alike (s ++ x) (t ++ y)
alike_append s t x y h g = map-append unlabelled s x ∙ (λ j. h j ++ g j) ∙ sym (map-append unlabelled t y)

pub args_alike : (a b : ℕ) (args : List Arg) → Alike (arg_values a args) (arg_values b args)
args_alike a b [] = refl
args_alike a b (arg ∷ args) = ap (λ vs. record { label = 0; name = arg.name; count = 1; place = 0; ty = arg.ty } ∷ vs) (args_alike (a + 1) (b + 1) args)

pack_alike : (a b : ℕ) (pack : Pack) (place : ℕ) (tys : List IrType) → Alike (pack_values a pack place tys) (pack_values b pack place tys)
pack_alike a b pack place [] = refl
pack_alike a b pack place (ty ∷ tys) =
    ap (λ vs. record { label = 0; name = pack.name; count = pack.count; place = place; ty = ty } ∷ vs) (pack_alike (a + 1) (b + 1) pack (place + 1) tys)

pub results_alike : (a b : ℕ) (packs : List Pack) (tys : List IrType) → Alike (result_values a packs tys) (result_values b packs tys)
results_alike a b [] tys = refl
results_alike a b (pack ∷ packs) tys =
    alike_append (pack_values a pack 0 (take pack.count tys)) (pack_values b pack 0 (take pack.count tys)) _ _
    (pack_alike a b pack 0 (take pack.count tys)) (results_alike (a + pack.count) (b + pack.count) packs (drop pack.count tys))

-- uses

pick : (b : Bool) (v : Value) (o : Option Value) → option_map unlabelled (cond b (Some v) o) ≡ cond b (Some (unlabelled v)) (option_map unlabelled o)
pick true v o = refl
pick false v o = refl

used_unlabelled : (s : List Value) (u : Use) → option_map unlabelled (used s u) ≡ used (map unlabelled s) u
used_unlabelled [] u = refl
used_unlabelled (v ∷ s) u = pick (is_of u v) v (used s u) ∙ ap (λ o. cond (is_of u v) (Some (unlabelled v)) o) (used_unlabelled s u)

pub used_alike : (s t : List Value) (u : Use) → Alike s t → option_map unlabelled (used s u) ≡ option_map unlabelled (used t u)
used_alike s t u h = used_unlabelled s u ∙ ap (λ vs. used vs u) h ∙ sym (used_unlabelled t u)

other_found : (a b : Option Value) → option_map unlabelled a ≡ option_map unlabelled b → (w : Value) → b ≡ Some w → (v : Value) × (a ≡ Some v) × (v.ty ≡ w.ty)
other_found None None h w e = cc
other_found None (Some x) h w e = cc
other_found (Some v) None h w e = cc
other_found (Some v) (Some x) h w e =
    let same : unlabelled v ≡ unlabelled x = cc in
    let is : x ≡ w = cc in
    (v, refl, ap (λ (y : Value). y.ty) same ∙ ap (λ (y : Value). y.ty) is)

each_found : {X : Type 0} (P : X → Type 0) (test : X → Bool) (xs : List X) (x : X) → Each P xs → find test xs ≡ Some x → P x
each_found P test [] x h e = cc
each_found P test (y ∷ xs) x h e =
    elim (test y) as (λ b. cond b (Some y) (find test xs) ≡ Some x → P x) [
      | true ↦ λ e. let is : y ≡ x = cc in rw is at h.0
      | false ↦ λ e. each_found P test xs x h.1 e
    ] e

some_of : (o : Option Value) → is_some o ≡ true → (v : Value) × (o ≡ Some v)
some_of None h = cc
some_of (Some v) h = (v, refl)

use_parts : (a b : Bool) (at at2 : ℕ) → (broken (not a) at Unknown ++ broken (a && not b) at2 Arity) ≡ [] → b ≡ true
use_parts true true at at2 h = refl
use_parts true false at at2 h = cc
use_parts false b at at2 h = cc

pub use_found : (t : List Value) (at : ℕ) (u : Use) → use_breaks t at u ≡ [] → (v : Value) × (used t u ≡ Some v)
use_found t at u h = some_of (used t u) (use_parts (has_name t u.name) (is_some (used t u)) u.at at h)

pub same_type_is : (a b : IrType) → same_type a b ≡ true → a ≡ b
same_type_is (Int a) (Int b) h = let e : a ≡ b = grind (arith, nat_tests) in ap Int e
same_type_is (Int a) Index h = cc
same_type_is Index (Int b) h = cc
same_type_is Index Index h = refl

-- a value has its type in a scope of types
abbrev pub Seen : (ℕ → Option IrType) → Value → Type 0
Seen T v = T v.label ≡ Some v.ty

module _ (T : ℕ → Option IrType) where
  found_label : (s : List Value) (u : Use) (v : Value) → used s u ≡ Some v → (label s u).0 ≡ v.label
  found_label s u v e = ap (λ o. option_map_or (λ (x : Value). x.label) o 0) e

  pub use_seen : (s t : List Value) (at : ℕ) (u : Use) → Alike s t → Each (Seen T) s → use_breaks t at u ≡ [] → (v : Value) × (used t u ≡ Some v) × (T (label s u).0 ≡ Some v.ty)
  use_seen s t at u h g k =
      let w = use_found t at u k in
      let v = other_found (used s u) (used t u) (used_alike s t u h) w.0 w.1 in
      let seen : Seen T v.0 = each_found (Seen T) (is_of u) s v.0 g v.1 in
      (w.0, w.1, rw (found_label s u v.0 v.1) (seen ∙ ap Some v.2))

  not_differs : (t : List Value) (u : Use) (ty : IrType) (v : Value) → used t u ≡ Some v → differs t u ty ≡ false → v.ty ≡ ty
  not_differs t u ty v e h =
      let k : not (same_type ty v.ty) ≡ false = sym (ap (λ o. option_map_or (λ (x : Value). not (same_type ty x.ty)) o false) e) ∙ h in
      sym (same_type_is ty v.ty (not_false (same_type ty v.ty) k))

  pub use_typed : (s t : List Value) (at : ℕ) (u : Use) (ty : IrType) → Alike s t → Each (Seen T) s → use_breaks t at u ≡ [] → differs t u ty ≡ false → T (label s u).0 ≡ Some ty
  use_typed s t at u ty h g k d =
      let v = use_seen s t at u h g k in
      v.2 ∙ ap Some (not_differs t u ty v.0 v.1 d)

  pub uses_typed : (s t : List Value) (at : ℕ) → Alike s t → Each (Seen T) s → (us : List Use) (tys : List IrType) → uses_breaks t at us ≡ [] → type_breaks t us tys ≡ [] → length us ≡ length tys
      → map (λ (l : Label). T l.0) (labels s us) ≡ map Some tys
  uses_typed s t at h g [] [] k d n = refl
  uses_typed s t at h g [] (ty ∷ tys) k d n = absurd (omega arith)
  uses_typed s t at h g (u ∷ us) [] k d n = absurd (omega arith)
  uses_typed s t at h g (u ∷ us) (ty ∷ tys) k d n =
      let a = none_append (use_breaks t at u) (uses_breaks t at us) k in
      let b = none_append (broken (differs t u ty) u.at WrongType) (type_breaks t us tys) d in
      let first = use_typed s t at u ty h g a.0 (not_broken (differs t u ty) u.at WrongType b.0) in
      let rest = uses_typed s t at h g us tys a.1 b.1 (omega arith) in
      λ j. first j ∷ rest j

  -- where all uses have one type
  pub uses_alike : (s t : List Value) (at : ℕ) → Alike s t → Each (Seen T) s → (us : List Use) (ty : IrType) → uses_breaks t at us ≡ []
      → flat_map (λ u. broken (differs t u ty) u.at WrongType) us ≡ [] → Each (λ (l : Label). T l.0 ≡ Some ty) (labels s us)
  uses_alike s t at h g [] ty k d = tt
  uses_alike s t at h g (u ∷ us) ty k d =
      let a = none_append (use_breaks t at u) (uses_breaks t at us) k in
      let b = none_append (broken (differs t u ty) u.at WrongType) (flat_map (λ u. broken (differs t u ty) u.at WrongType) us) d in
      (use_typed s t at u ty h g a.0 (not_broken (differs t u ty) u.at WrongType b.0), uses_alike s t at h g us ty a.1 b.1)
