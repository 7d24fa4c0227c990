-- Uses that are seen in scope with their types break no rule.
use Rattle.std.proofs.Common.{◌≡◌, ℕ, ◌+◌, ◌==◌, ◌&&◌, not, Bool, true, false, List, [], ◌∷◌, ◌++◌, refl, ap, ◌∙◌, sym, subst, map, length, find, take, drop, eq-eqb, Option, Some, None, arith}
use Rattle.std.specs.List.{flat_map}
use Rattle.std.specs.Option.{is_some, option_map, option_map_or}
use Rattle.arith_word.specs.declared.label.Label.{Label}
use Rattle.mlir_ir.specs.Canonical.{Naming}
use Rattle.mlir_ir.specs.Resolved.{is_of, used, tys}
use Rattle.mlir_ir.specs.Rules.{has_name, same_type}
use Rattle.mlir_ir.specs.ScopeFaults.{broken, use_breaks, uses_breaks, differs, type_breaks, written_breaks, listed_breaks, ending_breaks, same_written}
use Rattle.mlir_ir.specs.Source.{Use, Written, Ending, use_of}
use Rattle.mlir_ir.specs.Values.{Value, value_at, type_at, arg_values, pack_values, result_values}
use Rattle.mlir_ir.specs.declared.scope_kind.ScopeKind.{ScopeKind}
use Rattle.mlir_ir.specs.declared.scope_kind.ScopeKind.TheVariants.{Unknown, Arity, WrongType}
use Rattle.mlir_ir.specs.declared.types.Arg.{Arg}
use Rattle.mlir_ir.specs.declared.types.IrType.{IrType}
use Rattle.mlir_ir.specs.declared.types.Pack.{Pack}
use Rattle.round_trip.specs.ReadUses.{ReadsAs}
use Rattle.round_trip.specs.Sound.{Each}
use Rattle.round_trip.proofs.FreeNames.{SameNames, names_moved}
use Rattle.round_trip.proofs.HeldScopes.{moved_value, find_moved, none_named}
use Rattle.round_trip.proofs.ReadableParts.{map_both}
use Rattle.round_trip.proofs.ReadUses.{value_parts, value_read}
use Rattle.round_trip.proofs.TypeTests.{same_type_of}

-- scopes that differ in labels alone

abbrev pub bare : List Value → List Value
bare vs = map (moved_value (λ l. 0)) vs

abbrev pub Alike : List Value → List Value → Type 0
Alike s t = bare s ≡ bare t

pub alike_more : (s t xs ys : List Value) → Alike s t → Alike xs ys → Alike (s ++ xs) (t ++ ys)
alike_more s t xs ys e g = map_both (moved_value (λ l. 0)) s xs ∙ (λ i. e i ++ g i) ∙ sym (map_both (moved_value (λ l. 0)) t ys)

pub args_alike : (at to : ℕ) (args : List Arg) → Alike (arg_values at args) (arg_values to args)
args_alike at to [] = refl
args_alike at to (arg ∷ args) = ap (λ (vs : List Value). record { label = 0; name = arg.name; count = 1; place = 0; ty = arg.ty } ∷ vs) (args_alike (at + 1) (to + 1) args)

pack_alike : (at to : ℕ) (pack : Pack) (place : ℕ) (types : List IrType) → Alike (pack_values at pack place types) (pack_values to pack place types)
pack_alike at to pack place [] = refl
pack_alike at to pack place (ty ∷ types) = ap (λ (vs : List Value). record { label = 0; name = pack.name; count = pack.count; place = place; ty = ty } ∷ vs) (pack_alike (at + 1) (to + 1) pack (place + 1) types)

pub results_alike : (at to : ℕ) (packs : List Pack) (types : List IrType) → Alike (result_values at packs types) (result_values to packs types)
results_alike at to [] types = refl
results_alike at to (pack ∷ packs) types =
    alike_more (pack_values at pack 0 (take pack.count types)) (pack_values to pack 0 (take pack.count types)) (result_values (at + pack.count) packs (drop pack.count types)) (result_values (to + pack.count) packs (drop pack.count types)) (pack_alike at to pack 0 (take pack.count types)) (results_alike (at + pack.count) (to + pack.count) packs (drop pack.count types))

pub same_names : (s t : List Value) → Alike s t → SameNames s t
same_names s t e name = sym (names_moved (λ l. 0) s name) ∙ ap (λ (vs : List Value). has_name vs name) e ∙ names_moved (λ l. 0) t name

-- a use that is seen with that type

pub record Sees (s : List Value) (u : Use) (ty : IrType) : Type 0 where
  pub value : Value
  pub own : used s u ≡ Some value
  pub ty_is : value.ty ≡ ty

some_back : (o : Option Value) (w : Value) → option_map (moved_value (λ l. 0)) o ≡ Some (moved_value (λ l. 0) w) → (v : Value) × (o ≡ Some v) × (v.ty ≡ w.ty)
some_back None w e = cc
some_back (Some v) w e = let same : moved_value (λ l. 0) v ≡ moved_value (λ l. 0) w = cc in (v, refl, ap (λ (x : Value). x.ty) same)

none_some : (o : Option Value) (v : Value) → o ≡ None → o ≡ Some v → ⊥
none_some None v h e = cc
none_some (Some w) v h e = cc

found_named : (s : List Value) (u : Use) (v : Value) → used s u ≡ Some v → has_name s u.name ≡ true
found_named s u v e = go (has_name s u.name) refl
  where
    go : (b : Bool) → has_name s u.name ≡ b → has_name s u.name ≡ true
    go true h = h
    go false h = absurd (none_some (used s u) v (none_named s u h) e)

types_same : (o : Option Value) (v : Value) (ty : IrType) → o ≡ Some v → option_map (λ (w : Value). w.ty) o ≡ Some ty → v.ty ≡ ty
types_same o v ty e t = let both : Some v.ty ≡ Some ty = ap (option_map (λ (w : Value). w.ty)) (sym e) ∙ t in cc

-- a use in its line, whose value has that type
pub use_sees : (naming : Naming) (scope s : List Value) (l m : Label) (r : ReadsAs naming scope l m) → Alike s scope → (ty : IrType) → r.value.ty ≡ ty → (at i : ℕ) → Sees s (use_of (record { at = i; parts = value_parts at r.value })) ty
use_sees naming scope s l m r same ty t at i =
    let u : Use = record { at = i; name = r.value.name; pick = r.value.place } in
    let found = sym (find_moved (λ k. 0) u s) ∙ ap (find (is_of u)) same ∙ find_moved (λ k. 0) u scope ∙ ap (option_map (moved_value (λ k. 0))) r.sees in
    let b = some_back (used s u) r.seen found in
    subst (λ (u : Use). Sees s u ty) (sym (value_read at i r.value r.place r.alone)) (record { value = b.0; own = b.1; ty_is = b.2 ∙ r.same ∙ t })

pub type_of_use : (naming : Naming) (scope : List Value) (l m : Label) (r : ReadsAs naming scope l m) (ty : IrType) → type_at naming.values l.0 ≡ Some ty → r.value.ty ≡ ty
type_of_use naming scope l m r ty t = types_same (value_at naming.values l.0) r.value ty r.found t

-- no breaks

pub no_break : (b : Bool) (at : ℕ) (kind : ScopeKind) → b ≡ false → broken b at kind ≡ []
no_break b at kind e = ap (λ (c : Bool). broken c at kind) e

pub use_fine : (s : List Value) (at : ℕ) (u : Use) (ty : IrType) → Sees s u ty → use_breaks s at u ≡ []
use_fine s at u ty see =
    let named = found_named s u see.value see.own in
    λ i. broken (not (named i)) u.at Unknown ++ broken (named i && not (is_some (see.own i))) at Arity

pub differs_not : (s : List Value) (u : Use) (ty : IrType) → Sees s u ty → differs s u ty ≡ false
differs_not s u ty see =
    (λ i. option_map_or (λ (v : Value). not (same_type ty v.ty)) (see.own i) false) ∙ (λ i. not (same_type ty (see.ty_is i))) ∙ ap not (same_type_of ty)

-- uses that are seen with their types, one by one
abbrev pub SeesAll : List Value → List Use → List IrType → Type 0
SeesAll s [] [] = Unit {0}
SeesAll s [] (ty ∷ types) = ⊥
SeesAll s (u ∷ us) [] = ⊥
SeesAll s (u ∷ us) (ty ∷ types) = Sees s u ty × SeesAll s us types

pub sees_both : (s : List Value) (us vs : List Use) (xs ys : List IrType) → SeesAll s us xs → SeesAll s vs ys → SeesAll s (us ++ vs) (xs ++ ys)
sees_both s [] vs [] ys h g = g
sees_both s [] vs (ty ∷ xs) ys h g = absurd h
sees_both s (u ∷ us) vs [] ys h g = absurd h
sees_both s (u ∷ us) vs (ty ∷ xs) ys h g = (h.0, sees_both s us vs xs ys h.1 g)

pub uses_fine : (s : List Value) (at : ℕ) (us : List Use) (xs : List IrType) → SeesAll s us xs → uses_breaks s at us ≡ []
uses_fine s at [] [] h = refl
uses_fine s at [] (ty ∷ xs) h = absurd h
uses_fine s at (u ∷ us) [] h = absurd h
uses_fine s at (u ∷ us) (ty ∷ xs) h = λ i. use_fine s at u ty h.0 i ++ uses_fine s at us xs h.1 i

pub types_fine : (s : List Value) (us : List Use) (xs : List IrType) → SeesAll s us xs → type_breaks s us xs ≡ []
types_fine s [] [] h = refl
types_fine s [] (ty ∷ xs) h = absurd h
types_fine s (u ∷ us) [] h = absurd h
types_fine s (u ∷ us) (ty ∷ xs) h = λ i. broken (differs_not s u ty h.0 i) u.at WrongType ++ types_fine s us xs h.1 i

pub uses_long : (s : List Value) (us : List Use) (xs : List IrType) → SeesAll s us xs → length us ≡ length xs
uses_long s [] [] h = refl
uses_long s [] (ty ∷ xs) h = absurd h
uses_long s (u ∷ us) [] h = absurd h
uses_long s (u ∷ us) (ty ∷ xs) h = let more = uses_long s us xs h.1 in omega (arith, more)

pub same_count : (a b at : ℕ) → a ≡ b → broken (not (a == b)) at Arity ≡ []
same_count a b at e = no_break (not (a == b)) at Arity (ap not (eq-eqb a b e))

pub listed_fine : (s : List Value) (at : ℕ) (us : List Use) (xs : List IrType) → SeesAll s us xs → listed_breaks s at us xs ≡ []
listed_fine s at us xs h = λ i. types_fine s us xs h i ++ same_count (length us) (length xs) at (uses_long s us xs h) i

written_own : (ws : List Written) → written_breaks ws (tys ws) ≡ []
written_own [] = refl
written_own (w ∷ ws) = λ i. broken (not (same_type_of w.ty i)) w.at WrongType ++ written_own ws i

pub written_fine : (ws : List Written) (xs : List IrType) → tys ws ≡ xs → written_breaks ws xs ≡ []
written_fine ws xs e = ap (written_breaks ws) (sym e) ∙ written_own ws

pub ending_fine : (s : List Value) (wanted : List IrType) (e : Ending) → SeesAll s e.uses wanted → tys e.types ≡ wanted → ending_breaks s wanted e ≡ []
ending_fine s wanted e h t =
    let listed = ap (listed_breaks s e.word e.uses) t ∙ listed_fine s e.word e.uses wanted h in
    λ i. uses_fine s e.word e.uses wanted h i ++ listed i ++ written_fine e.types wanted t i ++ same_count (length e.uses) (length wanted) e.word (uses_long s e.uses wanted h) i

-- uses that all have the written type

pub each_uses : (s : List Value) (at : ℕ) (ty : IrType) (us : List Use) → Each (λ (u : Use). Sees s u ty) us → uses_breaks s at us ≡ []
each_uses s at ty [] h = refl
each_uses s at ty (u ∷ us) h = λ i. use_fine s at u ty h.0 i ++ each_uses s at ty us h.1 i

pub each_differs : (s : List Value) (ty : IrType) (us : List Use) → Each (λ (u : Use). Sees s u ty) us → flat_map (λ (u : Use). broken (differs s u ty) u.at WrongType) us ≡ []
each_differs s ty [] h = refl
each_differs s ty (u ∷ us) h = λ i. broken (differs_not s u ty h.0 i) u.at WrongType ++ each_differs s ty us h.1 i

pub same_fine : (s : List Value) (us : List Use) (t : Written) (ws : List Written) (ty : IrType) → Each (λ (u : Use). Sees s u ty) us → t.ty ≡ ty → same_written s us (t ∷ ws) ≡ []
same_fine s us t ws ty h e = ap (λ (x : IrType). flat_map (λ (u : Use). broken (differs s u x) u.at WrongType) us) e ∙ each_differs s ty us h
