-- The scopes of `check` as types and names.
use Rattle.std.proofs.Common.{◌≡◌, ℕ, zero, suc, ◌+◌, ◌-◌, ◌==◌, ◌&&◌, ◌||◌, nat_lt, nat_le, Bool, true, false, List, [], ◌∷◌, ◌++◌, length, take, drop, refl, ap, ◌∙◌, sym, subst, arith, Option, Some, length-drop, cond}
use Rattle.std.proofs.lemmas.List.Folds.{list_any-append}
use Rattle.std.proofs.lemmas.Bool.Decides.{nat_tests}
use Rattle.std.specs.List.{list_any}
use Rattle.std.specs.Option.{option_or, option_map}
use Rattle.std.specs.Str.{bytes_eq}
use Rattle.mlir_ir.specs.declared.types.Arg.{Arg}
use Rattle.mlir_ir.specs.declared.types.IrType.{IrType}
use Rattle.mlir_ir.specs.declared.types.Pack.{Pack}
use Rattle.mlir_ir.specs.Rules.{has_name, packs_hold, arg_types}
use Rattle.mlir_ir.specs.Values.{Value, arg_values, pack_values, result_values, type_at}
use Rattle.mlir_ir.specs.Typed.{typed_from, with_types}
use Rattle.mlir_ir.specs.Named.{with_packs, with_args}
use Rattle.mlir_ir.proofs.TypeAt.{type_at_append}
use Rattle.std.proofs.lemmas.Bool.{and_parts}

pick : (b : Bool) (v : Value) (o : Option Value) → option_map (λ (x : Value). x.ty) (cond b (Some v) o) ≡ cond b (Some v.ty) (option_map (λ (x : Value). x.ty) o)
pick true v o = refl
pick false v o = refl

arg_typed : (at : ℕ) (args : List Arg) (l : ℕ) → type_at (arg_values at args) l ≡ typed_from at (arg_types args) l
arg_typed at [] l = refl
arg_typed at (arg ∷ args) l = pick (at == l) _ _ ∙ ap (λ o. cond (at == l) (Some arg.ty) o) (arg_typed (at + 1) args l)

pack_typed : (at : ℕ) (pack : Pack) (place : ℕ) (tys : List IrType) (l : ℕ) → type_at (pack_values at pack place tys) l ≡ typed_from at tys l
pack_typed at pack place [] l = refl
pack_typed at pack place (ty ∷ tys) l = pick (at == l) _ _ ∙ ap (λ o. cond (at == l) (Some ty) o) (pack_typed (at + 1) pack (place + 1) tys l)

pick_or : (b : Bool) (ty : IrType) (o p q : Option IrType) → option_or o p ≡ q → option_or (cond b (Some ty) o) p ≡ cond b (Some ty) q
pick_or true ty o p q e = refl
pick_or false ty o p q e = e

split_from : (c at : ℕ) (tys : List IrType) (l : ℕ) → option_or (typed_from at (take c tys) l) (typed_from (at + c) (drop c tys) l) ≡ typed_from at tys l
split_from zero at tys l = let e : at + 0 ≡ at = omega arith in ap (λ p. typed_from p tys l) e
split_from (suc c) at [] l = refl
split_from (suc c) at (ty ∷ tys) l =
    let e : at + suc c ≡ at + 1 + c = omega arith in
    pick_or (at == l) ty _ _ _ (subst (λ p. option_or (typed_from (at + 1) (take c tys) l) (typed_from p (drop c tys) l) ≡ typed_from (at + 1) tys l) (sym e) (split_from c (at + 1) tys l))

not_none : (n : ℕ) → (suc n == 0) ≡ true → ⊥
not_none n h = grind (arith, nat_tests)

pub results_typed : (at : ℕ) (packs : List Pack) (tys : List IrType) → packs_hold packs (length tys) ≡ true → (l : ℕ) → type_at (result_values at packs tys) l ≡ typed_from at tys l
results_typed at [] [] h l = refl
results_typed at [] (ty ∷ tys) h l = absurd (not_none (length tys) h)
results_typed at (pack ∷ packs) tys h l =
    let q = and_parts (nat_lt 0 pack.count && nat_le pack.count (length tys)) (packs_hold packs (length tys - pack.count)) h in
    let p = and_parts (nat_lt 0 pack.count) (nat_le pack.count (length tys)) q.0 in
    let e : length tys - pack.count ≡ length (drop pack.count tys) = sym (length-drop pack.count tys) in
    let h2 : packs_hold packs (length (drop pack.count tys)) ≡ true = subst (λ n. packs_hold packs n ≡ true) e q.1 in
    type_at_append (pack_values at pack 0 (take pack.count tys)) (result_values (at + pack.count) packs (drop pack.count tys)) l
    ∙ ((λ j. option_or (pack_typed at pack 0 (take pack.count tys) l j) (results_typed (at + pack.count) packs (drop pack.count tys) h2 l j))
    ∙ split_from pack.count at tys l)

-- names

module _ (name : List ℕ) where
  arg_named : (at : ℕ) (args : List Arg) → has_name (arg_values at args) name ≡ list_any (λ (arg : Arg). bytes_eq arg.name name) args
  arg_named at [] = refl
  arg_named at (arg ∷ args) = ap (λ b. bytes_eq arg.name name || b) (arg_named (at + 1) args)

  or_none : (b : Bool) → (b || false) ≡ b
  or_none true = refl
  or_none false = refl

  or_same : (b : Bool) → (b || b) ≡ b
  or_same true = refl
  or_same false = refl

  pack_named : (at : ℕ) (pack : Pack) (place : ℕ) (ty : IrType) (tys : List IrType) → has_name (pack_values at pack place (ty ∷ tys)) name ≡ bytes_eq pack.name name
  pack_named at pack place ty [] = or_none (bytes_eq pack.name name)
  pack_named at pack place ty (other ∷ tys) = ap (λ b. bytes_eq pack.name name || b) (pack_named (at + 1) pack (place + 1) other tys) ∙ or_same (bytes_eq pack.name name)

  taken_named : (at : ℕ) (pack : Pack) (c : ℕ) (tys : List IrType) → nat_lt 0 c ≡ true → nat_le c (length tys) ≡ true → has_name (pack_values at pack 0 (take c tys)) name ≡ bytes_eq pack.name name
  taken_named at pack zero tys h g = cc
  taken_named at pack (suc c) [] h g = grind (arith, nat_tests)
  taken_named at pack (suc c) (ty ∷ tys) h g = pack_named at pack 0 ty (take c tys)

  pub results_named : (at : ℕ) (packs : List Pack) (tys : List IrType) → packs_hold packs (length tys) ≡ true → has_name (result_values at packs tys) name ≡ list_any (λ (pack : Pack). bytes_eq pack.name name) packs
  results_named at [] tys h = refl
  results_named at (pack ∷ packs) tys h =
      let q = and_parts (nat_lt 0 pack.count && nat_le pack.count (length tys)) (packs_hold packs (length tys - pack.count)) h in
      let p = and_parts (nat_lt 0 pack.count) (nat_le pack.count (length tys)) q.0 in
      let e : length tys - pack.count ≡ length (drop pack.count tys) = sym (length-drop pack.count tys) in
      let h2 : packs_hold packs (length (drop pack.count tys)) ≡ true = subst (λ n. packs_hold packs n ≡ true) e q.1 in
      list_any-append (λ (v : Value). bytes_eq v.name name) (pack_values at pack 0 (take pack.count tys)) (result_values (at + pack.count) packs (drop pack.count tys))
      ∙ (λ j. taken_named at pack pack.count tys p.0 p.1 j || results_named (at + pack.count) packs (drop pack.count tys) h2 j)

-- scopes that grow, as functions

pub types_bound : (scope : List Value) (b b' : ℕ) (packs : List Pack) (tys : List IrType) → b ≡ b' → packs_hold packs (length tys) ≡ true → type_at (scope ++ result_values b packs tys) ≡ with_types (type_at scope) b' tys
types_bound scope b b' packs tys e h =
    let at_b : (l : ℕ) → type_at (scope ++ result_values b packs tys) l ≡ with_types (type_at scope) b tys l = λ l. type_at_append scope (result_values b packs tys) l ∙ ap (option_or (type_at scope l)) (results_typed b packs tys h l) in
    (λ j l. at_b l j) ∙ ap (λ p. with_types (type_at scope) p tys) e

pub types_bound_args : (scope : List Value) (b b' : ℕ) (args : List Arg) → b ≡ b' → type_at (scope ++ arg_values b args) ≡ with_types (type_at scope) b' (arg_types args)
types_bound_args scope b b' args e =
    let at_b : (l : ℕ) → type_at (scope ++ arg_values b args) l ≡ with_types (type_at scope) b (arg_types args) l = λ l. type_at_append scope (arg_values b args) l ∙ ap (option_or (type_at scope l)) (arg_typed b args l) in
    (λ j l. at_b l j) ∙ ap (λ p. with_types (type_at scope) p (arg_types args)) e

pub names_called : (scope : List Value) (b : ℕ) (packs : List Pack) (tys : List IrType) → packs_hold packs (length tys) ≡ true → has_name (scope ++ result_values b packs tys) ≡ with_packs (has_name scope) packs
names_called scope b packs tys h =
    let at_n : (n : List ℕ) → has_name (scope ++ result_values b packs tys) n ≡ with_packs (has_name scope) packs n = λ n. list_any-append (λ (v : Value). bytes_eq v.name n) scope (result_values b packs tys) ∙ ap (λ x. has_name scope n || x) (results_named n b packs tys h) in
    λ j n. at_n n j

pub names_called_args : (scope : List Value) (b : ℕ) (args : List Arg) → has_name (scope ++ arg_values b args) ≡ with_args (has_name scope) args
names_called_args scope b args =
    let at_n : (n : List ℕ) → has_name (scope ++ arg_values b args) n ≡ with_args (has_name scope) args n = λ n. list_any-append (λ (v : Value). bytes_eq v.name n) scope (arg_values b args) ∙ ap (λ x. has_name scope n || x) (arg_named n b args) in
    λ j n. at_n n j
