-- A value in scope is found among the function's values, with a good name and type.
use Rattle.std.proofs.Common.{◌≡◌, ℕ, zero, suc, ◌+◌, ◌-◌, ◌^◌, ◌<◌, ◌≤◌, ◌&&◌, ◌||◌, not, inl, inr, Bool, true, false, List, [], ◌∷◌, ◌++◌, length, take, drop, refl, subst, arith, Some, nat_lt, nat_le}
use Rattle.std.proofs.lemmas.Bool.{ne_eqb}
use Rattle.std.proofs.lemmas.Bool.Decides.{nat_tests}
use Rattle.std.specs.List.{list_all, list_any}
use Rattle.std.specs.Str.{bytes_eq}
use Rattle.arith_word.specs.declared.label.Label.{Label}
use Rattle.mlir_ir.specs.declared.shape.Shape.{Shape}
use Rattle.mlir_ir.specs.declared.shape.ShapeFault.{ShapeFault}
use Rattle.mlir_ir.specs.declared.shape.ShapeFault.TheVariants.{Use, WrongType, Count, Size}
use Rattle.mlir_ir.specs.declared.rules.Position.{Position}
use Rattle.mlir_ir.specs.declared.rules.Rules.{Rules}
use Rattle.mlir_ir.specs.declared.types.Arg.{Arg}
use Rattle.mlir_ir.specs.declared.types.IrType.{IrType}
use Rattle.mlir_ir.specs.declared.types.Pack.{Pack}
use Rattle.mlir_ir.specs.Names.{is_name}
use Rattle.mlir_ir.specs.Values.{Value, arg_values, pack_values, result_values, value_at}
use Rattle.mlir_ir.specs.Rules.{is_in_scope, is_free, has_name, are_free, packs_hold, same_types, arg_rules}
use Rattle.mlir_ir.specs.Check.{unless, breaks_at, past, args_breaks}
use Rattle.mlir_ir.specs.Canonical.{Naming}
use Rattle.round_trip.specs.Sound.{Each, IsType, IsName, IsArg, IsPack, Finds}
use Rattle.round_trip.proofs.LabelOrder.{take_few}
use Rattle.round_trip.proofs.Tests.{and_parts, same_or}
use Rattle.round_trip.specs.Widths.{WideArgs}

-- no breaks

pub none_append : (xs ys : List Shape) → (xs ++ ys) ≡ [] → (xs ≡ []) × (ys ≡ [])
none_append [] ys h = (refl, h)
none_append (x ∷ xs) ys h = cc

none_unless : (b : Bool) (at : ℕ) (f : ShapeFault) → unless b at f ≡ [] → b ≡ true
none_unless true at f h = refl
none_unless false at f h = cc

pub none_at : (at : ℕ) (r : Rules) → breaks_at at r ≡ [] → (r.in_scope ≡ true) × (r.typed ≡ true) × (r.counted ≡ true) × (r.sized ≡ true)
none_at at r h =
    let a = none_append (unless r.in_scope at Use ++ unless r.typed at WrongType ++ unless r.counted at Count) (unless r.sized at Size) h in
    let b = none_append (unless r.in_scope at Use ++ unless r.typed at WrongType) (unless r.counted at Count) a.0 in
    let c = none_append (unless r.in_scope at Use) (unless r.typed at WrongType) b.0 in
    (none_unless r.in_scope at Use c.0, none_unless r.typed at WrongType c.1, none_unless r.counted at Count b.1, none_unless r.sized at Size a.1)

-- each of a list

pub each_append : {X : Type 0} (P : X → Type 0) (xs ys : List X) → Each P xs → Each P ys → Each P (xs ++ ys)
each_append P [] ys h g = g
each_append P (x ∷ xs) ys h g = (h.0, each_append P xs ys h.1 g)

pub each_parts : {X : Type 0} (P : X → Type 0) (xs ys : List X) → Each P (xs ++ ys) → Each P xs × Each P ys
each_parts P [] ys h = (tt, h)
each_parts P (x ∷ xs) ys h = let g = each_parts P xs ys h.1 in ((h.0, g.0), g.1)

pub each_take : {X : Type 0} (P : X → Type 0) (n : ℕ) (xs : List X) → Each P xs → Each P (take n xs)
each_take P zero xs h = tt
each_take P (suc n) [] h = tt
each_take P (suc n) (x ∷ xs) h = (h.0, each_take P n xs h.1)

pub each_drop : {X : Type 0} (P : X → Type 0) (n : ℕ) (xs : List X) → Each P xs → Each P (drop n xs)
each_drop P zero xs h = h
each_drop P (suc n) [] h = tt
each_drop P (suc n) (x ∷ xs) h = each_drop P n xs h.1

-- values that their labels find, and those that can be written

abbrev pub Found : List Value → Value → Type 0
Found vs v = value_at vs v.label ≡ Some v

pub record Good (vs : List Value) (v : Value) : Type 0 where
  pub found : value_at vs v.label ≡ Some v
  pub name : is_name v.name ≡ true
  pub place : v.place < 2 ^ 64
  pub ty : IsType v.ty

pub use_finds : (naming : Naming) (scope : List Value) (l : Label) → Each (Good naming.values) scope → is_in_scope scope l ≡ true → Finds naming l
use_finds naming [] l h e = cc
use_finds naming (v ∷ vs) l h e = elim (same_or v.label l.0) [
  | inl q ↦ record { value = v; found = subst (λ (x : ℕ). value_at naming.values x ≡ Some v) q h.0.found; name = h.0.name; place = h.0.place; ty = h.0.ty }
  | inr ne ↦ use_finds naming vs l h.1 (rw (ne_eqb v.label l.0 ne) at e)
]

pub uses_find : (naming : Naming) (scope : List Value) (ls : List Label) → Each (Good naming.values) scope → list_all (is_in_scope scope) ls ≡ true → Each (Finds naming) ls
uses_find naming scope [] h e = tt
uses_find naming scope (l ∷ ls) h e =
    let p = and_parts (is_in_scope scope l) (list_all (is_in_scope scope) ls) e in
    (use_finds naming scope l h p.0, uses_find naming scope ls h p.1)

-- arguments

free_named : (a b : Bool) → ((a && b) || false) ≡ true → a ≡ true
free_named true b e = refl
free_named false b e = cc

pub args_good : (vs : List Value) (n : ℕ) (wanted : List IrType) (scope : List Value) (at : Position) (p : ℕ) → at.next ≡ p → (args : List Arg) → args_breaks false n wanted scope at args ≡ []
    → WideArgs args → Each (Found vs) (arg_values p args) → Each (Good vs) (arg_values p args) × Each IsArg args
args_good vs n wanted scope at p e [] h w f = (tt, tt)
args_good vs n wanted scope at p e (arg ∷ args) h w f =
    let b = none_append (breaks_at at.last (arg_rules false n wanted scope arg)) (args_breaks false (n + 1) (drop 1 wanted) (scope ++ arg_values at.next (arg ∷ [])) (past 1 0 at) args) h in
    let r = none_at at.last (arg_rules false n wanted scope arg) b.0 in
    let t = and_parts ((is_free scope arg.name) || false) (same_types (arg.ty ∷ []) wanted) r.1 in
    let name : is_name arg.name ≡ true = free_named (is_name arg.name) (not (has_name scope arg.name)) t.0 in
    let g = args_good vs (n + 1) (drop 1 wanted) (scope ++ arg_values at.next (arg ∷ [])) (past 1 0 at) (p + 1) (omega arith) args b.1 w.1 f.1 in
    ((record { found = f.0; name = name; place = omega arith; ty = w.0 }, g.0), ((name, w.0), g.1))

-- results

packs_few : (packs : List Pack) (n : ℕ) → packs_hold packs n ≡ true → n < 2 ^ 64 → Each (λ (pack : Pack). pack.count < 2 ^ 64) packs
packs_few [] n h le = tt
packs_few (pack ∷ packs) n h le =
    let a = and_parts (nat_lt 0 pack.count && nat_le pack.count n) (packs_hold packs (n - pack.count)) h in
    let b = and_parts (nat_lt 0 pack.count) (nat_le pack.count n) a.0 in
    let c : pack.count ≤ n = grind (arith, nat_tests) in
    (omega arith, packs_few packs (n - pack.count) a.1 (omega arith))

packs_named : (scope : List Value) (packs : List Pack) → are_free scope packs ≡ true → Each (λ (pack : Pack). IsName pack.name) packs
packs_named scope [] h = tt
packs_named scope (pack ∷ packs) h =
    let a = and_parts (is_free scope pack.name && not (list_any (λ (other : Pack). bytes_eq other.name pack.name) packs)) (are_free scope packs) h in
    let b = and_parts (is_free scope pack.name) (not (list_any (λ (other : Pack). bytes_eq other.name pack.name) packs)) a.0 in
    let c = and_parts (is_name pack.name) (not (has_name scope pack.name)) b.0 in
    (c.0, packs_named scope packs a.1)

both_packs : (packs : List Pack) → Each (λ (pack : Pack). IsName pack.name) packs → Each (λ (pack : Pack). pack.count < 2 ^ 64) packs → Each IsPack packs
both_packs [] h g = tt
both_packs (pack ∷ packs) h g = ((h.0, g.0), both_packs packs h.1 g.1)

pub packs_good : (scope : List Value) (packs : List Pack) (n : ℕ) → are_free scope packs ≡ true → packs_hold packs n ≡ true → n ≤ 16 → Each IsPack packs
packs_good scope packs n h g le = both_packs packs (packs_named scope packs h) (packs_few packs n g (omega arith))

pack_good : (vs : List Value) (at : ℕ) (pack : Pack) (place : ℕ) (tys : List IrType) → IsPack pack → place + length tys ≤ pack.count → Each IsType tys → Each (Found vs) (pack_values at pack place tys)
    → Each (Good vs) (pack_values at pack place tys)
pack_good vs at pack place [] h le w f = tt
pack_good vs at pack place (ty ∷ tys) h le w f =
    (record { found = f.0; name = h.0; place = omega (arith, h.1); ty = w.0 }, pack_good vs (at + 1) pack (place + 1) tys h (omega arith) w.1 f.1)

pub results_good : (vs : List Value) (at : ℕ) (packs : List Pack) (tys : List IrType) → Each IsPack packs → Each IsType tys → Each (Found vs) (result_values at packs tys) → Each (Good vs) (result_values at packs tys)
results_good vs at [] tys h w f = tt
results_good vs at (pack ∷ packs) tys h w f =
    let p = each_parts (Found vs) (pack_values at pack 0 (take pack.count tys)) (result_values (at + pack.count) packs (drop pack.count tys)) f in
    let few = take_few pack.count tys in
    each_append (Good vs) (pack_values at pack 0 (take pack.count tys)) (result_values (at + pack.count) packs (drop pack.count tys))
    (pack_good vs at pack 0 (take pack.count tys) h.0 (omega (arith, few.0)) (each_take IsType pack.count tys w) p.0)
    (results_good vs (at + pack.count) packs (drop pack.count tys) h.1 (each_drop IsType pack.count tys w) p.1)
