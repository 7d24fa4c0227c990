-- The results of an operation are found in scope by their names and places, and have other labels in the flat module.
use Rattle.std.proofs.Common.{◌≡◌, ℕ, ◌+◌, ◌-◌, ◌^◌, ◌<◌, ◌≤◌, ◌&&◌, not, true, false, List, [], ◌∷◌, ◌++◌, refl, ap, ◌∙◌, sym, map, length, take, drop, nat_lt, nat_le, arith, length-drop}
use Rattle.std.proofs.lemmas.Bool.Decides.{nat_tests}
use Rattle.std.specs.List.{list_any}
use Rattle.std.specs.Str.{bytes_eq}
use Rattle.mlir_ir.specs.Names.{is_name}
use Rattle.mlir_ir.specs.Rules.{has_name, is_free, are_free, packs_hold}
use Rattle.mlir_ir.specs.Values.{Value, arg_values, pack_values, result_values}
use Rattle.mlir_ir.specs.declared.types.Arg.{Arg}
use Rattle.mlir_ir.specs.declared.types.IrType.{IrType}
use Rattle.mlir_ir.specs.declared.types.Pack.{Pack}
use Rattle.round_trip.specs.Readable.{ReadsPack}
use Rattle.round_trip.specs.Sound.{Each}
use Rattle.round_trip.proofs.SoundScopes.{Found, each_append, each_parts}
use Rattle.round_trip.proofs.LabelOrder.{take_few}
use Rattle.round_trip.proofs.HeldScopes.{Held, held_both, pack_held, turn_bytes, moved_value, not_held}
use Rattle.round_trip.proofs.Tests.{and_parts, or_false}

-- what holds of the names of packs holds of those of their values

pack_named : (Q : List ℕ → Type 0) (at : ℕ) (pack : Pack) (place : ℕ) (tys : List IrType) → Q pack.name → Each (λ (v : Value). Q v.name) (pack_values at pack place tys)
pack_named Q at pack place [] h = tt
pack_named Q at pack place (ty ∷ tys) h = (h, pack_named Q (at + 1) pack (place + 1) tys h)

pub results_named : (Q : List ℕ → Type 0) (at : ℕ) (packs : List Pack) (tys : List IrType) → Each (λ (pack : Pack). Q pack.name) packs → Each (λ (v : Value). Q v.name) (result_values at packs tys)
results_named Q at [] tys h = tt
results_named Q at (pack ∷ packs) tys h =
    each_append (λ (v : Value). Q v.name) (pack_values at pack 0 (take pack.count tys)) (result_values (at + pack.count) packs (drop pack.count tys)) (pack_named Q at pack 0 (take pack.count tys) h.0)
    (results_named Q (at + pack.count) packs (drop pack.count tys) h.1)

no_name : (at : ℕ) (pack : Pack) (place : ℕ) (tys : List IrType) (name : List ℕ) → bytes_eq pack.name name ≡ false → has_name (pack_values at pack place tys) name ≡ false
no_name at pack place [] name h = refl
no_name at pack place (ty ∷ tys) name h = rw h (no_name (at + 1) pack (place + 1) tys name h)

others_differ : (at : ℕ) (pack : Pack) (tys : List IrType) (packs : List Pack) → list_any (λ (other : Pack). bytes_eq other.name pack.name) packs ≡ false → Each (λ (other : Pack). has_name (pack_values at pack 0 tys) other.name ≡ false) packs
others_differ at pack tys [] h = tt
others_differ at pack tys (other ∷ packs) h =
    let b = or_false (bytes_eq other.name pack.name) (list_any (λ (next : Pack). bytes_eq next.name pack.name) packs) h in
    (no_name at pack 0 tys other.name (turn_bytes pack.name other.name ∙ b.0), others_differ at pack tys packs b.1)

pub packs_free : (scope : List Value) (packs : List Pack) → are_free scope packs ≡ true → Each (λ (pack : Pack). has_name scope pack.name ≡ false) packs
packs_free scope [] h = tt
packs_free scope (pack ∷ packs) h =
    let a = and_parts (is_free scope pack.name && not (list_any (λ (other : Pack). bytes_eq other.name pack.name) packs)) (are_free scope packs) h in
    let b = and_parts (is_free scope pack.name) (not (list_any (λ (other : Pack). bytes_eq other.name pack.name) packs)) a.0 in
    let c = and_parts (is_name pack.name) (not (has_name scope pack.name)) b.0 in
    (not_held (has_name scope pack.name) c.1, packs_free scope packs a.1)

new_held : (values scope : List Value) (at : ℕ) (packs : List Pack) (tys : List IrType) → are_free scope packs ≡ true → packs_hold packs (length tys) ≡ true → length tys < 2 ^ 64 → Each (Found values) (result_values at packs tys)
    → Each (Held values (result_values at packs tys)) (result_values at packs tys)
new_held values scope at [] tys free hold few f = tt
new_held values scope at (pack ∷ packs) tys free hold few f =
    let P = pack_values at pack 0 (take pack.count tys) in
    let R = result_values (at + pack.count) packs (drop pack.count tys) in
    let fs = each_parts (Found values) P R f in
    let a = and_parts (is_free scope pack.name && not (list_any (λ (other : Pack). bytes_eq other.name pack.name) packs)) (are_free scope packs) free in
    let b = and_parts (is_free scope pack.name) (not (list_any (λ (other : Pack). bytes_eq other.name pack.name) packs)) a.0 in
    let h = and_parts (nat_lt 0 pack.count && nat_le pack.count (length tys)) (packs_hold packs (length tys - pack.count)) hold in
    let k = and_parts (nat_lt 0 pack.count) (nat_le pack.count (length tys)) h.0 in
    let within : pack.count ≤ length tys = grind (arith, nat_tests) in
    let left : length (drop pack.count tys) ≡ length tys - pack.count = length-drop pack.count tys in
    let taken = take_few pack.count tys in
    held_both values P R (pack_held values at pack 0 (take pack.count tys) (omega (arith, within, few)) (omega (arith, taken.0)) fs.0)
    (new_held values scope (at + pack.count) packs (drop pack.count tys) a.1 (ap (packs_hold packs) left ∙ h.1) (omega (arith, left, few)) fs.1)
    (results_named (λ (name : List ℕ). has_name P name ≡ false) (at + pack.count) packs (drop pack.count tys) (others_differ at pack (take pack.count tys) packs (not_held _ b.1)))

-- the scope behind an operation
pub results_held : (values scope : List Value) (at : ℕ) (packs : List Pack) (tys : List IrType) → are_free scope packs ≡ true → packs_hold packs (length tys) ≡ true → length tys < 2 ^ 64 → Each (Found values) (result_values at packs tys)
    → Each (Held values scope) scope → Each (Held values (scope ++ result_values at packs tys)) (scope ++ result_values at packs tys)
results_held values scope at packs tys free hold few f g =
    held_both values scope (result_values at packs tys) g (new_held values scope at packs tys free hold few f)
    (results_named (λ (name : List ℕ). has_name scope name ≡ false) at packs tys (packs_free scope packs free))

pub packs_reads : (packs : List Pack) (n : ℕ) → packs_hold packs n ≡ true → n < 2 ^ 64 → Each ReadsPack packs
packs_reads [] n h few = tt
packs_reads (pack ∷ packs) n h few =
    let a = and_parts (nat_lt 0 pack.count && nat_le pack.count n) (packs_hold packs (n - pack.count)) h in
    let b = and_parts (nat_lt 0 pack.count) (nat_le pack.count n) a.0 in
    let some : 1 ≤ pack.count = grind (arith, nat_tests) in
    let within : pack.count ≤ n = grind (arith, nat_tests) in
    ((some, omega (arith, within, few)), packs_reads packs (n - pack.count) a.1 (omega (arith, few)))

-- labels from `at` on become those from `to` on
abbrev pub Shifts : (ℕ → ℕ) → ℕ → ℕ → ℕ → Type 0
Shifts other at to n = (j : ℕ) → j < n → other (at + j) ≡ to + j

pub shifts_part : (other : ℕ → ℕ) (at to n i m : ℕ) → i + m ≤ n → Shifts other at to n → Shifts other (at + i) (to + i) m
shifts_part other at to n i m le h j less =
    let first : at + i + j ≡ at + (i + j) = omega arith in
    let second : to + (i + j) ≡ to + i + j = omega arith in
    ap other first ∙ h (i + j) (omega (arith, le, less)) ∙ second

pub first_shift : (other : ℕ → ℕ) (at to n : ℕ) → 0 < n → Shifts other at to n → other at ≡ to
first_shift other at to n some h = let e : at + 0 ≡ at = omega arith in let g : to + 0 ≡ to = omega arith in sym (ap other e) ∙ h 0 some ∙ g

pub args_moved : (other : ℕ → ℕ) (at to : ℕ) (args : List Arg) → Shifts other at to (length args) → map (moved_value other) (arg_values at args) ≡ arg_values to args
args_moved other at to [] h = refl
args_moved other at to (arg ∷ args) h =
    λ t. record { label = first_shift other at to (length (arg ∷ args)) (omega arith) h t; name = arg.name; count = 1; place = 0; ty = arg.ty } ∷ args_moved other (at + 1) (to + 1) args (shifts_part other at to (length (arg ∷ args)) 1 (length args) (omega arith) h) t
