-- What the rules say of operations that are read back: types, packs and calls.
use Rattle.std.proofs.Common.{◌≡◌, ℕ, ◌+◌, ◌<◌, ◌&&◌, true, List, [], ◌∷◌, ◌++◌, length, refl, ap, ◌∙◌, subst, arith, map, take, drop, ◌-◌, ◌^◌, ◌≤◌, nat_le, nat_lt, slice_index_or, length-drop}
use Rattle.std.proofs.lemmas.Bool.Decides.{nat_tests}
use Rattle.std.specs.List.{list_all}
use Rattle.arith_word.specs.declared.label.Label.{Label}
use Rattle.mlir_ir.specs.declared.shape.Shape.{Shape}
use Rattle.mlir_ir.specs.declared.rules.Nest.{Nest}
use Rattle.mlir_ir.specs.declared.rules.Position.{Position}
use Rattle.mlir_ir.specs.declared.rules.Rules.{Rules}
use Rattle.mlir_ir.specs.declared.types.Arg.{Arg}
use Rattle.mlir_ir.specs.declared.types.Pack.{Pack}
use Rattle.mlir_ir.specs.declared.types.IrType.{IrType}
use Rattle.mlir_ir.specs.declared.types.Region.{Row_of-Op}
use Rattle.mlir_ir.specs.declared.types.Kind.{Kind}
use Rattle.mlir_ir.specs.Values.{Value, result_values}
use Rattle.mlir_ir.specs.Rules.{is_in_scope, have_types, op_rules, gives_number, are_free, packs_hold, is_kind_typed, is_kind_counted, is_kind_sized, is_short}
use Rattle.mlir_ir.specs.Limits.{result_limit, op_limit}
use Rattle.mlir_ir.specs.Check.{breaks_at, row_results}
use Rattle.mlir_ir.specs.Calls.{Called}
use Rattle.mlir_ir.specs.Resolved.{place_named}
use Rattle.mlir_ir.specs.Values.{pack_values}
use Rattle.round_trip.specs.Readable.{Reading, ReadsLabels, HasTypes, IsLiteral, ReadableRow, TypesAre}
use Rattle.round_trip.specs.Sound.{Each, IsArg, OneType}
use Rattle.round_trip.proofs.Tests.{and_parts}
use Rattle.round_trip.proofs.SoundScopes.{none_append, none_at}
use Rattle.round_trip.proofs.LabelOrder.{take_few}
use Rattle.round_trip.proofs.HeldScopes.{Held, labels_read, moved_value}
use Rattle.round_trip.proofs.HeldResults.{Shifts, shifts_part, first_shift}
use Rattle.round_trip.proofs.KnownTypes.{types_known}

-- calls name their callees
abbrev pub Keeps : Reading → Called → Type 0
Keeps r call = place_named (slice_index_or r.naming.funcs call.func []) r.naming.funcs ≡ call.func

-- what the rules say of an operation's packs
pub op_free : (scope : List Value) (nest : Nest) (at : Position) (last : ℕ) (packs : List Pack) (results : List IrType) (kind : Kind) → breaks_at last (op_rules scope nest at packs results kind) ≡ []
    → (are_free scope packs ≡ true) × (packs_hold packs (length results) ≡ true) × (length results < 2 ^ 64)
op_free scope nest at last packs results kind h =
    let r = none_at last (op_rules scope nest at packs results kind) h in
    let t = and_parts (are_free scope packs) (is_kind_typed scope results kind) r.1 in
    let c = and_parts (packs_hold packs (length results)) (is_kind_counted (length results) kind) r.2 in
    let short = list_all (λ (pack : Pack). is_short pack.name) packs in
    let s1 = and_parts (short && nat_le (length results) result_limit && nat_lt at.ops op_limit && nest.item_fits) (is_kind_sized nest.regions nest.loops kind) r.3 in
    let s2 = and_parts (short && nat_le (length results) result_limit && nat_lt at.ops op_limit) nest.item_fits s1.0 in
    let s3 = and_parts (short && nat_le (length results) result_limit) (nat_lt at.ops op_limit) s2.0 in
    let s4 = and_parts short (nat_le (length results) result_limit) s3.0 in
    let few : length results ≤ 16 = grind (arith, nat_tests) in
    (t.0, c.0, omega (arith, few))

-- types

pub literal_of : (v : ℕ) (results : List IrType) → OneType results → gives_number v results ≡ true → IsLiteral v results
literal_of v [] is h = is
literal_of v (ty ∷ []) is h = (is, grind (arith, nat_tests, h))
literal_of v (ty ∷ other ∷ more) is h = is

pub args_typed : (args : List Arg) → Each IsArg args → HasTypes args
args_typed [] is = tt
args_typed (arg ∷ args) is = (is.0.1, args_typed args is.1)

-- values that move

pub map_both : {A B : Type 0} (f : A → B) (xs ys : List A) → map f (xs ++ ys) ≡ map f xs ++ map f ys
map_both f [] ys = refl
map_both f (x ∷ xs) ys = ap (λ l. f x ∷ l) (map_both f xs ys)

pack_moved : (other : ℕ → ℕ) (at to : ℕ) (pack : Pack) (place : ℕ) (tys : List IrType) → Shifts other at to (length tys) → map (moved_value other) (pack_values at pack place tys) ≡ pack_values to pack place tys
pack_moved other at to pack place [] h = refl
pack_moved other at to pack place (ty ∷ tys) h =
    λ t. record { label = first_shift other at to (length (ty ∷ tys)) (omega arith) h t; name = pack.name; count = pack.count; place = place; ty = ty }
    ∷ pack_moved other (at + 1) (to + 1) pack (place + 1) tys (shifts_part other at to (length (ty ∷ tys)) 1 (length tys) (omega arith) h) t

pub results_moved : (other : ℕ → ℕ) (at to : ℕ) (packs : List Pack) (tys : List IrType) → packs_hold packs (length tys) ≡ true → Shifts other at to (length tys) → map (moved_value other) (result_values at packs tys) ≡ result_values to packs tys
results_moved other at to [] tys hold h = refl
results_moved other at to (pack ∷ packs) tys hold h =
    let P = pack_values at pack 0 (take pack.count tys) in
    let R = result_values (at + pack.count) packs (drop pack.count tys) in
    let a = and_parts (nat_lt 0 pack.count && nat_le pack.count (length tys)) (packs_hold packs (length tys - pack.count)) hold in
    let b = and_parts (nat_lt 0 pack.count) (nat_le pack.count (length tys)) a.0 in
    let within : pack.count ≤ length tys = grind (arith, nat_tests) in
    let left : length (drop pack.count tys) ≡ length tys - pack.count = length-drop pack.count tys in
    let taken = take_few pack.count tys in
    let few : length (take pack.count tys) ≤ length tys = omega (arith, taken.0, within) in
    let first : Shifts other at to (length (take pack.count tys)) = λ j less. h j (omega (arith, less, few)) in
    let rest : Shifts other (at + pack.count) (to + pack.count) (length (drop pack.count tys)) = shifts_part other at to (length tys) pack.count (length (drop pack.count tys)) (omega (arith, left, within)) h in
    map_both (moved_value other) P R ∙ (λ t. pack_moved other at to pack 0 (take pack.count tys) first t ++ results_moved other (at + pack.count) (to + pack.count) packs (drop pack.count tys) (ap (packs_hold packs) left ∙ a.1) rest t)

-- a row that is read back, with the scope behind it
pub record RowKept (r : Reading) (scope : List Value) (p to : ℕ) {m : _} (row : Row_of-Op m) : Type 0 where
  pub reads : ReadableRow r (map (moved_value r.other) scope) to row
  pub held : Each (Held r.naming.values (scope ++ row_results p row)) (scope ++ row_results p row)
  pub moved : map (moved_value r.other) (row_results p row) ≡ row_results to row

-- a region: its row, and what its terminator gives on
pub arm_kept : (r : Reading) (scope : List Value) (at : Position) (p to : ℕ) → at.next ≡ p → (n : _) (row : Row_of-Op n) (ends : List Label) (wanted : List IrType) (xs : List Shape) (last : ℕ) (rules : Rules) → (xs ++ breaks_at last rules) ≡ []
    → (rules.in_scope ≡ true → list_all (is_in_scope (scope ++ row_results at.next row)) ends ≡ true) → (rules.typed ≡ true → have_types (scope ++ row_results at.next row) wanted ends ≡ true) → (rules.counted ≡ true → length ends ≡ length wanted)
    → (xs ≡ [] → RowKept r scope p to row)
    → ReadableRow r (map (moved_value r.other) scope) to row × ReadsLabels r (map (moved_value r.other) scope ++ row_results to row) ends × TypesAre r wanted ends
arm_kept r scope at p to e n row ends wanted xs last rules h c t n2 ih =
    let b = none_append xs (breaks_at last rules) h in
    let s = ih b.0 in
    let kept = none_at last rules b.1 in
    let sees = subst (λ (x : ℕ). list_all (is_in_scope (scope ++ row_results x row)) ends ≡ true) e (c kept.0) in
    let typed = subst (λ (x : ℕ). have_types (scope ++ row_results x row) wanted ends ≡ true) e (t kept.1) in
    let same : map (moved_value r.other) (scope ++ row_results p row) ≡ map (moved_value r.other) scope ++ row_results to row = map_both (moved_value r.other) scope (row_results p row) ∙ (λ t. map (moved_value r.other) scope ++ s.moved t) in
    (s.reads, subst (λ (xs : List Value). ReadsLabels r xs ends) same (labels_read r (scope ++ row_results p row) ends s.held sees), types_known r (scope ++ row_results p row) s.held wanted ends sees typed (n2 kept.2))
