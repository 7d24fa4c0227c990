-- Packs and arguments with names of their own, whose numbers fit, break no rule.
use Rattle.std.proofs.Common.{◌≡◌, ℕ, ◌+◌, ◌-◌, ◌≤◌, ◌==◌, ◌&&◌, ◌||◌, not, Bool, true, false, List, [], ◌∷◌, ◌++◌, refl, ap, ◌∙◌, sym, subst, map, length, nat_lt, nat_le, arith, take, drop, eq-eqb, suc, zero}
use Rattle.std.proofs.lemmas.Bool.Decides.{nat_tests}
use Rattle.std.specs.List.{list_any}
use Rattle.std.specs.Str.{bytes_eq}
use Rattle.mlir_ir.specs.Limits.{result_limit}
use Rattle.mlir_ir.specs.Names.{is_name}
use Rattle.mlir_ir.specs.Resolved.{packs_of}
use Rattle.mlir_ir.specs.Rules.{has_name, is_free, are_free, packs_hold}
use Rattle.mlir_ir.specs.ScopeFaults.{over, is_defined, repeated, names_of, total, many_results, packs_breaks}
use Rattle.mlir_ir.specs.Source.{Defined, Packed}
use Rattle.mlir_ir.specs.Values.{Value, arg_values}
use Rattle.mlir_ir.specs.declared.scope_kind.ScopeKind.TheVariants.{Twice, Limit, Arity}
use Rattle.mlir_ir.specs.declared.types.Arg.{Arg}
use Rattle.round_trip.specs.Readable.{FreeArgs, PacksFit}
use Rattle.round_trip.specs.Sound.{Each}
use Rattle.round_trip.proofs.FreeNames.{SameNames, names_both}
use Rattle.round_trip.proofs.HeldScopes.{turn_bytes, not_held}
use Rattle.round_trip.proofs.SeenUses.{no_break}
use Rattle.round_trip.proofs.Tests.{and_parts, or_false}

pub scope_names : (s : List Value) (name : List ℕ) → is_defined name (names_of s) ≡ has_name s name
scope_names [] name = refl
scope_names (v ∷ vs) name = λ i. turn_bytes name v.name i || scope_names vs name i

-- definitions whose names differ from these, and from one another
abbrev pub Apart : List (List ℕ) → List Defined → Type 0
Apart names [] = Unit {0}
Apart names (d ∷ ds) = (is_defined d.name names ≡ false) × Apart (d.name ∷ names) ds

pub apart_fine : (names : List (List ℕ)) (ds : List Defined) → Apart names ds → repeated names ds ≡ []
apart_fine names [] h = refl
apart_fine names (d ∷ ds) h = λ i. no_break (is_defined d.name names) d.at Twice h.0 i ++ apart_fine (d.name ∷ names) ds h.1 i

-- arguments

or_turn : (a b : Bool) → (a || b) ≡ (b || a)
or_turn true true = refl
or_turn true false = refl
or_turn false true = refl
or_turn false false = refl

or_none : (a : Bool) → (a || false) ≡ a
or_none true = refl
or_none false = refl

grown_names : (names : List (List ℕ)) (scope : List Value) (arg : Arg) → ((name : List ℕ) → is_defined name names ≡ has_name scope name)
    → (name : List ℕ) → is_defined name (arg.name ∷ names) ≡ has_name (scope ++ arg_values 0 (arg ∷ [])) name
grown_names names scope arg e name =
    (λ i. turn_bytes name arg.name i || e name i) ∙ or_turn (bytes_eq arg.name name) (has_name scope name) ∙ ap (λ (b : Bool). has_name scope name || b) (sym (or_none (bytes_eq arg.name name))) ∙ sym (names_both scope (arg_values 0 (arg ∷ [])) name)

args_apart : (names : List (List ℕ)) (scope : List Value) (args : List Arg) (ds : List Defined) → ((name : List ℕ) → is_defined name names ≡ has_name scope name)
    → map (λ (d : Defined). d.name) ds ≡ map (λ (arg : Arg). arg.name) args → FreeArgs scope args → Apart names ds
args_apart names scope [] [] e same h = tt
args_apart names scope [] (d ∷ ds) e same h = cc
args_apart names scope (arg ∷ args) [] e same h = cc
args_apart names scope (arg ∷ args) (d ∷ ds) e same h =
    let first : d.name ≡ arg.name = cc in
    let rest : map (λ (d : Defined). d.name) ds ≡ map (λ (arg : Arg). arg.name) args = cc in (
      ap (λ (name : List ℕ). is_defined name names) first ∙ e arg.name ∙ h.0,
      subst (λ (name : List ℕ). Apart (name ∷ names) ds) (sym first) (args_apart (arg.name ∷ names) (scope ++ arg_values 0 (arg ∷ [])) args ds (grown_names names scope arg e) rest h.1),
    )

-- arguments with other names than those in scope
pub args_fine : (s scope : List Value) (args : List Arg) (ds : List Defined) → SameNames s scope → map (λ (d : Defined). d.name) ds ≡ map (λ (arg : Arg). arg.name) args → FreeArgs scope args → repeated (names_of s) ds ≡ []
args_fine s scope args ds e same h = apart_fine (names_of s) ds (args_apart (names_of s) scope args ds (λ name. scope_names s name ∙ e name) same h)

-- packs

abbrev at_name : Packed → Defined
at_name p = record { at = p.at; name = p.name }

abbrev Unused : List (List ℕ) → Packed → Type 0
Unused names p = is_defined p.name names ≡ false

later_unused : (d : Packed) (names : List (List ℕ)) (ps : List Packed) → list_any (λ other. bytes_eq other.name d.name) (packs_of ps) ≡ false → Each (Unused names) ps → Each (Unused (d.name ∷ names)) ps
later_unused d names [] h u = tt
later_unused d names (p ∷ ps) h u =
    let b = or_false (bytes_eq p.name d.name) (list_any (λ other. bytes_eq other.name d.name) (packs_of ps)) h in
    ((λ i. b.0 i || u.0 i), later_unused d names ps b.1 u.1)

packs_apart : (scope : List Value) (names : List (List ℕ)) (ps : List Packed) → are_free scope (packs_of ps) ≡ true → Each (Unused names) ps → Apart names (map at_name ps)
packs_apart scope names [] h u = tt
packs_apart scope names (p ∷ ps) h u =
    let later = list_any (λ other. bytes_eq other.name p.name) (packs_of ps) in
    let a = and_parts (is_free scope p.name && not later) (are_free scope (packs_of ps)) h in
    let b = and_parts (is_free scope p.name) (not later) a.0 in
    (u.0, packs_apart scope (p.name ∷ names) ps a.1 (later_unused p names ps (not_held later b.1) u.1))

all_unused : (s scope : List Value) (ps : List Packed) → SameNames s scope → are_free scope (packs_of ps) ≡ true → Each (Unused (names_of s)) ps
all_unused s scope [] e h = tt
all_unused s scope (p ∷ ps) e h =
    let later = list_any (λ other. bytes_eq other.name p.name) (packs_of ps) in
    let a = and_parts (is_free scope p.name && not later) (are_free scope (packs_of ps)) h in
    let b = and_parts (is_free scope p.name) (not later) a.0 in
    let c = and_parts (is_name p.name) (not (has_name scope p.name)) b.0 in
    (scope_names s p.name ∙ e p.name ∙ not_held (has_name scope p.name) c.1, all_unused s scope ps e a.1)

many_fine : (n : ℕ) (ps : List Packed) → n + total ps ≤ result_limit → many_results n ps ≡ []
many_fine n [] h = refl
many_fine n (p ∷ ps) h =
    let within : n + p.count ≤ result_limit = omega (arith, h) in
    let not_over : nat_lt result_limit (n + p.count) ≡ false = grind (arith, nat_tests, within) in
    λ i. no_break (nat_lt result_limit (n + p.count)) p.at Limit not_over i ++ many_fine (n + p.count) ps (omega (arith, h)) i

-- packs that share out so many results
hold_parts : (p : Packed) (ps : List Packed) (n : ℕ) → packs_hold (packs_of (p ∷ ps)) n ≡ true → (1 ≤ p.count) × (p.count ≤ n) × (packs_hold (packs_of ps) (n - p.count) ≡ true)
hold_parts p ps n h =
    let a = and_parts (nat_lt 0 p.count && nat_le p.count n) (packs_hold (packs_of ps) (n - p.count)) h in
    let b = and_parts (nat_lt 0 p.count) (nat_le p.count n) a.0 in
    (grind (arith, nat_tests, b.0), grind (arith, nat_tests, b.1), a.1)

pub hold_total : (ps : List Packed) (n : ℕ) → packs_hold (packs_of ps) n ≡ true → total ps ≡ n
hold_total [] n h = grind (arith, nat_tests, h)
hold_total (p ∷ ps) n h = let a = hold_parts p ps n h in let more = hold_total ps (n - p.count) a.2 in omega (arith, more, a.1)

hold_some : (ps : List Packed) (n : ℕ) → packs_hold (packs_of ps) n ≡ true → list_any (λ (p : Packed). p.count == 0) ps ≡ false
hold_some [] n h = refl
hold_some (p ∷ ps) n h =
    let a = hold_parts p ps n h in
    let some : (p.count == 0) ≡ false = grind (arith, nat_tests, a.0) in
    λ i. some i || hold_some ps (n - p.count) a.2 i

pub packs_fine : (s scope : List Value) (at n : ℕ) (ps : List Packed) → SameNames s scope → PacksFit scope (packs_of ps) n → n ≤ result_limit → packs_breaks s at n ps ≡ []
packs_fine s scope at n ps e fit few =
    let all = hold_total ps n fit.1 in
    let names = apart_fine (names_of s) (map at_name ps) (packs_apart scope (names_of s) ps fit.0 (all_unused s scope ps e fit.0)) in
    let count = no_break (not (total ps == n) || list_any (λ (p : Packed). p.count == 0) ps) at Arity ((λ i. not (eq-eqb (total ps) n all i) || list_any (λ (p : Packed). p.count == 0) ps) ∙ hold_some ps n fit.1) in
    λ i. names i ++ many_fine 0 ps (omega (arith, all, few)) i ++ count i

-- lists within their limit

none_left : (limit : ℕ) (tokens : List ℕ) → length tokens ≤ limit → drop limit tokens ≡ []
none_left zero [] h = refl
none_left (suc limit) [] h = refl
none_left zero (t ∷ tokens) h = absurd (omega arith)
none_left (suc limit) (t ∷ tokens) h = none_left limit tokens (omega (arith, h))

pub fine_over : (limit : ℕ) (tokens : List ℕ) → over limit tokens ≡ [] → length tokens ≤ limit
fine_over zero [] h = omega arith
fine_over zero (t ∷ tokens) h = cc
fine_over (suc limit) [] h = omega arith
fine_over (suc limit) (t ∷ tokens) h = let more = fine_over limit tokens h in omega (arith, more)

pub over_fine : (limit : ℕ) (tokens : List ℕ) → length tokens ≤ limit → over limit tokens ≡ []
over_fine limit tokens h = ap (λ (xs : List ℕ). map (λ (at : ℕ). record { at = at; kind = Limit }) (take 1 xs)) (none_left limit tokens h)
