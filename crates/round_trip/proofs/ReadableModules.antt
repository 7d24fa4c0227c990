-- Modules of well-formed functions are read back.
use Rattle.std.proofs.Common.{suc, zero, ◌≡◌, ℕ, ◌+◌, ◌<◌, ◌≤◌, ◌==◌, Bool, true, false, List, [], ◌∷◌, ◌++◌, refl, ap, ◌∙◌, subst, map, length, if◌then◌else◌, Option, Some, slice_get, slice_index_or, arith, IfSome}
use Rattle.std.proofs.lemmas.Bool.Decides.{nat_tests}
use Rattle.std.specs.List.{All}
use Rattle.std.specs.Str.{bytes_eq}
use Rattle.arith_word.specs.Labels.{label_at}
use Rattle.mlir_ir.specs.Calls.{Called, func_calls, ArePlaced, AreNamedApart}
use Rattle.mlir_ir.specs.Canonical.{naming_of}
use Rattle.mlir_ir.specs.Check.{IsWellFormed, breaks_at, args_breaks, func_begin, is_declaration, body_breaks}
use Rattle.mlir_ir.specs.Labels.{ops_labels}
use Rattle.mlir_ir.specs.Limits.{label_limit}
use Rattle.mlir_ir.specs.Places.{HasFewLabels}
use Rattle.mlir_ir.specs.Resolved.{place_named}
use Rattle.mlir_ir.specs.Rules.{head_rules}
use Rattle.mlir_ir.specs.Values.{func_values}
use Rattle.mlir_ir.specs.declared.types.Body.{Body}
use Rattle.mlir_ir.specs.declared.types.Func.{Func}
use Rattle.mlir_ir.specs.declared.types.Item.{Item}
use Rattle.mlir_ir.proofs.LabelsFit.{labels_fit}
use Rattle.round_trip.specs.Flat.{flat_label}
use Rattle.round_trip.specs.Readable.{Reading, ReadableFunc, ReadableFuncs, ReadableModule}
use Rattle.round_trip.specs.Sound.{Each}
use Rattle.round_trip.specs.Widths.{IsWide, HasWidths, Named, IsPrintable}
use Rattle.round_trip.proofs.HeldScopes.{same_bytes}
use Rattle.round_trip.proofs.ReadableBodies.{body_kept}
use Rattle.round_trip.proofs.SoundFunctions.{func_sound}
use Rattle.round_trip.proofs.SoundModules.{each_all, each_both, name_at, func_named}
use Rattle.round_trip.proofs.SoundPlaces.{values_between, all_found, each_of}
use Rattle.round_trip.proofs.SoundScopes.{none_append}
use Rattle.round_trip.proofs.Tests.{and_parts}

-- names find their functions

pub bytes_true : (xs ys : List ℕ) → bytes_eq xs ys ≡ true → xs ≡ ys
bytes_true [] [] h = refl
bytes_true [] (y ∷ ys) h = cc
bytes_true (x ∷ xs) [] h = cc
bytes_true (x ∷ xs) (y ∷ ys) h =
    let p = and_parts (x == y) (bytes_eq xs ys) h in
    let e : x ≡ y = grind (arith, nat_tests) in
    λ t. e t ∷ bytes_true xs ys p.1 t

pub never : (b : Bool) → (b ≡ true → ⊥) → b ≡ false
never true h = absurd (h refl)
never false h = refl

pub func_at : (fs : List Func) (k : ℕ) → k < length fs → (g : Func) × (slice_get fs k ≡ Some g) × (slice_index_or (map (λ (f : Func). f.name) fs) k [] ≡ g.name)
func_at [] k l = absurd (omega arith)
func_at (f ∷ fs) zero l = (f, refl, refl)
func_at (f ∷ fs) (suc k) l = func_at fs k (omega arith)

place_back : (fs : List Func) (k : ℕ) → k < length fs → AreNamedApart fs → place_named (slice_index_or (map (λ (f : Func). f.name) fs) k []) (map (λ (f : Func). f.name) fs) ≡ k
place_back [] k l apart = absurd (omega arith)
place_back (f ∷ fs) zero l apart = rw (same_bytes f.name) refl
place_back (f ∷ fs) (suc k) l apart =
    let names = map (λ (f : Func). f.name) fs in
    let at = func_at fs k (omega arith) in
    let name = slice_index_or names k [] in
    let differs : bytes_eq f.name name ≡ false = never (bytes_eq f.name name) (λ same. (let e : 0 ≡ suc k = apart 0 (suc k) f at.0 refl at.1 (bytes_true f.name name same ∙ at.2) in omega (arith, e))) in
    let tail : AreNamedApart fs = λ i j a b ea eb en. (let e : suc i ≡ suc j = apart (suc i) (suc j) a b ea eb en in omega (arith, e)) in
    ap (λ (c : Bool). if c then 0 else 1 + place_named name names) differs ∙ (let more = place_back fs k (omega arith) tail in omega (arith, more))

-- a function

abbrev Placed : List (List ℕ) → Called → Type 0
Placed names call = place_named (slice_index_or names call.func []) names ≡ call.func

items_few : (body : Option Body) → IfSome body (λ (b : Body). All HasFewLabels b.items) → (b : Body) → body ≡ Some b → Each (λ (item : Item). ops_labels item.ops ≤ label_limit) b.items
items_few body fit b e =
    let all : All HasFewLabels b.items = subst (λ (o : Option Body). IfSome o (λ (b : Body). All HasFewLabels b.items)) e fit in
    each_all (λ (item : Item). ops_labels item.ops ≤ label_limit) b.items (λ k d l. all k d l)

func_readable : (names : List (List ℕ)) (index : ℕ) (f : Func) → f.index ≡ index → IsWellFormed f → IsWide (Named names) f → Each (Placed names) (func_calls f) → ReadableFunc names index f
func_readable names index f e h w c =
    let head = breaks_at (func_begin f).last (head_rules f) in
    let args = args_breaks (is_declaration f.body) 0 [] [] (func_begin f) f.args in
    let b = none_append (head ++ args) (body_breaks f f.body) h in
    let a = none_append head args b.0 in
    let found = all_found (label_at f.index 0 0) _ (func_values f) (values_between f f.body a.1 b.1) in
    let sound = func_sound names f h w in
    let fit = labels_fit f h in
    let r : Reading = record { naming = naming_of names f; other = flat_label f.index f.body } in
    (e, w.0, w.1, body_kept r f f.body sound.2 refl fit.args_fit (items_few f.body fit.items_fit) a.1 b.1 found c)

funcs_readable : (names : List (List ℕ)) (index : ℕ) (fs : List Func) → Each IsWellFormed fs → Each (IsWide (Named names)) fs → Each (λ (f : Func). Each (Placed names) (func_calls f)) fs
    → ((k : ℕ) (f : Func) → slice_get fs k ≡ Some f → f.index ≡ index + k) → ReadableFuncs names index fs
funcs_readable names index [] h w c at = tt
funcs_readable names index (f ∷ fs) h w c at =
    let first : index + 0 ≡ index = omega arith in (
      func_readable names index f (at 0 f refl ∙ first) h.0 w.0 c.0,
      funcs_readable names (index + 1) fs h.1 w.1 c.1 (λ k g e. (let next : index + suc k ≡ index + 1 + k = omega arith in at (suc k) g e ∙ next)),
    )

pub module_readable : (fs : List Func) → IsPrintable fs → ArePlaced fs → AreNamedApart fs → ReadableModule fs
module_readable fs h placed apart =
    let names = map (λ (f : Func). f.name) fs in
    let calls : Each (λ (f : Func). Each (Placed names) (func_calls f)) fs = each_of (λ (f : Func). Each (Placed names) (func_calls f)) fs
    (λ k f e. each_all (Placed names) (func_calls f) (λ i d l. place_back fs _ (h.calls_fit k f e i d l).0 apart)) in
    let named : Each (λ (f : Func). Each (λ (call : Called). Named names call.func) (func_calls f)) fs = each_of (λ (f : Func). Each (λ (call : Called). Named names call.func) (func_calls f)) fs
    (λ k f e. each_all (λ (call : Called). Named names call.func) (func_calls f) (λ i d l. name_at fs _ h.well_formed (h.calls_fit k f e i d l).0)) in
    funcs_readable names 0 fs h.well_formed (each_both HasWidths (λ (f : Func). Each (λ (call : Called). Named names call.func) (func_calls f)) (IsWide (Named names)) (λ f w c. func_named (Named names) f w c) fs h.widths named) calls
    (λ k f e. (let same : k ≡ 0 + k = omega arith in placed k f e ∙ same))
