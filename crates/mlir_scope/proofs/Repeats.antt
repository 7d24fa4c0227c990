-- Names that are defined a second time.
use Rattle.std.proofs.lemmas.List.{append-nil, take-append-le}
use Rattle.mlir_scope.specs.declared.first.ScopeFault.{ScopeFault}
use Rattle.mlir_scope.specs.Noted.{noted}
use Rattle.mlir_scope.proofs.Notes.{noted_more}
use Rattle.std.proofs.Common.{Option, ◌+◌, ◌≤◌, length-append, arith, ◌≡◌, ℕ, List, [], ◌∷◌, ◌++◌, Bool, true, false, ◌||◌, refl, ap, ◌∙◌, sym, length, take}
use Rattle.std.proofs.lemmas.Bool.Decides.{same_from_decides}
use Rattle.std.proofs.lemmas.Slice.Eq.{bytes_eq-Decides}
use Rattle.std.specs.Str.{bytes_eq}
use Rattle.mlir_ir.specs.Rules.{has_name}
use Rattle.mlir_ir.specs.ScopeFaults.{is_defined, names_of, repeated, broken}
use Rattle.mlir_ir.specs.Source.{Defined}
use Rattle.mlir_ir.specs.Values.{Value}
use Rattle.mlir_ir.specs.declared.scope_kind.ScopeKind.TheVariants.{Twice}

bytes_turned : (a b : List ℕ) → bytes_eq a b ≡ bytes_eq b a
bytes_turned a b =
    let turned = bytes_eq-Decides b a in
    same_from_decides (bytes_eq a b) (bytes_eq b a) (bytes_eq-Decides a b) ((λ e. sym (turned.0 e)), (λ e. turned.1 (sym e)))

-- the same names, in scope and in a list
pub defined_has : (name : List ℕ) (scope : List Value) → is_defined name (names_of scope) ≡ has_name scope name
defined_has name [] = refl
defined_has name (v ∷ scope) = ap (λ b. b || is_defined name (names_of scope)) (bytes_turned name v.name) ∙ ap (λ b. bytes_eq v.name name || b) (defined_has name scope)

or_turned : (a b : Bool) → (a || b) ≡ (b || a)
or_turned true true = refl
or_turned true false = refl
or_turned false true = refl
or_turned false false = refl

or_assoc : (a b c : Bool) → (a || (b || c)) ≡ (b || (a || c))
or_assoc true true c = refl
or_assoc true false c = refl
or_assoc false b c = refl

-- the order of names has no part
defined_behind : (name new : List ℕ) (scope : List Value) (v : Value) → v.name ≡ new → is_defined name (names_of (scope ++ v ∷ [])) ≡ is_defined name (new ∷ names_of scope)
defined_behind name new [] v is = ap (λ n. bytes_eq name n || false) is
defined_behind name new (w ∷ scope) v is =
    ap (λ b. bytes_eq name w.name || b) (defined_behind name new scope v is) ∙ or_assoc (bytes_eq name w.name) (bytes_eq name new) (is_defined name (names_of scope))

repeated_same : (a b : List (List ℕ)) (ds : List Defined) → ((n : List ℕ) → is_defined n a ≡ is_defined n b) → repeated a ds ≡ repeated b ds
repeated_same a b [] same = refl
repeated_same a b (d ∷ ds) same =
    ap (λ t. broken t d.at Twice ++ repeated (d.name ∷ a) ds) (same d.name)
    ∙ ap (λ bs. broken (is_defined d.name b) d.at Twice ++ bs) (repeated_same (d.name ∷ a) (d.name ∷ b) ds (λ n. ap (λ t. bytes_eq n d.name || t) (same n)))

-- a definition, with later ones where its name is in scope
pub repeated_more : (scope more : List Value) (v : Value) (d : Defined) (ds : List Defined) → more ≡ scope ++ v ∷ [] → v.name ≡ d.name
    → repeated (names_of scope) (d ∷ ds) ≡ broken (has_name scope d.name) d.at Twice ++ repeated (names_of more) ds
repeated_more scope more v d ds is named =
    ap (λ t. broken t d.at Twice ++ repeated (d.name ∷ names_of scope) ds) (defined_has d.name scope)
    ∙ ap (λ bs. broken (has_name scope d.name) d.at Twice ++ bs)
    (repeated_same (d.name ∷ names_of scope) (names_of (scope ++ v ∷ [])) ds (λ n. sym (defined_behind n d.name scope v named)) ∙ ap (λ s. repeated (names_of s) ds) (sym is))

-- one definition more is noted, and its name is in scope from then on
pub repeated_step : (best more : Option ScopeFault) (scope new : List Value) (v : Value) (d : Defined) (all ds : List Defined) (taken : Bool)
    → all ≡ d ∷ ds → new ≡ scope ++ v ∷ [] → v.name ≡ d.name → taken ≡ has_name scope d.name → more ≡ noted best (broken taken d.at Twice)
    → noted best (repeated (names_of scope) all) ≡ noted more (repeated (names_of new) ds)
repeated_step best more scope new v d all ds taken parts is named test_is noted_is =
    noted_more best more (repeated (names_of scope) all) (broken taken d.at Twice) (repeated (names_of new) ds) noted_is
    (ap (repeated (names_of scope)) parts ∙ repeated_more scope new v d ds is named ∙ ap (λ t. broken t d.at Twice ++ repeated (names_of new) ds) (sym test_is))

-- the values before one that is put behind them
pub kept_before : {X : Type 0} (len : ℕ) (all new : List X) (x : X) → new ≡ all ++ x ∷ [] → len ≤ length all → (take len new ≡ take len all) × (len ≤ length new)
kept_before len all new x is h =
    let longer : length new ≡ length all + 1 = ap length is ∙ length-append all (x ∷ []) in
    (ap (take len) is ∙ take-append-le len all (x ∷ []) h, omega arith)

-- one definition alone
pub repeated_one : (best more : Option ScopeFault) (scope : List Value) (d : Defined) (taken : Bool)
    → taken ≡ has_name scope d.name → more ≡ noted best (broken taken d.at Twice) → more ≡ noted best (repeated (names_of scope) (d ∷ []))
repeated_one best more scope d taken test_is noted_is =
    noted_is ∙ ap (noted best) (ap (λ t. broken t d.at Twice) (test_is ∙ sym (defined_has d.name scope)) ∙ sym (append-nil (broken (is_defined d.name (names_of scope)) d.at Twice)))
