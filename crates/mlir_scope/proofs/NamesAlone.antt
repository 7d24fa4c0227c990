-- Values that are found by their names alone.
use Rattle.std.proofs.Common.{◌≡◌, ℕ, ◌&&◌, ◌||◌, nat_eq, Bool, true, false, List, [], ◌∷◌, map, take, find, if◌then◌else◌, Option, Some, None, refl, ap, ◌∙◌, sym}
use Rattle.std.specs.Option.{option_map, is_some}
use Rattle.std.specs.Str.{bytes_eq}
use Rattle.mlir_ir.specs.Resolved.{used}
use Rattle.mlir_ir.specs.Rules.{has_name}
use Rattle.mlir_ir.specs.Source.{Use}
use Rattle.mlir_ir.specs.Values.{Value}
use Rattle.mlir_scope.specs.InScope.{is_named}
use Rattle.std.proofs.Common.{length, ◌++◌, Result, Ok, Err}
use Rattle.std.proofs.lemmas.List.{take-map, length-map}
use Rattle.std.specs.Result.{is_err, OnErr}
use Rattle.mlir_scope.proofs.Headers.{first_kept}
use Rattle.mlir_scope.specs.Knowns.{known_said, at_name}
use Rattle.mlir_scope.specs.declared.scope.Known.{Known}
use Rattle.mlir_scope.specs.Scopes.{label_named}

one_more : (b : Bool) (v : Value) (rest : List Value) (name : List ℕ) → is_some (find (is_named name 0) (map at_name rest)) ≡ has_name rest name
    → is_some (if b && true then Some (at_name v) else find (is_named name 0) (map at_name rest)) ≡ (b || has_name rest name)
one_more true v rest name h = refl
one_more false v rest name h = h

pub has_alone : (name : List ℕ) (values : List Value) → is_some (find (is_named name 0) (map at_name values)) ≡ has_name values name
has_alone name [] = refl
has_alone name (v ∷ values) = one_more (bytes_eq v.name name) v values name (has_alone name values)

one_label : (b : Bool) (v : Value) (found other : Option Value) → option_map (λ (w : Value). w.label) found ≡ option_map (λ (w : Value). w.label) other
    → option_map (λ (w : Value). w.label) (if b && true then Some (at_name v) else found) ≡ option_map (λ (w : Value). w.label) (if b then Some v else other)
one_label true v found other h = refl
one_label false v found other h = h

pub label_alone : (name : List ℕ) (values : List Value) → option_map (λ (v : Value). v.label) (find (is_named name 0) (map at_name values)) ≡ label_named name values
label_alone name [] = refl
label_alone name (v ∷ values) =
    one_label (bytes_eq v.name name) v (find (is_named name 0) (map at_name values)) (find (λ (w : Value). bytes_eq w.name name) values) (label_alone name values)

mapped_some : (r : Option Known) → is_some r ≡ is_some (option_map known_said r)
mapped_some None = refl
mapped_some (Some k) = refl

-- what a table of the values at place 0 gives for a name
pub has_known : (r : Option Known) (names places : List Value) (name : List ℕ) → option_map known_said r ≡ find (is_named name 0) names → names ≡ map at_name places → is_some r ≡ has_name places name
has_known r names places name found same =
    mapped_some r ∙ ap is_some found ∙ ap (λ (vs : List Value). is_some (find (is_named name 0) vs)) same ∙ has_alone name places

pub label_known : (r : Option Known) (names places : List Value) (name : List ℕ) → option_map known_said r ≡ find (is_named name 0) names → names ≡ map at_name places
    → option_map (λ (v : Value). v.label) (option_map known_said r) ≡ label_named name places
label_known r names places name found same =
    ap (option_map (λ (v : Value). v.label)) (found ∙ ap (λ (vs : List Value). find (is_named name 0) vs) same) ∙ label_alone name places

-- the values that are kept, found by their names
pub same_kept : (len : ℕ) (names places : List Known) → map known_said names ≡ map at_name (map known_said places) → map known_said (take len names) ≡ map at_name (map known_said (take len places))
same_kept len names places same =
    sym (take-map known_said len names) ∙ ap (take len) same ∙ take-map at_name len (map known_said places) ∙ ap (map at_name) (take-map known_said len places)

-- the type of a value that is found by the place that a use picks
pub found_type : (r : Option Known) (values : List Value) (u : Use) (place : ℕ) → option_map known_said r ≡ find (is_named u.name place) values → place ≡ u.pick
    → option_map (λ (v : Value). v.ty) (option_map known_said r) ≡ option_map (λ (v : Value). v.ty) (used values u)
found_type r values u place found is = ap (option_map (λ (v : Value). v.ty)) (found ∙ ap (λ n. find (is_named u.name n) values) is)

pub of_err : {T E : Type 0} (r : Result T E) (P : Type 0) → is_err r ≡ true → OnErr r P → P
of_err (Ok x) P h p = cc
of_err (Err e) P h p = p

-- a value is taken out of scope again that could not be found by its name
pub taken_back : (len : ℕ) (places more names still : List Known) (k : Value) → len ≡ length places → map known_said more ≡ map known_said places ++ k ∷ []
    → map known_said still ≡ map known_said names → map known_said names ≡ map at_name (map known_said places) → map known_said still ≡ map at_name (map known_said (take len more))
taken_back len places more names still k is pushed failed same =
    failed ∙ same
    ∙ sym (ap (map at_name) (sym (take-map known_said len more) ∙ ap (take len) pushed ∙ first_kept len (map known_said places) (k ∷ []) (is ∙ sym (length-map places known_said))))
