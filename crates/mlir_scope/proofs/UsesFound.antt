-- Uses whose values are in scope, and uses whose values aren't.
use Rattle.std.proofs.Common.{◌≡◌, ℕ, ◌&&◌, ◌||◌, ◌==◌, ◌++◌, not, Bool, true, false, List, [], ◌∷◌, refl, ap, ◌∙◌, sym, cond, Option, None, Some}
use Rattle.std.specs.Option.{option_map, is_some}
use Rattle.std.specs.Prelude.{find}
use Rattle.std.specs.Str.{bytes_eq}
use Rattle.mlir_ir.specs.Resolved.{is_of, used}
use Rattle.mlir_ir.specs.Rules.{has_name}
use Rattle.mlir_ir.specs.ScopeFaults.{broken, use_breaks}
use Rattle.mlir_ir.specs.Source.{Use}
use Rattle.mlir_ir.specs.Values.{Value}
use Rattle.mlir_ir.specs.declared.scope_kind.ScopeKind.TheVariants.{Unknown, Arity}
use Rattle.mlir_scope.specs.Noted.{noted}
use Rattle.mlir_scope.specs.Reading.{type_said}
use Rattle.mlir_scope.specs.declared.first.ScopeFault.{ScopeFault}
use Rattle.mlir_scope.specs.declared.said.ValueType.{ValueType}
use Rattle.mlir_scope.proofs.Notes.{noted_two}

named_step : (a b : Bool) (v : Value) (o : Option Value) (r : Bool) → (is_some o ≡ true → r ≡ true) → is_some (cond (a && b) (Some v) o) ≡ true → (a || r) ≡ true
named_step true b v o r h e = refl
named_step false b v o r h e = h e

-- the name of a value that is used is in scope
found_named : (scope : List Value) (u : Use) → is_some (used scope u) ≡ true → has_name scope u.name ≡ true
found_named [] u h = h
found_named (v ∷ scope) u h = named_step (bytes_eq v.name u.name) (v.place == u.pick) v (find (is_of u) scope) (has_name scope u.name) (found_named scope u) h

some_mapped : {A B C : Type 0} (f : A → C) (g : B → C) (x : Option A) (y : Option B) → option_map f x ≡ option_map g y → is_some y ≡ is_some x
some_mapped f g None None h = refl
some_mapped f g (Some x) (Some y) h = refl
some_mapped f g None (Some y) h = cc
some_mapped f g (Some x) None h = cc

known_breaks : (best : Option ScopeFault) (a b : Bool) (i j : ℕ) → a ≡ true → b ≡ true → best ≡ noted best (broken (not a) i Unknown ++ broken (a && not b) j Arity)
known_breaks best true true i j h g = refl
known_breaks best true false i j h g = cc
known_breaks best false b i j h g = cc

-- a use whose value is found breaks nothing
pub use_found : (best : Option ScopeFault) (scope : List Value) (at : ℕ) (u : Use) (r : Option ValueType)
    → option_map type_said r ≡ option_map (λ (v : Value). v.ty) (used scope u) → is_some r ≡ true → best ≡ noted best (use_breaks scope at u)
use_found best scope at u r found some =
    let is : is_some (used scope u) ≡ true = some_mapped type_said (λ (v : Value). v.ty) r (used scope u) found ∙ some in
    known_breaks best (has_name scope u.name) (is_some (used scope u)) u.at at (found_named scope u is) is

and_true : (a b : Bool) → b ≡ false → (a && not b) ≡ a
and_true true b h = ap not h
and_true false b h = refl

-- a use whose value isn't found
pub use_missing : (best one two : Option ScopeFault) (scope : List Value) (at : ℕ) (u : Use) (r : Option ValueType) (known : Bool)
    → option_map type_said r ≡ option_map (λ (v : Value). v.ty) (used scope u) → is_some r ≡ false → known ≡ has_name scope u.name
    → one ≡ noted best (broken (not known) u.at Unknown) → two ≡ noted one (broken known at Arity)
    → two ≡ noted best (use_breaks scope at u)
use_missing best one two scope at u r known found none has f g =
    let is : is_some (used scope u) ≡ false = some_mapped type_said (λ (v : Value). v.ty) r (used scope u) found ∙ none in
    noted_two best one two (broken (not (has_name scope u.name)) u.at Unknown) (broken (has_name scope u.name && not (is_some (used scope u))) at Arity)
    (f ∙ ap (λ k. noted best (broken (not k) u.at Unknown)) has)
    (g ∙ ap (λ k. noted one (broken k at Arity)) (has ∙ sym (and_true (has_name scope u.name) (is_some (used scope u)) is)))
