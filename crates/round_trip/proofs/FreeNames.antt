-- Names that differ from those in scope, whatever labels the values there have.
use Rattle.std.proofs.Common.{◌≡◌, ℕ, ◌+◌, ◌&&◌, ◌||◌, not, Bool, true, false, List, [], ◌∷◌, ◌++◌, refl, ap, ◌∙◌, map, drop, sym}
use Rattle.std.specs.List.{list_any}
use Rattle.std.specs.Str.{bytes_eq}
use Rattle.mlir_ir.specs.Check.{breaks_at, past, args_breaks}
use Rattle.mlir_ir.specs.Names.{is_name}
use Rattle.mlir_ir.specs.Rules.{has_name, is_free, are_free, same_types, arg_rules}
use Rattle.mlir_ir.specs.Values.{Value, arg_values}
use Rattle.mlir_ir.specs.declared.rules.Position.{Position}
use Rattle.mlir_ir.specs.declared.types.Arg.{Arg}
use Rattle.mlir_ir.specs.declared.types.IrType.{IrType}
use Rattle.mlir_ir.specs.declared.types.Pack.{Pack}
use Rattle.round_trip.specs.Readable.{FreeArgs}
use Rattle.round_trip.proofs.HeldScopes.{moved_value, free_of}
use Rattle.round_trip.proofs.SoundScopes.{none_append, none_at}
use Rattle.round_trip.proofs.Tests.{and_parts}

-- the same names are in scope
abbrev pub SameNames : List Value → List Value → Type 0
SameNames s t = (name : List ℕ) → has_name s name ≡ has_name t name

pub names_moved : (other : ℕ → ℕ) (vs : List Value) → SameNames (map (moved_value other) vs) vs
names_moved other [] name = refl
names_moved other (v ∷ vs) name = ap (λ (b : Bool). bytes_eq v.name name || b) (names_moved other vs name)

or_assoc : (a b c : Bool) → (a || (b || c)) ≡ (a || b || c)
or_assoc true b c = refl
or_assoc false b c = refl

pub names_both : (xs ys : List Value) (name : List ℕ) → has_name (xs ++ ys) name ≡ (has_name xs name || has_name ys name)
names_both [] ys name = refl
names_both (v ∷ vs) ys name = ap (λ (b : Bool). bytes_eq v.name name || b) (names_both vs ys name) ∙ or_assoc (bytes_eq v.name name) (has_name vs name) (has_name ys name)

pub same_more : (s t xs ys : List Value) → SameNames s t → SameNames xs ys → SameNames (s ++ xs) (t ++ ys)
same_more s t xs ys e g name = names_both s xs name ∙ (λ i. e name i || g name i) ∙ sym (names_both t ys name)

pub free_args : (n : ℕ) (wanted : List IrType) (scope : List Value) (at : Position) (args : List Arg) → args_breaks false n wanted scope at args ≡ [] → (s : List Value) → SameNames s scope → FreeArgs s args
free_args n wanted scope at [] h s e = tt
free_args n wanted scope at (arg ∷ args) h s e =
    let b = none_append (breaks_at at.last (arg_rules false n wanted scope arg)) (args_breaks false (n + 1) (drop 1 wanted) (scope ++ arg_values at.next (arg ∷ [])) (past 1 0 at) args) h in
    let t = and_parts ((is_free scope arg.name) || false) (same_types (arg.ty ∷ []) wanted) (none_at at.last (arg_rules false n wanted scope arg) b.0).1 in (
      e arg.name ∙ free_of (is_name arg.name) (has_name scope arg.name) t.0,
      free_args (n + 1) (drop 1 wanted) (scope ++ arg_values at.next (arg ∷ [])) (past 1 0 at) args b.1 (s ++ arg_values 0 (arg ∷ []))
          (same_more s scope (arg_values 0 (arg ∷ [])) (arg_values at.next (arg ∷ [])) e (λ name. refl)),
    )

pub free_packs : (s t : List Value) (packs : List Pack) → SameNames s t → are_free s packs ≡ are_free t packs
free_packs s t [] e = refl
free_packs s t (pack ∷ packs) e =
    λ i. (is_name pack.name && not (e pack.name i)) && not (list_any (λ (other : Pack). bytes_eq other.name pack.name) packs) && free_packs s t packs e i
