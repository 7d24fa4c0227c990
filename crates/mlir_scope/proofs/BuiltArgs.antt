-- The arguments of a function that is built, and its body.
use Rattle.std.proofs.Common.{◌≡◌, ℕ, suc, ◌+◌, ◌<◌, List, [], ◌∷◌, ◌++◌, length, map, Option, refl, ap, ◌∙◌, sym, arith, append_assoc}
use Rattle.std.proofs.lemmas.List.{length-map}
use Rattle.arith_word.specs.Labels.{label_at}
use Rattle.mlir_ir.specs.Phrases.{Phrase, Line, inside}
use Rattle.mlir_ir.specs.Resolved.{PlainBody, tys, args_of, body_of}
use Rattle.mlir_ir.specs.Source.{Written, params_in, listed_types}
use Rattle.mlir_ir.specs.Values.{Value, arg_values}
use Rattle.mlir_ir.specs.declared.syntax.Form.TheVariants as forms
use Rattle.mlir_ir.specs.declared.types.Arg.{Arg}
use Rattle.mlir_ir.specs.declared.types.IrType.{IrType}
use Rattle.mlir_scope.specs.Arguments.{named}
use Rattle.mlir_scope.specs.BuiltFunctions.{AreBlank, blank_args, args_said, first_body}
use Rattle.mlir_scope.specs.Reading.{defined_said, type_said}
use Rattle.mlir_scope.specs.declared.said.ValueType.{ValueType}
use Rattle.mlir_scope.specs.declared.said.Defined.{Defined}

-- types alone are arguments with empty names
pub blanks_named : (names : List Defined) (types : List IrType) → AreBlank names → length names ≡ length types → named (map defined_said names) types ≡ blank_args types
blanks_named [] [] h e = refl
blanks_named [] (t ∷ types) h e = absurd (omega arith)
blanks_named (d ∷ names) [] h e = absurd (omega arith)
blanks_named (d ∷ names) (ty ∷ types) h e =
    ap (λ (name : List ℕ). record { name = name; ty = ty } ∷ named (map defined_said names) types) h.0
    ∙ ap (λ (args : List Arg). record { name = []; ty = ty } ∷ args) (blanks_named names types h.1 (omega arith))

-- the same of names in the code
pub blanks_are : (names : List Defined) (types : List ValueType) (n : ℕ) → AreBlank names → length names ≡ n → n ≡ length types
    → named (map defined_said names) (map type_said types) ≡ blank_args (map type_said types)
blanks_are names types n h e f = blanks_named names (map type_said types) h (e ∙ f ∙ sym (length-map types type_said))

blank_written : (types : List Written) → blank_args (tys types) ≡ map (λ (t : Written). record { name = []; ty = t.ty }) types
blank_written [] = refl
blank_written (t ∷ types) = ap (λ (args : List Arg). record { name = []; ty = t.ty } ∷ args) (blank_written types)

-- parameters, then types alone
pub args_are : (parts : Phrase) (params blanks : List Arg) (types : List IrType)
    → params ≡ args_of (params_in (inside forms.Params parts)) → blanks ≡ blank_args types → types ≡ tys (listed_types parts)
    → (params ++ blanks) ≡ args_said parts
args_are parts params blanks types params_are blanks_are types_are =
    ap (λ (args : List Arg). args ++ blanks) params_are
    ∙ ap (λ (args : List Arg). args_of (params_in (inside forms.Params parts)) ++ args) (blanks_are ∙ ap blank_args types_are ∙ blank_written (listed_types parts))

arg_values_append : (at : ℕ) (xs ys : List Arg) → arg_values at (xs ++ ys) ≡ arg_values at xs ++ arg_values (at + length xs) ys
arg_values_append at [] ys = let e : at + 0 ≡ at = omega arith in rw e refl
arg_values_append at (x ∷ xs) ys =
    let e : at + 1 + length xs ≡ at + length (x ∷ xs) = omega arith in
    ap (λ (vs : List Value). record { label = at; name = x.name; count = 1; place = 0; ty = x.ty } ∷ vs)
    (arg_values_append (at + 1) xs ys ∙ ap (λ n. arg_values (at + 1) xs ++ arg_values n ys) e)

-- parameters, then types alone, are put in scope
pub args_joined : (parts : Phrase) (old mid new : List Value) (at next : ℕ) (params blanks : List Arg)
    → mid ≡ old ++ arg_values at params → next ≡ at + length params → new ≡ mid ++ arg_values next blanks → (params ++ blanks) ≡ args_said parts
    → new ≡ old ++ arg_values at (args_said parts)
args_joined parts old mid new at next params blanks mid_is next_is new_is all =
    new_is
    ∙ ap (λ s. s ++ arg_values next blanks) mid_is
    ∙ ap (λ n. (old ++ arg_values at params) ++ arg_values n blanks) next_is
    ∙ append_assoc old (arg_values at params) (arg_values (at + length params) blanks)
    ∙ ap (λ vs. old ++ vs) (sym (arg_values_append at params blanks))
    ∙ ap (λ (args : List Arg). old ++ arg_values at args) all

pub body_first : (names : List (List ℕ)) (index : ℕ) (args : List Arg) (bodies : List Line) → first_body names index (arg_values (label_at index 0 0) args) bodies ≡ body_of names index args bodies
body_first names index args [] = refl
body_first names index args (body ∷ bodies) = refl

pub blank_more : (names : List Defined) (d : Defined) → AreBlank names → d.name.now ≡ [] → AreBlank (names ++ d ∷ [])
blank_more [] d h e = (e, tt)
blank_more (n ∷ names) d h e = (h.0, blank_more names d h.1 e)
