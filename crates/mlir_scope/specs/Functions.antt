-- The functions of a text as the code's walk knows them: the arguments of each, the types that its calls have to have, and the
-- number of the first function of a name.
use Rattle.std.specs.Prelude.{ℕ, ◌+◌, List, [], ◌∷◌, ◌++◌, map}
use Rattle.mlir_ir.specs.Phrases as phrases
use Rattle.mlir_ir.specs.Phrases.{Phrase, inside}
use Rattle.mlir_ir.specs.Resolved.{func_args, tys}
use Rattle.mlir_ir.specs.Rules.{arg_types}
use Rattle.mlir_ir.specs.Source.{Defined, Written, params_in, listed_types, result_types}
use Rattle.mlir_ir.specs.Values.{Value}
use Rattle.mlir_ir.specs.declared.syntax.Form.TheVariants as forms
use Rattle.mlir_ir.specs.declared.types.IrType.{IrType}
use Rattle.mlir_ir.specs.declared.types.IrType.TheVariants.{Index}
use Rattle.mlir_ir.specs.declared.token.Token.{Token}
use Rattle.mlir_scope.specs.Reading.{type_said}
use Rattle.mlir_scope.specs.Said.{line_said}
use Rattle.mlir_scope.specs.declared.phrase.Line.{Line}
use Rattle.mlir_scope.specs.declared.signatures.Signature.{Signature}

-- the names of a function's arguments; those of a declaration have none
abbrev pub arg_names : Phrase → List Defined
arg_names parts =
    map (λ (p : Defined × Written). p.0) (params_in (inside forms.Params parts))
    ++ map (λ (t : Written). record { at = t.at; name = [] }) (listed_types parts)

-- the types that a call has to have: those of the arguments, and those of the results
pub record Called : Type 0 where
  pub args : List IrType
  pub results : List IrType

abbrev pub called : phrases.Line → Called
called f = record { args = arg_types (func_args f); results = tys (result_types f.parts) }

abbrev pub signature_said : Signature → Called
signature_said s = record { args = map type_said s.args.items; results = map type_said s.results.items }

abbrev pub lines_said : List Token → List Line → List phrases.Line
lines_said tokens funcs = map (line_said tokens) funcs

-- names, each as a value whose label is its number, from n on
abbrev pub numbered : ℕ → List (List ℕ) → List Value
numbered n [] = []
numbered n (name ∷ names) = record { label = n; name = name; count = 1; place = 0; ty = Index } ∷ numbered (n + 1) names
