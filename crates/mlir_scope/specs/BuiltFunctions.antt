-- Functions, their arguments, items and bodies, as the code builds them.
use Rattle.std.specs.Prelude.{ℕ, ◌≡◌, List, [], ◌∷◌, ◌++◌, map, Option, None, Some}
use Rattle.arith_word.specs.Labels.{label_at}
use Rattle.mlir_ir.specs.Operations.{OpList}
use Rattle.mlir_ir.specs.Phrases.{Phrase, Line}
use Rattle.mlir_ir.specs.Resolved.{PlainBody, func_args, items_of, labels, ops_of, values_of_items}
use Rattle.mlir_ir.specs.Source.{none, block, ending}
use Rattle.mlir_ir.specs.Values.{Value}
use Rattle.mlir_ir.specs.declared.terminal.Terminal.TheVariants as terminals
use Rattle.mlir_ir.specs.declared.types.Arg.{Arg}
use Rattle.mlir_ir.specs.declared.types.IrType.{IrType}
use Rattle.mlir_scope.specs.Blocks.{operations, with_operation}
use Rattle.mlir_scope.specs.Built.{names_said, scope_at}
use Rattle.mlir_scope.specs.declared.blocks.Operation.{Operation}
use Rattle.mlir_scope.specs.declared.blocks.Ops.{Ops}
use Rattle.mlir_scope.specs.declared.place.Place.{Place}
use Rattle.mlir_scope.specs.declared.said.Defined.{Defined}
use Rattle.mlir_scope.specs.declared.simple_kinds.Origin.{Origin}

-- each name is empty
abbrev pub AreBlank : List Defined → Type 0
AreBlank [] = Unit {0}
AreBlank (d ∷ names) = (d.name.now ≡ []) × AreBlank names

-- arguments with empty names
abbrev pub blank_args : List IrType → List Arg
blank_args types = map (λ (ty : IrType). record { name = []; ty = ty }) types

-- the arguments of a function with those parts
abbrev pub args_said : Phrase → List Arg
args_said parts = func_args (record { at = 0; parts = parts })

-- the item with that number, which is one operation
abbrev pub item_said : Origin → ℕ → ℕ → Operation → Place → OpList
item_said origin func number o place =
    ops_of (names_said origin.funcs.now) (with_operation origin.tokens.now o none) (scope_at place) (label_at func number 0)

abbrev pub items_said : Origin → ℕ → Ops → Place → List OpList
items_said origin func ops place = items_of (names_said origin.funcs.now) func 1 (operations origin.tokens.now ops) (scope_at place)

-- a body with those parts, of a function whose arguments are these values
abbrev pub body_said : List (List ℕ) → ℕ → List Value → Phrase → PlainBody
body_said names func scope parts =
    let items = items_of names func 1 (block parts) scope in
    record { items = items; ret = labels (scope ++ values_of_items func 1 items) (ending terminals.Return parts).uses }

abbrev pub first_body : List (List ℕ) → ℕ → List Value → List Line → Option PlainBody
first_body names func scope [] = None
first_body names func scope (body ∷ bodies) = Some (body_said names func scope body.parts)
