-- The values in scope and the breaks noted, as the code's walk holds them.
use Rattle.std.specs.Prelude.{ℕ, ◌+◌, ◌≡◌, List, [], ◌∷◌, ◌++◌, length, map, nat_lt, if◌then◌else◌}
use Rattle.std.specs.List.{flat_map}
use Rattle.mlir_ir.specs.Phrases.{Phrase, Line, has, spots, lines, first_spot}
use Rattle.mlir_ir.specs.Resolved.{args_of, carried, variable_type, tys}
use Rattle.mlir_ir.specs.ScopeFaults.{Break, broken, differs, carried_breaks, uses_breaks, packs_breaks, operands, block_breaks, if_breaks, for_breaks, while_breaks, region_ending, ending_breaks, condition_breaks, defined_by}
use Rattle.mlir_ir.specs.Source.{Packed, packed, uses_in, head, op_types, result_types, word, defined, types_in, region, region_behind, region_parts, else_parts, after_parts, after_params, listed_types, inits_of, ending}
use Rattle.mlir_ir.specs.Values.{Value, arg_values}
use Rattle.mlir_ir.specs.declared.scope_kind.ScopeKind.TheVariants.{Arity, WrongType}
use Rattle.mlir_ir.specs.declared.terminal.Terminal.TheVariants as terminals
use Rattle.mlir_ir.specs.declared.types.IrType.{IrType}
use Rattle.mlir_ir.specs.declared.syntax.Form.TheVariants as forms
use Rattle.mlir_ir.specs.declared.token.Token.{Token}
use Rattle.mlir_scope.specs.Noted.{noted}
use Rattle.mlir_scope.specs.Said.{said}
use Rattle.mlir_scope.specs.Scopes.{scope_said}
use Rattle.mlir_scope.specs.declared.blocks.Operation.{Operation}
use Rattle.mlir_scope.specs.declared.walked.Walked.{Walked}

-- the values in scope
abbrev pub in_scope : Walked → List Value
in_scope w = scope_said w.scope

-- these breaks are noted behind the others, and the same values are in scope
pub record Notes (old new : Walked) (breaks : List Break) : Type 0 where
  pub noted_all : new.first.best ≡ noted old.first.best breaks
  pub same : in_scope new ≡ in_scope old

-- these breaks are noted behind the others, and these values are put in scope
pub record Adds (old new : Walked) (breaks : List Break) (values : List Value) : Type 0 where
  pub noted_all : new.first.best ≡ noted old.first.best breaks
  pub scope : in_scope new ≡ in_scope old ++ values

-- the end of the region of `else`, or that the region is missing
abbrev pub breaks_at_else : List Value → Phrase → List IrType → List Break
breaks_at_else scope kind wanted =
    if has terminals.Else kind then region_ending scope (word kind).at wanted (else_parts kind) else broken (nat_lt 0 (length wanted)) (word kind).at Arity

-- the region of `else` and its end
abbrev pub breaks_of_else : List Line → ℕ → List Value → Phrase → List IrType → List Break
breaks_of_else funcs loops scope kind wanted =
    block_breaks funcs (region_behind kind) loops scope ++ breaks_at_else (scope ++ defined_by (region_behind kind)) kind wanted

-- the body of an `scf.for` and its end, with the header's values in scope
abbrev pub breaks_of_body : List Line → ℕ → List Value → Phrase → List IrType → List Break
breaks_of_body funcs loops inner kind wanted =
    block_breaks funcs (region kind) (loops + 1) inner
    ++ region_ending (inner ++ defined_by (region kind)) (word kind).at wanted (region_parts kind)

-- the region before `do` and its condition, with the carried values in scope
abbrev pub breaks_before : List Line → ℕ → List Value → Phrase → List IrType → List Break
breaks_before funcs loops inner kind wanted =
    block_breaks funcs (region kind) (loops + 1) inner
    ++ condition_breaks (inner ++ defined_by (region kind)) kind wanted

-- the region behind `do` and its end, with its parameters in scope
abbrev pub breaks_after : List Line → ℕ → List Value → Phrase → List Break
breaks_after funcs loops inner kind =
    block_breaks funcs (region_behind kind) (loops + 1) inner
    ++ ending_breaks (inner ++ defined_by (region_behind kind)) (tys (listed_types kind)) (ending terminals.Yield (after_parts kind))

-- the counter and the carried values of an `scf.for`
abbrev pub for_values : Phrase → List IrType → List Value
for_values kind wanted =
    let iv = defined (first_spot (spots terminals.Value kind)) in
    arg_values 0 (record { name = iv.name; ty = variable_type (types_in kind) } ∷ carried (inits_of kind) wanted)

-- the carried values of an `scf.while`, and the parameters behind `do`
abbrev pub while_values : Phrase → List Value
while_values kind = arg_values 0 (carried (inits_of kind) (tys (listed_types kind)))

abbrev pub after_values : Phrase → List Value
after_values kind = arg_values 0 (args_of (after_params kind))

-- what an operation with regions breaks besides its uses and its results
abbrev pub breaks_of_if : List Line → ℕ → List Value → Phrase → List Break
breaks_of_if funcs loops scope kind =
    if_breaks loops scope kind (tys (result_types kind)) (region kind) (region_behind kind) (block_breaks funcs (region kind)) (block_breaks funcs (region_behind kind))

abbrev pub breaks_of_for : List Line → ℕ → List Value → Phrase → List Break
breaks_of_for funcs loops scope kind = for_breaks loops scope kind (tys (result_types kind)) (region kind) (block_breaks funcs (region kind))

abbrev pub breaks_of_while : List Line → ℕ → List Value → Phrase → List Break
breaks_of_while funcs loops scope kind =
    while_breaks loops scope kind (tys (result_types kind)) (region kind) (region_behind kind) (block_breaks funcs (region kind)) (block_breaks funcs (region_behind kind))

-- the packs of an operation
abbrev pub packs_said : List Token → Operation → List Packed
packs_said tokens o = map packed (lines forms.Pack (said tokens o.parts.now))

-- what the uses and the results of an operation break
abbrev pub own_breaks : List Value → List Packed → Phrase → List Break
own_breaks scope packs kind =
    uses_breaks scope (word kind).at (operands (head kind) kind)
    ++ packs_breaks scope (word kind).at (length (tys (op_types (head kind) kind))) packs

-- what the values break that a function returns
abbrev pub return_breaks : List Value → Line → Line → List Break
return_breaks scope f body = ending_breaks scope (tys (result_types f.parts)) (ending terminals.Return body.parts)

-- the types of an operation's results, and those that are listed in it
abbrev pub wanted_types : Phrase → List IrType
wanted_types kind = tys (result_types kind)

abbrev pub listed_tys : Phrase → List IrType
listed_tys kind = tys (listed_types kind)

-- bounds and a step that don't have the counter's type
abbrev pub bounds_breaks : List Value → Phrase → List Break
bounds_breaks scope kind = flat_map (λ u. broken (differs scope u (variable_type (types_in kind))) u.at WrongType) (uses_in kind)

-- what the header of an `scf.for` breaks
abbrev pub breaks_of_header : ℕ → List Value → Phrase → List Break
breaks_of_header loops scope kind =
    bounds_breaks scope kind ++ carried_breaks scope loops kind (defined (first_spot (spots terminals.Value kind)) ∷ []) (wanted_types kind)
