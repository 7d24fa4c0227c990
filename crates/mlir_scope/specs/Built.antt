-- What functions are built from, and the parts that are built: values in scope, headers of loops, operations.
use Rattle.std.specs.Prelude.{ℕ, ◌≡◌, ◌+◌, List, [], ◌∷◌, ◌++◌, Bool, map, take, slice_index_or, Option, None, Some}
use Rattle.std.specs.Option.{is_some}
use Rattle.arith_word.specs.declared.label.Label.{Label}
use Rattle.mlir_ir.specs.Operations as plain
use Rattle.mlir_ir.specs.Operations.{OpKind, OpList, labels_of, inner_labels}
use Rattle.mlir_ir.specs.Phrases.{Phrase, spots, first_spot}
use Rattle.mlir_ir.specs.Resolved.{if_kind, for_kind, while_kind, kind_of, ops_of, values_of, carried, labels, inits_used, nth_use, tys, variable_type}
use Rattle.mlir_ir.specs.Source.{none, ending, before_parts, head, unsigned, types_in, listed_types, inits_of, op_types, region, region_behind}
use Rattle.mlir_ir.specs.Values.{Value}
pub use Rattle.mlir_ir.specs.View.{rows_of, ends_of}
use Rattle.mlir_ir.specs.declared.syntax.Branch.{Branch}
use Rattle.mlir_ir.specs.declared.terminal.Terminal.TheVariants as terminals
use Rattle.mlir_ir.specs.declared.types.Arg.{Arg}
use Rattle.mlir_ir.specs.declared.types.IrType.{IrType}
use Rattle.mlir_ir.specs.declared.types.IrType.TheVariants.{Index}
use Rattle.mlir_ir.specs.declared.types.Region.{Region}
use Rattle.mlir_scope.specs.Blocks.{operations, with_operation}
use Rattle.mlir_scope.specs.InScope.{value_of}
use Rattle.mlir_scope.specs.declared.built_loops.ForHeader.{ForHeader}
use Rattle.mlir_scope.specs.declared.place.Place.{Place}
use Rattle.mlir_scope.specs.Reading.{type_said}
use Rattle.mlir_scope.specs.Said.{said}
use Rattle.mlir_scope.specs.declared.blocks.Operation.{Operation}
use Rattle.mlir_scope.specs.declared.blocks.Ops.{Ops}
use Rattle.mlir_scope.specs.declared.said.Defined.{Defined}
use Rattle.mlir_scope.specs.declared.said.ValueType.{ValueType}
use Rattle.mlir_scope.specs.declared.scope_names.ScopeNames.{ScopeNames}
use Rattle.mlir_scope.specs.declared.simple_kinds.Origin.{Origin}

-- the names of functions
abbrev pub names_said : List Defined → List (List ℕ)
names_said funcs = map (λ (d : Defined). d.name.now) funcs

abbrev pub values_in : ScopeNames → List Value
values_in scope = map value_of scope.values.items

abbrev pub scope_at : Place → List Value
scope_at place = values_in place.scope

-- the type of the first of some values, `index` where there is none
abbrev pub first_type : List IrType → IrType
first_type [] = Index
first_type (ty ∷ types) = ty

-- loops

abbrev pub for_variable : Phrase → Arg
for_variable kind = record { name = unsigned (first_spot (spots terminals.Value kind)).text; ty = variable_type (types_in kind) }

-- a header whose bounds and step are the first of some values
abbrev pub header_said : List Label → Arg → List Arg → List Label → ForHeader
header_said own iv args inits = record {
  lower = slice_index_or own 0 (record { 0 = 0 });
  upper = slice_index_or own 1 (record { 0 = 0 });
  step = slice_index_or own 2 (record { 0 = 0 });
  iv = iv;
  args = args;
  inits = inits;
}

-- what stands before the region of an `scf.for` with these result types
abbrev pub for_header : List Value → Phrase → List IrType → ForHeader
for_header scope kind wanted = record {
  lower = nth_use scope 0 kind;
  upper = nth_use scope 1 kind;
  step = nth_use scope 2 kind;
  iv = for_variable kind;
  args = carried (inits_of kind) wanted;
  inits = labels scope (inits_used (inits_of kind));
}

-- operations

-- the kind of an operation that begins at a label
abbrev pub kind_at : List (List ℕ) → List Value → ℕ → Phrase → OpKind
kind_at funcs scope at kind = kind_of funcs scope at (head kind) kind (ops_of funcs (region kind)) (ops_of funcs (region_behind kind))

-- operations that were built at a place are behind it: their values are in scope, and have taken their labels
pub record AreBehind (old new : Place) (ops : OpList) : Type 0 where
  pub scope : scope_at new ≡ scope_at old ++ values_of old.next ops
  pub next : new.next ≡ old.next + labels_of ops

-- the types are those of the operation's results
abbrev pub AreTypesOf : List ValueType → Phrase → Type 0
AreTypesOf types kind = map type_said types ≡ tys (op_types (head kind) kind)

-- the loop-carried values of an `scf.while`
abbrev pub while_args : Phrase → List Arg
while_args kind = carried (inits_of kind) (tys (listed_types kind))

-- operations that the code builds at a place

abbrev pub ops_said : Origin → Ops → Place → OpList
ops_said origin ops place = ops_of (names_said origin.funcs.now) (operations origin.tokens.now ops) (scope_at place) place.next

abbrev pub op_said : Origin → Operation → Place → OpList
op_said origin o place = ops_of (names_said origin.funcs.now) (with_operation origin.tokens.now o none) (scope_at place) place.next

abbrev pub kind_said : Origin → List Branch → Place → OpKind
kind_said origin kind place = kind_at (names_said origin.funcs.now) (scope_at place) place.next (said origin.tokens.now kind)

-- those of the first region of an operation, and of the second one
abbrev pub first_said : Origin → List Branch → Place → OpList
first_said origin kind place = ops_of (names_said origin.funcs.now) (region (said origin.tokens.now kind)) (scope_at place) place.next

abbrev pub second_said : Origin → List Branch → Place → OpList
second_said origin kind place = ops_of (names_said origin.funcs.now) (region_behind (said origin.tokens.now kind)) (scope_at place) place.next

abbrev pub behind_before : Origin → List Branch → Place → List Value
behind_before origin kind place = scope_at place ++ values_of place.next (first_said origin kind place)

-- the values that a yield in those parts gives on, behind operations
abbrev pub ends_behind : OpList → Phrase → Place → List Label
ends_behind ops parts place = labels (scope_at place ++ values_of place.next ops) (ending terminals.Yield parts).uses

abbrev pub first_ends : Origin → List Branch → Phrase → Place → List Label
first_ends origin kind parts place = ends_behind (first_said origin kind place) parts place

abbrev pub second_ends : Origin → List Branch → Phrase → Place → List Label
second_ends origin kind parts place = ends_behind (second_said origin kind place) parts place

abbrev pub if_said : Origin → List Branch → Place → OpKind
if_said origin kind place =
    let k = said origin.tokens.now kind in
    if_kind (scope_at place) place.next k (ops_of (names_said origin.funcs.now) (region k)) (ops_of (names_said origin.funcs.now) (region_behind k))

abbrev pub for_said : Origin → List Branch → Place → OpKind
for_said origin kind place =
    let k = said origin.tokens.now kind in
    for_kind (scope_at place) place.next k (ops_of (names_said origin.funcs.now) (region k))

abbrev pub while_said : Origin → List Branch → Place → OpKind
while_said origin kind place =
    let k = said origin.tokens.now kind in
    while_kind (scope_at place) place.next k (ops_of (names_said origin.funcs.now) (region k)) (ops_of (names_said origin.funcs.now) (region_behind k))

-- behind the regions of an operation the same values are in scope, and labels are taken
pub record IsPast (old new : Place) (kind : OpKind) : Type 0 where
  pub scope : scope_at new ≡ scope_at old
  pub next : new.next ≡ old.next + inner_labels kind

-- the same behind one region
pub record ArePast (old new : Place) (ops : OpList) : Type 0 where
  pub scope : scope_at new ≡ scope_at old
  pub next : new.next ≡ old.next + labels_of ops

-- the values behind the first so many have gone out of scope
pub record IsLeft (old new : Place) (outer : ℕ) : Type 0 where
  pub scope : scope_at new ≡ take outer (scope_at old)
  pub next : new.next ≡ old.next

-- a region with these operations, which gives on these values
pub record HasParts (region : Region) (ops : OpList) (ends : List Label) : Type 0 where
  pub rows : rows_of region ≡ ops
  pub gives : ends_of region ≡ ends

-- the region of `else`, which has no operations where it isn't there
abbrev pub other_rows : Option Region → OpList
other_rows None = plain.nil
other_rows (Some region) = rows_of region

abbrev pub other_ends : Option Region → List Label
other_ends None = []
other_ends (Some region) = ends_of region

pub record HasElse (other : Option Region) (there : Bool) (ops : OpList) (ends : List Label) : Type 0 where
  pub is_there : is_some other ≡ there
  pub rows : other_rows other ≡ ops
  pub gives : other_ends other ≡ ends

-- the values that are in scope behind the first region of an `scf.while`, given on to the second
abbrev pub passed_behind : Origin → List Branch → Place → List Label
passed_behind origin kind place =
    labels (behind_before origin kind place) (ending terminals.Condition (before_parts (said origin.tokens.now kind))).uses
