-- The canonical text of a function: one line an operation or terminator, each region two blanks deeper than the line that opens it.
use Rattle.std.specs.Prelude.{ℕ, ◌+◌, ◌*◌, ◌==◌, ◌&&◌, List, [], ◌∷◌, ◌++◌, codes, map, nat_lt, replicate, Option, None, Some, if◌then◌else◌, slice_index_or}
use Rattle.std.specs.Option.{option_map_or}
use Rattle.std.specs.List.{zip}
use Rattle.std.specs.Fmt.{decimal, signed_decimal}
use Rattle.arith_word.specs.Word.{signed_reading}
use Rattle.arith_word.specs.declared.label.Label.{Label}
use Rattle.mlir_ir.specs.declared.types.Arg.{Arg}
use Rattle.mlir_ir.specs.declared.types.Body.{Body}
use Rattle.mlir_ir.specs.declared.types.Flags.{Flags}
use Rattle.mlir_ir.specs.declared.types.Func.{Func}
use Rattle.mlir_ir.specs.declared.types.IrType.{IrType}
use Rattle.mlir_ir.specs.declared.types.IrType.TheVariants.{Int, Index}
use Rattle.mlir_ir.specs.declared.types.Item.{Item}
use Rattle.mlir_ir.specs.declared.types.Pack.{Pack}
use Rattle.mlir_ir.specs.declared.types.Region.{Region, Region', Row_of-Op, end_of-Op, more_of-Op}
use Rattle.mlir_ir.specs.declared.types.Op.{Op}
use Rattle.mlir_ir.specs.declared.types.Kind.{Kind, Const, Bin, Cast, Cmp, Select, Call, If', For, While, Held-Kind-If-2, None', Some'}
use Rattle.mlir_ir.specs.declared.types.ForParts.{ForParts, ForParts'}
use Rattle.mlir_ir.specs.declared.types.WhileParts.{WhileParts, WhileParts'}
use Rattle.mlir_ir.specs.Values.{Value, value_at, type_at, func_values}
use Rattle.mlir_ir.specs.Words.{type_text, bin_text, cast_text, pred_text}

-- what a text needs to know of the function and its module: its values, and the names of the functions
pub record Naming : Type 0 where
  pub values : List Value
  pub funcs : List (List ℕ)

-- a line with its LF, `depth` steps of two blanks deep
abbrev pub line : ℕ → List ℕ → List ℕ
line depth content = replicate (2 * depth) 32 ++ content ++ 10 ∷ []

abbrev pub behind_commas : List (List ℕ) → List ℕ
behind_commas [] = []
behind_commas (text ∷ texts) = codes ", " ++ text ++ behind_commas texts

-- texts parted by a comma and a blank
abbrev pub joined : List (List ℕ) → List ℕ
joined [] = []
joined (text ∷ texts) = text ++ behind_commas texts

abbrev pub bracketed : List ℕ → List ℕ
bracketed text = codes "(" ++ text ++ codes ")"

abbrev pub types_text : List IrType → List ℕ
types_text tys = joined (map type_text tys)

-- result types: one stands bare
abbrev pub results_text : List IrType → List ℕ
results_text (ty ∷ []) = type_text ty
results_text tys = bracketed (types_text tys)

-- the results of a function, where it has some
abbrev pub arrow_text : List IrType → List ℕ
arrow_text [] = []
arrow_text (ty ∷ tys) = codes " -> " ++ results_text (ty ∷ tys)

-- the results of an `scf` operation, where it has some
abbrev pub arrow_list : List IrType → List ℕ
arrow_list [] = []
arrow_list (ty ∷ tys) = codes " -> " ++ bracketed (types_text (ty ∷ tys))

abbrev pub arg_text : Arg → List ℕ
arg_text arg = codes "%" ++ arg.name ++ codes ": " ++ type_text arg.ty

abbrev pub value_text : Value → List ℕ
value_text value = codes "%" ++ value.name ++ (if nat_lt 1 value.count then codes "#" ++ decimal value.place else [])

abbrev pub use_text : Naming → Label → List ℕ
use_text naming label = option_map_or value_text (value_at naming.values label.0) []

-- the type of a used value
abbrev pub used_type : Naming → Label → List ℕ
used_type naming label = option_map_or type_text (type_at naming.values label.0) []

abbrev pub uses_text : Naming → List Label → List ℕ
uses_text naming labels = joined (map (use_text naming) labels)

abbrev pub used_types : Naming → List Label → List ℕ
used_types naming labels = joined (map (used_type naming) labels)

-- values with their types behind a terminator's word, where there are some
abbrev pub ends_text : Naming → List Label → List ℕ
ends_text naming [] = []
ends_text naming (label ∷ labels) = codes " " ++ uses_text naming (label ∷ labels) ++ codes " : " ++ used_types naming (label ∷ labels)

abbrev pub pack_text : Pack → List ℕ
pack_text pack = codes "%" ++ pack.name ++ (if nat_lt 1 pack.count then codes ":" ++ decimal pack.count else [])

-- the names of the results, where there are some
abbrev pub packs_text : List Pack → List ℕ
packs_text [] = []
packs_text (pack ∷ packs) = joined (map pack_text (pack ∷ packs)) ++ codes " = "

abbrev pub flags_text : Flags → List ℕ
flags_text flags =
    if flags.nsw && flags.nuw
    then codes " overflow<nsw, nuw>"
    else (if flags.nsw then codes " overflow<nsw>" else (if flags.nuw then codes " overflow<nuw>" else []))

-- a constant: a truth value at one bit, else the signed reading
abbrev pub number_text : ℕ → ℕ → List ℕ
number_text bits v = if bits == 1 then (if v == 0 then codes "false" else codes "true") else signed_decimal (signed_reading bits v)

abbrev pub constant_text : ℕ → List IrType → List ℕ
constant_text v (Int width ∷ []) = if width == 1 then number_text 1 v else number_text width v ++ codes " : " ++ type_text (Int width)
constant_text v (Index ∷ []) = number_text 64 v ++ codes " : index"
constant_text v _ = []

abbrev pub init_text : Naming → (Arg × Label) → List ℕ
init_text naming (arg, label) = codes "%" ++ arg.name ++ codes " = " ++ use_text naming label

abbrev pub inits_text : Naming → List Arg → List Label → List ℕ
inits_text naming args inits = bracketed (joined (map (init_text naming) (zip args inits)))

-- what an operation without regions says behind its results
abbrev pub simple_text : Naming → List IrType → Kind → List ℕ
simple_text naming results (Const v) = codes "arith.constant " ++ constant_text v results
simple_text naming results (Bin op flags a b) =
    bin_text op ++ codes " " ++ use_text naming a ++ codes ", " ++ use_text naming b ++ flags_text flags ++ codes " : " ++ types_text results
simple_text naming results (Cast op flags a) =
    cast_text op ++ codes " " ++ use_text naming a ++ flags_text flags ++ codes " : " ++ used_type naming a ++ codes " to " ++ types_text results
simple_text naming results (Cmp pred a b) =
    codes "arith.cmpi " ++ pred_text pred ++ codes ", " ++ use_text naming a ++ codes ", " ++ use_text naming b ++ codes " : " ++ used_type naming a
simple_text naming results (Select c a b) =
    codes "arith.select " ++ use_text naming c ++ codes ", " ++ use_text naming a ++ codes ", " ++ use_text naming b ++ codes " : " ++ types_text results
simple_text naming results (Call func uses) =
    codes "func.call @" ++ slice_index_or naming.funcs func [] ++ bracketed (uses_text naming uses) ++ codes " : " ++ bracketed (used_types naming uses) ++ codes " -> " ++ results_text results
simple_text naming results _ = []

-- the type of an induction variable, where it is not `index`
abbrev pub counter_type : IrType → List ℕ
counter_type (Int width) = codes " : " ++ type_text (Int width)
counter_type Index = []

abbrev pub carried_text : Naming → List Arg → List Label → List IrType → List ℕ
carried_text naming [] inits results = []
carried_text naming (arg ∷ args) inits results =
    codes " iter_args" ++ inits_text naming (arg ∷ args) inits ++ codes " -> " ++ bracketed (types_text results)

-- the arguments of `scf.while` with their first values, where there are some
abbrev pub while_inits : Naming → List Arg → List Label → List ℕ
while_inits naming [] inits = []
while_inits naming (arg ∷ args) inits = inits_text naming (arg ∷ args) inits ++ codes " "

-- the line that opens the `do` region's block, where it has parameters
abbrev pub block_text : ℕ → List Arg → List ℕ
block_text depth [] = []
block_text depth (arg ∷ args) = line depth (codes "^bb0" ++ bracketed (joined (map arg_text (arg ∷ args))) ++ codes ":")

-- the yield of a region, where it gives values
abbrev pub yield_text : Naming → ℕ → List Label → List ℕ
yield_text naming depth [] = []
yield_text naming depth (label ∷ labels) = line depth (codes "scf.yield" ++ ends_text naming (label ∷ labels))

unfoldable mutual
  -- the lines of an operation whose results print as `names`
  pub op_text : Naming → ℕ → List ℕ → List IrType → Kind → List ℕ
  op_text naming depth names results (If' c first other) =
      line depth (names ++ codes "scf.if " ++ use_text naming c ++ arrow_list results ++ codes " {")
      ++ region_text naming (depth + 1) first
      ++ else_text naming depth other
      ++ line depth (codes "}")
  op_text naming depth names results (For parts) = for_text naming depth names results parts
  op_text naming depth names results (While parts) = while_text naming depth names results parts
  op_text naming depth names results kind = line depth (names ++ simple_text naming results kind)

  pub row_text : {m : _} → Naming → ℕ → Row_of-Op m → List ℕ
  row_text naming depth end_of-Op = []
  row_text naming depth (more_of-Op packs results kind rest) = op_text naming depth (packs_text packs) results kind ++ row_text naming depth rest

  -- operations, and the yield where it gives values
  pub region_text : Naming → ℕ → Region → List ℕ
  region_text naming depth (Region' shape row ends) = row_text naming depth row ++ yield_text naming depth ends

  pub else_text : Naming → ℕ → Held-Kind-If-2 → List ℕ
  else_text naming depth None' = []
  else_text naming depth (Some' region) = line depth (codes "} else {") ++ region_text naming (depth + 1) region

  pub for_text : Naming → ℕ → List ℕ → List IrType → ForParts → List ℕ
  for_text naming depth names results (ForParts' lower upper step iv args inits body) =
      line depth
      (names ++ codes "scf.for %" ++ iv.name ++ codes " = " ++ use_text naming lower ++ codes " to " ++ use_text naming upper ++ codes " step " ++ use_text naming step ++ carried_text naming args inits results ++ counter_type iv.ty ++ codes " {")
      ++ region_text naming (depth + 1) body
      ++ line depth (codes "}")

  pub while_text : Naming → ℕ → List ℕ → List IrType → WhileParts → List ℕ
  while_text naming depth names results (WhileParts' args inits before cond after_args after) =
      line depth
      (names ++ codes "scf.while " ++ while_inits naming args inits ++ codes ": " ++ bracketed (types_text (map (λ arg. arg.ty) args)) ++ codes " -> " ++ bracketed (types_text results) ++ codes " {")
      ++ before_text naming (depth + 1) cond before
      ++ line depth (codes "} do {")
      ++ block_text depth after_args
      ++ after_text naming (depth + 1) after
      ++ line depth (codes "}")

  -- the region before a turn, which ends with its condition
  pub before_text : Naming → ℕ → Label → Region → List ℕ
  before_text naming depth cond (Region' shape row ends) =
      row_text naming depth row ++ line depth (codes "scf.condition" ++ bracketed (use_text naming cond) ++ ends_text naming ends)

  -- the region of a turn, whose yield always prints
  pub after_text : Naming → ℕ → Region → List ℕ
  after_text naming depth (Region' shape row ends) = row_text naming depth row ++ line depth (codes "scf.yield" ++ ends_text naming ends)

abbrev pub ops_text : Naming → List Op → List ℕ
ops_text naming [] = []
ops_text naming (op ∷ ops) = op_text naming 1 (packs_text op.packs) op.results op.kind ++ ops_text naming ops

abbrev pub items_text : Naming → List Item → List ℕ
items_text naming [] = []
items_text naming (item ∷ items) = ops_text naming item.ops ++ items_text naming items

abbrev pub naming_of : List (List ℕ) → Func → Naming
naming_of funcs f = record { values = func_values f; funcs = funcs }

abbrev pub head_text : Func → List ℕ
head_text f = codes "func.func " ++ (if f.private then codes "private " else []) ++ codes "@" ++ f.name

abbrev pub body_text : Naming → Func → Option Body → List ℕ
body_text naming f None = line 0 (head_text f ++ bracketed (types_text (map (λ arg. arg.ty) f.args)) ++ arrow_text f.results)
body_text naming f (Some body) =
    line 0 (head_text f ++ bracketed (joined (map arg_text f.args)) ++ arrow_text f.results ++ codes " {")
    ++ items_text naming body.items
    ++ line 1 (codes "return" ++ ends_text naming body.ret)
    ++ line 0 (codes "}")

-- the canonical text of a function of a module whose functions have these names
abbrev pub func_text : List (List ℕ) → Func → List ℕ
func_text funcs f = body_text (naming_of funcs f) f f.body

abbrev pub funcs_text : List (List ℕ) → List Func → List ℕ
funcs_text names [] = []
funcs_text names (f ∷ fs) = func_text names f ++ funcs_text names fs

-- the canonical text of a module's functions
abbrev pub module_text : List Func → List ℕ
module_text fs = funcs_text (map (λ f. f.name) fs) fs
