-- The pieces of the canonical text: definition by definition as in `Canonical`, with the lines of the grammar around them.
use Rattle.std.specs.Prelude.{ℕ, ℤ, pos, negsuc, suc, ◌+◌, ◌*◌, ◌==◌, ◌&&◌, List, [], ◌∷◌, ◌++◌, codes, map, nat_lt, replicate, Option, None, Some, if◌then◌else◌, slice_index_or}
use Rattle.std.specs.Option.{option_map_or}
use Rattle.std.specs.List.{zip}
use Rattle.std.specs.Fmt.{decimal}
use Rattle.arith_word.specs.Word.{signed_reading}
use Rattle.arith_word.specs.declared.label.Label.{Label}
use Rattle.mlir_ir.specs.declared.token.TokenKind.TheVariants.{Word, Value, Symbol, Caret, Pick, Number, Mark}
use Rattle.mlir_ir.specs.declared.syntax.Form.TheVariants as forms
use Rattle.mlir_ir.specs.declared.types.Arg.{Arg}
use Rattle.mlir_ir.specs.declared.types.Body.{Body}
use Rattle.mlir_ir.specs.declared.types.Flags.{Flags}
use Rattle.mlir_ir.specs.declared.types.Func.{Func}
use Rattle.mlir_ir.specs.declared.types.IrType.{IrType}
use Rattle.mlir_ir.specs.declared.types.IrType.TheVariants.{Int, Index}
use Rattle.mlir_ir.specs.declared.types.Item.{Item}
use Rattle.mlir_ir.specs.declared.types.Pack.{Pack}
use Rattle.mlir_ir.specs.declared.types.Region.{Region, Region', Row_of-Op, end_of-Op, more_of-Op}
use Rattle.mlir_ir.specs.declared.types.Op.{Op}
use Rattle.mlir_ir.specs.declared.types.Kind.{Kind, Const, Bin, Cast, Cmp, Select, Call, If', For, While, Held-Kind-If-2, None', Some'}
use Rattle.mlir_ir.specs.declared.types.ForParts.{ForParts, ForParts'}
use Rattle.mlir_ir.specs.declared.types.WhileParts.{WhileParts, WhileParts'}
use Rattle.mlir_ir.specs.Values as values
use Rattle.mlir_ir.specs.Values.{value_at, type_at}
use Rattle.mlir_ir.specs.Words.{type_text, bin_text, cast_text, pred_text}
use Rattle.mlir_ir.specs.Canonical.{Naming, naming_of}
use Rattle.round_trip.specs.Pieces.{Piece, empty, gap, leaf, branch, ◌<>◌}

abbrev pub word : List ℕ → Piece
word text = leaf Word text

abbrev pub mark : List ℕ → Piece
mark text = leaf Mark text

abbrev pub blank : Piece
blank = gap (codes " ")

abbrev pub feed : Piece
feed = gap (10 ∷ [])

abbrev pub indent : ℕ → Piece
indent depth = gap (replicate (2 * depth) 32)

abbrev pub line_piece : ℕ → Piece → Piece
line_piece depth content = indent depth <> content <> feed

abbrev pub behind_commas_piece : List Piece → Piece
behind_commas_piece [] = empty
behind_commas_piece (piece ∷ pieces) = (mark (codes ",") <> blank <> piece) <> behind_commas_piece pieces

abbrev pub joined_piece : List Piece → Piece
joined_piece [] = empty
joined_piece (piece ∷ pieces) = piece <> behind_commas_piece pieces

abbrev pub bracketed_piece : Piece → Piece
bracketed_piece piece = mark (codes "(") <> piece <> mark (codes ")")

abbrev pub type_piece : IrType → Piece
type_piece ty = branch forms.TypeName (word (type_text ty))

-- types, where there are some
abbrev pub types_piece : List IrType → Piece
types_piece [] = empty
types_piece (ty ∷ tys) = branch forms.Types (joined_piece (map type_piece (ty ∷ tys)))

abbrev pub results_list_piece : List IrType → Piece
results_list_piece tys = branch forms.Results (bracketed_piece (types_piece tys))

abbrev pub results_piece : List IrType → Piece
results_piece (ty ∷ []) = branch forms.Results (type_piece ty)
results_piece tys = results_list_piece tys

abbrev pub arrow : Piece
arrow = blank <> mark (codes "->") <> blank

abbrev pub arrow_piece : List IrType → Piece
arrow_piece [] = empty
arrow_piece (ty ∷ tys) = blank <> mark (codes "->") <> blank <> results_piece (ty ∷ tys)

abbrev pub arrow_list_piece : List IrType → Piece
arrow_list_piece [] = empty
arrow_list_piece (ty ∷ tys) = blank <> mark (codes "->") <> blank <> results_list_piece (ty ∷ tys)

abbrev pub name_piece : List ℕ → Piece
name_piece name = leaf Value (codes "%" ++ name)

abbrev pub colon : Piece
colon = mark (codes ":")

abbrev pub arg_piece : Arg → Piece
arg_piece arg = name_piece arg.name <> colon <> blank <> type_piece arg.ty

-- arguments, where there are some
abbrev pub params_piece : List Arg → Piece
params_piece [] = empty
params_piece (arg ∷ args) = branch forms.Params (joined_piece (map arg_piece (arg ∷ args)))

abbrev pub value_piece : values.Value → Piece
value_piece value = branch forms.Use (name_piece value.name <> (if nat_lt 1 value.count then leaf Pick (codes "#" ++ decimal value.place) else empty))

abbrev pub use_piece : Naming → Label → Piece
use_piece naming label = option_map_or value_piece (value_at naming.values label.0) empty

abbrev pub used_type_piece : Naming → Label → Piece
used_type_piece naming label = option_map_or type_piece (type_at naming.values label.0) empty

-- values, where there are some
abbrev pub uses_piece : Naming → List Label → Piece
uses_piece naming [] = empty
uses_piece naming (label ∷ labels) = branch forms.Uses (joined_piece (map (use_piece naming) (label ∷ labels)))

abbrev pub used_types_piece : Naming → List Label → Piece
used_types_piece naming [] = empty
used_types_piece naming (label ∷ labels) = branch forms.Types (joined_piece (map (used_type_piece naming) (label ∷ labels)))

abbrev pub ends_piece : Naming → List Label → Piece
ends_piece naming [] = empty
ends_piece naming (label ∷ labels) =
    blank <> branch forms.Ends (uses_piece naming (label ∷ labels) <> blank <> colon <> blank <> used_types_piece naming (label ∷ labels))

abbrev pub pack_piece : Pack → Piece
pack_piece pack = branch forms.Pack (name_piece pack.name <> (if nat_lt 1 pack.count then colon <> leaf Number (decimal pack.count) else empty))

abbrev pub packs_piece : List Pack → Piece
packs_piece [] = empty
packs_piece (pack ∷ packs) = joined_piece (map pack_piece (pack ∷ packs)) <> blank <> mark (codes "=") <> blank

abbrev pub overflow_piece : Piece → Piece
overflow_piece flags = blank <> branch forms.Flags (word (codes "overflow") <> mark (codes "<") <> flags <> mark (codes ">"))

abbrev pub flags_piece : Flags → Piece
flags_piece flags =
    if flags.nsw && flags.nuw
    then overflow_piece (word (codes "nsw") <> mark (codes ",") <> blank <> word (codes "nuw"))
    else (if flags.nsw then overflow_piece (word (codes "nsw")) else (if flags.nuw then overflow_piece (word (codes "nuw")) else empty))

abbrev pub signed_piece : ℤ → Piece
signed_piece (pos n) = leaf Number (decimal n)
signed_piece (negsuc n) = mark (codes "-") <> leaf Number (decimal (suc n))

abbrev pub truth_piece : ℕ → Piece
truth_piece v = if v == 0 then word (codes "false") else word (codes "true")

abbrev pub number_piece : ℕ → ℕ → IrType → Piece
number_piece bits v ty = signed_piece (signed_reading bits v) <> blank <> colon <> blank <> type_piece ty

abbrev pub constant_piece : ℕ → List IrType → Piece
constant_piece v (Int width ∷ []) = if width == 1 then truth_piece v else number_piece width v (Int width)
constant_piece v (Index ∷ []) = number_piece 64 v Index
constant_piece v _ = empty

-- the one type of a result
abbrev pub one_type : List IrType → Piece
one_type (ty ∷ []) = type_piece ty
one_type _ = empty

abbrev pub init_piece : Naming → (Arg × Label) → Piece
init_piece naming (arg, label) = name_piece arg.name <> blank <> mark (codes "=") <> blank <> use_piece naming label

abbrev pub inits_piece : Naming → List Arg → List Label → Piece
inits_piece naming args inits = bracketed_piece (branch forms.Inits (joined_piece (map (init_piece naming) (zip args inits))))

abbrev pub comma : Piece
comma = mark (codes ",") <> blank

abbrev pub simple_piece : Naming → List IrType → Kind → Piece
simple_piece naming results (Const v) = word (codes "arith.constant") <> blank <> constant_piece v results
simple_piece naming results (Bin op flags a b) =
    word (bin_text op) <> blank <> use_piece naming a <> mark (codes ",") <> blank <> use_piece naming b <> flags_piece flags <> blank <> colon <> blank <> one_type results
simple_piece naming results (Cast op flags a) =
    word (cast_text op) <> blank <> use_piece naming a <> flags_piece flags <> blank <> colon <> blank <> used_type_piece naming a <> blank <> word (codes "to") <> blank <> one_type results
simple_piece naming results (Cmp pred a b) =
    word (codes "arith.cmpi") <> blank <> word (pred_text pred) <> mark (codes ",") <> blank <> use_piece naming a <> mark (codes ",") <> blank <> use_piece naming b <> blank <> colon <> blank <> used_type_piece naming a
simple_piece naming results (Select c a b) =
    word (codes "arith.select") <> blank <> use_piece naming c <> mark (codes ",") <> blank <> use_piece naming a <> mark (codes ",") <> blank <> use_piece naming b <> blank <> colon <> blank <> one_type results
simple_piece naming results (Call func uses) =
    word (codes "func.call") <> blank <> leaf Symbol (codes "@" ++ slice_index_or naming.funcs func []) <> bracketed_piece (uses_piece naming uses) <> blank <> colon <> blank <> bracketed_piece (used_types_piece naming uses) <> blank <> mark (codes "->") <> blank <> results_piece results
simple_piece naming results _ = empty

abbrev pub counter_piece : IrType → Piece
counter_piece (Int width) = blank <> colon <> blank <> type_piece (Int width)
counter_piece Index = empty

abbrev pub carried_piece : Naming → List Arg → List Label → List IrType → Piece
carried_piece naming [] inits results = empty
carried_piece naming (arg ∷ args) inits results =
    blank <> word (codes "iter_args") <> inits_piece naming (arg ∷ args) inits <> blank <> mark (codes "->") <> blank <> results_list_piece results

abbrev pub while_inits_piece : Naming → List Arg → List Label → Piece
while_inits_piece naming [] inits = empty
while_inits_piece naming (arg ∷ args) inits = inits_piece naming (arg ∷ args) inits <> blank

abbrev pub block_piece : ℕ → List Arg → Piece
block_piece depth [] = empty
block_piece depth (arg ∷ args) = line_piece depth (leaf Caret (codes "^bb0") <> bracketed_piece (params_piece (arg ∷ args)) <> colon)

abbrev pub yield_piece : Naming → ℕ → List Label → Piece
yield_piece naming depth [] = empty
yield_piece naming depth (label ∷ labels) = line_piece depth (word (codes "scf.yield") <> ends_piece naming (label ∷ labels))

-- what stands in braces, of which the second begins a line
abbrev pub braced : ℕ → Piece → Piece
braced depth inner = mark (codes "{") <> (feed <> inner <> indent depth) <> mark (codes "}")

-- an operation whose results print as `names`
abbrev pub whole_piece : ℕ → Piece → Piece → Piece
whole_piece depth names kind = line_piece depth (branch forms.Op (names <> branch forms.Kind kind))

unfoldable mutual
  -- what an operation says behind its results
  pub kind_piece : Naming → ℕ → List IrType → Kind → Piece
  kind_piece naming depth results (If' c first other) =
      word (codes "scf.if") <> blank <> use_piece naming c <> arrow_list_piece results <> blank <> branch forms.Region (braced depth (region_piece naming (depth + 1) first)) <> else_piece naming depth other
  kind_piece naming depth results (For parts) = for_piece naming depth results parts
  kind_piece naming depth results (While parts) = while_piece naming depth results parts
  kind_piece naming depth results kind = simple_piece naming results kind

  pub row_piece : {m : _} → Naming → ℕ → Row_of-Op m → Piece
  row_piece naming depth end_of-Op = empty
  row_piece naming depth (more_of-Op packs results kind rest) =
      whole_piece depth (packs_piece packs) (kind_piece naming depth results kind) <> row_piece naming depth rest

  pub region_piece : Naming → ℕ → Region → Piece
  region_piece naming depth (Region' shape row ends) = row_piece naming depth row <> yield_piece naming depth ends

  pub else_piece : Naming → ℕ → Held-Kind-If-2 → Piece
  else_piece naming depth None' = empty
  else_piece naming depth (Some' region) = blank <> word (codes "else") <> blank <> branch forms.Region (braced depth (region_piece naming (depth + 1) region))

  pub for_piece : Naming → ℕ → List IrType → ForParts → Piece
  for_piece naming depth results (ForParts' lower upper step iv args inits body) =
      word (codes "scf.for") <> blank <> name_piece iv.name <> blank <> mark (codes "=") <> blank <> use_piece naming lower <> blank <> word (codes "to") <> blank <> use_piece naming upper <> blank <> word (codes "step") <> blank <> use_piece naming step <> carried_piece naming args inits results <> counter_piece iv.ty <> blank <> branch forms.Region (braced depth (region_piece naming (depth + 1) body))

  pub while_piece : Naming → ℕ → List IrType → WhileParts → Piece
  while_piece naming depth results (WhileParts' args inits before cond after_args after) =
      word (codes "scf.while") <> blank <> while_inits_piece naming args inits <> colon <> blank <> bracketed_piece (types_piece (map (λ arg. arg.ty) args)) <> blank <> mark (codes "->") <> blank <> results_list_piece results <> blank <> braced depth (before_piece naming (depth + 1) cond before) <> blank <> word (codes "do") <> blank <> braced depth (block_piece depth after_args <> after_piece naming (depth + 1) after)

  pub before_piece : Naming → ℕ → Label → Region → Piece
  before_piece naming depth cond (Region' shape row ends) =
      row_piece naming depth row <> line_piece depth (word (codes "scf.condition") <> bracketed_piece (use_piece naming cond) <> ends_piece naming ends)

  pub after_piece : Naming → ℕ → Region → Piece
  after_piece naming depth (Region' shape row ends) = row_piece naming depth row <> line_piece depth (word (codes "scf.yield") <> ends_piece naming ends)

abbrev pub ops_piece : Naming → List Op → Piece
ops_piece naming [] = empty
ops_piece naming (op ∷ ops) = whole_piece 1 (packs_piece op.packs) (kind_piece naming 1 op.results op.kind) <> ops_piece naming ops

abbrev pub items_piece : Naming → List Item → Piece
items_piece naming [] = empty
items_piece naming (item ∷ items) = ops_piece naming item.ops <> items_piece naming items

abbrev pub private_piece : Func → Piece
private_piece f = if f.private then word (codes "private") <> blank else empty

abbrev pub symbol_piece : Func → Piece
symbol_piece f = leaf Symbol (codes "@" ++ f.name)

abbrev pub body_piece : Naming → Func → Option Body → Piece
body_piece naming f None =
    branch forms.Func (word (codes "func.func") <> blank <> private_piece f <> symbol_piece f <> bracketed_piece (types_piece (map (λ arg. arg.ty) f.args)) <> arrow_piece f.results) <> feed
body_piece naming f (Some body) =
    branch forms.Func
    (word (codes "func.func") <> blank <> private_piece f <> symbol_piece f <> bracketed_piece (params_piece f.args) <> arrow_piece f.results <> blank
    <> branch forms.Body (braced 0 (items_piece naming body.items <> line_piece 1 (word (codes "return") <> ends_piece naming body.ret))))
    <> feed

abbrev pub func_piece : List (List ℕ) → Func → Piece
func_piece funcs f = body_piece (naming_of funcs f) f f.body

abbrev pub funcs_piece : List (List ℕ) → List Func → Piece
funcs_piece names [] = empty
funcs_piece names (f ∷ fs) = func_piece names f <> funcs_piece names fs

-- the pieces of a module's text
abbrev pub module_piece : List Func → Piece
module_piece fs = branch forms.Whole (funcs_piece (map (λ f. f.name) fs) fs)
