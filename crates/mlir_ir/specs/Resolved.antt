-- The functions that a syntax stands for: uses are the labels of the values in scope that have their names.
use Rattle.std.specs.Prelude.{ℕ, ◌+◌, ◌-◌, ◌%◌, ◌==◌, ◌&&◌, ◌^◌, Bool, List, [], ◌∷◌, ◌++◌, codes, drop, find, length, map, Option, None, Some, if◌then◌else◌, slice_index_or}
use Rattle.std.specs.Option.{option_map_or}
use Rattle.std.specs.Str.{bytes_eq}
use Rattle.std.specs.Str.Parse.{digits_value}
use Rattle.arith_word.specs.declared.label.Label.{Label}
use Rattle.arith_word.specs.declared.op.BinOp.{BinOp}
use Rattle.arith_word.specs.declared.op.BinOp.TheVariants.{Addi, Subi, Muli, Andi, Ori, Xori, Minsi, Maxsi, Minui, Maxui, Shli, Shrui, Shrsi, Divui, Remui, Divsi, Remsi}
use Rattle.arith_word.specs.declared.op.CastOp.{CastOp}
use Rattle.arith_word.specs.declared.op.CastOp.TheVariants.{Extsi, IndexCast, Extui, IndexCastui, Trunci}
use Rattle.arith_word.specs.declared.op.Pred.{Pred}
use Rattle.arith_word.specs.declared.op.Pred.TheVariants.{Eq, Ne, Slt, Sle, Sgt, Sge, Ult, Ule, Ugt, Uge}
use Rattle.arith_word.specs.Labels.{label_at}
use Rattle.mlir_ir.specs.Operations as plain
use Rattle.mlir_ir.specs.Operations.{OpKind, OpList, labels_of, inner_labels}
use Rattle.mlir_ir.specs.Phrases.{Phrase, Line, spots, lines, inside, has, first_spot}
use Rattle.mlir_ir.specs.Source.{Block, none, op, Defined, Packed, Use, Written, unsigned, block, uses_in, types_in, params_in, listed_uses, listed_types, result_types, inits_of, ending, head, word, region_parts, else_parts, before_parts, after_parts, after_params, op_types}
use Rattle.mlir_ir.specs.Values.{Value, arg_values, result_values}
use Rattle.mlir_ir.specs.Words.{bits_of, bin_text, cast_text, pred_text}
use Rattle.mlir_ir.specs.declared.terminal.Terminal.{Terminal}
use Rattle.mlir_ir.specs.declared.terminal.Terminal.TheVariants as terminals
use Rattle.mlir_ir.specs.declared.syntax.Form.TheVariants as forms
use Rattle.mlir_ir.specs.declared.types.Arg.{Arg}
use Rattle.mlir_ir.specs.declared.types.Flags.{Flags}
use Rattle.mlir_ir.specs.declared.types.IrType.{IrType}
use Rattle.mlir_ir.specs.declared.types.IrType.TheVariants.{Index}
use Rattle.mlir_ir.specs.declared.types.Pack.{Pack}

-- the words of the text

abbrev pub word_of : {A : Type 0} → (A → List ℕ) → A → List A → List ℕ → A
word_of spelled other choices text = option_map_or (λ a. a) (find (λ a. bytes_eq (spelled a) text) choices) other

abbrev pub bin_named : List ℕ → BinOp
bin_named text =
    word_of bin_text Addi
    (Addi ∷ Subi ∷ Muli ∷ Andi ∷ Ori ∷ Xori ∷ Minsi ∷ Maxsi ∷ Minui ∷ Maxui ∷ Shli ∷ Shrui ∷ Shrsi ∷ Divui ∷ Remui ∷ Divsi ∷ Remsi ∷ [])
    text

abbrev pub cast_named : List ℕ → CastOp
cast_named text = word_of cast_text Extsi (Extsi ∷ IndexCast ∷ Extui ∷ IndexCastui ∷ Trunci ∷ []) text

abbrev pub pred_named : List ℕ → Pred
pred_named text = word_of pred_text Eq (Eq ∷ Ne ∷ Slt ∷ Sle ∷ Sgt ∷ Sge ∷ Ult ∷ Ule ∷ Ugt ∷ Uge ∷ []) text

abbrev pub flags_of : Phrase → Flags
flags_of kind = record { nsw = has terminals.Nsw (inside forms.Flags kind); nuw = has terminals.Nuw (inside forms.Flags kind) }

-- literals

-- the number that a literal writes, without its sign
abbrev pub magnitude : Phrase → ℕ
magnitude kind =
    if has terminals.Hexadecimal kind
    then digits_value 16 (drop 2 (first_spot (spots terminals.Hexadecimal kind)).text)
    else digits_value 10 (first_spot (spots terminals.Decimal kind)).text

-- the unsigned reading of a literal of w bits
abbrev pub literal : ℕ → Phrase → ℕ
literal w kind =
    if has terminals.Truth kind
    then (if bytes_eq (first_spot (spots terminals.Truth kind)).text (codes "true") then 1 else 0)
    else (if has terminals.Minus kind then (2 ^ w - magnitude kind % 2 ^ w) % 2 ^ w else magnitude kind % 2 ^ w)

-- names in scope

abbrev pub is_of : Use → Value → Bool
is_of u v = bytes_eq v.name u.name && v.place == u.pick

-- the value that is used
abbrev pub used : List Value → Use → Option Value
used scope u = find (is_of u) scope

abbrev pub label : List Value → Use → Label
label scope u = record { 0 = option_map_or (λ v. v.label) (used scope u) 0 }

abbrev pub labels : List Value → List Use → List Label
labels scope uses = map (label scope) uses

abbrev pub tys : List Written → List IrType
tys types = map (λ (t : Written). t.ty) types

abbrev pub packs_of : List Packed → List Pack
packs_of packs = map (λ (p : Packed). record { name = p.name; count = p.count }) packs

abbrev pub args_of : List (Defined × Written) → List Arg
args_of params = map (λ (p : Defined × Written). record { name = p.0.name; ty = p.1.ty }) params

-- loop-carried values, which have the types that belong to them
abbrev pub carried : List (Defined × Use) → List IrType → List Arg
carried ((name, first) ∷ inits) (ty ∷ types) = record { name = name.name; ty = ty } ∷ carried inits types
carried _ _ = []

abbrev pub inits_used : List (Defined × Use) → List Use
inits_used inits = map (λ (p : Defined × Use). p.1) inits

-- the type of an induction variable: the one that is written, or `index`
abbrev pub variable_type : List Written → IrType
variable_type [] = Index
variable_type (t ∷ types) = t.ty

abbrev pub nth_use : List Value → ℕ → Phrase → Label
nth_use scope k kind = slice_index_or (labels scope (uses_in kind)) k (record { 0 = 0 })

-- the place of the first function of that name
abbrev pub place_named : List ℕ → List (List ℕ) → ℕ
place_named name [] = 0
place_named name (other ∷ names) = if bytes_eq other name then 0 else 1 + place_named name names

-- the values that operations define outside their regions, from a label on
abbrev pub values_of : ℕ → OpList → List Value
values_of at plain.nil = []
values_of at (plain.next packs results kind rest) =
    result_values (at + inner_labels kind) packs results ++ values_of (at + (inner_labels kind + length results)) rest

abbrev pub simple_kind : List (List ℕ) → List Value → Terminal → Phrase → plain.SimpleOp
simple_kind funcs scope terminals.Constant kind = plain.Const (literal (bits_of (variable_type (op_types terminals.Constant kind))) kind)
simple_kind funcs scope terminals.Binary kind = plain.Bin (bin_named (word kind).text) (flags_of kind) (nth_use scope 0 kind) (nth_use scope 1 kind)
simple_kind funcs scope terminals.FlaggedBinary kind = plain.Bin (bin_named (word kind).text) (flags_of kind) (nth_use scope 0 kind) (nth_use scope 1 kind)
simple_kind funcs scope terminals.Cast kind = plain.Cast (cast_named (word kind).text) (flags_of kind) (nth_use scope 0 kind)
simple_kind funcs scope terminals.FlaggedCast kind = plain.Cast (cast_named (word kind).text) (flags_of kind) (nth_use scope 0 kind)
simple_kind funcs scope terminals.Compare kind =
    plain.Cmp (pred_named (first_spot (spots terminals.Predicate kind)).text) (nth_use scope 0 kind) (nth_use scope 1 kind)
simple_kind funcs scope terminals.Select kind = plain.Select (nth_use scope 0 kind) (nth_use scope 1 kind) (nth_use scope 2 kind)
simple_kind funcs scope _ kind =
    plain.Call (place_named (unsigned (first_spot (spots terminals.Symbol kind)).text) funcs) (labels scope (listed_uses kind))

-- an `scf.for` from label `at` on, whose body has the operations that are given under its variables
abbrev pub for_kind : List Value → ℕ → Phrase → (List Value → ℕ → OpList) → OpKind
for_kind scope at kind operations =
    let iv : Arg = record { name = unsigned (first_spot (spots terminals.Value kind)).text; ty = variable_type (types_in kind) } in
    let args = carried (inits_of kind) (tys (result_types kind)) in
    let inner = scope ++ arg_values (at + 1) (iv ∷ args) in
    let body = operations inner (at + 2 + length args) in
    plain.For (nth_use scope 0 kind) (nth_use scope 1 kind) (nth_use scope 2 kind) iv args (labels scope (inits_used (inits_of kind))) body
    (labels (inner ++ values_of (at + 2 + length args) body) (ending terminals.Yield (region_parts kind)).uses)

abbrev pub while_kind : List Value → ℕ → Phrase → (List Value → ℕ → OpList) → (List Value → ℕ → OpList) → OpKind
while_kind scope at kind before after =
    let args = carried (inits_of kind) (tys (listed_types kind)) in
    let in_before = scope ++ arg_values (at + 1) args in
    let first = before in_before (at + 1 + length args) in
    let behind_before = in_before ++ values_of (at + 1 + length args) first in
    let params = at + 1 + length args + labels_of first in
    let after_args = args_of (after_params kind) in
    let in_after = scope ++ arg_values params after_args in
    let second = after in_after (params + length after_args) in
    plain.While args (labels scope (inits_used (inits_of kind))) first (labels behind_before (ending terminals.Condition (before_parts kind)).uses)
    (nth_use behind_before 0 kind) after_args second
    (labels (in_after ++ values_of (params + length after_args) second) (ending terminals.Yield (after_parts kind)).uses)

abbrev pub if_kind : List Value → ℕ → Phrase → (List Value → ℕ → OpList) → (List Value → ℕ → OpList) → OpKind
if_kind scope at kind first_region second_region =
    let first = first_region scope at in
    let second = second_region scope (at + labels_of first) in
    plain.If (nth_use scope 0 kind) first (labels (scope ++ values_of at first) (ending terminals.Yield (region_parts kind)).uses)
    (has terminals.Else kind) second (labels (scope ++ values_of (at + labels_of first) second) (ending terminals.Yield (else_parts kind)).uses)

abbrev pub kind_of : List (List ℕ) → List Value → ℕ → Terminal → Phrase → (List Value → ℕ → OpList) → (List Value → ℕ → OpList) → OpKind
kind_of funcs scope at terminals.If kind first second = if_kind scope at kind first second
kind_of funcs scope at terminals.For kind first second = for_kind scope at kind first
kind_of funcs scope at terminals.While kind first second = while_kind scope at kind first second
kind_of funcs scope at c kind first second = plain.Simple (simple_kind funcs scope c kind)

-- the operations of a block from a label on, in a module whose functions have these names
abbrev pub ops_of : List (List ℕ) → Block → List Value → ℕ → OpList
ops_of funcs none scope at = plain.nil
ops_of funcs (op spot packs kind first second rest) scope at =
    let results = tys (op_types (head kind) kind) in
    let what = kind_of funcs scope at (head kind) kind (ops_of funcs first) (ops_of funcs second) in
    plain.next (packs_of packs) results what
    (ops_of funcs rest (scope ++ result_values (at + inner_labels what) (packs_of packs) results) (at + (inner_labels what + length results)))

-- functions

-- a function with its items and returned values as plain data
pub record PlainBody : Type 0 where
  pub items : List OpList
  pub ret : List Label

pub record PlainFunc : Type 0 where
  pub index : ℕ
  pub name : List ℕ
  pub private : Bool
  pub args : List Arg
  pub results : List IrType
  pub body : Option PlainBody

-- each operation of a body is an item of its own; those from number k on
abbrev pub items_of : List (List ℕ) → ℕ → ℕ → Block → List Value → List OpList
items_of funcs func k none scope = []
items_of funcs func k (op spot packs kind first second rest) scope =
    let item = ops_of funcs (op spot packs kind first second none) scope (label_at func k 0) in
    item ∷ items_of funcs func (k + 1) rest (scope ++ values_of (label_at func k 0) item)

abbrev pub values_of_items : ℕ → ℕ → List OpList → List Value
values_of_items func k [] = []
values_of_items func k (item ∷ items) = values_of (label_at func k 0) item ++ values_of_items func (k + 1) items

abbrev pub func_name : Line → List ℕ
func_name f = unsigned (first_spot (spots terminals.Symbol f.parts)).text

-- arguments with names, or the types of a declaration alone
abbrev pub func_args : Line → List Arg
func_args f =
    args_of (params_in (inside forms.Params f.parts))
    ++ map (λ (t : Written). record { name = []; ty = t.ty }) (listed_types f.parts)

abbrev pub body_of : List (List ℕ) → ℕ → List Arg → List Line → Option PlainBody
body_of funcs index args [] = None
body_of funcs index args (body ∷ bodies) =
    let scope = arg_values (label_at index 0 0) args in
    let items = items_of funcs index 1 (block body.parts) scope in
    Some (record { items = items; ret = labels (scope ++ values_of_items index 1 items) (ending terminals.Return body.parts).uses })

-- the function with that index, in a text whose functions have these names
abbrev pub func_of : List (List ℕ) → ℕ → Line → PlainFunc
func_of funcs index f = record {
  index = index;
  name = func_name f;
  private = has terminals.Private f.parts;
  args = func_args f;
  results = tys (result_types f.parts);
  body = body_of funcs index (func_args f) (lines forms.Body f.parts);
}

abbrev pub funcs_from : List (List ℕ) → ℕ → List Line → List PlainFunc
funcs_from names index [] = []
funcs_from names index (f ∷ fs) = func_of names index f ∷ funcs_from names (index + 1) fs

-- the functions of a text's tree
abbrev pub func_lines : Phrase → List Line
func_lines text = lines forms.Func (inside forms.Whole text)

-- the functions that a text stands for
abbrev pub funcs_of : Phrase → List PlainFunc
funcs_of text = funcs_from (map func_name (func_lines text)) 0 (func_lines text)
