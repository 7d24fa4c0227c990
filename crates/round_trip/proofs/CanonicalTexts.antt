-- The pieces spell the canonical text.
use Rattle.std.proofs.Common.{◌≡◌, ℕ, ℤ, pos, negsuc, ◌+◌, ◌==◌, Bool, true, false, List, [], ◌∷◌, ◌++◌, refl, ap, ◌∙◌, sym, codes, map, nat_lt, Option, Some, None, if◌then◌else◌, slice_index_or, append_assoc}
use Rattle.std.proofs.lemmas.List.{append-nil}
use Rattle.mlir_ir.specs.declared.token.TokenKind.TheVariants.{Number, Caret, Symbol}
use Rattle.mlir_ir.specs.declared.syntax.Form.TheVariants as forms
use Rattle.std.specs.Option.{option_map_or}
use Rattle.std.specs.List.{zip}
use Rattle.std.specs.Fmt.{decimal, signed_decimal}
use Rattle.arith_word.specs.Word.{signed_reading}
use Rattle.arith_word.specs.declared.label.Label.{Label}
use Rattle.mlir_ir.specs.declared.types.Arg.{Arg}
use Rattle.mlir_ir.specs.declared.types.Body.{Body}
use Rattle.mlir_ir.specs.declared.types.Flags.{Flags}
use Rattle.mlir_ir.specs.declared.types.Func.{Func}
use Rattle.mlir_ir.specs.declared.types.IrType.{IrType}
use Rattle.mlir_ir.specs.declared.types.IrType.TheVariants.{Int, Index}
use Rattle.mlir_ir.specs.declared.types.Item.{Item}
use Rattle.mlir_ir.specs.declared.types.Pack.{Pack}
use Rattle.mlir_ir.specs.declared.types.Op.{Op}
use Rattle.mlir_ir.specs.declared.types.Region.{Region, Region', Row_of-Op, end_of-Op, more_of-Op}
use Rattle.mlir_ir.specs.declared.types.ForParts.{ForParts, ForParts'}
use Rattle.mlir_ir.specs.declared.types.WhileParts.{WhileParts, WhileParts'}
use Rattle.mlir_ir.specs.declared.types.Kind.{Kind, Const, Bin, Cast, Cmp, Select, Call, If', For, While, None', Some'}
use Rattle.mlir_ir.specs.Values.{Value, value_at, type_at}
use Rattle.mlir_ir.specs.Words.{type_text}
use Rattle.mlir_ir.specs.Canonical.{Naming, naming_of, joined, behind_commas, types_text, results_text, arrow_text, arrow_list, arg_text, value_text, use_text, used_type, uses_text, used_types, ends_text, pack_text, packs_text, flags_text, constant_text, init_text, inits_text, simple_text, counter_type, carried_text, while_inits, block_text, yield_text, line, bracketed, op_text, row_text, region_text, for_text, while_text, before_text, after_text, ops_text, items_text, body_text, funcs_text, module_text}
use Rattle.round_trip.specs.Pieces.{Piece, empty, gap, leaf, branch, beside, spelled, ◌<>◌}
use Rattle.round_trip.specs.CanonicalPieces.{joined_piece, behind_commas_piece, type_piece, types_piece, results_piece, results_list_piece, arrow_piece, arrow_list_piece, arg_piece, params_piece, value_piece, use_piece, used_type_piece, uses_piece, used_types_piece, ends_piece, pack_piece, packs_piece, flags_piece, colon, word, mark, name_piece, braced, bracketed_piece, indent, line_piece, feed, private_piece, signed_piece, truth_piece, number_piece, constant_piece, init_piece, inits_piece, one_type, simple_piece, counter_piece, carried_piece, while_inits_piece, block_piece, yield_piece, blank, whole_piece, kind_piece, row_piece, region_piece, for_piece, while_piece, before_piece, after_piece, ops_piece, items_piece, body_piece, funcs_piece, module_piece}
use Rattle.round_trip.specs.Sound.{OneType, IsSimple, SoundKind, SoundRow, SoundRegion, SoundFor, SoundWhile, SoundOps, SoundItems, SoundBody, SoundFuncs, SoundModule}

app : {a b x y : List ℕ} → a ≡ x → b ≡ y → a ++ b ≡ x ++ y
app {b = b} {x = x} e f = ap (λ z. z ++ b) e ∙ ap (λ z. x ++ z) f

-- the bytes of the piece before more: nested to the right, however the pieces are
abbrev onto : Piece → List ℕ → List ℕ
onto empty rest = rest
onto (gap bytes) rest = bytes ++ rest
onto (leaf kind text) rest = text ++ rest
onto (branch form parts) rest = onto parts rest
onto (beside x y) rest = onto x (onto y rest)

onto_is : (p : Piece) (rest : List ℕ) → onto p rest ≡ spelled p ++ rest
onto_is empty rest = refl
onto_is (gap bytes) rest = refl
onto_is (leaf kind text) rest = refl
onto_is (branch form parts) rest = onto_is parts rest
onto_is (beside x y) rest = onto_is x (onto y rest) ∙ ap (λ z. spelled x ++ z) (onto_is y rest) ∙ sym (append_assoc (spelled x) (spelled y) rest)

-- pieces that differ in their nesting alone spell the same
same_onto : (p q : Piece) → onto p [] ≡ onto q [] → spelled p ≡ spelled q
same_onto p q e = sym (append-nil (spelled p)) ∙ sym (onto_is p []) ∙ e ∙ onto_is q [] ∙ append-nil (spelled q)

infixl 5 ◌|>◌
-- nested to the left, as texts are
abbrev ◌|>◌ : Piece → Piece → Piece
first |> second = beside first second

abbrev in_line : ℕ → Piece → Piece
in_line depth content = indent depth |> content |> feed

abbrev in_brackets : Piece → Piece
in_brackets p = gap (codes "(") |> p |> gap (codes ")")

-- lists parted by commas
behind_spelled : {A : Type 0} (f : A → Piece) (g : A → List ℕ) → ((x : A) → spelled (f x) ≡ g x) → (xs : List A) → spelled (behind_commas_piece (map f xs)) ≡ behind_commas (map g xs)
behind_spelled f g same [] = refl
behind_spelled f g same (x ∷ xs) = rw (same x, behind_spelled f g same xs) refl

joined_spelled : {A : Type 0} (f : A → Piece) (g : A → List ℕ) → ((x : A) → spelled (f x) ≡ g x) → (xs : List A) → spelled (joined_piece (map f xs)) ≡ joined (map g xs)
joined_spelled f g same [] = refl
joined_spelled f g same (x ∷ xs) = rw (same x, behind_spelled f g same xs) refl

types_spelled : (tys : List IrType) → spelled (types_piece tys) ≡ types_text tys
types_spelled [] = refl
types_spelled (ty ∷ tys) = joined_spelled type_piece type_text (λ t. refl) (ty ∷ tys)

results_spelled : (tys : List IrType) → spelled (results_piece tys) ≡ results_text tys
results_spelled [] = refl
results_spelled (ty ∷ []) = refl
results_spelled (ty ∷ t ∷ tys) = ap (λ text. codes "(" ++ text ++ codes ")") (types_spelled (ty ∷ t ∷ tys))

arrow_spelled : (tys : List IrType) → spelled (arrow_piece tys) ≡ arrow_text tys
arrow_spelled [] = refl
arrow_spelled (ty ∷ tys) = ap (λ text. codes " -> " ++ text) (results_spelled (ty ∷ tys))

arrow_list_spelled : (tys : List IrType) → spelled (arrow_list_piece tys) ≡ arrow_list tys
arrow_list_spelled [] = refl
arrow_list_spelled (ty ∷ tys) = ap (λ text. codes " -> (" ++ text ++ codes ")") (types_spelled (ty ∷ tys))

arg_spelled : (arg : Arg) → spelled (arg_piece arg) ≡ arg_text arg
arg_spelled arg = simp append_assoc refl

params_spelled : (args : List Arg) → spelled (params_piece args) ≡ joined (map arg_text args)
params_spelled [] = refl
params_spelled (arg ∷ args) = joined_spelled arg_piece arg_text arg_spelled (arg ∷ args)

spelled_if : (c : Bool) (x : Piece) (text : List ℕ) → spelled x ≡ text → spelled (if c then x else empty) ≡ (if c then text else [])
spelled_if true x text e = e
spelled_if false x text e = refl

value_spelled : (value : Value) → spelled (value_piece value) ≡ value_text value
value_spelled value = ap (λ text. (codes "%" ++ value.name) ++ text) (spelled_if (nat_lt 1 value.count) (leaf _ (codes "#" ++ decimal value.place)) (codes "#" ++ decimal value.place) refl)

spelled_or : {A : Type 0} (f : A → Piece) (g : A → List ℕ) → ((x : A) → spelled (f x) ≡ g x) → (o : Option A) → spelled (option_map_or f o empty) ≡ option_map_or g o []
spelled_or f g same None = refl
spelled_or f g same (Some x) = same x

use_spelled : (naming : Naming) (label : Label) → spelled (use_piece naming label) ≡ use_text naming label
use_spelled naming label = spelled_or value_piece value_text value_spelled (value_at naming.values label.0)

used_type_spelled : (naming : Naming) (label : Label) → spelled (used_type_piece naming label) ≡ used_type naming label
used_type_spelled naming label = spelled_or type_piece type_text (λ t. refl) (type_at naming.values label.0)

uses_spelled : (naming : Naming) (labels : List Label) → spelled (uses_piece naming labels) ≡ uses_text naming labels
uses_spelled naming [] = refl
uses_spelled naming (label ∷ labels) = joined_spelled (use_piece naming) (use_text naming) (use_spelled naming) (label ∷ labels)

used_types_spelled : (naming : Naming) (labels : List Label) → spelled (used_types_piece naming labels) ≡ used_types naming labels
used_types_spelled naming [] = refl
used_types_spelled naming (label ∷ labels) = joined_spelled (used_type_piece naming) (used_type naming) (used_type_spelled naming) (label ∷ labels)

ends_spelled : (naming : Naming) (labels : List Label) → spelled (ends_piece naming labels) ≡ ends_text naming labels
ends_spelled naming [] = refl
ends_spelled naming (label ∷ labels) =
    rw (uses_spelled naming (label ∷ labels), used_types_spelled naming (label ∷ labels)) (simp append_assoc refl)

pack_spelled : (pack : Pack) → spelled (pack_piece pack) ≡ pack_text pack
pack_spelled pack = rw (spelled_if (nat_lt 1 pack.count) (beside colon (leaf Number (decimal pack.count))) (codes ":" ++ decimal pack.count) refl) refl

packs_spelled : (packs : List Pack) → spelled (packs_piece packs) ≡ packs_text packs
packs_spelled [] = refl
packs_spelled (pack ∷ packs) = ap (λ text. text ++ codes " = ") (joined_spelled pack_piece pack_text pack_spelled (pack ∷ packs))

flags_spelled : (flags : Flags) → spelled (flags_piece flags) ≡ flags_text flags
flags_spelled flags = go flags.nsw flags.nuw
  where
    go : (nsw nuw : Bool) → spelled (flags_piece (record { nsw = nsw; nuw = nuw })) ≡ flags_text (record { nsw = nsw; nuw = nuw })
    go true true = refl
    go true false = refl
    go false true = refl
    go false false = refl

signed_spelled : (z : ℤ) → spelled (signed_piece z) ≡ signed_decimal z
signed_spelled (pos n) = refl
signed_spelled (negsuc n) = refl

number_spelled : (bits v : ℕ) (ty : IrType) → spelled (number_piece bits v ty) ≡ signed_decimal (signed_reading bits v) ++ codes " : " ++ type_text ty
number_spelled bits v ty = rw (signed_spelled (signed_reading bits v)) (simp append_assoc refl)

truth_spelled : (v : ℕ) → spelled (truth_piece v) ≡ (if v == 0 then codes "false" else codes "true")
truth_spelled v = go (v == 0)
  where
    go : (c : Bool) → spelled (if c then word (codes "false") else word (codes "true")) ≡ (if c then codes "false" else codes "true")
    go true = refl
    go false = refl

constant_spelled : (v : ℕ) (tys : List IrType) → spelled (constant_piece v tys) ≡ constant_text v tys
constant_spelled v [] = refl
constant_spelled v (Index ∷ []) = number_spelled 64 v Index ∙ append_assoc (signed_decimal (signed_reading 64 v)) (codes " : ") (codes "index")
constant_spelled v (Int width ∷ []) = go (width == 1)
  where
    go : (c : Bool) → spelled (if c then truth_piece v else number_piece width v (Int width))
        ≡ (if c then (if v == 0 then codes "false" else codes "true") else (if c then (if v == 0 then codes "false" else codes "true") else signed_decimal (signed_reading width v)) ++ codes " : " ++ type_text (Int width))
    go true = truth_spelled v
    go false = number_spelled width v (Int width)
constant_spelled v (Int width ∷ ty ∷ tys) = refl
constant_spelled v (Index ∷ ty ∷ tys) = refl

one_spelled : (tys : List IrType) → OneType tys → spelled (one_type tys) ≡ types_text tys
one_spelled [] h = absurd h
one_spelled (ty ∷ []) h = sym (append-nil (type_text ty))
one_spelled (ty ∷ t ∷ tys) h = absurd h

counter_spelled : (ty : IrType) → spelled (counter_piece ty) ≡ counter_type ty
counter_spelled Index = refl
counter_spelled (Int width) = refl

init_spelled : (naming : Naming) (pair : Arg × Label) → spelled (init_piece naming pair) ≡ init_text naming pair
init_spelled naming (arg, label) = rw (use_spelled naming label) (simp append_assoc refl)

call_of : (u t r : Piece) (name ut kt rt : List ℕ) → spelled u ≡ ut → spelled t ≡ kt → spelled r ≡ rt
    → spelled (word (codes "func.call") <> blank <> leaf Symbol (codes "@" ++ name) <> bracketed_piece u <> blank <> colon <> blank <> bracketed_piece t <> blank <> mark (codes "->") <> blank <> r)
    ≡ codes "func.call @" ++ name ++ bracketed ut ++ codes " : " ++ bracketed kt ++ codes " -> " ++ rt
call_of u t r name ut kt rt hu ht hr =
    same_onto (word (codes "func.call") <> blank <> leaf Symbol (codes "@" ++ name) <> bracketed_piece u <> blank <> colon <> blank <> bracketed_piece t <> blank <> mark (codes "->") <> blank <> r)
    (gap (codes "func.call @") |> gap name |> in_brackets u |> gap (codes " : ") |> in_brackets t |> gap (codes " -> ") |> r) refl
    ∙ rw (hu, ht, hr) refl

simple_spelled : (naming : Naming) (results : List IrType) (kind : Kind) → IsSimple naming results kind → spelled (simple_piece naming results kind) ≡ simple_text naming results kind
simple_spelled naming results (Const v) is = ap (λ text. codes "arith.constant " ++ text) (constant_spelled v results)
simple_spelled naming results (Bin op flags a b) is =
    rw (use_spelled naming a, use_spelled naming b, flags_spelled flags, one_spelled results is.0) (simp append_assoc refl)
simple_spelled naming results (Cast op flags a) is =
    rw (use_spelled naming a, flags_spelled flags, used_type_spelled naming a, one_spelled results is.0) (simp append_assoc refl)
simple_spelled naming results (Cmp pred a b) is =
    rw (use_spelled naming a, use_spelled naming b, used_type_spelled naming a) (simp append_assoc refl)
simple_spelled naming results (Select c a b) is =
    rw (use_spelled naming c, use_spelled naming a, use_spelled naming b, one_spelled results is.0) (simp append_assoc refl)
simple_spelled naming results (Call func uses) is =
    call_of (uses_piece naming uses) (used_types_piece naming uses) (results_piece results) (slice_index_or naming.funcs func []) _ _ _ (uses_spelled naming uses) (used_types_spelled naming uses) (results_spelled results)
simple_spelled naming results (If' c first other) is = refl
simple_spelled naming results (For parts) is = refl
simple_spelled naming results (While parts) is = refl

inits_spelled : (naming : Naming) (args : List Arg) (inits : List Label) → spelled (inits_piece naming args inits) ≡ inits_text naming args inits
inits_spelled naming args inits =
    ap (λ text. codes "(" ++ (text ++ codes ")")) (joined_spelled (init_piece naming) (init_text naming) (init_spelled naming) (zip args inits)) ∙ sym (append_assoc (codes "(") (joined (map (init_text naming) (zip args inits))) (codes ")"))

results_list_spelled : (tys : List IrType) → spelled (results_list_piece tys) ≡ bracketed (types_text tys)
results_list_spelled tys = ap (λ text. codes "(" ++ text ++ codes ")") (types_spelled tys)

carried_of : (i r : Piece) (it rt : List ℕ) → spelled i ≡ it → spelled r ≡ rt
    → spelled (blank <> word (codes "iter_args") <> i <> blank <> mark (codes "->") <> blank <> r) ≡ codes " iter_args" ++ it ++ codes " -> " ++ rt
carried_of i r it rt e f = rw (e, f) (simp append_assoc refl)

carried_spelled : (naming : Naming) (args : List Arg) (inits : List Label) (results : List IrType) → spelled (carried_piece naming args inits results) ≡ carried_text naming args inits results
carried_spelled naming [] inits results = refl
carried_spelled naming (arg ∷ args) inits results =
    carried_of (inits_piece naming (arg ∷ args) inits) (results_list_piece results) _ _ (inits_spelled naming (arg ∷ args) inits) (results_list_spelled results)

while_inits_spelled : (naming : Naming) (args : List Arg) (inits : List Label) → spelled (while_inits_piece naming args inits) ≡ while_inits naming args inits
while_inits_spelled naming [] inits = refl
while_inits_spelled naming (arg ∷ args) inits = ap (λ text. text ++ codes " ") (inits_spelled naming (arg ∷ args) inits)

block_of : (depth : ℕ) (p : Piece) (pt : List ℕ) → spelled p ≡ pt → spelled (line_piece depth (leaf Caret (codes "^bb0") <> bracketed_piece p <> colon)) ≡ line depth (codes "^bb0" ++ bracketed pt ++ codes ":")
block_of depth p pt e =
    same_onto (line_piece depth (leaf Caret (codes "^bb0") <> bracketed_piece p <> colon)) (in_line depth (gap (codes "^bb0") |> in_brackets p |> gap (codes ":"))) refl ∙ rw e refl

block_spelled : (depth : ℕ) (args : List Arg) → spelled (block_piece depth args) ≡ block_text depth args
block_spelled depth [] = refl
block_spelled depth (arg ∷ args) = block_of depth (params_piece (arg ∷ args)) _ (params_spelled (arg ∷ args))

-- a line of a word and what stands behind it
line_of : (depth : ℕ) (w e : Piece) (et : List ℕ) → spelled e ≡ et → spelled (line_piece depth (w <> e)) ≡ line depth (spelled w ++ et)
line_of depth w e et h = rw h (simp append_assoc refl)

yield_spelled : (naming : Naming) (depth : ℕ) (labels : List Label) → spelled (yield_piece naming depth labels) ≡ yield_text naming depth labels
yield_spelled naming depth [] = refl
yield_spelled naming depth (label ∷ labels) = line_of depth (word (codes "scf.yield")) (ends_piece naming (label ∷ labels)) _ (ends_spelled naming (label ∷ labels))

whole_spelled : (depth : ℕ) (names kind : Piece) → spelled (whole_piece depth names kind) ≡ line depth (spelled names ++ spelled kind)
whole_spelled depth names kind = simp append_assoc refl

if_of : (depth : ℕ) (names u a r : Piece) (ut at rt : List ℕ) → spelled u ≡ ut → spelled a ≡ at → spelled r ≡ rt
    → spelled (whole_piece depth names (word (codes "scf.if") <> blank <> u <> a <> blank <> branch forms.Region (braced depth r) <> empty))
    ≡ line depth (spelled names ++ codes "scf.if " ++ ut ++ at ++ codes " {") ++ rt ++ [] ++ line depth (codes "}")
if_of depth names u a r ut at rt hu ha hr =
    same_onto (whole_piece depth names (word (codes "scf.if") <> blank <> u <> a <> blank <> branch forms.Region (braced depth r) <> empty))
    (in_line depth (names |> gap (codes "scf.if ") |> u |> a |> gap (codes " {")) |> r |> empty |> in_line depth (gap (codes "}"))) refl
    ∙ rw (hu, ha, hr) refl

if_else_of : (depth : ℕ) (names u a r o : Piece) (ut at rt ot : List ℕ) → spelled u ≡ ut → spelled a ≡ at → spelled r ≡ rt → spelled o ≡ ot
    → spelled (whole_piece depth names (word (codes "scf.if") <> blank <> u <> a <> blank <> branch forms.Region (braced depth r) <> blank <> word (codes "else") <> blank <> branch forms.Region (braced depth o)))
    ≡ line depth (spelled names ++ codes "scf.if " ++ ut ++ at ++ codes " {") ++ rt ++ (line depth (codes "} else {") ++ ot) ++ line depth (codes "}")
if_else_of depth names u a r o ut at rt ot hu ha hr ho =
    same_onto (whole_piece depth names (word (codes "scf.if") <> blank <> u <> a <> blank <> branch forms.Region (braced depth r) <> blank <> word (codes "else") <> blank <> branch forms.Region (braced depth o)))
    (in_line depth (names |> gap (codes "scf.if ") |> u |> a |> gap (codes " {")) |> r |> (in_line depth (gap (codes "} else {")) |> o) |> in_line depth (gap (codes "}"))) refl
    ∙ rw (hu, ha, hr, ho) refl

for_of : (depth : ℕ) (names : Piece) (iv : List ℕ) (l u s c t r : Piece) (lt ut st ct kt rt : List ℕ)
    → spelled l ≡ lt → spelled u ≡ ut → spelled s ≡ st → spelled c ≡ ct → spelled t ≡ kt → spelled r ≡ rt
    → spelled (whole_piece depth names (word (codes "scf.for") <> blank <> name_piece iv <> blank <> mark (codes "=") <> blank <> l <> blank <> word (codes "to") <> blank <> u <> blank <> word (codes "step") <> blank <> s <> c <> t <> blank <> branch forms.Region (braced depth r)))
    ≡ line depth (spelled names ++ codes "scf.for %" ++ iv ++ codes " = " ++ lt ++ codes " to " ++ ut ++ codes " step " ++ st ++ ct ++ kt ++ codes " {") ++ rt ++ line depth (codes "}")
for_of depth names iv l u s c t r lt ut st ct kt rt hl hu hs hc ht hr =
    same_onto (whole_piece depth names (word (codes "scf.for") <> blank <> name_piece iv <> blank <> mark (codes "=") <> blank <> l <> blank <> word (codes "to") <> blank <> u <> blank <> word (codes "step") <> blank <> s <> c <> t <> blank <> branch forms.Region (braced depth r)))
    (in_line depth (names |> gap (codes "scf.for %") |> gap iv |> gap (codes " = ") |> l |> gap (codes " to ") |> u |> gap (codes " step ") |> s |> c |> t |> gap (codes " {")) |> r |> in_line depth (gap (codes "}"))) refl
    ∙ rw (hl, hu, hs, hc, ht, hr) refl

while_of : (depth : ℕ) (names i t r b k a : Piece) (it kt rt bt pt at : List ℕ)
    → spelled i ≡ it → spelled t ≡ kt → spelled r ≡ rt → spelled b ≡ bt → spelled k ≡ pt → spelled a ≡ at
    → spelled (whole_piece depth names (word (codes "scf.while") <> blank <> i <> colon <> blank <> bracketed_piece t <> blank <> mark (codes "->") <> blank <> r <> blank <> braced depth b <> blank <> word (codes "do") <> blank <> braced depth (k <> a)))
    ≡ line depth (spelled names ++ codes "scf.while " ++ it ++ codes ": " ++ bracketed kt ++ codes " -> " ++ rt ++ codes " {") ++ bt ++ line depth (codes "} do {") ++ pt ++ at ++ line depth (codes "}")
while_of depth names i t r b k a it kt rt bt pt at hi ht hr hb hk ha =
    same_onto (whole_piece depth names (word (codes "scf.while") <> blank <> i <> colon <> blank <> bracketed_piece t <> blank <> mark (codes "->") <> blank <> r <> blank <> braced depth b <> blank <> word (codes "do") <> blank <> braced depth (k <> a)))
    (in_line depth (names |> gap (codes "scf.while ") |> i |> gap (codes ": ") |> in_brackets t |> gap (codes " -> ") |> r |> gap (codes " {")) |> b |> in_line depth (gap (codes "} do {")) |> k |> a |> in_line depth (gap (codes "}"))) refl
    ∙ rw (hi, ht, hr, hb, hk, ha) refl

before_of : (depth : ℕ) (row u e : Piece) (rowt ut et : List ℕ) → spelled row ≡ rowt → spelled u ≡ ut → spelled e ≡ et
    → spelled (row <> line_piece depth (word (codes "scf.condition") <> bracketed_piece u <> e)) ≡ rowt ++ line depth (codes "scf.condition" ++ bracketed ut ++ et)
before_of depth row u e rowt ut et hrow hu he =
    same_onto (row <> line_piece depth (word (codes "scf.condition") <> bracketed_piece u <> e)) (row |> in_line depth (gap (codes "scf.condition") |> in_brackets u |> e)) refl ∙ rw (hrow, hu, he) refl

mutual
  unfolding kind_piece op_text

  op_spelled : (naming : Naming) (depth n : ℕ) (names : Piece) (results : List IrType) (kind : Kind) → SoundKind naming n results kind → spelled (whole_piece depth names (kind_piece naming depth results kind)) ≡ op_text naming depth (spelled names) results kind
  op_spelled naming depth n names results (Const v) is = whole_spelled depth names (simple_piece naming results (Const v)) ∙ ap (λ text. line depth (spelled names ++ text)) (simple_spelled naming results (Const v) is)
  op_spelled naming depth n names results (Bin op flags a b) is = whole_spelled depth names (simple_piece naming results (Bin op flags a b)) ∙ ap (λ text. line depth (spelled names ++ text)) (simple_spelled naming results (Bin op flags a b) is)
  op_spelled naming depth n names results (Cast op flags a) is = whole_spelled depth names (simple_piece naming results (Cast op flags a)) ∙ ap (λ text. line depth (spelled names ++ text)) (simple_spelled naming results (Cast op flags a) is)
  op_spelled naming depth n names results (Cmp pred a b) is = whole_spelled depth names (simple_piece naming results (Cmp pred a b)) ∙ ap (λ text. line depth (spelled names ++ text)) (simple_spelled naming results (Cmp pred a b) is)
  op_spelled naming depth n names results (Select c a b) is = whole_spelled depth names (simple_piece naming results (Select c a b)) ∙ ap (λ text. line depth (spelled names ++ text)) (simple_spelled naming results (Select c a b) is)
  op_spelled naming depth n names results (Call func uses) is = whole_spelled depth names (simple_piece naming results (Call func uses)) ∙ ap (λ text. line depth (spelled names ++ text)) (simple_spelled naming results (Call func uses) is)
  op_spelled naming depth n names results (If' c first None') is =
      if_of depth names (use_piece naming c) (arrow_list_piece results) (region_piece naming (depth + 1) first) _ _ _
      (use_spelled naming c) (arrow_list_spelled results) (region_spelled naming (depth + 1) n first is.2)
  op_spelled naming depth n names results (If' c first (Some' other)) is =
      if_else_of depth names (use_piece naming c) (arrow_list_piece results) (region_piece naming (depth + 1) first) (region_piece naming (depth + 1) other) _ _ _ _
      (use_spelled naming c) (arrow_list_spelled results) (region_spelled naming (depth + 1) n first is.2) (region_spelled naming (depth + 1) n other is.3)
  op_spelled naming depth n names results (For parts) is = for_spelled naming depth n names results parts is
  op_spelled naming depth n names results (While parts) is = while_spelled naming depth n names results parts is

  row_spelled : {m : _} (naming : Naming) (depth n : ℕ) (row : Row_of-Op m) → SoundRow naming n row → spelled (row_piece naming depth row) ≡ row_text naming depth row
  row_spelled naming depth n end_of-Op is = refl
  row_spelled naming depth n (more_of-Op packs results kind rest) is =
      app (op_spelled naming depth n (packs_piece packs) results kind is.1 ∙ ap (λ names. op_text naming depth names results kind) (packs_spelled packs)) (row_spelled naming depth n rest is.2)

  region_spelled : (naming : Naming) (depth n : ℕ) (region : Region) → SoundRegion naming n region → spelled (region_piece naming depth region) ≡ region_text naming depth region
  region_spelled naming depth n (Region' shape row ends) is = app (row_spelled naming depth (n + 1) row is.1) (yield_spelled naming depth ends)

  for_spelled : (naming : Naming) (depth n : ℕ) (names : Piece) (results : List IrType) (parts : ForParts) → SoundFor naming n results parts → spelled (whole_piece depth names (for_piece naming depth results parts)) ≡ for_text naming depth (spelled names) results parts
  for_spelled naming depth n names results (ForParts' lower upper step iv args inits body) is =
      for_of depth names iv.name (use_piece naming lower) (use_piece naming upper) (use_piece naming step) (carried_piece naming args inits results) (counter_piece iv.ty) (region_piece naming (depth + 1) body) _ _ _ _ _ _
      (use_spelled naming lower) (use_spelled naming upper) (use_spelled naming step) (carried_spelled naming args inits results) (counter_spelled iv.ty) (region_spelled naming (depth + 1) n body is.8)

  while_spelled : (naming : Naming) (depth n : ℕ) (names : Piece) (results : List IrType) (parts : WhileParts) → SoundWhile naming n results parts → spelled (whole_piece depth names (while_piece naming depth results parts)) ≡ while_text naming depth (spelled names) results parts
  while_spelled naming depth n names results (WhileParts' args inits before cond after_args after) is =
      while_of depth names (while_inits_piece naming args inits) (types_piece (map (λ arg. arg.ty) args)) (results_list_piece results) (before_piece naming (depth + 1) cond before) (block_piece depth after_args) (after_piece naming (depth + 1) after) _ _ _ _ _ _
      (while_inits_spelled naming args inits) (types_spelled (map (λ arg. arg.ty) args)) (results_list_spelled results) (before_spelled naming (depth + 1) n cond before is.4) (block_spelled depth after_args) (after_spelled naming (depth + 1) n after is.7)

  before_spelled : (naming : Naming) (depth n : ℕ) (cond : Label) (region : Region) → SoundRegion naming n region → spelled (before_piece naming depth cond region) ≡ before_text naming depth cond region
  before_spelled naming depth n cond (Region' shape row ends) is =
      before_of depth (row_piece naming depth row) (use_piece naming cond) (ends_piece naming ends) _ _ _ (row_spelled naming depth (n + 1) row is.1) (use_spelled naming cond) (ends_spelled naming ends)

  after_spelled : (naming : Naming) (depth n : ℕ) (region : Region) → SoundRegion naming n region → spelled (after_piece naming depth region) ≡ after_text naming depth region
  after_spelled naming depth n (Region' shape row ends) is =
      app (row_spelled naming depth (n + 1) row is.1) (line_of depth (word (codes "scf.yield")) (ends_piece naming ends) _ (ends_spelled naming ends))

ops_spelled : (naming : Naming) (n : ℕ) (ops : List Op) → SoundOps naming n ops → spelled (ops_piece naming ops) ≡ ops_text naming ops
ops_spelled naming n [] is = refl
ops_spelled naming n (op ∷ ops) is = app (op_spelled naming 1 n (packs_piece op.packs) op.results op.kind is.1 ∙ ap (λ names. op_text naming 1 names op.results op.kind) (packs_spelled op.packs)) (ops_spelled naming n ops is.2)

items_spelled : (naming : Naming) (items : List Item) → SoundItems naming items → spelled (items_piece naming items) ≡ items_text naming items
items_spelled naming [] is = refl
items_spelled naming (item ∷ items) is = app (ops_spelled naming 1 item.ops is.0) (items_spelled naming items is.1)

head_spelled : (c : Bool) → spelled (if c then beside (word (codes "private")) blank else empty) ≡ (if c then codes "private " else [])
head_spelled true = refl
head_spelled false = refl

declared_of : (p t a : Piece) (name pt kt at : List ℕ) → spelled p ≡ pt → spelled t ≡ kt → spelled a ≡ at
    → spelled (branch forms.Func (word (codes "func.func") <> blank <> p <> leaf Symbol (codes "@" ++ name) <> bracketed_piece t <> a) <> feed)
    ≡ line 0 (codes "func.func " ++ pt ++ codes "@" ++ name ++ bracketed kt ++ at)
declared_of p t a name pt kt at hp ht ha =
    same_onto (branch forms.Func (word (codes "func.func") <> blank <> p <> leaf Symbol (codes "@" ++ name) <> bracketed_piece t <> a) <> feed)
    (in_line 0 (gap (codes "func.func ") |> p |> gap (codes "@") |> gap name |> in_brackets t |> a)) refl
    ∙ rw (hp, ht, ha) refl

defined_of : (p t a i e : Piece) (name pt kt at it et : List ℕ) → spelled p ≡ pt → spelled t ≡ kt → spelled a ≡ at → spelled i ≡ it → spelled e ≡ et
    → spelled (branch forms.Func
    (word (codes "func.func") <> blank <> p <> leaf Symbol (codes "@" ++ name) <> bracketed_piece t <> a <> blank
    <> branch forms.Body (braced 0 (i <> line_piece 1 (word (codes "return") <> e)))) <> feed)
    ≡ line 0 (codes "func.func " ++ pt ++ codes "@" ++ name ++ bracketed kt ++ at ++ codes " {") ++ it ++ line 1 (codes "return" ++ et) ++ line 0 (codes "}")
defined_of p t a i e name pt kt at it et hp ht ha hi he =
    same_onto (branch forms.Func
    (word (codes "func.func") <> blank <> p <> leaf Symbol (codes "@" ++ name) <> bracketed_piece t <> a <> blank
    <> branch forms.Body (braced 0 (i <> line_piece 1 (word (codes "return") <> e)))) <> feed)
    (in_line 0 (gap (codes "func.func ") |> p |> gap (codes "@") |> gap name |> in_brackets t |> a |> gap (codes " {")) |> i |> in_line 1 (gap (codes "return") |> e) |> in_line 0 (gap (codes "}"))) refl
    ∙ rw (hp, ht, ha, hi, he) refl

body_spelled : (naming : Naming) (f : Func) (body : Option Body) → SoundBody naming f body → spelled (body_piece naming f body) ≡ body_text naming f body
body_spelled naming f None is =
    declared_of (private_piece f) (types_piece (map (λ arg. arg.ty) f.args)) (arrow_piece f.results) f.name _ _ _
    (head_spelled f.private) (types_spelled (map (λ arg. arg.ty) f.args)) (arrow_spelled f.results)
body_spelled naming f (Some body) is =
    defined_of (private_piece f) (params_piece f.args) (arrow_piece f.results) (items_piece naming body.items) (ends_piece naming body.ret) f.name _ _ _ _ _
    (head_spelled f.private) (params_spelled f.args) (arrow_spelled f.results) (items_spelled naming body.items is.1) (ends_spelled naming body.ret)

funcs_spelled : (names : List (List ℕ)) (fs : List Func) → SoundFuncs names fs → spelled (funcs_piece names fs) ≡ funcs_text names fs
funcs_spelled names [] is = refl
funcs_spelled names (f ∷ fs) is = app (body_spelled (naming_of names f) f f.body is.0.2) (funcs_spelled names fs is.1)

-- the law: the pieces of a module spell its canonical text
pub module_spelled : (fs : List Func) → SoundModule fs → spelled (module_piece fs) ≡ module_text fs
module_spelled fs is = funcs_spelled (map (λ f. f.name) fs) fs is
