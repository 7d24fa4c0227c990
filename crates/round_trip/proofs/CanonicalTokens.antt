-- The pieces of the canonical text are parted: each token ends where it ends.
use Rattle.std.proofs.Common.{suc, zero, ◌≡◌, ℕ, ◌+◌, ◌*◌, Bool, true, false, List, [], ◌∷◌, ◌++◌, refl, ap, ◌∙◌, subst, codes, map, replicate, Option, Some, None, if◌then◌else◌, slice_index_or}
use Rattle.std.specs.List.{zip, list_all}
use Rattle.std.proofs.lemmas.Bool.{and_from}
use Rattle.arith_word.specs.declared.op.BinOp.{BinOp}
use Rattle.arith_word.specs.declared.op.BinOp.TheVariants.{Addi, Subi, Muli, Andi, Ori, Xori, Minsi, Maxsi, Minui, Maxui, Shli, Shrui, Shrsi, Divui, Remui, Divsi, Remsi}
use Rattle.arith_word.specs.declared.op.CastOp.{CastOp}
use Rattle.arith_word.specs.declared.op.CastOp.TheVariants.{Extsi, IndexCast, Extui, IndexCastui, Trunci}
use Rattle.arith_word.specs.declared.op.Pred.{Pred}
use Rattle.arith_word.specs.declared.op.Pred.TheVariants.{Eq, Ne, Slt, Sle, Sgt, Sge, Ult, Ule, Ugt, Uge}
use Rattle.arith_word.specs.declared.label.Label.{Label}
use Rattle.mlir_ir.specs.declared.token.TokenKind.TheVariants.{Word, Symbol, Caret}
use Rattle.mlir_ir.specs.declared.syntax.Form.TheVariants as forms
use Rattle.mlir_ir.specs.declared.types.Arg.{Arg}
use Rattle.mlir_ir.specs.declared.types.Body.{Body}
use Rattle.mlir_ir.specs.declared.types.Func.{Func}
use Rattle.mlir_ir.specs.declared.types.IrType.{IrType}
use Rattle.mlir_ir.specs.declared.types.IrType.TheVariants.{Int, Index}
use Rattle.mlir_ir.specs.declared.types.Item.{Item}
use Rattle.mlir_ir.specs.declared.types.Op.{Op}
use Rattle.mlir_ir.specs.declared.types.Region.{Region, Region', Row_of-Op, end_of-Op, more_of-Op}
use Rattle.mlir_ir.specs.declared.types.ForParts.{ForParts, ForParts'}
use Rattle.mlir_ir.specs.declared.types.WhileParts.{WhileParts, WhileParts'}
use Rattle.mlir_ir.specs.declared.types.Kind.{Kind, Const, Bin, Cast, Cmp, Select, Call, If', For, While, Held-Kind-If-2, None', Some'}
use Rattle.mlir_ir.specs.Tokens.{is_token, is_blank, AreTokens}
use Rattle.mlir_ir.specs.Words.{bin_text, cast_text, pred_text}
use Rattle.mlir_ir.specs.Canonical.{Naming, naming_of, module_text}
use Rattle.round_trip.proofs.PieceTokens.{all_lex}
use Rattle.round_trip.proofs.CanonicalTexts.{module_spelled}
use Rattle.round_trip.specs.Pieces.{Piece, empty, leaf, branch, ◌<>◌, ends, placed}
use Rattle.round_trip.specs.CanonicalPieces.{word, mark, blank, feed, line_piece, name_piece, colon, braced, bracketed_piece, joined_piece, types_piece, results_piece, results_list_piece, arrow_piece, arrow_list_piece, params_piece, use_piece, used_type_piece, uses_piece, used_types_piece, ends_piece, packs_piece, flags_piece, init_piece, inits_piece, one_type, simple_piece, counter_piece, carried_piece, while_inits_piece, block_piece, yield_piece, whole_piece, kind_piece, row_piece, region_piece, else_piece, for_piece, while_piece, before_piece, after_piece, ops_piece, items_piece, private_piece, symbol_piece, body_piece, func_piece, funcs_piece, module_piece}
use Rattle.round_trip.specs.Sound.{Each, IsType, IsName, IsArg, Finds, IsSimple, SoundKind, SoundRow, SoundRegion, SoundElse, SoundFor, SoundWhile, SoundOps, SoundItems, SoundBody, SoundFuncs, SoundModule}
use Rattle.round_trip.proofs.PartedPieces.{first_stops, leads, apart, apart_parted, type_apart, name_apart, symbol_apart, joined_apart, types_apart, results_list_apart, results_apart, arrow_apart, arrow_list_apart, arrow_list_leads, params_apart, use_apart, used_type_apart, uses_apart, used_types_apart, ends_apart, ends_leads, Free, packs_apart, flags_apart, flags_leads, constant_apart, one_apart}

-- words of operations

bin_word : (op : BinOp) → is_token Word (bin_text op) ≡ true
bin_word Addi = refl
bin_word Subi = refl
bin_word Muli = refl
bin_word Andi = refl
bin_word Ori = refl
bin_word Xori = refl
bin_word Minsi = refl
bin_word Maxsi = refl
bin_word Minui = refl
bin_word Maxui = refl
bin_word Shli = refl
bin_word Shrui = refl
bin_word Shrsi = refl
bin_word Divui = refl
bin_word Remui = refl
bin_word Divsi = refl
bin_word Remsi = refl

cast_word : (op : CastOp) → is_token Word (cast_text op) ≡ true
cast_word Extsi = refl
cast_word IndexCast = refl
cast_word Extui = refl
cast_word IndexCastui = refl
cast_word Trunci = refl

pred_word : (pred : Pred) → is_token Word (pred_text pred) ≡ true
pred_word Eq = refl
pred_word Ne = refl
pred_word Slt = refl
pred_word Sle = refl
pred_word Sgt = refl
pred_word Sge = refl
pred_word Ult = refl
pred_word Ule = refl
pred_word Ugt = refl
pred_word Uge = refl

-- operations without regions, part by part

bin_of : (w : List ℕ) (a b f t : Piece) → is_token Word w ≡ true → apart a true ≡ true → apart b true ≡ true → leads f true ≡ true → apart f true ≡ true → apart t true ≡ true
    → apart (word w <> blank <> a <> mark (codes ",") <> blank <> b <> f <> blank <> colon <> blank <> t) true ≡ true
bin_of w a b f t hw ha hb hl hf ht = rw (hw, hl, ha, hb, hf, ht) refl

cast_of : (w : List ℕ) (a f s t : Piece) → is_token Word w ≡ true → apart a true ≡ true → leads f true ≡ true → apart f true ≡ true → apart s true ≡ true → apart t true ≡ true
    → apart (word w <> blank <> a <> f <> blank <> colon <> blank <> s <> blank <> word (codes "to") <> blank <> t) true ≡ true
cast_of w a f s t hw ha hl hf hs ht = rw (hw, hl, ha, hf, hs, ht) refl

compare_of : (w : List ℕ) (a b t : Piece) → is_token Word w ≡ true → apart a true ≡ true → apart b true ≡ true → apart t true ≡ true
    → apart (word (codes "arith.cmpi") <> blank <> word w <> mark (codes ",") <> blank <> a <> mark (codes ",") <> blank <> b <> blank <> colon <> blank <> t) true ≡ true
compare_of w a b t hw ha hb ht = rw (hw, ha, hb, ht) refl

select_of : (c a b t : Piece) → apart c true ≡ true → apart a true ≡ true → apart b true ≡ true → apart t true ≡ true
    → apart (word (codes "arith.select") <> blank <> c <> mark (codes ",") <> blank <> a <> mark (codes ",") <> blank <> b <> blank <> colon <> blank <> t) true ≡ true
select_of c a b t hc ha hb ht = rw (hc, ha, hb, ht) refl

call_of : (s u t r : Piece) → apart s true ≡ true → apart u true ≡ true → apart t true ≡ true → apart r true ≡ true
    → apart (word (codes "func.call") <> blank <> s <> bracketed_piece u <> blank <> colon <> blank <> bracketed_piece t <> blank <> mark (codes "->") <> blank <> r) true ≡ true
call_of s u t r hs hu ht hr = rw (hs, hu, ht, hr) refl

simple_apart : (naming : Naming) (results : List IrType) (kind : Kind) → IsSimple naming results kind → apart (simple_piece naming results kind) true ≡ true
simple_apart naming results (Const v) is = constant_apart v results is.0 is.1
simple_apart naming results (Bin op flags a b) is =
    bin_of (bin_text op) (use_piece naming a) (use_piece naming b) (flags_piece flags) (one_type results) (bin_word op)
    (use_apart naming a is.1) (use_apart naming b is.2) (flags_leads flags) (flags_apart flags) (one_apart results is.0)
simple_apart naming results (Cast op flags a) is =
    cast_of (cast_text op) (use_piece naming a) (flags_piece flags) (used_type_piece naming a) (one_type results) (cast_word op)
    (use_apart naming a is.1) (flags_leads flags) (flags_apart flags) (used_type_apart naming a is.1) (one_apart results is.0)
simple_apart naming results (Cmp pred a b) is =
    compare_of (pred_text pred) (use_piece naming a) (use_piece naming b) (used_type_piece naming a) (pred_word pred)
    (use_apart naming a is.0) (use_apart naming b is.1) (used_type_apart naming a is.0)
simple_apart naming results (Select c a b) is =
    select_of (use_piece naming c) (use_piece naming a) (use_piece naming b) (one_type results)
    (use_apart naming c is.1) (use_apart naming a is.2) (use_apart naming b is.3) (one_apart results is.0)
simple_apart naming results (Call func uses) is =
    call_of (leaf Symbol (codes "@" ++ slice_index_or naming.funcs func [])) (uses_piece naming uses) (used_types_piece naming uses) (results_piece results)
    (symbol_apart (slice_index_or naming.funcs func []) is.2) (uses_apart naming uses is.1) (used_types_apart naming uses is.1) (results_apart results is.0)
simple_apart naming results (If' c first other) is = absurd is
simple_apart naming results (For parts) is = absurd is
simple_apart naming results (While parts) is = absurd is

-- lines and regions

blanks : (n : ℕ) → list_all is_blank (replicate n 32) ≡ true
blanks zero = refl
blanks (suc n) = blanks n

line_apart : (depth : ℕ) (p : Piece) → apart p true ≡ true → Free (line_piece depth p)
line_apart depth p h = λ after. rw (blanks (2 * depth), h) refl

whole_apart : (depth : ℕ) (names kind : Piece) → Free names → apart kind true ≡ true → Free (whole_piece depth names kind)
whole_apart depth names kind hn hk = λ after. rw (blanks (2 * depth), hn (leads kind true), hk) refl

braced_apart : (depth : ℕ) (inner : Piece) → Free inner → Free (braced depth inner)
braced_apart depth inner h = λ after. rw (h (first_stops (replicate (2 * depth) 32) true), blanks (2 * depth)) refl

both_free : (x y : Piece) → Free x → Free y → Free (x <> y)
both_free x y hx hy = λ after. and_from (apart x (leads y after)) (apart y after) (hx (leads y after)) (hy after)

counter_apart : (ty : IrType) → IsType ty → apart (counter_piece ty) true ≡ true
counter_apart Index is = refl
counter_apart (Int width) is = type_apart (Int width) is

counter_leads : (ty : IrType) → leads (counter_piece ty) true ≡ true
counter_leads Index = refl
counter_leads (Int width) = refl

abbrev pub IsInit : Naming → (Arg × Label) → Type 0
IsInit naming (arg, label) = IsArg arg × Finds naming label

pub each_init : (naming : Naming) (args : List Arg) (inits : List Label) → Each IsArg args → Each (Finds naming) inits → Each (IsInit naming) (zip args inits)
each_init naming [] inits rs fs = tt
each_init naming (arg ∷ args) [] rs fs = tt
each_init naming (arg ∷ args) (label ∷ labels) rs fs = ((rs.0, fs.0), each_init naming args labels rs.1 fs.1)

init_apart : (naming : Naming) (pair : Arg × Label) → IsInit naming pair → apart (init_piece naming pair) true ≡ true
init_apart naming (arg, label) is = rw (name_apart arg.name is.0.0, use_apart naming label is.1) refl

inits_apart : (naming : Naming) (args : List Arg) (inits : List Label) → Each IsArg args → Each (Finds naming) inits → Free (inits_piece naming args inits)
inits_apart naming args inits rs fs =
    bracketed_apart (joined_piece (map (init_piece naming) (zip args inits)))
    (joined_apart (init_piece naming) (IsInit naming) (init_apart naming) (zip args inits) (each_init naming args inits rs fs))
  where
    bracketed_apart : (p : Piece) → apart p true ≡ true → Free (bracketed_piece (branch forms.Inits p))
    bracketed_apart p h = λ after. rw h refl

-- brackets begin what the loop carries
carried_apart : (naming : Naming) (args : List Arg) (inits : List Label) (results : List IrType) → Each IsArg args → Each (Finds naming) inits → Each IsType results
    → apart (carried_piece naming args inits results) true ≡ true
carried_apart naming [] inits results rs fs ts = refl
carried_apart naming (arg ∷ args) inits results rs fs ts =
    and_from _ _ (inits_apart naming (arg ∷ args) inits rs fs true) (results_list_apart results ts true)

carried_leads : (naming : Naming) (args : List Arg) (inits : List Label) (results : List IrType) → leads (carried_piece naming args inits results) true ≡ true
carried_leads naming [] inits results = refl
carried_leads naming (arg ∷ args) inits results = refl

while_inits_apart : (naming : Naming) (args : List Arg) (inits : List Label) → Each IsArg args → Each (Finds naming) inits → Free (while_inits_piece naming args inits)
while_inits_apart naming [] inits rs fs = λ after. refl
while_inits_apart naming (arg ∷ args) inits rs fs = both_free (inits_piece naming (arg ∷ args) inits) blank (inits_apart naming (arg ∷ args) inits rs fs) (λ after. refl)

block_of : (p : Piece) → apart p true ≡ true → apart (leaf Caret (codes "^bb0") <> bracketed_piece p <> colon) true ≡ true
block_of p h = rw h refl

block_apart : (depth : ℕ) (args : List Arg) → Each IsArg args → Free (block_piece depth args)
block_apart depth [] is = λ after. refl
block_apart depth (arg ∷ args) is =
    line_apart depth (leaf Caret (codes "^bb0") <> bracketed_piece (params_piece (arg ∷ args)) <> colon) (block_of (params_piece (arg ∷ args)) (params_apart (arg ∷ args) is))

-- a word and what stands behind it
word_of : (w : List ℕ) (e : Piece) → is_token Word w ≡ true → leads e true ≡ true → apart e true ≡ true → apart (word w <> e) true ≡ true
word_of w e hw hl he = rw (hw, hl, he) refl

yield_apart : (naming : Naming) (depth : ℕ) (labels : List Label) → Each (Finds naming) labels → Free (yield_piece naming depth labels)
yield_apart naming depth [] is = λ after. refl
yield_apart naming depth (label ∷ labels) is =
    line_apart depth (word (codes "scf.yield") <> ends_piece naming (label ∷ labels)) (ends_apart naming (label ∷ labels) is)

if_of : (u a r e : Piece) → apart u true ≡ true → leads a true ≡ true → apart a true ≡ true → Free r → apart e true ≡ true
    → apart (word (codes "scf.if") <> blank <> u <> a <> blank <> branch forms.Region r <> e) true ≡ true
if_of u a r e hu hl ha hr he = rw (hl, hu, ha, hr (leads e true), he) refl

else_of : (r : Piece) → Free r → apart (blank <> word (codes "else") <> blank <> branch forms.Region r) true ≡ true
else_of r hr = hr true

for_of : (iv : List ℕ) (l u s c t r : Piece) → IsName iv → apart l true ≡ true → apart u true ≡ true → apart s true ≡ true → leads c true ≡ true → apart c true ≡ true → leads t true ≡ true → apart t true ≡ true → Free r
    → apart (word (codes "scf.for") <> blank <> name_piece iv <> blank <> mark (codes "=") <> blank <> l <> blank <> word (codes "to") <> blank <> u <> blank <> word (codes "step") <> blank <> s <> c <> t <> blank <> branch forms.Region r) true ≡ true
for_of iv l u s c t r hiv hl hu hs lc hc lt ht hr =
    let step : apart s (leads c (leads t true)) ≡ true = ap (apart s) (ap (leads c) lt ∙ lc) ∙ hs in
    let carried : apart c (leads t true) ≡ true = ap (apart c) lt ∙ hc in
    rw (hiv, hl, hu, step, carried, ht, hr true) refl

while_of : (i t r b a : Piece) → Free i → apart t true ≡ true → Free r → Free b → Free a
    → apart (word (codes "scf.while") <> blank <> i <> colon <> blank <> bracketed_piece t <> blank <> mark (codes "->") <> blank <> r <> blank <> b <> blank <> word (codes "do") <> blank <> a) true ≡ true
while_of i t r b a hi ht hr hb ha = rw (hi true, ht, hr true, hb true, ha true) refl

condition_of : (u e : Piece) → apart u true ≡ true → apart e true ≡ true → apart (word (codes "scf.condition") <> bracketed_piece u <> e) true ≡ true
condition_of u e hu he = rw (hu, he) refl

pub arg_types : (args : List Arg) → Each IsArg args → Each IsType (map (λ arg. arg.ty) args)
arg_types [] is = tt
arg_types (arg ∷ args) is = (is.0.1, arg_types args is.1)

mutual
  unfolding kind_piece

  op_apart : (naming : Naming) (depth n : ℕ) (names : Piece) (results : List IrType) (kind : Kind) → Free names → SoundKind naming n results kind → Free (whole_piece depth names (kind_piece naming depth results kind))
  op_apart naming depth n names results (Const v) free is = whole_apart depth names (simple_piece naming results (Const v)) free (simple_apart naming results (Const v) is)
  op_apart naming depth n names results (Bin op flags a b) free is = whole_apart depth names (simple_piece naming results (Bin op flags a b)) free (simple_apart naming results (Bin op flags a b) is)
  op_apart naming depth n names results (Cast op flags a) free is = whole_apart depth names (simple_piece naming results (Cast op flags a)) free (simple_apart naming results (Cast op flags a) is)
  op_apart naming depth n names results (Cmp pred a b) free is = whole_apart depth names (simple_piece naming results (Cmp pred a b)) free (simple_apart naming results (Cmp pred a b) is)
  op_apart naming depth n names results (Select c a b) free is = whole_apart depth names (simple_piece naming results (Select c a b)) free (simple_apart naming results (Select c a b) is)
  op_apart naming depth n names results (Call func uses) free is = whole_apart depth names (simple_piece naming results (Call func uses)) free (simple_apart naming results (Call func uses) is)
  op_apart naming depth n names results (If' c first other) free is =
      whole_apart depth names
      (word (codes "scf.if") <> blank <> use_piece naming c <> arrow_list_piece results <> blank <> branch forms.Region (braced depth (region_piece naming (depth + 1) first)) <> else_piece naming depth other)
      free
      (if_of (use_piece naming c) (arrow_list_piece results) (braced depth (region_piece naming (depth + 1) first)) (else_piece naming depth other)
      (use_apart naming c is.1) (arrow_list_leads results) (arrow_list_apart results is.0)
      (braced_apart depth (region_piece naming (depth + 1) first) (region_apart naming (depth + 1) n first is.2)) (else_apart naming depth n other is.3))
  op_apart naming depth n names results (For parts) free is = for_apart naming depth n names results parts free is
  op_apart naming depth n names results (While parts) free is = while_apart naming depth n names results parts free is

  row_apart : {m : _} (naming : Naming) (depth n : ℕ) (row : Row_of-Op m) → SoundRow naming n row → Free (row_piece naming depth row)
  row_apart naming depth n end_of-Op is = λ after. refl
  row_apart naming depth n (more_of-Op packs results kind rest) is =
      both_free (whole_piece depth (packs_piece packs) (kind_piece naming depth results kind)) (row_piece naming depth rest)
      (op_apart naming depth n (packs_piece packs) results kind (packs_apart packs is.0) is.1) (row_apart naming depth n rest is.2)

  region_apart : (naming : Naming) (depth n : ℕ) (region : Region) → SoundRegion naming n region → Free (region_piece naming depth region)
  region_apart naming depth n (Region' shape row ends) is =
      both_free (row_piece naming depth row) (yield_piece naming depth ends) (row_apart naming depth (n + 1) row is.1) (yield_apart naming depth ends is.2)

  else_apart : (naming : Naming) (depth n : ℕ) (other : Held-Kind-If-2) → SoundElse naming n other → apart (else_piece naming depth other) true ≡ true
  else_apart naming depth n None' is = refl
  else_apart naming depth n (Some' region) is =
      else_of (braced depth (region_piece naming (depth + 1) region)) (braced_apart depth (region_piece naming (depth + 1) region) (region_apart naming (depth + 1) n region is))

  for_apart : (naming : Naming) (depth n : ℕ) (names : Piece) (results : List IrType) (parts : ForParts) → Free names → SoundFor naming n results parts → Free (whole_piece depth names (for_piece naming depth results parts))
  for_apart naming depth n names results (ForParts' lower upper step iv args inits body) free is =
      whole_apart depth names
      (word (codes "scf.for") <> blank <> name_piece iv.name <> blank <> mark (codes "=") <> blank <> use_piece naming lower <> blank <> word (codes "to") <> blank <> use_piece naming upper <> blank <> word (codes "step") <> blank <> use_piece naming step <> carried_piece naming args inits results <> counter_piece iv.ty <> blank <> branch forms.Region (braced depth (region_piece naming (depth + 1) body)))
      free
      (for_of iv.name (use_piece naming lower) (use_piece naming upper) (use_piece naming step) (carried_piece naming args inits results) (counter_piece iv.ty) (braced depth (region_piece naming (depth + 1) body))
      is.3.0 (use_apart naming lower is.0) (use_apart naming upper is.1) (use_apart naming step is.2)
      (carried_leads naming args inits results) (carried_apart naming args inits results is.4 is.6 is.7) (counter_leads iv.ty) (counter_apart iv.ty is.3.1)
      (braced_apart depth (region_piece naming (depth + 1) body) (region_apart naming (depth + 1) n body is.8)))

  while_apart : (naming : Naming) (depth n : ℕ) (names : Piece) (results : List IrType) (parts : WhileParts) → Free names → SoundWhile naming n results parts → Free (whole_piece depth names (while_piece naming depth results parts))
  while_apart naming depth n names results (WhileParts' args inits before cond after_args after) free is =
      whole_apart depth names
      (word (codes "scf.while") <> blank <> while_inits_piece naming args inits <> colon <> blank <> bracketed_piece (types_piece (map (λ arg. arg.ty) args)) <> blank <> mark (codes "->") <> blank <> results_list_piece results <> blank <> braced depth (before_piece naming (depth + 1) cond before) <> blank <> word (codes "do") <> blank <> braced depth (block_piece depth after_args <> after_piece naming (depth + 1) after))
      free
      (while_of (while_inits_piece naming args inits) (types_piece (map (λ arg. arg.ty) args)) (results_list_piece results) (braced depth (before_piece naming (depth + 1) cond before)) (braced depth (block_piece depth after_args <> after_piece naming (depth + 1) after))
      (while_inits_apart naming args inits is.0 is.2) (types_apart (map (λ arg. arg.ty) args) (arg_types args is.0) true) (results_list_apart results is.3)
      (braced_apart depth (before_piece naming (depth + 1) cond before) (before_apart naming (depth + 1) n cond before is.5 is.4))
      (braced_apart depth (block_piece depth after_args <> after_piece naming (depth + 1) after) (both_free (block_piece depth after_args) (after_piece naming (depth + 1) after) (block_apart depth after_args is.6) (after_apart naming (depth + 1) n after is.7))))

  before_apart : (naming : Naming) (depth n : ℕ) (cond : Label) (region : Region) → Finds naming cond → SoundRegion naming n region → Free (before_piece naming depth cond region)
  before_apart naming depth n cond (Region' shape row ends) found is =
      both_free (row_piece naming depth row) (line_piece depth (word (codes "scf.condition") <> bracketed_piece (use_piece naming cond) <> ends_piece naming ends)) (row_apart naming depth (n + 1) row is.1)
      (line_apart depth (word (codes "scf.condition") <> bracketed_piece (use_piece naming cond) <> ends_piece naming ends)
      (condition_of (use_piece naming cond) (ends_piece naming ends) (use_apart naming cond found) (ends_apart naming ends is.2)))

  after_apart : (naming : Naming) (depth n : ℕ) (region : Region) → SoundRegion naming n region → Free (after_piece naming depth region)
  after_apart naming depth n (Region' shape row ends) is =
      both_free (row_piece naming depth row) (line_piece depth (word (codes "scf.yield") <> ends_piece naming ends)) (row_apart naming depth (n + 1) row is.1)
      (line_apart depth (word (codes "scf.yield") <> ends_piece naming ends) (word_of (codes "scf.yield") (ends_piece naming ends) refl (ends_leads naming ends) (ends_apart naming ends is.2)))

ops_apart : (naming : Naming) (n : ℕ) (ops : List Op) → SoundOps naming n ops → Free (ops_piece naming ops)
ops_apart naming n [] is = λ after. refl
ops_apart naming n (op ∷ ops) is =
    both_free (whole_piece 1 (packs_piece op.packs) (kind_piece naming 1 op.results op.kind)) (ops_piece naming ops)
    (op_apart naming 1 n (packs_piece op.packs) op.results op.kind (packs_apart op.packs is.0) is.1) (ops_apart naming n ops is.2)

items_apart : (naming : Naming) (items : List Item) → SoundItems naming items → Free (items_piece naming items)
items_apart naming [] is = λ after. refl
items_apart naming (item ∷ items) is =
    both_free (ops_piece naming item.ops) (items_piece naming items) (ops_apart naming 1 item.ops is.0) (items_apart naming items is.1)

private_apart : (f : Func) → Free (private_piece f)
private_apart f = go f.private
  where
    go : (c : Bool) → Free (if c then word (codes "private") <> blank else empty)
    go true = λ after. refl
    go false = λ after. refl

declared_of : (p s t a : Piece) → Free p → apart s true ≡ true → apart t true ≡ true → apart a true ≡ true
    → Free (branch forms.Func (word (codes "func.func") <> blank <> p <> s <> bracketed_piece t <> a) <> feed)
declared_of p s t a hp hs ht ha = λ after. rw (hp (leads s true), hs, ht, ha) refl

defined_of : (p s t a b : Piece) → Free p → apart s true ≡ true → apart t true ≡ true → apart a true ≡ true → Free b
    → Free (branch forms.Func (word (codes "func.func") <> blank <> p <> s <> bracketed_piece t <> a <> blank <> branch forms.Body b) <> feed)
defined_of p s t a b hp hs ht ha hb = λ after. rw (hp (leads s true), hs, ht, ha, hb true) refl

pub declared_types : (args : List Arg) → Each (λ arg. IsType arg.ty) args → Each IsType (map (λ arg. arg.ty) args)
declared_types [] is = tt
declared_types (arg ∷ args) is = (is.0, declared_types args is.1)

body_apart : (naming : Naming) (f : Func) (body : Option Body) → IsName f.name → Each IsType f.results → SoundBody naming f body → Free (body_piece naming f body)
body_apart naming f None name types is =
    declared_of (private_piece f) (symbol_piece f) (types_piece (map (λ arg. arg.ty) f.args)) (arrow_piece f.results)
    (private_apart f) (symbol_apart f.name name) (types_apart (map (λ arg. arg.ty) f.args) (declared_types f.args is) true) (arrow_apart f.results types)
body_apart naming f (Some body) name types is =
    defined_of (private_piece f) (symbol_piece f) (params_piece f.args) (arrow_piece f.results) (braced 0 (items_piece naming body.items <> line_piece 1 (word (codes "return") <> ends_piece naming body.ret)))
    (private_apart f) (symbol_apart f.name name) (params_apart f.args is.0) (arrow_apart f.results types)
    (braced_apart 0 (items_piece naming body.items <> line_piece 1 (word (codes "return") <> ends_piece naming body.ret))
    (both_free (items_piece naming body.items) (line_piece 1 (word (codes "return") <> ends_piece naming body.ret)) (items_apart naming body.items is.1)
    (line_apart 1 (word (codes "return") <> ends_piece naming body.ret) (word_of (codes "return") (ends_piece naming body.ret) refl (ends_leads naming body.ret) (ends_apart naming body.ret is.2)))))

funcs_apart : (names : List (List ℕ)) (fs : List Func) → SoundFuncs names fs → Free (funcs_piece names fs)
funcs_apart names [] is = λ after. refl
funcs_apart names (f ∷ fs) is =
    both_free (func_piece names f) (funcs_piece names fs) (body_apart (naming_of names f) f f.body is.0.0 is.0.1 is.0.2) (funcs_apart names fs is.1)

-- the law: the canonical text of a module lexes to the tokens of its pieces
pub module_tokens : (fs : List Func) → SoundModule fs → AreTokens (module_text fs) (placed 0 (module_piece fs))
module_tokens fs is =
    let parts = apart_parted (module_piece fs) [] (funcs_apart (map (λ f. f.name) fs) fs is true) in
    subst (λ text. AreTokens text (placed 0 (module_piece fs))) (module_spelled fs is) (all_lex (module_piece fs) parts)
