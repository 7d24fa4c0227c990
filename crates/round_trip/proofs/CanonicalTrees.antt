-- The pieces of the canonical text stand for the lines of the grammar.
use Rattle.std.proofs.Common.{◌≡◌, ℕ, ◌+◌, Bool, true, false, List, [], ◌∷◌, length, refl, sym, subst, codes, map, Option, Some, None, if◌then◌else◌, arith}
use Rattle.std.specs.List.{zip}
use Rattle.arith_word.specs.declared.op.BinOp.{BinOp}
use Rattle.arith_word.specs.declared.op.BinOp.TheVariants.{Addi, Subi, Muli, Andi, Ori, Xori, Minsi, Maxsi, Minui, Maxui, Shli, Shrui, Shrsi, Divui, Remui, Divsi, Remsi}
use Rattle.arith_word.specs.declared.op.CastOp.{CastOp}
use Rattle.arith_word.specs.declared.op.CastOp.TheVariants.{Extsi, IndexCast, Extui, IndexCastui, Trunci}
use Rattle.arith_word.specs.declared.op.Pred.{Pred}
use Rattle.arith_word.specs.declared.op.Pred.TheVariants.{Eq, Ne, Slt, Sle, Sgt, Sge, Ult, Ule, Ugt, Uge}
use Rattle.arith_word.specs.declared.label.Label.{Label}
use Rattle.mlir_ir.specs.Grammar as grammar
use Rattle.mlir_ir.specs.Grammar.{Pattern, nothing, one, line, both, either, many, region, body, maybe, ◌~◌, constant_kind, binary_kind, flagged_binary_kind, cast_kind, flagged_cast_kind, compare_kind, select_kind, call_kind, if_kind, for_kind, while_kind}
use Rattle.mlir_ir.specs.Terminals.{terminal_of, word_terminal}
use Rattle.mlir_ir.specs.declared.terminal.Terminal.TheVariants as ts
use Rattle.mlir_ir.specs.declared.syntax.Form.TheVariants as forms
use Rattle.mlir_ir.specs.declared.types.Arg.{Arg}
use Rattle.mlir_ir.specs.declared.types.Body.{Body}
use Rattle.mlir_ir.specs.declared.types.Flags.{Flags}
use Rattle.mlir_ir.specs.declared.types.Func.{Func}
use Rattle.mlir_ir.specs.declared.types.IrType.{IrType}
use Rattle.mlir_ir.specs.declared.types.IrType.TheVariants.{Int, Index}
use Rattle.mlir_ir.specs.declared.types.Item.{Item}
use Rattle.mlir_ir.specs.declared.types.Op.{Op}
use Rattle.mlir_ir.specs.declared.types.Region.{Region, Region', Row_of-Op, end_of-Op, more_of-Op}
use Rattle.mlir_ir.specs.declared.types.ForParts.{ForParts, ForParts'}
use Rattle.mlir_ir.specs.declared.types.WhileParts.{WhileParts, WhileParts'}
use Rattle.mlir_ir.specs.declared.types.Kind.{Kind, Const, Bin, Cast, Cmp, Select, Call, If', For, While, Held-Kind-If-2, None', Some'}
use Rattle.mlir_ir.specs.Rules.{may_wrap, may_lose}
use Rattle.mlir_ir.specs.Words.{bin_text, cast_text, pred_text}
use Rattle.mlir_ir.specs.Canonical.{Naming, naming_of}
use Rattle.round_trip.specs.Pieces.{Piece, empty, branch, ◌<>◌, placed, trees}
use Rattle.round_trip.proofs.PieceTrees.{has_tree}
use Rattle.mlir_ir.specs.Trees.{IsTreeOf}
use Rattle.round_trip.specs.Matching.{Matches, laid, m_end, m_token, m_line, m_nothing, m_both, m_left, m_right, m_again, m_enough}
use Rattle.round_trip.specs.CanonicalPieces.{word, mark, blank, line_piece, name_piece, colon, braced, bracketed_piece, joined_piece, type_piece, types_piece, results_list_piece, arrow_piece, arrow_list_piece, use_piece, used_type_piece, ends_piece, packs_piece, flags_piece, init_piece, one_type, simple_piece, counter_piece, carried_piece, while_inits_piece, block_piece, yield_piece, whole_piece, kind_piece, row_piece, region_piece, else_piece, for_piece, while_piece, before_piece, after_piece, ops_piece, items_piece, private_piece, body_piece, funcs_piece, module_piece}
use Rattle.round_trip.specs.Sound.{Each, IsType, IsArg, Finds, HaveFlags, IsSimple, SoundKind, SoundRow, SoundRegion, SoundElse, SoundFor, SoundWhile, SoundOps, SoundItems, SoundBody, SoundFuncs, SoundModule}
use Rattle.round_trip.proofs.CanonicalTokens.{arg_types, declared_types, IsInit, each_init}
use Rattle.round_trip.proofs.StandingPieces.{m_flat, Stands, s_line, s_none, s_region, commas_stand, list_stands, type_stands, types_stand, results_list_stand, results_stand, arrow_stands, arrow_list_stands, params_line, params_stand, use_stands, used_type_stands, uses_stand, used_types_stand, ends_stand, constant_stands, one_stands, packs_pattern, packs_stand, flags_stand, no_flags}

-- operations without regions

pub bin_terminal : (op : BinOp) → word_terminal (bin_text op) ≡ (if may_wrap op then ts.FlaggedBinary else ts.Binary)
bin_terminal Addi = refl
bin_terminal Subi = refl
bin_terminal Muli = refl
bin_terminal Andi = refl
bin_terminal Ori = refl
bin_terminal Xori = refl
bin_terminal Minsi = refl
bin_terminal Maxsi = refl
bin_terminal Minui = refl
bin_terminal Maxui = refl
bin_terminal Shli = refl
bin_terminal Shrui = refl
bin_terminal Shrsi = refl
bin_terminal Divui = refl
bin_terminal Remui = refl
bin_terminal Divsi = refl
bin_terminal Remsi = refl

pub cast_terminal : (op : CastOp) → word_terminal (cast_text op) ≡ (if may_lose op then ts.FlaggedCast else ts.Cast)
cast_terminal Extsi = refl
cast_terminal IndexCast = refl
cast_terminal Extui = refl
cast_terminal IndexCastui = refl
cast_terminal Trunci = refl

pub pred_terminal : (pred : Pred) → word_terminal (pred_text pred) ≡ ts.Predicate
pred_terminal Eq = refl
pred_terminal Ne = refl
pred_terminal Slt = refl
pred_terminal Sle = refl
pred_terminal Sgt = refl
pred_terminal Sge = refl
pred_terminal Ult = refl
pred_terminal Ule = refl
pred_terminal Ugt = refl
pred_terminal Uge = refl

-- an operation's right side, by its number
abbrev Kinds : ℕ → Piece → Type 0
Kinds n x = Stands n (body forms.Kind) x

bin_of : (n : ℕ) (flagged : Bool) (w : List ℕ) (flags : Flags) (a b t : Piece) → word_terminal w ≡ (if flagged then ts.FlaggedBinary else ts.Binary) → HaveFlags flagged flags
    → Stands n (line forms.Use) a → Stands n (line forms.Use) b → Stands n (line forms.TypeName) t
    → Kinds n (word w <> blank <> a <> mark (codes ",") <> blank <> b <> flags_piece flags <> blank <> colon <> blank <> t)
bin_of n true w flags a b t hw hf ha hb ht = λ ss ds m. m_right (m_right (m_left (m_flat flagged_binary_kind ss
    (m_token hw (ha _ _ (m_token refl (hb _ _ (flags_stand n flags _ _ (m_token refl (ht ss ds m))))))))))
bin_of n false w flags a b t hw hf ha hb ht =
    subst (λ f. Kinds n (word w <> blank <> a <> mark (codes ",") <> blank <> b <> f <> blank <> colon <> blank <> t)) (sym (no_flags flags hf))
    (λ ss ds m. m_right (m_left (m_flat binary_kind ss (m_token hw (ha _ _ (m_token refl (hb _ _ (m_token refl (ht ss ds m)))))))))

cast_of : (n : ℕ) (flagged : Bool) (w : List ℕ) (flags : Flags) (a s t : Piece) → word_terminal w ≡ (if flagged then ts.FlaggedCast else ts.Cast) → HaveFlags flagged flags
    → Stands n (line forms.Use) a → Stands n (line forms.TypeName) s → Stands n (line forms.TypeName) t
    → Kinds n (word w <> blank <> a <> flags_piece flags <> blank <> colon <> blank <> s <> blank <> word (codes "to") <> blank <> t)
cast_of n true w flags a s t hw hf ha hs ht = λ ss ds m. m_right (m_right (m_right (m_right (m_left (m_flat flagged_cast_kind ss
    (m_token hw (ha _ _ (flags_stand n flags _ _ (m_token refl (hs _ _ (m_token refl (ht ss ds m))))))))))))
cast_of n false w flags a s t hw hf ha hs ht =
    subst (λ f. Kinds n (word w <> blank <> a <> f <> blank <> colon <> blank <> s <> blank <> word (codes "to") <> blank <> t)) (sym (no_flags flags hf))
    (λ ss ds m. m_right (m_right (m_right (m_left (m_flat cast_kind ss (m_token hw (ha _ _ (m_token refl (hs _ _ (m_token refl (ht ss ds m)))))))))))

simple_stands : (n : ℕ) (naming : Naming) (results : List IrType) (kind : Kind) → IsSimple naming results kind → Kinds n (simple_piece naming results kind)
simple_stands n naming results (Const v) is = λ ss ds m. m_left (m_both (m_token refl (constant_stands n v results is.0 is.1 ss ds m)))
simple_stands n naming results (Bin op flags a b) is =
    bin_of n (may_wrap op) (bin_text op) flags (use_piece naming a) (use_piece naming b) (one_type results) (bin_terminal op) is.3
    (use_stands n naming a is.1) (use_stands n naming b is.2) (one_stands n results is.0)
simple_stands n naming results (Cast op flags a) is =
    cast_of n (may_lose op) (cast_text op) flags (use_piece naming a) (used_type_piece naming a) (one_type results) (cast_terminal op) is.2
    (use_stands n naming a is.1) (used_type_stands n naming a is.1) (one_stands n results is.0)
simple_stands n naming results (Cmp pred a b) is = λ ss ds m. m_right (m_right (m_right (m_right (m_right (m_left (m_flat compare_kind ss
    (m_token refl (m_token (pred_terminal pred) (m_token refl (use_stands n naming a is.0 _ _ (m_token refl (use_stands n naming b is.1 _ _ (m_token refl (used_type_stands n naming a is.0 ss ds m))))))))))))))
simple_stands n naming results (Select c a b) is = λ ss ds m. m_right (m_right (m_right (m_right (m_right (m_right (m_left (m_flat select_kind ss
    (m_token refl (use_stands n naming c is.1 _ _ (m_token refl (use_stands n naming a is.2 _ _ (m_token refl (use_stands n naming b is.3 _ _ (m_token refl (one_stands n results is.0 ss ds m)))))))))))))))
simple_stands n naming results (Call func uses) is = λ ss ds m. m_right (m_right (m_right (m_right (m_right (m_right (m_right (m_left (m_flat call_kind ss
    (m_token refl (m_token refl (m_token refl (uses_stand n naming uses is.1 _ _ (m_token refl (m_token refl (m_token refl (used_types_stand n naming uses is.1 _ _ (m_token refl (m_token refl (results_stand n results is.0 ss ds m)))))))))))))))))))
simple_stands n naming results (If' c first other) is = absurd is
simple_stands n naming results (For parts) is = absurd is
simple_stands n naming results (While parts) is = absurd is

-- lines and regions

s_op : (n depth : ℕ) (names kind : Piece) → Stands n (maybe packs_pattern) names → Kinds n kind → Stands n (line forms.Op) (whole_piece depth names kind)
s_op n depth names kind hn hk = λ ss ds m. m_line (m_both (hn (line forms.Kind ∷ []) (branch forms.Kind kind ∷ []) (m_line (hk [] [] m_end) m_end))) m

abbrev yield_pattern : Pattern
yield_pattern = one ts.Yield ~ maybe (line forms.Ends)

yield_stands : (n : ℕ) (naming : Naming) (depth : ℕ) (labels : List Label) → Each (Finds naming) labels → Stands n (maybe yield_pattern) (yield_piece naming depth labels)
yield_stands n naming depth [] is = s_none n yield_pattern
yield_stands n naming depth (label ∷ labels) is = λ ss ds m. m_left (m_both (m_token refl (ends_stand n naming (label ∷ labels) is ss ds m)))

counter_stands : (n : ℕ) (ty : IrType) → IsType ty → Stands n (maybe (one ts.Colon ~ line forms.TypeName)) (counter_piece ty)
counter_stands n Index is = s_none n (one ts.Colon ~ line forms.TypeName)
counter_stands n (Int width) is = λ ss ds m. m_left (m_both (m_token refl (type_stands n (Int width) is ss ds m)))

abbrev init_pattern : Pattern
init_pattern = one ts.Comma ~ one ts.Value ~ one ts.Equals ~ line forms.Use

init_each : (n : ℕ) (naming : Naming) (pair : Arg × Label) → IsInit naming pair → (ss : List Pattern) (ds : List Piece) → Matches n ss ds
    → Matches n (init_pattern ∷ ss) (mark (codes ",") ∷ laid (init_piece naming pair) ds)
init_each n naming (arg, label) is ss ds m = m_flat init_pattern ss (m_token refl (m_token refl (m_token refl (use_stands n naming label is.1 ss ds m))))

inits_line : (n : ℕ) (naming : Naming) (arg : Arg) (args : List Arg) (label : Label) (labels : List Label) → Each IsArg args → Finds naming label → Each (Finds naming) labels
    → Stands n (line forms.Inits) (branch forms.Inits (joined_piece (map (init_piece naming) (zip (arg ∷ args) (label ∷ labels)))))
inits_line n naming arg args label labels is found fs =
    s_line n forms.Inits (joined_piece (map (init_piece naming) (zip (arg ∷ args) (label ∷ labels))))
    (λ ss ds m. m_flat (body forms.Inits) ss (m_token refl (m_token refl (use_stands n naming label found _ _
    (commas_stand n (init_piece naming) init_pattern (IsInit naming) (init_each n naming) (zip args labels) (each_init naming args labels is fs) ss ds m)))))

abbrev carried_pattern : Pattern
carried_pattern = one ts.IterArgs ~ one ts.LeftParen ~ line forms.Inits ~ one ts.RightParen ~ one ts.Arrow ~ line forms.Results

carried_stands : (n : ℕ) (naming : Naming) (args : List Arg) (inits : List Label) (results : List IrType) → Each IsArg args → length args ≡ length inits → Each (Finds naming) inits → Each IsType results
    → Stands n (maybe carried_pattern) (carried_piece naming args inits results)
carried_stands n naming [] inits results is same fs tys = s_none n carried_pattern
carried_stands n naming (arg ∷ args) [] results is same fs tys = absurd (omega arith)
carried_stands n naming (arg ∷ args) (label ∷ labels) results is same fs tys = λ ss ds m. m_left (m_flat carried_pattern ss
    (m_token refl (m_token refl (inits_line n naming arg args label labels is.1 fs.0 fs.1 _ _ (m_token refl (m_token refl (results_list_stand n results tys ss ds m)))))))

abbrev while_inits_pattern : Pattern
while_inits_pattern = one ts.LeftParen ~ line forms.Inits ~ one ts.RightParen

while_inits_stand : (n : ℕ) (naming : Naming) (args : List Arg) (inits : List Label) → Each IsArg args → length args ≡ length inits → Each (Finds naming) inits
    → Stands n (maybe while_inits_pattern) (while_inits_piece naming args inits)
while_inits_stand n naming [] inits is same fs = s_none n while_inits_pattern
while_inits_stand n naming (arg ∷ args) [] is same fs = absurd (omega arith)
while_inits_stand n naming (arg ∷ args) (label ∷ labels) is same fs = λ ss ds m. m_left (m_flat while_inits_pattern ss
    (m_token refl (inits_line n naming arg args label labels is.1 fs.0 fs.1 _ _ (m_token refl m))))

abbrev block_pattern : Pattern
block_pattern = one ts.Caret ~ maybe (one ts.LeftParen ~ line forms.Params ~ one ts.RightParen) ~ one ts.Colon

block_stands : (n depth : ℕ) (args : List Arg) → Each IsArg args → Stands n (maybe block_pattern) (block_piece depth args)
block_stands n depth [] is = s_none n block_pattern
block_stands n depth (arg ∷ args) is = λ ss ds m. m_left (m_flat block_pattern ss
    (m_token refl (m_left (m_flat (one ts.LeftParen ~ line forms.Params ~ one ts.RightParen) _ (m_token refl (params_line n arg args is _ _ (m_token refl (m_token refl m))))))))

if_stands : (n : ℕ) (u a r e : Piece) → Stands n (line forms.Use) u → Stands n (maybe (one ts.Arrow ~ line forms.Results)) a → Stands n (line forms.Region) (branch forms.Region r) → Stands n (maybe (one ts.Else ~ line forms.Region)) e
    → Kinds n (word (codes "scf.if") <> blank <> u <> a <> blank <> branch forms.Region r <> e)
if_stands n u a r e hu ha hr he = λ ss ds m. m_right (m_right (m_right (m_right (m_right (m_right (m_right (m_right (m_left (m_flat if_kind ss
    (m_token refl (hu _ _ (ha _ _ (hr _ _ (he ss ds m))))))))))))))

for_stands : (n : ℕ) (iv : List ℕ) (l u s c t r : Piece) → Stands n (line forms.Use) l → Stands n (line forms.Use) u → Stands n (line forms.Use) s → Stands n (maybe carried_pattern) c → Stands n (maybe (one ts.Colon ~ line forms.TypeName)) t → Stands n (line forms.Region) (branch forms.Region r)
    → Kinds n (word (codes "scf.for") <> blank <> name_piece iv <> blank <> mark (codes "=") <> blank <> l <> blank <> word (codes "to") <> blank <> u <> blank <> word (codes "step") <> blank <> s <> c <> t <> blank <> branch forms.Region r)
for_stands n iv l u s c t r hl hu hs hc ht hr = λ ss ds m. m_right (m_right (m_right (m_right (m_right (m_right (m_right (m_right (m_right (m_left (m_flat for_kind ss
    (m_token refl (m_token refl (m_token refl (hl _ _ (m_token refl (hu _ _ (m_token refl (hs _ _ (hc _ _ (ht _ _ (hr ss ds m)))))))))))))))))))))

while_stands : (n : ℕ) (i t r b a : Piece) → Stands n (maybe while_inits_pattern) i → Stands n (maybe (line forms.Types)) t → Stands n (line forms.Results) r → Stands n grammar.before_region b → Stands n grammar.after_region a
    → Kinds n (word (codes "scf.while") <> blank <> i <> colon <> blank <> bracketed_piece t <> blank <> mark (codes "->") <> blank <> r <> blank <> b <> blank <> word (codes "do") <> blank <> a)
while_stands n i t r b a hi ht hr hb ha = λ ss ds m. m_right (m_right (m_right (m_right (m_right (m_right (m_right (m_right (m_right (m_right (m_flat while_kind ss
    (m_token refl (hi _ _ (m_token refl (m_token refl (ht _ _ (m_token refl (m_token refl (hr _ _ (hb _ _ (m_token refl (ha ss ds m)))))))))))))))))))))

abbrev region_inside : Pattern
region_inside = many (line forms.Op) ~ maybe yield_pattern

abbrev before_inside : Pattern
before_inside = many (line forms.Op) ~ one ts.Condition ~ one ts.LeftParen ~ line forms.Use ~ one ts.RightParen ~ maybe (line forms.Ends)

abbrev after_inside : Pattern
after_inside = maybe block_pattern ~ many (line forms.Op) ~ one ts.Yield ~ maybe (line forms.Ends)

mutual
  unfolding kind_piece

  op_stands : (naming : Naming) (depth n : ℕ) (names : Piece) (results : List IrType) (kind : Kind) → Stands n (maybe packs_pattern) names → SoundKind naming n results kind → Stands n (line forms.Op) (whole_piece depth names (kind_piece naming depth results kind))
  op_stands naming depth n names results (Const v) hn is = s_op n depth names (simple_piece naming results (Const v)) hn (simple_stands n naming results (Const v) is)
  op_stands naming depth n names results (Bin op flags a b) hn is = s_op n depth names (simple_piece naming results (Bin op flags a b)) hn (simple_stands n naming results (Bin op flags a b) is)
  op_stands naming depth n names results (Cast op flags a) hn is = s_op n depth names (simple_piece naming results (Cast op flags a)) hn (simple_stands n naming results (Cast op flags a) is)
  op_stands naming depth n names results (Cmp pred a b) hn is = s_op n depth names (simple_piece naming results (Cmp pred a b)) hn (simple_stands n naming results (Cmp pred a b) is)
  op_stands naming depth n names results (Select c a b) hn is = s_op n depth names (simple_piece naming results (Select c a b)) hn (simple_stands n naming results (Select c a b) is)
  op_stands naming depth n names results (Call func uses) hn is = s_op n depth names (simple_piece naming results (Call func uses)) hn (simple_stands n naming results (Call func uses) is)
  op_stands naming depth n names results (If' c first other) hn is =
      s_op n depth names
      (word (codes "scf.if") <> blank <> use_piece naming c <> arrow_list_piece results <> blank <> branch forms.Region (braced depth (region_piece naming (depth + 1) first)) <> else_piece naming depth other)
      hn
      (if_stands n (use_piece naming c) (arrow_list_piece results) (braced depth (region_piece naming (depth + 1) first)) (else_piece naming depth other)
      (use_stands n naming c is.1) (arrow_list_stands n results is.0) (region_stands naming (depth + 1) n depth first is.2) (else_stands naming depth n other is.3))
  op_stands naming depth n names results (For parts) hn is = for_op naming depth n names results parts hn is
  op_stands naming depth n names results (While parts) hn is = while_op naming depth n names results parts hn is

  row_stands : {m : _} (naming : Naming) (depth n : ℕ) (row : Row_of-Op m) → SoundRow naming n row → Stands n (many (line forms.Op)) (row_piece naming depth row)
  row_stands naming depth n end_of-Op is = λ ss ds m. m_enough m
  row_stands naming depth n (more_of-Op packs results kind rest) is = λ ss ds m. m_again
      (op_stands naming depth n (packs_piece packs) results kind (packs_stand n packs is.0) is.1 (many (line forms.Op) ∷ ss) (laid (row_piece naming depth rest) ds)
      (row_stands naming depth n rest is.2 ss ds m))

  -- a region in the braces of an operation that is `outer` deep
  region_stands : (naming : Naming) (depth n outer : ℕ) (region : Region) → SoundRegion naming n region → Stands n (line forms.Region) (branch forms.Region (braced outer (region_piece naming depth region)))
  region_stands naming depth n outer (Region' shape row ends) is =
      s_line n forms.Region (braced outer (row_piece naming depth row <> yield_piece naming depth ends))
      (s_region n outer region_inside (row_piece naming depth row <> yield_piece naming depth ends) is.0
      (λ ss ds m. m_both (row_stands naming depth (n + 1) row is.1 _ _ (yield_stands (n + 1) naming depth ends is.2 ss ds m))))

  else_stands : (naming : Naming) (depth n : ℕ) (other : Held-Kind-If-2) → SoundElse naming n other → Stands n (maybe (one ts.Else ~ line forms.Region)) (else_piece naming depth other)
  else_stands naming depth n None' is = s_none n (one ts.Else ~ line forms.Region)
  else_stands naming depth n (Some' inner) is = λ ss ds m. m_left (m_both (m_token refl (region_stands naming (depth + 1) n depth inner is ss ds m)))

  for_op : (naming : Naming) (depth n : ℕ) (names : Piece) (results : List IrType) (parts : ForParts) → Stands n (maybe packs_pattern) names → SoundFor naming n results parts → Stands n (line forms.Op) (whole_piece depth names (for_piece naming depth results parts))
  for_op naming depth n names results (ForParts' lower upper step iv args inits body) hn is =
      s_op n depth names
      (word (codes "scf.for") <> blank <> name_piece iv.name <> blank <> mark (codes "=") <> blank <> use_piece naming lower <> blank <> word (codes "to") <> blank <> use_piece naming upper <> blank <> word (codes "step") <> blank <> use_piece naming step <> carried_piece naming args inits results <> counter_piece iv.ty <> blank <> branch forms.Region (braced depth (region_piece naming (depth + 1) body)))
      hn
      (for_stands n iv.name (use_piece naming lower) (use_piece naming upper) (use_piece naming step) (carried_piece naming args inits results) (counter_piece iv.ty) (braced depth (region_piece naming (depth + 1) body))
      (use_stands n naming lower is.0) (use_stands n naming upper is.1) (use_stands n naming step is.2)
      (carried_stands n naming args inits results is.4 is.5 is.6 is.7) (counter_stands n iv.ty is.3.1) (region_stands naming (depth + 1) n depth body is.8))

  while_op : (naming : Naming) (depth n : ℕ) (names : Piece) (results : List IrType) (parts : WhileParts) → Stands n (maybe packs_pattern) names → SoundWhile naming n results parts → Stands n (line forms.Op) (whole_piece depth names (while_piece naming depth results parts))
  while_op naming depth n names results (WhileParts' args inits before cond after_args after) hn is =
      s_op n depth names
      (word (codes "scf.while") <> blank <> while_inits_piece naming args inits <> colon <> blank <> bracketed_piece (types_piece (map (λ arg. arg.ty) args)) <> blank <> mark (codes "->") <> blank <> results_list_piece results <> blank <> braced depth (before_piece naming (depth + 1) cond before) <> blank <> word (codes "do") <> blank <> braced depth (block_piece depth after_args <> after_piece naming (depth + 1) after))
      hn
      (while_stands n (while_inits_piece naming args inits) (types_piece (map (λ arg. arg.ty) args)) (results_list_piece results) (braced depth (before_piece naming (depth + 1) cond before)) (braced depth (block_piece depth after_args <> after_piece naming (depth + 1) after))
      (while_inits_stand n naming args inits is.0 is.1 is.2) (types_stand n (map (λ arg. arg.ty) args) (arg_types args is.0)) (results_list_stand n results is.3)
      (before_stands naming (depth + 1) n depth cond before is.5 is.4) (after_stands naming (depth + 1) n depth after_args after is.6 is.7))

  before_stands : (naming : Naming) (depth n outer : ℕ) (cond : Label) (region : Region) → Finds naming cond → SoundRegion naming n region → Stands n grammar.before_region (braced outer (before_piece naming depth cond region))
  before_stands naming depth n outer cond (Region' shape row ends) found is =
      s_region n outer before_inside (row_piece naming depth row <> line_piece depth (word (codes "scf.condition") <> bracketed_piece (use_piece naming cond) <> ends_piece naming ends)) is.0
      (λ ss ds m. m_flat before_inside ss (row_stands naming depth (n + 1) row is.1 _ _
      (m_token refl (m_token refl (use_stands (n + 1) naming cond found _ _ (m_token refl (ends_stand (n + 1) naming ends is.2 ss ds m)))))))

  after_stands : (naming : Naming) (depth n outer : ℕ) (args : List Arg) (region : Region) → Each IsArg args → SoundRegion naming n region → Stands n grammar.after_region (braced outer (block_piece outer args <> after_piece naming depth region))
  after_stands naming depth n outer args (Region' shape row ends) are is =
      s_region n outer after_inside (block_piece outer args <> row_piece naming depth row <> line_piece depth (word (codes "scf.yield") <> ends_piece naming ends)) is.0
      (λ ss ds m. m_flat after_inside ss (block_stands (n + 1) outer args are _ _ (row_stands naming depth (n + 1) row is.1 _ _
      (m_token refl (ends_stand (n + 1) naming ends is.2 ss ds m)))))

-- operations before more of them
ops_more : (naming : Naming) (n : ℕ) (ops : List Op) → SoundOps naming n ops → (ss : List Pattern) (ds : List Piece) → Matches n (many (line forms.Op) ∷ ss) ds → Matches n (many (line forms.Op) ∷ ss) (laid (ops_piece naming ops) ds)
ops_more naming n [] is ss ds m = m
ops_more naming n (op ∷ ops) is ss ds m = m_again
    (op_stands naming 1 n (packs_piece op.packs) op.results op.kind (packs_stand n op.packs is.0) is.1 (many (line forms.Op) ∷ ss) (laid (ops_piece naming ops) ds) (ops_more naming n ops is.2 ss ds m))

items_more : (naming : Naming) (items : List Item) → SoundItems naming items → (ss : List Pattern) (ds : List Piece) → Matches 1 (many (line forms.Op) ∷ ss) ds → Matches 1 (many (line forms.Op) ∷ ss) (laid (items_piece naming items) ds)
items_more naming [] is ss ds m = m
items_more naming (item ∷ items) is ss ds m = ops_more naming 1 item.ops is.0 ss (laid (items_piece naming items) ds) (items_more naming items is.1 ss ds m)

-- functions

private_stands : (n : ℕ) (f : Func) → Stands n (maybe (one ts.Private)) (private_piece f)
private_stands n f = go f.private
  where
    go : (c : Bool) → Stands n (maybe (one ts.Private)) (if c then word (codes "private") <> blank else empty)
    go true = λ ss ds m. m_left (m_token refl m)
    go false = s_none n (one ts.Private)

abbrev results_pattern : Pattern
results_pattern = maybe (one ts.Arrow ~ line forms.Results)

abbrev func_rest : Pattern
func_rest = either (line forms.Types ~ one ts.RightParen ~ results_pattern) (maybe (line forms.Params) ~ one ts.RightParen ~ results_pattern ~ maybe (line forms.Body))

declared_rest : (n : ℕ) (tys results : List IrType) → Each IsType tys → Each IsType results → Stands n func_rest (types_piece tys <> mark (codes ")") <> arrow_piece results)
declared_rest n [] results is rs = λ ss ds m. m_right (m_flat (maybe (line forms.Params) ~ one ts.RightParen ~ results_pattern ~ maybe (line forms.Body)) ss
    (m_right (m_nothing (m_token refl (arrow_stands n results rs _ _ (m_right (m_nothing m)))))))
declared_rest n (ty ∷ tys) results is rs = λ ss ds m. m_left (m_flat (line forms.Types ~ one ts.RightParen ~ results_pattern) ss
    (s_line n forms.Types (joined_piece (map type_piece (ty ∷ tys))) (list_stands n type_piece (line forms.TypeName) IsType (type_stands n) ty tys is) _ _
    (m_token refl (arrow_stands n results rs ss ds m))))

abbrev body_inside : Pattern
body_inside = many (line forms.Op) ~ one ts.Return ~ maybe (line forms.Ends)

body_stands : (naming : Naming) (f : Func) (body : Option Body) → Each IsType f.results → SoundBody naming f body → Stands 0 (line forms.Func) (body_piece naming f body)
body_stands naming f None types is = λ ss ds m. m_line
    (m_flat (body forms.Func) [] (m_token refl (private_stands 0 f _ _ (m_token refl (m_token refl
    (declared_rest 0 (map (λ arg. arg.ty) f.args) f.results (declared_types f.args is) types [] [] m_end)))))) m
body_stands naming f (Some body) types is = λ ss ds m. m_line
    (m_flat (grammar.body forms.Func) [] (m_token refl (private_stands 0 f _ _ (m_token refl (m_token refl
    (m_right (m_flat (maybe (line forms.Params) ~ one ts.RightParen ~ results_pattern ~ maybe (line forms.Body)) []
    (params_stand 0 f.args is.0 _ _ (m_token refl (arrow_stands 0 f.results types _ _ (m_left (m_line inside m_end)))))))))))) m
  where
    inner : Piece
    inner = items_piece naming body.items <> line_piece 1 (word (codes "return") <> ends_piece naming body.ret)

    inside : Matches 0 (grammar.body forms.Body ∷ []) (laid (braced 0 inner) [])
    inside = s_region 0 0 body_inside inner (omega arith)
        (λ ss ds m. m_flat body_inside ss (items_more naming body.items is.1 _ _ (m_enough (m_token refl (ends_stand 1 naming body.ret is.2 ss ds m))))) [] [] m_end

funcs_stand : (names : List (List ℕ)) (fs : List Func) → SoundFuncs names fs → Stands 0 (many (line forms.Func)) (funcs_piece names fs)
funcs_stand names [] is = λ ss ds m. m_enough m
funcs_stand names (f ∷ fs) is = λ ss ds m. m_again (body_stands (naming_of names f) f f.body is.0.1 is.0.2 _ _ (funcs_stand names fs is.1 ss ds m))

whole_stands : (names : List (List ℕ)) (fs : List Func) → SoundFuncs names fs → Matches 0 (body forms.Whole ∷ []) (laid (funcs_piece names fs) [])
whole_stands names [] is = m_right (m_nothing m_end)
whole_stands names (f ∷ fs) is = m_left (m_left (m_both (body_stands (naming_of names f) f f.body is.0.1 is.0.2 _ _ (funcs_stand names fs is.1 [] [] m_end))))

pub module_matches : (fs : List Func) → SoundModule fs → Matches 0 (line forms.Whole ∷ []) (laid (module_piece fs) [])
module_matches fs is = m_line (whole_stands (map (λ f. f.name) fs) fs is) m_end

-- the law: the tree of a module's pieces derives the tokens
pub module_tree : (fs : List Func) → SoundModule fs → IsTreeOf (map terminal_of (placed 0 (module_piece fs))) (trees 0 (module_piece fs))
module_tree fs is = has_tree (module_piece fs) (module_matches fs is)
