-- Pieces stand for the lines of the grammar: types, arguments, uses, numbers, packs and flags.
use Rattle.std.proofs.Common.{suc, zero, ◌≡◌, ℕ, ℤ, pos, negsuc, ◌+◌, ◌-◌, ◌^◌, ◌<◌, ◌≤◌, ◌==◌, ◌&&◌, Bool, true, false, List, [], ◌∷◌, ◌++◌, refl, ap, ◌∙◌, sym, subst, codes, map, nat_lt, if◌then◌else◌, arith, inl, inr}
use Rattle.std.specs.Option.{option_map_or, option_map}
use Rattle.std.specs.List.{list_all}
use Rattle.std.specs.Str.{bytes_eq}
use Rattle.std.specs.Fmt.{decimal, digits}
use Rattle.std.proofs.lemmas.Bool.{and_parts, or_right, cases_eq}
use Rattle.std.proofs.lemmas.Bool.Decides.{nat_tests}
use Rattle.arith_word.specs.Word.{signed_reading}
use Rattle.arith_word.specs.declared.label.Label.{Label}
use Rattle.mlir_ir.specs.Grammar.{Pattern, nothing, one, line, both, either, many, region, body, maybe, ◌~◌}
use Rattle.mlir_ir.specs.Limits.{region_limit}
use Rattle.mlir_ir.specs.Terminals.{word_terminal, number_terminal, is_type_word, is_integer, is_width, or_else, arith_terminal, scf_terminal, func_terminal, inner_terminal}
use Rattle.mlir_ir.specs.declared.terminal.Terminal.TheVariants as ts
use Rattle.mlir_ir.specs.declared.token.TokenKind.TheVariants.{Pick, Number}
use Rattle.mlir_ir.specs.declared.syntax.Form.{Form}
use Rattle.mlir_ir.specs.declared.syntax.Form.TheVariants as forms
use Rattle.mlir_ir.specs.declared.types.Arg.{Arg}
use Rattle.mlir_ir.specs.declared.types.Flags.{Flags}
use Rattle.mlir_ir.specs.declared.types.IrType.{IrType}
use Rattle.mlir_ir.specs.declared.types.IrType.TheVariants.{Int, Index}
use Rattle.mlir_ir.specs.declared.types.Pack.{Pack}
use Rattle.mlir_ir.specs.Names.{is_digit}
use Rattle.mlir_ir.specs.Values as values
use Rattle.mlir_ir.specs.Words.{type_text}
use Rattle.mlir_ir.specs.Canonical.{Naming}
use Rattle.round_trip.specs.Pieces.{Piece, empty, gap, leaf, branch, beside, ◌<>◌}
use Rattle.round_trip.specs.Matching.{Matches, laid, m_end, m_token, m_line, m_region, m_nothing, m_both, m_left, m_right, m_again, m_enough}
use Rattle.round_trip.specs.CanonicalPieces.{word, mark, blank, name_piece, colon, braced, bracketed_piece, joined_piece, behind_commas_piece, type_piece, types_piece, results_piece, results_list_piece, arrow_piece, arrow_list_piece, arg_piece, params_piece, value_piece, use_piece, used_type_piece, uses_piece, used_types_piece, ends_piece, pack_piece, packs_piece, overflow_piece, flags_piece, signed_piece, truth_piece, number_piece, constant_piece, one_type}
use Rattle.round_trip.specs.Sound.{Each, IsType, IsArg, IsPack, Finds, OneType}
use Rattle.round_trip.proofs.PartedPieces.{decimal_digits, IsDigits, IsSmall, reading_small}

-- right sides in turn
abbrev pub flat : Pattern → List Pattern → List Pattern
flat nothing ss = nothing ∷ ss
flat (one c) ss = one c ∷ ss
flat (line f) ss = line f ∷ ss
flat (both a b) ss = flat a (b ∷ ss)
flat (either a b) ss = either a b ∷ ss
flat (many a) ss = many a ∷ ss
flat (region a) ss = region a ∷ ss

pub m_flat : {n : ℕ} {ds : List Piece} (p : Pattern) (ss : List Pattern) → Matches n (flat p ss) ds → Matches n (p ∷ ss) ds
m_flat nothing ss m = m
m_flat (one c) ss m = m
m_flat (line f) ss m = m
m_flat (both a b) ss m = m_both (m_flat a (b ∷ ss) m)
m_flat (either a b) ss m = m
m_flat (many a) ss m = m
m_flat (region a) ss m = m

-- the piece stands for the right side, whatever follows
abbrev pub Stands : ℕ → Pattern → Piece → Type 0
Stands n p x = (ss : List Pattern) (ds : List Piece) → Matches n ss ds → Matches n (p ∷ ss) (laid x ds)

pub s_line : (n : ℕ) (f : Form) (parts : Piece) → Stands n (body f) parts → Stands n (line f) (branch f parts)
s_line n f parts h ss ds m = m_line (h [] [] m_end) m

pub s_left : (n : ℕ) (a b : Pattern) (x : Piece) → Stands n a x → Stands n (either a b) x
s_left n a b x h ss ds m = m_left (h ss ds m)

pub s_right : (n : ℕ) (a b : Pattern) (x : Piece) → Stands n b x → Stands n (either a b) x
s_right n a b x h ss ds m = m_right (h ss ds m)

pub s_none : (n : ℕ) (a : Pattern) → Stands n (maybe a) empty
s_none n a ss ds m = m_right (m_nothing m)

pub laid_append : (x : Piece) (ds es : List Piece) → laid x (ds ++ es) ≡ laid x ds ++ es
laid_append empty ds es = refl
laid_append (gap bytes) ds es = refl
laid_append (leaf kind text) ds es = refl
laid_append (branch form parts) ds es = refl
laid_append (beside x y) ds es = ap (laid x) (laid_append y ds es) ∙ laid_append x (laid y ds) es

pub s_region : (n depth : ℕ) (a : Pattern) (inner : Piece) → n < region_limit → Stands (n + 1) a inner → Stands n (region a) (braced depth inner)
s_region n depth a inner low h ss ds m =
    let close : List Piece = mark (codes "}") ∷ [] in
    let behind : Matches (n + 1) (one ts.RightBrace ∷ []) close = m_token refl m_end in
    m_region {xs = mark (codes "{") ∷ laid inner close} low (m_token refl (h (one ts.RightBrace ∷ []) close behind)) m
    (ap (λ z. mark (codes "{") ∷ z) (laid_append inner close ds))

-- lists parted by commas

pub commas_stand : {A : Type 0} (n : ℕ) (f : A → Piece) (r : Pattern) (P : A → Type 0)
    → ((x : A) → P x → (ss : List Pattern) (ds : List Piece) → Matches n ss ds → Matches n (r ∷ ss) (mark (codes ",") ∷ laid (f x) ds))
    → (xs : List A) → Each P xs → Stands n (many r) (behind_commas_piece (map f xs))
commas_stand n f r P each [] is ss ds m = m_enough m
commas_stand n f r P each (x ∷ xs) is ss ds m = m_again (each x is.0 (many r ∷ ss) _ (commas_stand n f r P each xs is.1 ss ds m))

pub list_stands : {A : Type 0} (n : ℕ) (f : A → Piece) (q : Pattern) (P : A → Type 0) → ((x : A) → P x → Stands n q (f x))
    → (x : A) (xs : List A) → Each P (x ∷ xs) → Stands n (q ~ many (one ts.Comma ~ q)) (joined_piece (map f (x ∷ xs)))
list_stands n f q P each x xs is ss ds m =
    m_both (each x is.0 (many (one ts.Comma ~ q) ∷ ss) _
    (commas_stand n f (one ts.Comma ~ q) P (λ y p rs es k. m_both (m_token refl (each y p rs es k))) xs is.1 ss ds m))

-- types

abbrev pub every : (ℕ → Bool) → ℕ → Bool
every p zero = true
every p (suc n) = p n && every p n

pub every_at : (p : ℕ → Bool) (n k : ℕ) → every p n ≡ true → k < n → p k ≡ true
every_at p zero k h less = absurd (omega arith)
every_at p (suc n) k h less =
    let parts = and_parts (p n) (every p n) h in
    elim (cases_eq k n) [
      | inl same ↦ ap p same ∙ parts.0
      | inr other ↦ every_at p n k parts.1 (omega arith)
    ]

pub all_widths : every (λ k. is_width (decimal (k + 1))) 64 ≡ true
unfolding digits
all_widths = refl

pub width_is : (width : ℕ) → 1 ≤ width → width ≤ 64 → is_width (decimal width) ≡ true
width_is width some within =
    let same : width - 1 + 1 ≡ width = omega arith in
    sym (ap (λ w. is_width (decimal w)) same) ∙ every_at (λ k. is_width (decimal (k + 1))) 64 (width - 1) all_widths (omega arith)

pub type_word : (ty : IrType) → IsType ty → word_terminal (type_text ty) ≡ ts.TypeWord
type_word Index is = refl
type_word (Int width) is =
    let word_is : is_type_word (type_text (Int width)) ≡ true = or_right (bytes_eq (type_text (Int width)) (codes "index")) (is_integer (type_text (Int width))) (width_is width is.0 is.1) in
    let text : List ℕ = type_text (Int width) in
    ap (λ (c : Bool). if c then ts.TypeWord else or_else (arith_terminal text) (or_else (scf_terminal text) (or_else (func_terminal text) (inner_terminal text)))) word_is

pub type_stands : (n : ℕ) (ty : IrType) → IsType ty → Stands n (line forms.TypeName) (type_piece ty)
type_stands n ty is ss ds m = m_line (m_token (type_word ty is) m_end) m

pub types_stand : (n : ℕ) (tys : List IrType) → Each IsType tys → Stands n (maybe (line forms.Types)) (types_piece tys)
types_stand n [] is = s_none n (line forms.Types)
types_stand n (ty ∷ tys) is =
    s_left n (line forms.Types) nothing (types_piece (ty ∷ tys))
    (s_line n forms.Types (joined_piece (map type_piece (ty ∷ tys))) (list_stands n type_piece (line forms.TypeName) IsType (type_stands n) ty tys is))

pub results_list_stand : (n : ℕ) (tys : List IrType) → Each IsType tys → Stands n (line forms.Results) (results_list_piece tys)
results_list_stand n tys is =
    s_line n forms.Results (bracketed_piece (types_piece tys))
    (λ ss ds m. m_right (m_flat (one ts.LeftParen ~ maybe (line forms.Types) ~ one ts.RightParen) ss (m_token refl (types_stand n tys is _ _ (m_token refl m)))))

pub results_stand : (n : ℕ) (tys : List IrType) → Each IsType tys → Stands n (line forms.Results) (results_piece tys)
results_stand n [] is = results_list_stand n [] is
results_stand n (ty ∷ []) is =
    s_line n forms.Results (type_piece ty) (λ ss ds m. m_left (type_stands n ty is.0 ss ds m))
results_stand n (ty ∷ t ∷ tys) is = results_list_stand n (ty ∷ t ∷ tys) is

pub arrow_stands : (n : ℕ) (tys : List IrType) → Each IsType tys → Stands n (maybe (one ts.Arrow ~ line forms.Results)) (arrow_piece tys)
arrow_stands n [] is = s_none n (one ts.Arrow ~ line forms.Results)
arrow_stands n (ty ∷ tys) is = λ ss ds m. m_left (m_both (m_token refl (results_stand n (ty ∷ tys) is ss ds m)))

pub arrow_list_stands : (n : ℕ) (tys : List IrType) → Each IsType tys → Stands n (maybe (one ts.Arrow ~ line forms.Results)) (arrow_list_piece tys)
arrow_list_stands n [] is = s_none n (one ts.Arrow ~ line forms.Results)
arrow_list_stands n (ty ∷ tys) is = λ ss ds m. m_left (m_both (m_token refl (results_list_stand n (ty ∷ tys) is ss ds m)))

-- arguments and values

pub params_line : (n : ℕ) (arg : Arg) (args : List Arg) → Each IsArg (arg ∷ args) → Stands n (line forms.Params) (params_piece (arg ∷ args))
params_line n arg args is =
    s_line n forms.Params (joined_piece (map arg_piece (arg ∷ args)))
    (λ ss ds m. m_flat (body forms.Params) ss (m_token refl (m_token refl (type_stands n arg.ty is.0.1 _ _
    (commas_stand n arg_piece (one ts.Comma ~ one ts.Value ~ one ts.Colon ~ line forms.TypeName) IsArg
    (λ x p rs es k. m_flat (one ts.Comma ~ one ts.Value ~ one ts.Colon ~ line forms.TypeName) rs (m_token refl (m_token refl (m_token refl (type_stands n x.ty p.1 rs es k)))))
    args is.1 ss ds m)))))

pub params_stand : (n : ℕ) (args : List Arg) → Each IsArg args → Stands n (maybe (line forms.Params)) (params_piece args)
params_stand n [] is = s_none n (line forms.Params)
params_stand n (arg ∷ args) is = λ ss ds m. m_left (params_line n arg args is ss ds m)

pub value_stands : (n : ℕ) (value : values.Value) → Stands n (line forms.Use) (value_piece value)
value_stands n value = s_line n forms.Use (name_piece value.name <> (if nat_lt 1 value.count then leaf Pick (codes "#" ++ decimal value.place) else empty)) (go (nat_lt 1 value.count))
  where
    go : (c : Bool) → Stands n (body forms.Use) (name_piece value.name <> (if c then leaf Pick (codes "#" ++ decimal value.place) else empty))
    go true = λ ss ds m. m_both (m_token refl (m_left (m_token refl m)))
    go false = λ ss ds m. m_both (m_token refl (m_right (m_nothing m)))

pub use_stands : (n : ℕ) (naming : Naming) (label : Label) → Finds naming label → Stands n (line forms.Use) (use_piece naming label)
use_stands n naming label is = subst (λ o. Stands n (line forms.Use) (option_map_or value_piece o empty)) (sym is.found) (value_stands n is.value)

pub used_type_stands : (n : ℕ) (naming : Naming) (label : Label) → Finds naming label → Stands n (line forms.TypeName) (used_type_piece naming label)
used_type_stands n naming label is =
    subst (λ o. Stands n (line forms.TypeName) (option_map_or type_piece (option_map (λ v. v.ty) o) empty)) (sym is.found) (type_stands n is.value.ty is.ty)

pub uses_line : (n : ℕ) (naming : Naming) (label : Label) (labels : List Label) → Each (Finds naming) (label ∷ labels) → Stands n (line forms.Uses) (uses_piece naming (label ∷ labels))
uses_line n naming label labels is =
    s_line n forms.Uses (joined_piece (map (use_piece naming) (label ∷ labels))) (list_stands n (use_piece naming) (line forms.Use) (Finds naming) (use_stands n naming) label labels is)

pub used_types_line : (n : ℕ) (naming : Naming) (label : Label) (labels : List Label) → Each (Finds naming) (label ∷ labels) → Stands n (line forms.Types) (used_types_piece naming (label ∷ labels))
used_types_line n naming label labels is =
    s_line n forms.Types (joined_piece (map (used_type_piece naming) (label ∷ labels))) (list_stands n (used_type_piece naming) (line forms.TypeName) (Finds naming) (used_type_stands n naming) label labels is)

pub uses_stand : (n : ℕ) (naming : Naming) (labels : List Label) → Each (Finds naming) labels → Stands n (maybe (line forms.Uses)) (uses_piece naming labels)
uses_stand n naming [] is = s_none n (line forms.Uses)
uses_stand n naming (label ∷ labels) is = λ ss ds m. m_left (uses_line n naming label labels is ss ds m)

pub used_types_stand : (n : ℕ) (naming : Naming) (labels : List Label) → Each (Finds naming) labels → Stands n (maybe (line forms.Types)) (used_types_piece naming labels)
used_types_stand n naming [] is = s_none n (line forms.Types)
used_types_stand n naming (label ∷ labels) is = λ ss ds m. m_left (used_types_line n naming label labels is ss ds m)

pub ends_stand : (n : ℕ) (naming : Naming) (labels : List Label) → Each (Finds naming) labels → Stands n (maybe (line forms.Ends)) (ends_piece naming labels)
ends_stand n naming [] is = s_none n (line forms.Ends)
ends_stand n naming (label ∷ labels) is = λ ss ds m. m_left (m_line
    (m_flat (body forms.Ends) [] (uses_line n naming label labels is _ _ (m_token refl (used_types_line n naming label labels is _ _ m_end)))) m)

-- numbers

pub digit_no_x : (e : ℕ) → is_digit e ≡ true → (e == 120) ≡ false
digit_no_x e h = grind (arith, nat_tests)

pub digits_decimal : (ds : List ℕ) → IsDigits ds → number_terminal ds ≡ ts.Decimal
digits_decimal [] h = refl
digits_decimal (d ∷ []) h = refl
digits_decimal (d ∷ e ∷ ds) h =
    let rest = and_parts (is_digit d) (list_all is_digit (e ∷ ds)) h in
    let second = (and_parts (is_digit e) (list_all is_digit ds) rest.1).0 in
    ap (λ (c : Bool). if c then ts.Hexadecimal else ts.Decimal) (digit_no_x e second)

pub number_is : (v : ℕ) → v < 2 ^ 64 → number_terminal (decimal v) ≡ ts.Decimal
number_is v small = digits_decimal (decimal v) (decimal_digits v small)

abbrev pub number_pattern : Pattern
number_pattern = maybe (one ts.Minus) ~ either (one ts.Decimal) (one ts.Hexadecimal) ~ one ts.Colon ~ line forms.TypeName

pub signed_stands : (n : ℕ) (z : ℤ) (ty : IrType) → IsSmall z → IsType ty → Stands n number_pattern (signed_piece z <> blank <> colon <> blank <> type_piece ty)
signed_stands n (pos v) ty small is = λ ss ds m. m_flat number_pattern ss (m_right (m_nothing (m_left (m_token (number_is v small) (m_token refl (type_stands n ty is ss ds m))))))
signed_stands n (negsuc v) ty small is = λ ss ds m. m_flat number_pattern ss (m_left (m_token refl (m_left (m_token (number_is (suc v) small) (m_token refl (type_stands n ty is ss ds m))))))

pub truth_stands : (n v : ℕ) → Stands n (one ts.Truth) (truth_piece v)
truth_stands n v = go (v == 0)
  where
    go : (c : Bool) → Stands n (one ts.Truth) (if c then word (codes "false") else word (codes "true"))
    go true = λ ss ds m. m_token refl m
    go false = λ ss ds m. m_token refl m

pub constant_stands : (n v : ℕ) (tys : List IrType) → OneType tys → v < 2 ^ 64 → Stands n (either number_pattern (one ts.Truth)) (constant_piece v tys)
constant_stands n v [] ty small = absurd ty
constant_stands n v (Index ∷ []) ty small = λ ss ds m. m_left (signed_stands n (signed_reading 64 v) Index (reading_small 64 v (omega arith) (omega arith) small) tt ss ds m)
constant_stands n v (Int width ∷ []) ty small = go (width == 1)
  where
    go : (c : Bool) → Stands n (either number_pattern (one ts.Truth)) (if c then truth_piece v else number_piece width v (Int width))
    go true = λ ss ds m. m_right (truth_stands n v ss ds m)
    go false = λ ss ds m. m_left (signed_stands n (signed_reading width v) (Int width) (reading_small width v ty.0 ty.1 small) ty ss ds m)
constant_stands n v (t ∷ u ∷ tys) ty small = absurd ty

pub one_stands : (n : ℕ) (tys : List IrType) → OneType tys → Stands n (line forms.TypeName) (one_type tys)
one_stands n [] ty = absurd ty
one_stands n (t ∷ []) ty = type_stands n t ty
one_stands n (t ∷ u ∷ tys) ty = absurd ty

-- packs and flags

pub pack_stands : (n : ℕ) (pack : Pack) → IsPack pack → Stands n (line forms.Pack) (pack_piece pack)
pack_stands n pack is = s_line n forms.Pack (name_piece pack.name <> (if nat_lt 1 pack.count then colon <> leaf Number (decimal pack.count) else empty)) (go (nat_lt 1 pack.count))
  where
    go : (c : Bool) → Stands n (body forms.Pack) (name_piece pack.name <> (if c then colon <> leaf Number (decimal pack.count) else empty))
    go true = λ ss ds m. m_both (m_token refl (m_left (m_both (m_token refl (m_token (number_is pack.count is.1) m)))))
    go false = λ ss ds m. m_both (m_token refl (m_right (m_nothing m)))

abbrev pub packs_pattern : Pattern
packs_pattern = line forms.Pack ~ many (one ts.Comma ~ line forms.Pack) ~ one ts.Equals

pub packs_stand : (n : ℕ) (packs : List Pack) → Each IsPack packs → Stands n (maybe packs_pattern) (packs_piece packs)
packs_stand n [] is = s_none n packs_pattern
packs_stand n (pack ∷ packs) is = λ ss ds m. m_left (m_both
    (list_stands n pack_piece (line forms.Pack) IsPack (pack_stands n) pack packs is (one ts.Equals ∷ ss) (mark (codes "=") ∷ ds) (m_token refl m)))

abbrev pub nsw_pattern : Pattern
nsw_pattern = either (one ts.Nsw ~ maybe (one ts.Comma ~ one ts.Nuw)) (one ts.Nuw ~ maybe (one ts.Comma ~ one ts.Nsw))

pub overflow_stands : (n : ℕ) (x : Piece) → Stands n nsw_pattern x → Stands n (maybe (line forms.Flags)) (overflow_piece x)
overflow_stands n x h = λ ss ds m. m_left (m_line (m_flat (body forms.Flags) [] (m_token refl (m_token refl (h _ _ (m_token refl m_end))))) m)

pub flags_stand : (n : ℕ) (flags : Flags) → Stands n (maybe (line forms.Flags)) (flags_piece flags)
flags_stand n flags = go flags.nsw flags.nuw
  where
    go : (nsw nuw : Bool) → Stands n (maybe (line forms.Flags)) (flags_piece (record { nsw = nsw; nuw = nuw }))
    go true true = overflow_stands n (word (codes "nsw") <> mark (codes ",") <> blank <> word (codes "nuw")) (λ ss ds m. m_left (m_both (m_token refl (m_left (m_both (m_token refl (m_token refl m)))))))
    go true false = overflow_stands n (word (codes "nsw")) (λ ss ds m. m_left (m_both (m_token refl (m_right (m_nothing m)))))
    go false true = overflow_stands n (word (codes "nuw")) (λ ss ds m. m_right (m_both (m_token refl (m_right (m_nothing m)))))
    go false false = s_none n (line forms.Flags)

pub no_flags : (flags : Flags) → (flags.nsw ≡ false) × (flags.nuw ≡ false) → flags_piece flags ≡ empty
no_flags flags h = rw (h.0, h.1) refl
