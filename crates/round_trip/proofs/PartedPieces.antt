-- Pieces are parted: each token ends where it ends. Names, types, uses, results and literals.
use Rattle.std.proofs.Common.{suc, ◌≡◌, ℕ, ℤ, pos, negsuc, ◌+◌, ◌-◌, ◌%◌, ◌^◌, ◌<◌, ◌≤◌, ◌==◌, ◌&&◌, not, Bool, true, false, List, [], ◌∷◌, ◌++◌, refl, ap, ◌∙◌, sym, subst, codes, map, nat_lt, if◌then◌else◌, arith, inl, inr, append_assoc, lt-ltb, le-ltb}
use Rattle.std.specs.List.{list_all}
use Rattle.std.specs.Str.{bytes_eq}
use Rattle.std.specs.Fmt.{decimal}
use Rattle.std.proofs.Math.Nat.{pow-le-pow_right}
use Rattle.std.proofs.lemmas.Nat.{pow_pos}
use Rattle.std.proofs.lemmas.Bool.{and_from, and_parts, cases_lt}
use Rattle.std.proofs.lemmas.Bool.Decides.{nat_tests}
use Rattle.std.proofs.lemmas.Fmt.{decimal_by_steps}
use Rattle.std.proofs.lemmas.List.Folds.{list_all-append}
use Rattle.arith_word.specs.Word.{signed_reading}
use Rattle.arith_word.specs.declared.label.Label.{Label}
use Rattle.mlir_ir.specs.declared.token.TokenKind.{TokenKind}
use Rattle.mlir_ir.specs.declared.token.TokenKind.TheVariants.{Word, Value, Symbol, Caret, Pick, Number, Mark}
use Rattle.mlir_ir.specs.declared.types.Arg.{Arg}
use Rattle.mlir_ir.specs.declared.types.Flags.{Flags}
use Rattle.mlir_ir.specs.declared.types.IrType.{IrType}
use Rattle.mlir_ir.specs.declared.types.IrType.TheVariants.{Int, Index}
use Rattle.mlir_ir.specs.declared.types.Pack.{Pack}
use Rattle.mlir_ir.specs.Names.{is_digit, is_name_byte, is_name}
use Rattle.mlir_ir.specs.Tokens.{is_word_byte, is_token, is_decimal, is_blank, is_next}
use Rattle.mlir_ir.specs.Values as values
use Rattle.mlir_ir.specs.Values.{value_at, type_at}
use Rattle.mlir_ir.specs.Canonical.{Naming}
use Rattle.round_trip.specs.Pieces.{Piece, empty, gap, leaf, branch, beside, ◌<>◌, spelled, stops, ends, parted}
use Rattle.round_trip.specs.CanonicalPieces.{word, mark, blank, name_piece, colon, joined_piece, behind_commas_piece, type_piece, types_piece, results_piece, results_list_piece, arrow_piece, arrow_list_piece, arg_piece, params_piece, value_piece, use_piece, used_type_piece, uses_piece, used_types_piece, ends_piece, pack_piece, packs_piece, flags_piece, signed_piece, truth_piece, number_piece, constant_piece, one_type}
use Rattle.round_trip.specs.Sound.{Each, IsType, IsName, IsArg, IsPack, Finds, OneType}

-- whether the first byte goes on with no name, where that is so of what follows
abbrev pub first_stops : List ℕ → Bool → Bool
first_stops [] after = after
first_stops (b ∷ bs) after = not (is_name_byte b)

abbrev pub leads : Piece → Bool → Bool
leads empty after = after
leads (gap bytes) after = first_stops bytes after
leads (leaf kind text) after = first_stops text after
leads (branch form parts) after = leads parts after
leads (beside x y) after = leads x (leads y after)

-- a minus wants a name's byte behind it, any other mark nothing, any other token no name's byte
abbrev pub closes : TokenKind → List ℕ → Bool → Bool
closes Mark text after = not (bytes_eq text (codes "-") && after)
closes _ text after = after

abbrev pub apart : Piece → Bool → Bool
apart empty after = true
apart (gap bytes) after = list_all is_blank bytes
apart (leaf kind text) after = is_token kind text && closes kind text after
apart (branch form parts) after = apart parts after
apart (beside x y) after = apart x (leads y after) && apart y after

pub first_stops_is : (bytes rest : List ℕ) → stops (bytes ++ rest) ≡ first_stops bytes (stops rest)
first_stops_is [] rest = refl
first_stops_is (b ∷ bs) rest = refl

pub leads_is : (p : Piece) (rest : List ℕ) → stops (spelled p ++ rest) ≡ leads p (stops rest)
leads_is empty rest = refl
leads_is (gap bytes) rest = first_stops_is bytes rest
leads_is (leaf kind text) rest = first_stops_is text rest
leads_is (branch form parts) rest = leads_is parts rest
leads_is (beside x y) rest = ap stops (append_assoc (spelled x) (spelled y) rest) ∙ leads_is x (spelled y ++ rest) ∙ ap (leads x) (leads_is y rest)

pub no_arrow : (minus : Bool) (rest : List ℕ) → not (minus && stops rest) ≡ true → not (minus && is_next 62 rest) ≡ true
no_arrow false rest h = refl
no_arrow true [] h = refl
no_arrow true (b ∷ bs) h = grind (arith, nat_tests)

pub closes_ends : (kind : TokenKind) (text rest : List ℕ) → closes kind text (stops rest) ≡ true → ends kind text rest ≡ true
closes_ends Word text rest h = h
closes_ends Value text rest h = h
closes_ends Symbol text rest h = h
closes_ends Caret text rest h = h
closes_ends Pick text rest h = h
closes_ends Number text rest h = h
closes_ends Mark text rest h = no_arrow (bytes_eq text (codes "-")) rest h

pub apart_parted : (p : Piece) (rest : List ℕ) → apart p (stops rest) ≡ true → parted p rest ≡ true
apart_parted empty rest h = refl
apart_parted (gap bytes) rest h = h
apart_parted (leaf kind text) rest h =
    let parts = and_parts (is_token kind text) (closes kind text (stops rest)) h in
    and_from (is_token kind text) (ends kind text rest) parts.0 (closes_ends kind text rest parts.1)
apart_parted (branch form parts) rest h = apart_parted parts rest h
apart_parted (beside x y) rest h =
    let parts = and_parts (apart x (leads y (stops rest))) (apart y (stops rest)) h in
    and_from (parted x (spelled y ++ rest)) (parted y rest)
    (apart_parted x (spelled y ++ rest) (subst (λ b. apart x b ≡ true) (sym (leads_is y rest)) parts.0)) (apart_parted y rest parts.1)

-- numbers

pub digit_passes : (d : ℕ) → d < 10 → is_digit (48 + d) ≡ true
digit_passes d h = grind (arith, nat_tests)

-- digits, and at least one
abbrev pub IsDigits : List ℕ → Type 0
IsDigits ds = is_decimal ds ≡ true

pub more_digits : (ds : List ℕ) (d : ℕ) → IsDigits ds → is_digit d ≡ true → IsDigits (ds ++ d ∷ [])
more_digits [] d h k = rw k refl
more_digits (e ∷ ds) d h k =
    let parts = and_parts (is_digit e) (list_all is_digit ds) h in
    and_from (is_digit e) (list_all is_digit (ds ++ d ∷ [])) parts.0 (list_all-append is_digit ds (d ∷ []) ∙ rw (parts.1, k) refl)

pub decimal_digits : (n : ℕ) → n < 2 ^ 64 → IsDigits (decimal n)
decimal_digits n h =
    decimal_by_steps
    (λ n ds. IsDigits ds)
    (λ n lt. rw (digit_passes n lt) refl)
    (λ n ds ge k. more_digits ds (48 + n % 10) k (digit_passes (n % 10) (omega arith)))
    n
    h

pub digit_word : (b : ℕ) → is_digit b ≡ true → is_word_byte b ≡ true
digit_word b h = grind (arith, nat_tests)

pub digit_name : (b : ℕ) → is_digit b ≡ true → not (is_name_byte b) ≡ false
digit_name b h = grind (arith, nat_tests)

pub all_word : (ds : List ℕ) → list_all is_digit ds ≡ true → list_all is_word_byte ds ≡ true
all_word [] h = refl
all_word (d ∷ ds) h =
    let parts = and_parts (is_digit d) (list_all is_digit ds) h in and_from (is_word_byte d) (list_all is_word_byte ds) (digit_word d parts.0) (all_word ds parts.1)

pub digits_word : (ds : List ℕ) → IsDigits ds → list_all is_word_byte ds ≡ true
digits_word [] h = refl
digits_word (d ∷ ds) h = all_word (d ∷ ds) h

pub digits_first : (ds : List ℕ) (after : Bool) → IsDigits ds → first_stops ds after ≡ false
digits_first [] after h = cc
digits_first (d ∷ ds) after h = digit_name d (and_parts (is_digit d) (list_all is_digit ds) h).0

pub number_apart : (n : ℕ) → n < 2 ^ 64 → apart (leaf Number (decimal n)) true ≡ true
number_apart n h = rw (decimal_digits n h) refl

pub pick_apart : (n : ℕ) → n < 2 ^ 64 → apart (leaf Pick (codes "#" ++ decimal n)) true ≡ true
pick_apart n h = rw (decimal_digits n h) refl

-- types and names

pub type_apart : (ty : IrType) → IsType ty → apart (type_piece ty) true ≡ true
type_apart Index is = refl
type_apart (Int width) is = let small : width < 2 ^ 64 = omega arith in rw (digits_word (decimal width) (decimal_digits width small)) refl

pub name_apart : (name : List ℕ) → IsName name → apart (name_piece name) true ≡ true
name_apart name is = rw is refl

pub symbol_apart : (name : List ℕ) → IsName name → apart (leaf Symbol (codes "@" ++ name)) true ≡ true
symbol_apart name is = rw is refl

-- lists parted by commas

pub behind_leads : (ps : List Piece) → leads (behind_commas_piece ps) true ≡ true
behind_leads [] = refl
behind_leads (p ∷ ps) = refl

pub behind_apart : {A : Type 0} (f : A → Piece) (P : A → Type 0) → ((x : A) → P x → apart (f x) true ≡ true) → (xs : List A) → Each P xs → apart (behind_commas_piece (map f xs)) true ≡ true
behind_apart f P each [] is = refl
behind_apart f P each (x ∷ xs) is = rw (behind_leads (map f xs), each x is.0, behind_apart f P each xs is.1) refl

pub joined_apart : {A : Type 0} (f : A → Piece) (P : A → Type 0) → ((x : A) → P x → apart (f x) true ≡ true) → (xs : List A) → Each P xs → apart (joined_piece (map f xs)) true ≡ true
joined_apart f P each [] is = refl
joined_apart f P each (x ∷ xs) is = rw (behind_leads (map f xs), each x is.0, behind_apart f P each xs is.1) refl

pub types_apart : (tys : List IrType) → Each IsType tys → (after : Bool) → apart (types_piece tys) true ≡ true
types_apart [] is after = refl
types_apart (ty ∷ tys) is after = joined_apart type_piece IsType type_apart (ty ∷ tys) is

pub results_list_apart : (tys : List IrType) → Each IsType tys → (after : Bool) → apart (results_list_piece tys) after ≡ true
results_list_apart tys is after = rw (types_apart tys is true) refl

pub results_apart : (tys : List IrType) → Each IsType tys → apart (results_piece tys) true ≡ true
results_apart [] is = refl
results_apart (ty ∷ []) is = type_apart ty is.0
results_apart (ty ∷ t ∷ tys) is = results_list_apart (ty ∷ t ∷ tys) is true

pub arrow_apart : (tys : List IrType) → Each IsType tys → apart (arrow_piece tys) true ≡ true
arrow_apart [] is = refl
arrow_apart (ty ∷ tys) is = results_apart (ty ∷ tys) is

pub arrow_leads : (tys : List IrType) → leads (arrow_piece tys) true ≡ true
arrow_leads [] = refl
arrow_leads (ty ∷ tys) = refl

pub arrow_list_apart : (tys : List IrType) → Each IsType tys → apart (arrow_list_piece tys) true ≡ true
arrow_list_apart [] is = refl
arrow_list_apart (ty ∷ tys) is = results_list_apart (ty ∷ tys) is true

pub arrow_list_leads : (tys : List IrType) → leads (arrow_list_piece tys) true ≡ true
arrow_list_leads [] = refl
arrow_list_leads (ty ∷ tys) = refl

pub arg_apart : (arg : Arg) → IsArg arg → apart (arg_piece arg) true ≡ true
arg_apart arg is = rw (name_apart arg.name is.0, type_apart arg.ty is.1) refl

pub params_apart : (args : List Arg) → Each IsArg args → apart (params_piece args) true ≡ true
params_apart [] is = refl
params_apart (arg ∷ args) is = joined_apart arg_piece IsArg arg_apart (arg ∷ args) is

pub value_apart : (value : values.Value) → is_name value.name ≡ true → value.place < 2 ^ 64 → apart (value_piece value) true ≡ true
value_apart value is small = go (nat_lt 1 value.count)
  where
    go : (c : Bool) → apart (name_piece value.name <> (if c then leaf Pick (codes "#" ++ decimal value.place) else empty)) true ≡ true
    go true = rw (is, pick_apart value.place small) refl
    go false = rw is refl

pub use_apart : (naming : Naming) (label : Label) → Finds naming label → apart (use_piece naming label) true ≡ true
use_apart naming label is = rw is.found (value_apart is.value is.name is.place)

pub used_type_apart : (naming : Naming) (label : Label) → Finds naming label → apart (used_type_piece naming label) true ≡ true
used_type_apart naming label is = rw is.found (type_apart is.value.ty is.ty)

pub uses_apart : (naming : Naming) (labels : List Label) → Each (Finds naming) labels → apart (uses_piece naming labels) true ≡ true
uses_apart naming [] is = refl
uses_apart naming (label ∷ labels) is = joined_apart (use_piece naming) (Finds naming) (use_apart naming) (label ∷ labels) is

pub used_types_apart : (naming : Naming) (labels : List Label) → Each (Finds naming) labels → apart (used_types_piece naming labels) true ≡ true
used_types_apart naming [] is = refl
used_types_apart naming (label ∷ labels) is = joined_apart (used_type_piece naming) (Finds naming) (used_type_apart naming) (label ∷ labels) is

pub ends_apart : (naming : Naming) (labels : List Label) → Each (Finds naming) labels → apart (ends_piece naming labels) true ≡ true
ends_apart naming [] is = refl
ends_apart naming (label ∷ labels) is =
    and_from _ _ (uses_apart naming (label ∷ labels) is) (used_types_apart naming (label ∷ labels) is)

pub ends_leads : (naming : Naming) (labels : List Label) → leads (ends_piece naming labels) true ≡ true
ends_leads naming [] = refl
ends_leads naming (label ∷ labels) = refl

-- whatever stands behind
abbrev pub Free : Piece → Type 0
Free p = (after : Bool) → apart p after ≡ true

pub pack_apart : (pack : Pack) → IsPack pack → apart (pack_piece pack) true ≡ true
pack_apart pack is = go (nat_lt 1 pack.count)
  where
    go : (c : Bool) → apart (name_piece pack.name <> (if c then colon <> leaf Number (decimal pack.count) else empty)) true ≡ true
    go true = rw (is.0, number_apart pack.count is.1) refl
    go false = rw is.0 refl

pub packs_of : (j : Piece) → apart j true ≡ true → Free (j <> blank <> mark (codes "=") <> blank)
packs_of j h = λ after. rw h refl

pub packs_apart : (packs : List Pack) → Each IsPack packs → Free (packs_piece packs)
packs_apart [] is = λ after. refl
packs_apart (pack ∷ packs) is = packs_of (joined_piece (map pack_piece (pack ∷ packs))) (joined_apart pack_piece IsPack pack_apart (pack ∷ packs) is)

pub flags_apart : (flags : Flags) → apart (flags_piece flags) true ≡ true
flags_apart flags = go flags.nsw flags.nuw
  where
    go : (nsw nuw : Bool) → apart (flags_piece (record { nsw = nsw; nuw = nuw })) true ≡ true
    go true true = refl
    go true false = refl
    go false true = refl
    go false false = refl

pub flags_leads : (flags : Flags) → leads (flags_piece flags) true ≡ true
flags_leads flags = go flags.nsw flags.nuw
  where
    go : (nsw nuw : Bool) → leads (flags_piece (record { nsw = nsw; nuw = nuw })) true ≡ true
    go true true = refl
    go true false = refl
    go false true = refl
    go false false = refl

-- constants

abbrev pub IsSmall : ℤ → Type 0
IsSmall (pos n) = n < 2 ^ 64
IsSmall (negsuc n) = suc n < 2 ^ 64

pub reading_small : (width v : ℕ) → 1 ≤ width → width ≤ 64 → v < 2 ^ 64 → IsSmall (signed_reading width v)
reading_small width v some within small =
    let few : 2 ^ width ≤ 2 ^ 64 = pow-le-pow_right (omega arith) within in
    elim (cases_lt v (2 ^ (width - 1))) [
      | inl low ↦ rw (lt-ltb v (2 ^ (width - 1)) low) small
      | inr high ↦ let half : 0 < 2 ^ (width - 1) = pow_pos (width - 1) in
          let top : suc (2 ^ width - 1 - v) < 2 ^ 64 = omega arith in
          rw (le-ltb v (2 ^ (width - 1)) high) top
    ]

pub signed_apart : (z : ℤ) → IsSmall z → apart (signed_piece z) true ≡ true
signed_apart (pos n) small = number_apart n small
signed_apart (negsuc n) small =
    let digits = decimal_digits (suc n) small in rw (digits_first (decimal (suc n)) true digits, number_apart (suc n) small) refl

pub number_of : (s t : Piece) → apart s true ≡ true → apart t true ≡ true → apart (s <> blank <> colon <> blank <> t) true ≡ true
number_of s t hs ht = rw (hs, ht) refl

pub truth_apart : (v : ℕ) → apart (truth_piece v) true ≡ true
truth_apart v = go (v == 0)
  where
    go : (c : Bool) → apart (if c then word (codes "false") else word (codes "true")) true ≡ true
    go true = refl
    go false = refl

pub constant_apart : (v : ℕ) (tys : List IrType) → OneType tys → v < 2 ^ 64 → apart (constant_piece v tys) true ≡ true
constant_apart v [] one small = absurd one
constant_apart v (Index ∷ []) one small =
    number_of (signed_piece (signed_reading 64 v)) (type_piece Index) (signed_apart (signed_reading 64 v) (reading_small 64 v (omega arith) (omega arith) small)) refl
constant_apart v (Int width ∷ []) one small = go (width == 1)
  where
    go : (c : Bool) → apart (if c then truth_piece v else number_piece width v (Int width)) true ≡ true
    go true = truth_apart v
    go false =
        number_of (signed_piece (signed_reading width v)) (type_piece (Int width)) (signed_apart (signed_reading width v) (reading_small width v one.0 one.1 small)) (type_apart (Int width) one)
constant_apart v (ty ∷ t ∷ tys) one small = absurd one

pub one_apart : (tys : List IrType) → OneType tys → apart (one_type tys) true ≡ true
one_apart [] one = absurd one
one_apart (ty ∷ []) one = type_apart ty one
one_apart (ty ∷ t ∷ tys) one = absurd one
