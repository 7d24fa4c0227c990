-- The types of simple operations' results, and calls, as the resolver reads their canonical pieces.
use Rattle.std.proofs.Common.{suc, ◌≡◌, ℕ, ℤ, pos, negsuc, ◌^◌, ◌<◌, ◌≤◌, ◌==◌, Bool, true, false, List, [], ◌∷◌, refl, ap, ◌∙◌, sym, subst, codes, drop, map, if◌then◌else◌, arith, slice_index_or}
use Rattle.std.proofs.lemmas.Bool.Decides.{nat_tests}
use Rattle.std.proofs.Math.Pow.{pow_mono}
use Rattle.arith_word.specs.Word.{signed_reading}
use Rattle.arith_word.specs.declared.label.Label.{Label}
use Rattle.mlir_ir.specs.Operations as plain
use Rattle.mlir_ir.specs.Phrases.{Phrase, done, token, line}
use Rattle.mlir_ir.specs.Resolved.{labels, tys, place_named}
use Rattle.mlir_ir.specs.Rules.{may_wrap, may_lose, truth}
use Rattle.mlir_ir.specs.Source.{head, op_types, types_in, listed_uses}
use Rattle.mlir_ir.specs.Values.{Value}
use Rattle.mlir_ir.specs.Words.{bin_text, cast_text, bits_of}
use Rattle.mlir_ir.specs.declared.terminal.Terminal.TheVariants as ts
use Rattle.mlir_ir.specs.declared.syntax.Form.TheVariants as forms
use Rattle.mlir_ir.specs.declared.types.Flags.{Flags}
use Rattle.mlir_ir.specs.declared.types.IrType.{IrType}
use Rattle.mlir_ir.specs.declared.types.IrType.TheVariants.{Int, Index}
use Rattle.mlir_ir.specs.declared.types.Kind.{Const, Bin, Cast, Cmp, Select, Call}
use Rattle.round_trip.specs.CanonicalPieces.{word, flags_piece, signed_piece, number_piece, truth_piece, simple_piece, kind_piece}
use Rattle.round_trip.specs.Flat.{other_label}
use Rattle.round_trip.specs.PiecePhrases.{said}
use Rattle.round_trip.specs.Pieces.{Piece}
use Rattle.round_trip.specs.Readable.{Reading, ReadsLabels, IsLiteral, ReadableKind}
use Rattle.round_trip.specs.ReadUses.{ReadsAs}
use Rattle.round_trip.specs.Sound.{Each, IsType}
use Rattle.round_trip.proofs.PartedPieces.{IsSmall, reading_small}
use Rattle.round_trip.proofs.StandingPieces.{number_is}
use Rattle.round_trip.proofs.CanonicalTrees.{bin_terminal, cast_terminal}
use Rattle.round_trip.proofs.ReadLists.{joined_uses, cons_is, type_is, results_list_read, bare_result_read}
use Rattle.round_trip.proofs.ReadRows.{KindRead}
use Rattle.round_trip.proofs.ReadSimple.{ReadsSimple, bin_read, cast_read, compare_read, select_read, constant_read, bits_some}
use Rattle.round_trip.proofs.ReadUses.{type_parts}

flags_types : (m : ℕ) (nsw nuw : Bool) (rest : Phrase) → types_in (said m (flags_piece (record { nsw = nsw; nuw = nuw })) rest) ≡ types_in rest
flags_types m true true rest = refl
flags_types m true false rest = refl
flags_types m false true rest = refl
flags_types m false false rest = refl

-- the results' types, written by these operations

abbrev pub TypesSaid : ℕ → Piece → List IrType → Type 0
TypesSaid k piece results = let p = said k piece done in tys (op_types (head p) p) ≡ results

bin_typed : (flagged : Bool) (at : ℕ) (w : List ℕ) (i : ℕ) (a : Phrase) (j k : ℕ) (b : Phrase) (m : ℕ) (flags : Flags) (x y : ℕ) (ty : IrType) → IsType ty
    → let p = token at (if flagged then ts.FlaggedBinary else ts.Binary) w (line forms.Use i a (token j ts.Comma (codes ",") (line forms.Use k b (said m (flags_piece flags) (token x ts.Colon (codes ":") (line forms.TypeName y (type_parts y ty) done)))))) in
    tys (op_types (head p) p) ≡ ty ∷ []
bin_typed true at w i a j k b m flags x y ty is = ap tys (flags_types m flags.nsw flags.nuw _) ∙ cons_is (type_is y 0 ty is) refl
bin_typed false at w i a j k b m flags x y ty is = ap tys (flags_types m flags.nsw flags.nuw _) ∙ cons_is (type_is y 0 ty is) refl

bin_types : (r : Reading) (scope : List Value) (ty : IrType) (op : _) (flags : Flags) (a b c d : Label) (k : ℕ) → IsType ty → ReadsAs r.naming scope a c → ReadsAs r.naming scope b d → TypesSaid k (simple_piece r.naming (ty ∷ []) (Bin op flags a b)) (ty ∷ [])
bin_types r scope ty op flags a b c d k is ra rb = rw (ra.found, rb.found, bin_terminal op) (bin_typed (may_wrap op) k (bin_text op) _ _ _ _ _ _ flags _ _ ty is)

cast_typed : (flagged : Bool) (at : ℕ) (w : List ℕ) (i : ℕ) (a : Phrase) (m : ℕ) (flags : Flags) (x y z u : ℕ) (s : Phrase) (ty : IrType) → IsType ty
    → let p = token at (if flagged then ts.FlaggedCast else ts.Cast) w (line forms.Use i a (said m (flags_piece flags) (token x ts.Colon (codes ":") (line forms.TypeName y s (token z ts.To (codes "to") (line forms.TypeName u (type_parts u ty) done)))))) in
    tys (op_types (head p) p) ≡ ty ∷ []
cast_typed true at w i a m flags x y z u s ty is = ap (λ ps. tys (drop 1 ps)) (flags_types m flags.nsw flags.nuw _) ∙ cons_is (type_is u 0 ty is) refl
cast_typed false at w i a m flags x y z u s ty is = ap (λ ps. tys (drop 1 ps)) (flags_types m flags.nsw flags.nuw _) ∙ cons_is (type_is u 0 ty is) refl

cast_types : (r : Reading) (scope : List Value) (ty : IrType) (op : _) (flags : Flags) (a c : Label) (k : ℕ) → IsType ty → ReadsAs r.naming scope a c → TypesSaid k (simple_piece r.naming (ty ∷ []) (Cast op flags a)) (ty ∷ [])
cast_types r scope ty op flags a c k is ra = rw (ra.found, cast_terminal op) (cast_typed (may_lose op) k (cast_text op) _ _ _ flags _ _ _ _ _ ty is)

select_types : (r : Reading) (scope : List Value) (ty : IrType) (x a b z c d : Label) (k : ℕ) → IsType ty → ReadsAs r.naming scope x z → ReadsAs r.naming scope a c → ReadsAs r.naming scope b d
    → TypesSaid k (simple_piece r.naming (ty ∷ []) (Select x a b)) (ty ∷ [])
select_types r scope ty x a b z c d k is rx ra rb = rw (rx.found, ra.found, rb.found) (cons_is (type_is _ 0 ty is) refl)

compare_types : (r : Reading) (scope : List Value) (pred : _) (a b c d : Label) (k : ℕ) → ReadsAs r.naming scope a c → ReadsAs r.naming scope b d → TypesSaid k (simple_piece r.naming (truth ∷ []) (Cmp pred a b)) (truth ∷ [])
compare_types r scope pred a b c d k ra rb = refl

number_typed : (at i j k : ℕ) (w : List ℕ) (z : ℤ) (ty : IrType) → IsSmall z → IsType ty
    → let p = token at ts.Constant w (said i (signed_piece z) (token j ts.Colon (codes ":") (line forms.TypeName k (type_parts k ty) done))) in
    tys (op_types ts.Constant p) ≡ ty ∷ []
number_typed at i j k w (pos n) ty small is = rw (number_is n small) (cons_is (type_is k 0 ty is) refl)
number_typed at i j k w (negsuc n) ty small is = rw (number_is (suc n) small) (cons_is (type_is k 0 ty is) refl)

number_types : (ty : IrType) (v at i : ℕ) → IsType ty → v < 2 ^ bits_of ty
    → tys (op_types ts.Constant (token at ts.Constant (codes "arith.constant") (said i (number_piece (bits_of ty) v ty) done))) ≡ ty ∷ []
number_types ty v at i is small =
    let b = bits_some ty is in
    let most : 2 ^ bits_of ty ≤ 2 ^ 64 = pow_mono b.1 in
    number_typed at i _ _ (codes "arith.constant") (signed_reading (bits_of ty) v) ty (reading_small (bits_of ty) v b.0 b.1 (omega arith)) is

truth_types : (v at i : ℕ) → tys (op_types ts.Constant (token at ts.Constant (codes "arith.constant") (said i (truth_piece v) done))) ≡ Int 1 ∷ []
truth_types v at i = go (v == 0)
  where
    go : (c : Bool) → tys (op_types ts.Constant (token at ts.Constant (codes "arith.constant") (said i (if c then word (codes "false") else word (codes "true")) done))) ≡ Int 1 ∷ []
    go true = refl
    go false = refl

constant_types : (r : Reading) (ty : IrType) (v k : ℕ) → IsType ty → v < 2 ^ bits_of ty → TypesSaid k (simple_piece r.naming (ty ∷ []) (Const v)) (ty ∷ [])
constant_types r Index v k is small = number_types Index v k _ is small
constant_types r (Int width) v k is small = go _ (width == 1) refl
  where
    go : (j : ℕ) (c : Bool) → (width == 1) ≡ c
        → tys (op_types ts.Constant (token k ts.Constant (codes "arith.constant") (said j (if c then truth_piece v else number_piece width v (Int width)) done))) ≡ Int width ∷ []
    go j true e = truth_types v k j ∙ (let one : 1 ≡ width = grind (arith, nat_tests) in ap (λ (w : ℕ). Int w ∷ []) one)
    go j false e = number_types (Int width) v k j is small

-- calls

pub call_types : (r : Reading) (func : ℕ) (uses : List Label) (results : List IrType) (k : ℕ) → Each IsType results → TypesSaid k (simple_piece r.naming results (Call func uses)) results
call_types r func [] [] k is = refl
call_types r func [] (ty ∷ []) k is = bare_result_read _ ty is.0
call_types r func [] (ty ∷ other ∷ more) k is = results_list_read _ (ty ∷ other ∷ more) is
call_types r func (l ∷ ls) [] k is = refl
call_types r func (l ∷ ls) (ty ∷ []) k is = bare_result_read _ ty is.0
call_types r func (l ∷ ls) (ty ∷ other ∷ more) k is = results_list_read _ (ty ∷ other ∷ more) is

call_uses : (r : Reading) (scope : List Value) (f : Label → Label) (func : ℕ) (uses : List Label) (results : List IrType) (k : ℕ) → Each (λ l. ReadsAs r.naming scope l (f l)) uses
    → labels scope (listed_uses (said k (simple_piece r.naming results (Call func uses)) done)) ≡ map f uses
call_uses r scope f func [] [] k is = refl
call_uses r scope f func [] (ty ∷ []) k is = refl
call_uses r scope f func [] (ty ∷ other ∷ more) k is = refl
call_uses r scope f func (l ∷ ls) results k is = joined_uses r.naming scope f _ (l ∷ ls) is

call_read : (r : Reading) (scope : List Value) (func : ℕ) (uses : List Label) (results : List IrType) → ReadsLabels r scope uses → place_named (slice_index_or r.naming.funcs func []) r.naming.funcs ≡ func
    → ReadsSimple r.naming.funcs r.naming scope results (Call func uses) (plain.Call func (map (other_label r.other) uses))
call_read r scope func uses results is e at n one two = λ i. plain.Simple (plain.Call (e i) (call_uses r scope (other_label r.other) func uses results at is i))

-- all operations without regions

-- the reading of no region
abbrev nothing_in : List Value → ℕ → plain.OpList
nothing_in scope at = plain.nil

pub const_kind : (r : Reading) (scope : List Value) (at depth v : ℕ) (results : List IrType) → IsLiteral v results → KindRead r scope at results (Const v) (kind_piece r.naming depth results (Const v))
unfolding kind_piece
const_kind r scope at depth v [] is = absurd is
const_kind r scope at depth v (ty ∷ []) is = λ k. record { types = constant_types r ty v k is.0 is.1; does = constant_read r.naming.funcs r.naming scope ty v is.0 is.1 k at nothing_in nothing_in }
const_kind r scope at depth v (ty ∷ other ∷ more) is = absurd is

pub bin_kind : (r : Reading) (scope : List Value) (at depth : ℕ) (op : _) (flags : Flags) (a b : Label) (results : List IrType) → ReadableKind r scope at results (Bin op flags a b)
    → KindRead r scope at results (Bin op flags a b) (kind_piece r.naming depth results (Bin op flags a b))
unfolding kind_piece
bin_kind r scope at depth op flags a b [] is = absurd is.0
bin_kind r scope at depth op flags a b (ty ∷ []) is = λ k. record { types = bin_types r scope ty op flags a b _ _ k is.0 is.2 is.3; does = bin_read r.naming.funcs r.naming scope ty op flags a b _ _ is.1 is.2 is.3 k at _ _ }
bin_kind r scope at depth op flags a b (ty ∷ other ∷ more) is = absurd is.0

pub cast_kind : (r : Reading) (scope : List Value) (at depth : ℕ) (op : _) (flags : Flags) (a : Label) (results : List IrType) → ReadableKind r scope at results (Cast op flags a)
    → KindRead r scope at results (Cast op flags a) (kind_piece r.naming depth results (Cast op flags a))
unfolding kind_piece
cast_kind r scope at depth op flags a [] is = absurd is.0
cast_kind r scope at depth op flags a (ty ∷ []) is = λ k. record { types = cast_types r scope ty op flags a _ k is.0 is.2; does = cast_read r.naming.funcs r.naming scope ty op flags a _ is.1 is.2 k at _ _ }
cast_kind r scope at depth op flags a (ty ∷ other ∷ more) is = absurd is.0

pub select_kind : (r : Reading) (scope : List Value) (at depth : ℕ) (c a b : Label) (results : List IrType) → ReadableKind r scope at results (Select c a b)
    → KindRead r scope at results (Select c a b) (kind_piece r.naming depth results (Select c a b))
unfolding kind_piece
select_kind r scope at depth c a b [] is = absurd is.0
select_kind r scope at depth c a b (ty ∷ []) is = λ k. record { types = select_types r scope ty c a b _ _ _ k is.0 is.1 is.2 is.3; does = select_read r.naming.funcs r.naming scope ty c a b _ _ _ is.1 is.2 is.3 k at nothing_in nothing_in }
select_kind r scope at depth c a b (ty ∷ other ∷ more) is = absurd is.0

pub cmp_kind : (r : Reading) (scope : List Value) (at depth : ℕ) (pred : _) (a b : Label) (results : List IrType) → ReadableKind r scope at results (Cmp pred a b)
    → KindRead r scope at results (Cmp pred a b) (kind_piece r.naming depth results (Cmp pred a b))
unfolding kind_piece
cmp_kind r scope at depth pred a b results is =
    subst (λ (tys : List IrType). KindRead r scope at tys (Cmp pred a b) (kind_piece r.naming depth tys (Cmp pred a b))) (sym is.0)
    (λ k. record { types = compare_types r scope pred a b _ _ k is.1 is.2; does = compare_read r.naming.funcs r.naming scope pred (truth ∷ []) a b _ _ is.1 is.2 k at nothing_in nothing_in })

pub call_kind : (r : Reading) (scope : List Value) (at depth func : ℕ) (uses : List Label) (results : List IrType) → ReadableKind r scope at results (Call func uses)
    → KindRead r scope at results (Call func uses) (kind_piece r.naming depth results (Call func uses))
unfolding kind_piece
call_kind r scope at depth func uses results is = λ k. record { types = call_types r func uses results k is.0; does = call_read r scope func uses results is.1 is.2 k at nothing_in nothing_in }
