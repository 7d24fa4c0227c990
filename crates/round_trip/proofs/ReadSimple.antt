-- Operations without regions as the resolver reads their canonical pieces.
use Rattle.std.proofs.Common.{suc, zero, ◌≡◌, ℕ, ℤ, pos, negsuc, ◌-◌, ◌^◌, ◌%◌, ◌<◌, ◌≤◌, ◌==◌, Bool, true, false, List, [], ◌∷◌, refl, ap, ◌∙◌, subst, codes, if◌then◌else◌, inl, inr, arith}
use Rattle.std.proofs.lemmas.Bool.{cases_lt}
use Rattle.std.proofs.lemmas.Nat.{pow_pos}
use Rattle.std.proofs.Math.Nat.{mod-eq_of_lt}
use Rattle.std.proofs.Common.{lt-ltb, le-ltb}
use Rattle.std.proofs.Math.Pow.{pow_mono}
use Rattle.std.proofs.lemmas.Bool.Decides.{nat_tests}
use Rattle.arith_word.specs.Word.{signed_reading}
use Rattle.arith_word.specs.declared.label.Label.{Label}
use Rattle.arith_word.specs.declared.op.BinOp.{BinOp}
use Rattle.arith_word.specs.declared.op.CastOp.{CastOp}
use Rattle.arith_word.specs.declared.op.Pred.{Pred}
use Rattle.mlir_ir.specs.Canonical.{Naming}
use Rattle.mlir_ir.specs.Operations as plain
use Rattle.mlir_ir.specs.Phrases.{Phrase, done, token, line}
use Rattle.mlir_ir.specs.Resolved.{label, kind_of, simple_kind, bin_named, cast_named}
use Rattle.mlir_ir.specs.Source.{use_of, head}
use Rattle.mlir_ir.specs.Values.{Value}
use Rattle.mlir_ir.specs.Words.{bin_text, cast_text, bits_of}
use Rattle.mlir_ir.specs.declared.terminal.Terminal.TheVariants as ts
use Rattle.mlir_ir.specs.declared.syntax.Form.TheVariants as forms
use Rattle.mlir_ir.specs.declared.types.Flags.{Flags}
use Rattle.mlir_ir.specs.declared.types.IrType.{IrType}
use Rattle.mlir_ir.specs.declared.types.IrType.TheVariants.{Int, Index}
use Rattle.mlir_ir.specs.Rules.{may_wrap, may_lose}
use Rattle.mlir_ir.specs.declared.types.Kind.{Kind, Const, Bin, Cast, Cmp, Select}
use Rattle.round_trip.specs.CanonicalPieces.{signed_piece, number_piece, truth_piece, flags_piece, simple_piece}
use Rattle.round_trip.specs.PiecePhrases.{said}
use Rattle.round_trip.specs.ReadUses.{ReadsAs}
use Rattle.round_trip.specs.Sound.{IsType, HaveFlags}
use Rattle.round_trip.proofs.StandingPieces.{number_is, type_word}
use Rattle.round_trip.proofs.CanonicalTrees.{bin_terminal, cast_terminal, pred_terminal}
use Rattle.round_trip.proofs.PartedPieces.{IsSmall, reading_small}
use Rattle.round_trip.proofs.ReadUses.{type_parts, label_read}
use Rattle.round_trip.proofs.WrittenWords.{bin_back, cast_back, pred_back, decimal_back, type_back}

-- the label of the use that stands in that line
abbrev used_in : List Value → ℕ → Phrase → Label
used_in scope i parts = label scope (use_of (record { at = i; parts = parts }))

-- a binary operation, by the parts of its phrase
bin_parts : (funcs : List (List ℕ)) (scope : List Value) (n : ℕ) (one two : List Value → ℕ → plain.OpList) (flagged : Bool) (at : ℕ) (w : List ℕ) (i : ℕ) (a : Phrase) (j k : ℕ) (b : Phrase) (m : ℕ) (nsw nuw : Bool) (x y : ℕ) (t : Phrase) → HaveFlags flagged (record { nsw = nsw; nuw = nuw })
    → let phrase = token at (if flagged then ts.FlaggedBinary else ts.Binary) w (line forms.Use i a (token j ts.Comma (codes ",") (line forms.Use k b (said m (flags_piece (record { nsw = nsw; nuw = nuw })) (token x ts.Colon (codes ":") (line forms.TypeName y t done)))))) in
    kind_of funcs scope n (head phrase) phrase one two ≡ plain.Simple (plain.Bin (bin_named w) (record { nsw = nsw; nuw = nuw }) (used_in scope i a) (used_in scope k b))
bin_parts funcs scope n one two true at w i a j k b m true true x y t h = refl
bin_parts funcs scope n one two true at w i a j k b m true false x y t h = refl
bin_parts funcs scope n one two true at w i a j k b m false true x y t h = refl
bin_parts funcs scope n one two true at w i a j k b m false false x y t h = refl
bin_parts funcs scope n one two false at w i a j k b m true true x y t h = cc
bin_parts funcs scope n one two false at w i a j k b m true false x y t h = cc
bin_parts funcs scope n one two false at w i a j k b m false true x y t h = cc
bin_parts funcs scope n one two false at w i a j k b m false false x y t h = refl

cast_parts : (funcs : List (List ℕ)) (scope : List Value) (n : ℕ) (one two : List Value → ℕ → plain.OpList) (flagged : Bool) (at : ℕ) (w : List ℕ) (i : ℕ) (a : Phrase) (m : ℕ) (nsw nuw : Bool) (x y z u : ℕ) (s t : Phrase) → HaveFlags flagged (record { nsw = nsw; nuw = nuw })
    → let phrase = token at (if flagged then ts.FlaggedCast else ts.Cast) w (line forms.Use i a (said m (flags_piece (record { nsw = nsw; nuw = nuw })) (token x ts.Colon (codes ":") (line forms.TypeName y s (token z ts.To (codes "to") (line forms.TypeName u t done)))))) in
    kind_of funcs scope n (head phrase) phrase one two ≡ plain.Simple (plain.Cast (cast_named w) (record { nsw = nsw; nuw = nuw }) (used_in scope i a))
cast_parts funcs scope n one two true at w i a m true true x y z u s t h = refl
cast_parts funcs scope n one two true at w i a m true false x y z u s t h = refl
cast_parts funcs scope n one two true at w i a m false true x y z u s t h = refl
cast_parts funcs scope n one two true at w i a m false false x y z u s t h = refl
cast_parts funcs scope n one two false at w i a m true true x y z u s t h = cc
cast_parts funcs scope n one two false at w i a m true false x y z u s t h = cc
cast_parts funcs scope n one two false at w i a m false true x y z u s t h = cc
cast_parts funcs scope n one two false at w i a m false false x y z u s t h = refl

-- what an operation without regions says, and the resolver's reading of it
abbrev pub ReadsSimple : List (List ℕ) → Naming → List Value → List IrType → Kind → plain.SimpleOp → Type 0
ReadsSimple funcs naming scope results kind does =
    (at n : ℕ) (one two : List Value → ℕ → plain.OpList) → let phrase = said at (simple_piece naming results kind) done in kind_of funcs scope n (head phrase) phrase one two ≡ plain.Simple does

bin_is : {o p : BinOp} {a b c d : Label} (flags : Flags) → o ≡ p → a ≡ c → b ≡ d → plain.Simple (plain.Bin o flags a b) ≡ plain.Simple (plain.Bin p flags c d)
bin_is flags e f g = λ i. plain.Simple (plain.Bin (e i) flags (f i) (g i))

cast_is : {o p : CastOp} {a c : Label} (flags : Flags) → o ≡ p → a ≡ c → plain.Simple (plain.Cast o flags a) ≡ plain.Simple (plain.Cast p flags c)
cast_is flags e f = λ i. plain.Simple (plain.Cast (e i) flags (f i))

compare_is : {o p : Pred} {a b c d : Label} → o ≡ p → a ≡ c → b ≡ d → plain.Simple (plain.Cmp o a b) ≡ plain.Simple (plain.Cmp p c d)
compare_is e f g = λ i. plain.Simple (plain.Cmp (e i) (f i) (g i))

select_is : {x z a b c d : Label} → x ≡ z → a ≡ c → b ≡ d → plain.Simple (plain.Select x a b) ≡ plain.Simple (plain.Select z c d)
select_is e f g = λ i. plain.Simple (plain.Select (e i) (f i) (g i))

pub bin_read : (funcs : List (List ℕ)) (naming : Naming) (scope : List Value) (ty : IrType) (op : BinOp) (flags : Flags) (a b c d : Label) → HaveFlags (may_wrap op) flags
    → ReadsAs naming scope a c → ReadsAs naming scope b d → ReadsSimple funcs naming scope (ty ∷ []) (Bin op flags a b) (plain.Bin op flags c d)
bin_read funcs naming scope ty op flags a b c d h ra rb at n one two =
    rw (ra.found, rb.found, bin_terminal op)
    (bin_parts funcs scope n one two (may_wrap op) at (bin_text op) _ _ _ _ _ _ flags.nsw flags.nuw _ _ _ h
    ∙ bin_is flags (bin_back op) (label_read naming scope a c ra _ 0) (label_read naming scope b d rb _ 0))

pub cast_read : (funcs : List (List ℕ)) (naming : Naming) (scope : List Value) (ty : IrType) (op : CastOp) (flags : Flags) (a c : Label) → HaveFlags (may_lose op) flags
    → (r : ReadsAs naming scope a c) → ReadsSimple funcs naming scope (ty ∷ []) (Cast op flags a) (plain.Cast op flags c)
cast_read funcs naming scope ty op flags a c h r at n one two =
    rw (r.found, cast_terminal op)
    (cast_parts funcs scope n one two (may_lose op) at (cast_text op) _ _ _ flags.nsw flags.nuw _ _ _ _ _ _ h
    ∙ cast_is flags (cast_back op) (label_read naming scope a c r _ 0))

pub compare_read : (funcs : List (List ℕ)) (naming : Naming) (scope : List Value) (pred : Pred) (results : List IrType) (a b c d : Label)
    → ReadsAs naming scope a c → ReadsAs naming scope b d → ReadsSimple funcs naming scope results (Cmp pred a b) (plain.Cmp pred c d)
compare_read funcs naming scope pred results a b c d ra rb at n one two =
    rw (ra.found, rb.found, pred_terminal pred)
    (compare_is (pred_back pred) (label_read naming scope a c ra _ 0) (label_read naming scope b d rb _ 0))

pub select_read : (funcs : List (List ℕ)) (naming : Naming) (scope : List Value) (ty : IrType) (x a b z c d : Label)
    → ReadsAs naming scope x z → ReadsAs naming scope a c → ReadsAs naming scope b d → ReadsSimple funcs naming scope (ty ∷ []) (Select x a b) (plain.Select z c d)
select_read funcs naming scope ty x a b z c d rx ra rb at n one two =
    rw (rx.found, ra.found, rb.found)
    (select_is (label_read naming scope x z rx _ 0) (label_read naming scope a c ra _ 0) (label_read naming scope b d rb _ 0))

-- literals

-- the unsigned reading of a number with that sign
abbrev of_sign : ℕ → ℤ → ℕ
of_sign w (pos k) = k % 2 ^ w
of_sign w (negsuc k) = (2 ^ w - suc k % 2 ^ w) % 2 ^ w

number_small : (w v : ℕ) → 1 ≤ w → v < 2 ^ w → 2 ^ (w - 1) ≤ v → (2 ^ w - suc (2 ^ w - 1 - v) % 2 ^ w) % 2 ^ w ≡ v
number_small w v some small high =
    let half : 0 < 2 ^ (w - 1) = pow_pos (w - 1) in
    let same : suc (2 ^ w - 1 - v) ≡ 2 ^ w - v = omega arith in
    let low : 2 ^ w - v < 2 ^ w = omega arith in
    let back : 2 ^ w - (2 ^ w - v) ≡ v = omega arith in
    let inner : suc (2 ^ w - 1 - v) % 2 ^ w ≡ 2 ^ w - v = ap (λ k. k % 2 ^ w) same ∙ mod-eq_of_lt low in
    ap (λ k. (2 ^ w - k) % 2 ^ w) inner ∙ ap (λ k. k % 2 ^ w) back ∙ mod-eq_of_lt small

sign_back : (w v : ℕ) → 1 ≤ w → v < 2 ^ w → of_sign w (signed_reading w v) ≡ v
sign_back w v some small = elim (cases_lt v (2 ^ (w - 1))) [
  | inl low ↦ ap (λ (c : Bool). of_sign w (if c then pos v else negsuc (2 ^ w - 1 - v))) (lt-ltb v (2 ^ (w - 1)) low) ∙ mod-eq_of_lt small
  | inr high ↦ ap (λ (c : Bool). of_sign w (if c then pos v else negsuc (2 ^ w - 1 - v))) (le-ltb v (2 ^ (w - 1)) high) ∙ number_small w v some small high
]

-- a number with its sign and its type
number_parts : (funcs : List (List ℕ)) (scope : List Value) (at i j k : ℕ) (w : List ℕ) (z : ℤ) (ty : IrType) → IsSmall z → IsType ty
    → simple_kind funcs scope ts.Constant (token at ts.Constant w (said i (signed_piece z) (token j ts.Colon (codes ":") (line forms.TypeName k (type_parts k ty) done)))) ≡ plain.Const (of_sign (bits_of ty) z)
number_parts funcs scope at i j k w (pos n) ty small is =
    rw (number_is n small, type_word ty is) (λ r. plain.Const (decimal_back n small r % 2 ^ bits_of (type_back ty is r)))
number_parts funcs scope at i j k w (negsuc n) ty small is =
    rw (number_is (suc n) small, type_word ty is) (λ r. plain.Const ((2 ^ bits_of (type_back ty is r) - decimal_back (suc n) small r % 2 ^ bits_of (type_back ty is r)) % 2 ^ bits_of (type_back ty is r)))

pub bits_some : (ty : IrType) → IsType ty → (1 ≤ bits_of ty) × (bits_of ty ≤ 64)
bits_some (Int width) is = is
bits_some Index is = (omega arith, omega arith)

-- a number where it isn't a truth value
number_read : (funcs : List (List ℕ)) (scope : List Value) (ty : IrType) (v at i : ℕ) → IsType ty → v < 2 ^ bits_of ty
    → simple_kind funcs scope ts.Constant (token at ts.Constant (codes "arith.constant") (said i (number_piece (bits_of ty) v ty) done)) ≡ plain.Const v
number_read funcs scope ty v at i is small =
    let b = bits_some ty is in
    let most : 2 ^ bits_of ty ≤ 2 ^ 64 = pow_mono b.1 in
    number_parts funcs scope at i _ _ (codes "arith.constant") (signed_reading (bits_of ty) v) ty (reading_small (bits_of ty) v b.0 b.1 (omega arith)) is
    ∙ ap plain.Const (sign_back (bits_of ty) v b.0 small)

truth_read : (funcs : List (List ℕ)) (scope : List Value) (v at i : ℕ) → v < 2
    → simple_kind funcs scope ts.Constant (token at ts.Constant (codes "arith.constant") (said i (truth_piece v) done)) ≡ plain.Const v
truth_read funcs scope zero at i small = refl
truth_read funcs scope (suc zero) at i small = refl
truth_read funcs scope (suc (suc v)) at i small = absurd (omega arith)

pub constant_read : (funcs : List (List ℕ)) (naming : Naming) (scope : List Value) (ty : IrType) (v : ℕ) → IsType ty → v < 2 ^ bits_of ty → ReadsSimple funcs naming scope (ty ∷ []) (Const v) (plain.Const v)
constant_read funcs naming scope Index v is small at n one two = ap plain.Simple (number_read funcs scope Index v at _ is small)
constant_read funcs naming scope (Int width) v is small at n one two = ap plain.Simple (go _ (width == 1) refl)
  where
    go : (j : ℕ) (c : Bool) → (width == 1) ≡ c
        → simple_kind funcs scope ts.Constant (token at ts.Constant (codes "arith.constant") (said j (if c then truth_piece v else number_piece width v (Int width)) done)) ≡ plain.Const v
    go j true e = truth_read funcs scope v at j (let one : width ≡ 1 = grind (arith, nat_tests) in subst (λ w. v < 2 ^ w) one small)
    go j false e = number_read funcs scope (Int width) v at j is small
