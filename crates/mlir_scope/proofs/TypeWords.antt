-- The words of types, and the numbers of their digits.
use Rattle.std.proofs.Common.{◌≡◌, ℕ, ◌+◌, ◌*◌, nat_le, ◌≤◌, List, [], ◌∷◌, length, drop, codes, slice_get, if◌then◌else◌, Bool, true, false, ◌||◌, ◌&&◌, ◌==◌, ◌⊎◌, inl, inr, min, Option, Some, None, refl, ap, ◌∙◌, sym, arith}
use Rattle.std.proofs.lemmas.Bool.Decides.{nat_tests}
use Rattle.std.specs.Char.{digit_value}
use Rattle.std.specs.Str.{bytes_eq}
use Rattle.std.specs.Str.Parse.{digits_value}
use Rattle.mlir_ir.specs.GrammarNumbers.{same, same_form}
use Rattle.mlir_ir.specs.Phrases.{Phrase, line, Spot, spots, first_spot, phrase_of, with_token}
use Rattle.mlir_ir.specs.Terminals.{terminal_of, kind_terminal, number_terminal, mark_terminal, arith_terminal, scf_terminal, func_terminal, flag_terminal, inner_terminal, or_else, is_type_word, is_integer, is_width, is_flagged_binary, is_binary, is_cast, is_predicate, is_return, is_call, is_truth}
use Rattle.mlir_ir.specs.Tokens.{is_next}
use Rattle.mlir_ir.specs.Source.{type_named}
use Rattle.mlir_ir.specs.Words.{bits_of}
use Rattle.mlir_ir.specs.Trees.{Forest, none, node}
use Rattle.mlir_ir.specs.declared.types.IrType.TheVariants.{Int, Index}
use Rattle.mlir_ir.specs.declared.token.Token.{Token}
use Rattle.mlir_ir.specs.declared.token.TokenKind.{TokenKind}
use Rattle.mlir_ir.specs.declared.token.TokenKind.TheVariants as kinds
use Rattle.mlir_ir.specs.declared.terminal.Terminal.{Terminal}
use Rattle.mlir_ir.specs.declared.terminal.Terminal.TheVariants.{TypeWord, OtherWord}
use Rattle.mlir_ir.specs.declared.syntax.Form.TheVariants.{Leaf}

record Other (c : Terminal) : Type 0 where
  no : same TypeWord c ≡ false

test : (b : Bool) (x y : Terminal) → Other x → Other y → Other (if b then x else y)
test true x y h g = h
test false x y h g = g

or_other : (x y : Terminal) → Other x → Other y → Other (or_else x y)
or_other OtherWord y h g = g
or_other x y h g = h

other : {c : Terminal} → same TypeWord c ≡ false → Other c
other h = record { no = h }

arith_other : (w : List ℕ) → Other (arith_terminal w)
arith_other w =
    test (is_flagged_binary w) _ _ (other refl)
    (test (is_binary w) _ _ (other refl)
    (test (bytes_eq w (codes "arith.constant")) _ _ (other refl)
    (test (bytes_eq w (codes "arith.cmpi")) _ _ (other refl)
    (test (bytes_eq w (codes "arith.select")) _ _ (other refl)
    (test (bytes_eq w (codes "arith.trunci")) _ _ (other refl)
    (test (is_cast w) _ _ (other refl) (other refl)))))))

scf_other : (w : List ℕ) → Other (scf_terminal w)
scf_other w =
    test (bytes_eq w (codes "scf.yield")) _ _ (other refl)
    (test (bytes_eq w (codes "scf.for")) _ _ (other refl)
    (test (bytes_eq w (codes "scf.if")) _ _ (other refl)
    (test (bytes_eq w (codes "scf.while")) _ _ (other refl)
    (test (bytes_eq w (codes "scf.condition")) _ _ (other refl) (other refl)))))

func_other : (w : List ℕ) → Other (func_terminal w)
func_other w =
    test (is_return w) _ _ (other refl)
    (test (is_call w) _ _ (other refl)
    (test (bytes_eq w (codes "func.func")) _ _ (other refl)
    (test (bytes_eq w (codes "private")) _ _ (other refl)
    (test (bytes_eq w (codes "module")) _ _ (other refl) (other refl)))))

flag_other : (w : List ℕ) → Other (flag_terminal w)
flag_other w =
    test (bytes_eq w (codes "overflow")) _ _ (other refl)
    (test (bytes_eq w (codes "nsw")) _ _ (other refl)
    (test (bytes_eq w (codes "nuw")) _ _ (other refl)
    (test (is_predicate w) _ _ (other refl) (other refl))))

inner_other : (w : List ℕ) → Other (inner_terminal w)
inner_other w =
    test (bytes_eq w (codes "to")) _ _ (other refl)
    (test (bytes_eq w (codes "step")) _ _ (other refl)
    (test (bytes_eq w (codes "iter_args")) _ _ (other refl)
    (test (bytes_eq w (codes "else")) _ _ (other refl)
    (test (bytes_eq w (codes "do")) _ _ (other refl)
    (test (is_truth w) _ _ (other refl) (flag_other w))))))

number_other : (w : List ℕ) → Other (number_terminal w)
number_other w = test (is_next 120 (drop 1 w)) _ _ (other refl) (other refl)

mark_other : (w : List ℕ) → Other (mark_terminal w)
mark_other w =
    test (bytes_eq w (codes "(")) _ _ (other refl)
    (test (bytes_eq w (codes ")")) _ _ (other refl)
    (test (bytes_eq w (codes "{")) _ _ (other refl)
    (test (bytes_eq w (codes "}")) _ _ (other refl)
    (test (bytes_eq w (codes ",")) _ _ (other refl)
    (test (bytes_eq w (codes ":")) _ _ (other refl)
    (test (bytes_eq w (codes "=")) _ _ (other refl)
    (test (bytes_eq w (codes "->")) _ _ (other refl)
    (test (bytes_eq w (codes "<")) _ _ (other refl)
    (test (bytes_eq w (codes ">")) _ _ (other refl) (other refl))))))))))

word_type : (b : Bool) (x : Terminal) → Other x → same TypeWord (if b then TypeWord else x) ≡ true → b ≡ true
word_type true x h e = refl
word_type false x h e = sym h.no ∙ e

kind_type : (k : TokenKind) (w : List ℕ) → same TypeWord (kind_terminal k w) ≡ true → is_type_word w ≡ true
kind_type kinds.Word w e =
    word_type (is_type_word w) _ (or_other (arith_terminal w) _ (arith_other w) (or_other (scf_terminal w) _ (scf_other w) (or_other (func_terminal w) _ (func_other w) (inner_other w)))) e
kind_type kinds.Number w e = let h = number_other w in cc (h.no, e)
kind_type kinds.Mark w e = let h = mark_other w in cc (h.no, e)
kind_type kinds.Value w e = cc
kind_type kinds.Symbol w e = cc
kind_type kinds.Caret w e = cc
kind_type kinds.Pick w e = cc

-- nothing, or the word of a type
abbrev IsTyped : List ℕ → Type 0
IsTyped w = (w ≡ []) ⊎ (is_type_word w ≡ true)

one_typed : (b : Bool) (at : ℕ) (w : List ℕ) (found : List Spot) → (b ≡ true → is_type_word w ≡ true) → IsTyped (first_spot found).text
    → IsTyped (first_spot (if b then record { at = at; text = w } ∷ found else found)).text
one_typed true at w found h g = inr (h refl)
one_typed false at w found h g = g

typed_at : (ts : List Token) (o : Option Token) (at : ℕ) (rest : Phrase) → IsTyped (first_spot (spots TypeWord rest)).text → IsTyped (first_spot (spots TypeWord (with_token at o rest))).text
typed_at ts None at rest h = h
typed_at ts (Some t) at rest h = one_typed (same TypeWord (terminal_of t)) at t.text (spots TypeWord rest) (kind_type t.kind t.text) h

typed_either : (b : Bool) (x y : Phrase) → IsTyped (first_spot (spots TypeWord x)).text → IsTyped (first_spot (spots TypeWord y)).text → IsTyped (first_spot (spots TypeWord (if b then x else y))).text
typed_either true x y h g = h
typed_either false x y h g = g

typed : (ts : List Token) (f : Forest) → IsTyped (first_spot (spots TypeWord (phrase_of ts f))).text
typed ts none = inl refl
typed ts (node form at parts rest) =
    typed_either (same_form form Leaf) (with_token at (slice_get ts at) (phrase_of ts rest)) (line form at (phrase_of ts parts) (phrase_of ts rest))
    (typed_at ts (slice_get ts at) at (phrase_of ts rest) (typed ts rest)) (typed ts rest)

or_right : (a b : Bool) → (a || b) ≡ true → a ≡ false → b ≡ true
or_right true b h e = cc
or_right false b h e = h

and_last : (a b : Bool) → (a && b) ≡ true → b ≡ true
and_last true b h = h
and_last false b h = cc

width_short : (ds : List ℕ) → is_width ds ≡ true → length ds ≤ 2
width_short [] h = cc
width_short (d ∷ []) h = omega arith
width_short (d ∷ e ∷ []) h = omega arith
width_short (d ∷ e ∷ f ∷ rest) h = cc

integer_short : (w : List ℕ) → is_integer w ≡ true → length (drop 1 w) ≤ 2
integer_short [] h = cc
integer_short (b ∷ bs) h = width_short bs (and_last (b == 105) (is_width bs) h)

word_short : (w : List ℕ) → IsTyped w → bytes_eq w (codes "index") ≡ false → length (drop 1 w) ≤ 2
word_short w (inl e) h = rw e (omega arith)
word_short w (inr e) h = integer_short w (or_right (bytes_eq w (codes "index")) (is_integer w) e h)

digit_most : (d : ℕ) → digit_value d ≤ 36
digit_most d = grind (arith, nat_tests)

digits_few : (ds : List ℕ) → length ds ≤ 2 → digits_value 10 ds ≤ 396
digits_few [] h = omega arith
digits_few (d ∷ []) h = omega (arith, digit_most d)
digits_few (d ∷ e ∷ []) h = omega (arith, digit_most d, digit_most e)
digits_few (d ∷ e ∷ f ∷ rest) h = absurd (omega arith)

-- the number of a type that isn't `index`
pub width_least : (ts : List Token) (f : Forest) → bytes_eq (first_spot (spots TypeWord (phrase_of ts f))).text (codes "index") ≡ false
    → digits_value 10 (drop 1 (first_spot (spots TypeWord (phrase_of ts f))).text) ≤ 396
width_least ts f h = digits_few _ (word_short _ (typed ts f) h)

-- the type of a word that isn't `index`, by the number of its digits
pub type_is : (ts : List Token) (f : Forest) (text index digits : List ℕ) (tested : Bool) (n most : ℕ)
    → text ≡ (first_spot (spots TypeWord (phrase_of ts f))).text → index ≡ codes "index" → tested ≡ bytes_eq text index → tested ≡ false
    → digits ≡ drop 1 text → n ≡ min (digits_value 10 digits) most → 396 ≤ most
    → (n ≤ 396) × (Int n ≡ type_named (first_spot (spots TypeWord (phrase_of ts f))).text)
type_is ts f text index digits tested n most word_is index_is test_is failed behind n_is large =
    let word = (first_spot (spots TypeWord (phrase_of ts f))).text in
    let other_word : bytes_eq word (codes "index") ≡ false = ap (λ w. bytes_eq w (codes "index")) (sym word_is) ∙ ap (bytes_eq text) (sym index_is) ∙ sym test_is ∙ failed in
    let least = width_least ts f other_word in
    let same_digits : digits ≡ drop 1 word = behind ∙ ap (drop 1) word_is in
    let cut : n ≡ min (digits_value 10 (drop 1 word)) most = n_is ∙ ap (λ ds. min (digits_value 10 ds) most) same_digits in
    let exact : n ≡ digits_value 10 (drop 1 word) = omega arith in
    (omega arith, ap Int exact ∙ sym (ap (λ b. if b then Index else Int (digits_value 10 (drop 1 word))) other_word))

digit_small : (d : ℕ) → (nat_le 49 d && nat_le d 57) ≡ true → digit_value d ≤ 9
digit_small d h = grind (arith, nat_tests)

two_digits : (d e : ℕ) → ((nat_le 49 d && nat_le d 53 && nat_le 48 e && nat_le e 57) || (d == 54 && nat_le 48 e && nat_le e 52)) ≡ true
    → digit_value d * 10 + digit_value e ≤ 64
two_digits d e h = grind (arith, nat_tests)

width_small : (ds : List ℕ) → is_width ds ≡ true → digits_value 10 ds ≤ 64
width_small [] h = cc
width_small (d ∷ []) h = omega (arith, digit_small d h)
width_small (d ∷ e ∷ []) h = omega (arith, two_digits d e h)
width_small (d ∷ e ∷ f ∷ rest) h = cc

integer_small : (w : List ℕ) → is_integer w ≡ true → digits_value 10 (drop 1 w) ≤ 64
integer_small [] h = cc
integer_small (b ∷ bs) h = width_small bs (and_last (b == 105) (is_width bs) h)

word_small : (w : List ℕ) → IsTyped w → bytes_eq w (codes "index") ≡ false → digits_value 10 (drop 1 w) ≤ 64
word_small w (inl e) h = rw e (omega arith)
word_small w (inr e) h = integer_small w (or_right (bytes_eq w (codes "index")) (is_integer w) e h)

narrow_either : (b : Bool) (n : ℕ) → (b ≡ false → n ≤ 64) → bits_of (if b then Index else Int n) ≤ 64
narrow_either true n h = omega arith
narrow_either false n h = h refl

-- no written type is wider than `index`
pub narrow_type : (ts : List Token) (f : Forest) → bits_of (type_named (first_spot (spots TypeWord (phrase_of ts f))).text) ≤ 64
narrow_type ts f = narrow_either _ _ (word_small (first_spot (spots TypeWord (phrase_of ts f))).text (typed ts f))
