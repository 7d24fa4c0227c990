-- Bytes that pass a test of ASCII bytes alone are a text; names are such bytes.
use Rattle.std.proofs.Common.{suc, zero, ◌≡◌, ℕ, ◌<◌, Bool, true, false, nat_lt, List, [], ◌∷◌, take, refl, sym, ◌∙◌, arith, inl, inr, get_or, IsUtf8}
use Rattle.std.specs.List.{list_all}
use Rattle.std.proofs.lemmas.Bool.{cases_Bool, and_from, and_parts, ltb-true}
use Rattle.std.proofs.lemmas.Bool.Decides.{nat_tests}
use Rattle.std.proofs.lemmas.Str.{IsUtf8-from_ascii}
use Rattle.mlir_ir.specs.Names.{is_digit, is_name_byte, is_name}

abbrev pub is_low : ℕ → Bool
is_low b = nat_lt b 128

-- bytes that pass a test which only ASCII bytes pass
pub all_low : (p : ℕ → Bool) → ((b : ℕ) → p b ≡ true → is_low b ≡ true) → (bs : List ℕ) → list_all p bs ≡ true → list_all is_low bs ≡ true
all_low p low [] all = refl
all_low p low (b ∷ bs) all =
    let parts = and_parts (p b) (list_all p bs) all in
    and_from (is_low b) (list_all is_low bs) (low b parts.0) (all_low p low bs parts.1)

pub digit_low : (b : ℕ) → is_digit b ≡ true → is_low b ≡ true
digit_low b is = grind (arith, nat_tests)

pub name_low : (b : ℕ) → is_name_byte b ≡ true → is_low b ≡ true
name_low b is = grind (arith, nat_tests)

pub name_all_low : (bs : List ℕ) → is_name bs ≡ true → list_all is_low bs ≡ true
name_all_low [] is = refl
name_all_low (b ∷ bs) is =
    elim (cases_Bool (is_digit b)) [
      | inl digit ↦ and_from (is_low b) (list_all is_low bs) (digit_low b digit) (all_low is_digit digit_low bs (rw digit at is))
      | inr no_digit ↦ all_low is_name_byte name_low (b ∷ bs) (sym (name_of b bs no_digit) ∙ is)
    ]
  where
    name_of : (b : ℕ) (bs : List ℕ) → is_digit b ≡ false → is_name (b ∷ bs) ≡ list_all is_name_byte (b ∷ bs)
    name_of b bs no_digit = rw no_digit refl

low_at : (bs : List ℕ) → list_all is_low bs ≡ true → (i : ℕ) → get_or bs i 0 < 128
low_at [] all i = omega arith
low_at (b ∷ bs) all zero = ltb-true b 128 (and_parts (is_low b) (list_all is_low bs) all).0
low_at (b ∷ bs) all (suc i) = low_at bs (and_parts (is_low b) (list_all is_low bs) all).1 i

low_front : (bs : List ℕ) (len : ℕ) → list_all is_low bs ≡ true → list_all is_low (take len bs) ≡ true
low_front bs zero all = refl
low_front [] (suc len) all = refl
low_front (b ∷ bs) (suc len) all =
    let parts = and_parts (is_low b) (list_all is_low bs) all in
    and_from (is_low b) (list_all is_low (take len bs)) parts.0 (low_front bs len parts.1)

-- ASCII bytes are a text
pub low_utf8 : (bs : List ℕ) → list_all is_low bs ≡ true → IsUtf8 bs
low_utf8 bs all = IsUtf8-from_ascii bs (low_at bs all)

-- a front of ASCII bytes is a text
pub front_utf8 : (bs : List ℕ) (len : ℕ) → list_all is_low bs ≡ true → IsUtf8 (take len bs)
front_utf8 bs len all = low_utf8 (take len bs) (low_front bs len all)
