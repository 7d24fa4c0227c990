-- Fresh names are names, no value has one, and they differ.
use Rattle.std.proofs.Common.{◌≡◌, ℕ, zero, suc, ◌+◌, ◌*◌, ◌^◌, ◌<◌, ◌≤◌, inl, inr, ◌||◌, Bool, true, false, List, [], ◌∷◌, drop, length, refl, ap, ◌∙◌, sym, subst, arith}
use Rattle.std.proofs.lemmas.Bool.{cases_Bool, cases_lt}
use Rattle.std.proofs.lemmas.Bool.Decides.{nat_tests}
use Rattle.std.proofs.lemmas.Fmt.{decimal_injective, decimal_is_IsNumeral}
use Rattle.std.proofs.lemmas.Slice.Eq.{bytes_eq-Decides}
use Rattle.std.proofs.lemmas.Str.Parse.{digit_from_value}
use Rattle.std.specs.Fmt.{decimal}
use Rattle.std.specs.List.{list_all}
use Rattle.std.specs.Prelude.{if◌then◌else◌}
use Rattle.std.specs.Str.{bytes_eq}
use Rattle.std.specs.Str.Parse.{AllDigits}
use Rattle.mlir_ir.specs.Names.{is_digit, is_name, is_name_byte}
use Rattle.mlir_ir.specs.declared.types.Func.{Func}
use Rattle.pass_copy.specs.Fresh.{numbered_name, value_names, is_taken, first_free, free_number, fresh_names}

-- they are names

second_or : (a b c d e f : Bool) → b ≡ true → (a || b || c || d || e || f) ≡ true
second_or true b c d e f h = refl
second_or false b c d e f h = rw h refl

digit_named : (c : ℕ) → 48 ≤ c → c ≤ 57 → is_name_byte c ≡ true
digit_named c low high = let e : is_digit c ≡ true = grind (arith, nat_tests) in second_or _ (is_digit c) _ _ _ _ e

digits_named : (ds : List ℕ) → AllDigits 10 ds → list_all is_name_byte ds ≡ true
digits_named [] d = refl
digits_named (c ∷ cs) d = let g = digit_from_value c d.0 in rw (digit_named c (omega (arith, g)) (omega (arith, g)), digits_named cs d.1) refl

pub name_numbered : (n : ℕ) → n < 2 ^ 64 → is_name (numbered_name n) ≡ true
name_numbered n h = digits_named (decimal n) (decimal_is_IsNumeral n h).0.1

-- they differ

eq_names : (xs ys : List ℕ) → (xs ≡ ys → ⊥) → bytes_eq xs ys ≡ false
eq_names xs ys ne = elim (cases_Bool (bytes_eq xs ys)) [
  | inl e ↦ (absurd (ne ((bytes_eq-Decides xs ys).0 e)))
  | inr e ↦ (e)
]

pub numbered_differ : (m n : ℕ) → m < 2 ^ 64 → n < 2 ^ 64 → (m ≡ n → ⊥) → numbered_name m ≡ numbered_name n → ⊥
numbered_differ m n p q ne e = ne (decimal_injective m n p q (ap (drop 1) e))

pub numbered_apart : (m n : ℕ) → m < 2 ^ 64 → n < 2 ^ 64 → (m ≡ n → ⊥) → bytes_eq (numbered_name m) (numbered_name n) ≡ false
numbered_apart m n p q ne = eq_names (numbered_name m) (numbered_name n) (numbered_differ m n p q ne)

-- numbers that aren't taken

abbrev without : List (List ℕ) → ℕ → List (List ℕ)
without [] m = []
without (x ∷ xs) m = if bytes_eq x (numbered_name m) then without xs m else x ∷ without xs m

fewer : (names : List (List ℕ)) (m : ℕ) → length (without names m) ≤ length names
fewer [] m = omega arith
fewer (x ∷ xs) m = elim (cases_Bool (bytes_eq x (numbered_name m))) [
  | inl e ↦ (let h = fewer xs m in rw e (omega (arith, h)))
  | inr e ↦ (let h = fewer xs m in rw e (omega (arith, h)))
]

one_less : (names : List (List ℕ)) (m : ℕ) → is_taken names m ≡ true → length (without names m) < length names
one_less [] m h = cc
one_less (x ∷ xs) m h = elim (cases_Bool (bytes_eq x (numbered_name m))) [
  | inl e ↦ (let g = fewer xs m in rw e (omega (arith, g)))
  | inr e ↦ (let g = one_less xs m (rw e at h) in rw e (omega (arith, g)))
]

others_taken : (names : List (List ℕ)) (m j : ℕ) → m < 2 ^ 64 → j < 2 ^ 64 → (m ≡ j → ⊥) → is_taken (without names m) j ≡ is_taken names j
others_taken [] m j p q ne = refl
others_taken (x ∷ xs) m j p q ne = elim (cases_Bool (bytes_eq x (numbered_name m))) [
  | inl e ↦ (let is : x ≡ numbered_name m = (bytes_eq-Decides x (numbered_name m)).0 e in
      let no : bytes_eq x (numbered_name j) ≡ false = ap (λ y. bytes_eq y (numbered_name j)) is ∙ numbered_apart m j p q ne in
      rw (e, no) (others_taken xs m j p q ne))
  | inr e ↦ (rw e (ap (λ b. bytes_eq x (numbered_name j) || b) (others_taken xs m j p q ne)))
]

pub free_from : (names : List (List ℕ)) (tries n : ℕ) → n ≤ first_free names tries n
free_from names zero n = omega arith
free_from names (suc tries) n = elim (cases_Bool (is_taken names n)) [
  | inl e ↦ (let h = free_from names tries (n + 1) in rw e (omega (arith, h)))
  | inr e ↦ (rw e (omega arith))
]

free_within : (names : List (List ℕ)) (tries n : ℕ) → first_free names tries n ≤ n + tries
free_within names zero n = omega arith
free_within names (suc tries) n = elim (cases_Bool (is_taken names n)) [
  | inl e ↦ (let h = free_within names tries (n + 1) in rw e (omega (arith, h)))
  | inr e ↦ (rw e (omega arith))
]

free_alike : (names other : List (List ℕ)) (tries n : ℕ) → ((j : ℕ) → n ≤ j → j < 2 ^ 64 → is_taken other j ≡ is_taken names j) → first_free names tries n < 2 ^ 64
    → first_free other tries n ≡ first_free names tries n
free_alike names other zero n same h = refl
free_alike names other (suc tries) n same h =
    let le = free_from names (suc tries) n in
    let s : is_taken other n ≡ is_taken names n = same n (omega arith) (omega (arith, le, h)) in
    elim (cases_Bool (is_taken names n)) [
      | inl e ↦ (let s2 : is_taken other n ≡ true = s ∙ e in
          rw (e, s2) (free_alike names other tries (n + 1) (λ j le. same j (omega arith)) (rw e at h)))
      | inr e ↦ (let s2 : is_taken other n ≡ false = s ∙ e in rw (e, s2) refl)
    ]

pub is_free : (names : List (List ℕ)) (tries n : ℕ) → length names ≤ tries → first_free names tries n < 2 ^ 64 → is_taken names (first_free names tries n) ≡ false
is_free [] tries n le h = refl
is_free (x ∷ xs) zero n le h = absurd (omega arith)
is_free (x ∷ xs) (suc tries) n le h = elim (cases_Bool (is_taken (x ∷ xs) n)) [
  | inl e ↦ (let names = x ∷ xs in
      let other = without names n in
      let r = first_free names tries (n + 1) in
      let h2 : r < 2 ^ 64 = rw e at h in
      let ge : n + 1 ≤ r = free_from names tries (n + 1) in
      let few = one_less names n e in
      let a : first_free other tries (n + 1) ≡ r = free_alike names other tries (n + 1) (λ j j0 j1. others_taken names n j (omega arith) j1 (λ q. omega arith)) h2 in
      let b : is_taken other (first_free other tries (n + 1)) ≡ false = is_free other tries (n + 1) (omega (arith, few)) (subst (λ z. z < 2 ^ 64) (sym a) h2) in
      let c : is_taken other r ≡ false = subst (λ z. is_taken other z ≡ false) a b in
      let d : is_taken names r ≡ false = sym (others_taken names n r (omega arith) h2 (λ q. omega arith)) ∙ c in
      subst (λ z. is_taken names z ≡ false) (rw e refl) d)
  | inr e ↦ (subst (λ z. is_taken (x ∷ xs) z ≡ false) (rw e refl) e)
]

pub number_free : (names : List (List ℕ)) (k : ℕ) → free_number names k < 2 ^ 64 → is_taken names (free_number names k) ≡ false
number_free names zero h = is_free names (length names) 0 (omega arith) h
number_free names (suc k) h = is_free names (length names) (free_number names k + 1) (omega arith) h

pub number_rises : (names : List (List ℕ)) (i j : ℕ) → i < j → free_number names i < free_number names j
number_rises names i zero h = absurd (omega arith)
number_rises names i (suc j) h =
    let g : free_number names j + 1 ≤ free_number names (suc j) = free_from names (length names) (free_number names j + 1) in
    elim (cases_lt i j) [ inl lt ↦ (let r = number_rises names i j lt in omega arith) | inr ge ↦ (let e : i ≡ j = omega arith in rw e (omega arith)) ]

pub number_low : (names : List (List ℕ)) (k : ℕ) → free_number names k ≤ k * (length names + 1) + length names
number_low names zero = let h = free_within names (length names) 0 in omega (arith, h)
number_low names (suc k) =
    let h = free_within names (length names) (free_number names k + 1) in
    let g = number_low names k in
    grind (arith)

-- of a function

pub fresh_named : (f : Func) (k : ℕ) → free_number (value_names f) k < 2 ^ 64 → is_name (fresh_names f k) ≡ true
fresh_named f k h = name_numbered (free_number (value_names f) k) h

pub fresh_free : (f : Func) (k : ℕ) → free_number (value_names f) k < 2 ^ 64 → is_taken (value_names f) (free_number (value_names f) k) ≡ false
fresh_free f k h = number_free (value_names f) k h

pub fresh_rise : (f : Func) (i j : ℕ) → i < j → free_number (value_names f) i < free_number (value_names f) j
fresh_rise f i j lt = number_rises (value_names f) i j lt

pub fresh_differ : (f : Func) (i j : ℕ) → i < j → free_number (value_names f) j < 2 ^ 64 → fresh_names f i ≡ fresh_names f j → ⊥
fresh_differ f i j lt h =
    let r = number_rises (value_names f) i j lt in
    numbered_differ (free_number (value_names f) i) (free_number (value_names f) j) (omega (arith, r, h)) h (λ e. omega (arith, r, e))
