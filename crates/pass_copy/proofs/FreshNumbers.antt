-- Names in a set, and how far fresh numbers go.
use Rattle.std.proofs.Common.{◌≡◌, ℕ, zero, suc, ◌+◌, ◌*◌, ◌^◌, ◌-◌, ◌<◌, ◌≤◌, ◌||◌, Bool, true, false, cond, List, [], ◌∷◌, ◌++◌, length, refl, ap, ◌∙◌, sym, arith, if◌then◌else◌, Result, Ok, Err}
use Rattle.std.proofs.Math.Nat.{mul-le-mul_left}
use Rattle.std.proofs.lemmas.List.Folds.{list_any-append}
use Rattle.std.specs.List.{list_any}
use Rattle.std.specs.Result.{is_err, OnOk}
use Rattle.std.specs.Str.{bytes_eq}
use Rattle.pass_copy.specs.Fresh.{first_free, free_number, is_taken}
use Rattle.pass_copy.specs.Listed.{start}

or_none : (b : Bool) → (b || false) ≡ b
or_none true = refl
or_none false = refl

either : (b a : Bool) → cond b true a ≡ (a || b)
either true true = refl
either true false = refl
either false true = refl
either false false = refl

pub any_pushed : (name : List ℕ) (names : List (List ℕ)) (new : List ℕ)
    → cond (bytes_eq new name) true (list_any (λ (taken : List ℕ). bytes_eq taken name) names) ≡ list_any (λ (taken : List ℕ). bytes_eq taken name) (names ++ new ∷ [])
any_pushed name names new =
    let p : List ℕ → Bool = λ taken. bytes_eq taken name in
    either (p new) (list_any p names) ∙ ap (λ (b : Bool). list_any p names || b) (sym (or_none (p new))) ∙ sym (list_any-append p names (new ∷ []))

pub of_ok : {T E : Type 0} (r : Result T E) (P : Type 0) → is_err r ≡ false → OnOk r P → P
of_ok (Ok x) P h p = p
of_ok (Err e) P h p = cc

first_low_by : (b : Bool) (m n tries : ℕ) → m ≤ n + 1 + tries → (if b then m else n) ≤ n + suc tries
first_low_by true m n tries h = omega arith
first_low_by false m n tries h = omega arith

pub first_low : (names : List (List ℕ)) (tries n : ℕ) → first_free names tries n ≤ n + tries
first_low names zero n = omega arith
first_low names (suc tries) n = first_low_by (is_taken names n) (first_free names tries (n + 1)) n tries (first_low names tries (n + 1))

pub free_first : (names : List (List ℕ)) (k : ℕ) → free_number names k ≡ first_free names (length names) (start names k)
free_first names zero = refl
free_first names (suc k) = refl

start_low : (names : List (List ℕ)) (k : ℕ) → start names k ≤ (length names + 1) * k
start_low names zero = omega arith
start_low names (suc k) =
    let e = free_first names k in
    let f = first_low names (length names) (start names k) in
    let g = start_low names k in
    omega arith

-- with less than 2^31 names, numbers fit
pub start_fits : (names : List (List ℕ)) (k : ℕ) → length names < 2 ^ 31 → k < 2 ^ 32 → start names k + length names + 1 < 2 ^ 64
start_fits names k few low =
    let g = start_low names k in
    let h : (length names + 1) * k ≤ (length names + 1) * 2 ^ 32 = mul-le-mul_left (length names + 1) (omega arith) in
    omega arith

free_by : (b : Bool) (m n : ℕ) → b ≡ false → (if b then m else n) ≡ n
free_by true m n h = cc
free_by false m n h = refl

taken_by : (b : Bool) (m n : ℕ) → b ≡ true → (if b then m else n) ≡ m
taken_by true m n h = refl
taken_by false m n h = cc

pub free_here : (names : List (List ℕ)) (l i n : ℕ) → i < l → is_taken names n ≡ false → first_free names (l - i) n ≡ n
free_here names l i n h free =
    let e : l - i ≡ suc (l - (i + 1)) = omega arith in
    rw e (free_by (is_taken names n) (first_free names (l - (i + 1)) (n + 1)) n free)

pub taken_here : (names : List (List ℕ)) (l i n : ℕ) → i < l → is_taken names n ≡ true → first_free names (l - i) n ≡ first_free names (l - (i + 1)) (n + 1)
taken_here names l i n h taken =
    let e : l - i ≡ suc (l - (i + 1)) = omega arith in
    rw e (taken_by (is_taken names n) (first_free names (l - (i + 1)) (n + 1)) n taken)
