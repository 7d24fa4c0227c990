-- A table of the first places of values, where a value is put behind the others or taken from their end.
use Rattle.std.proofs.Common.{◌≡◌, ℕ, ◌+◌, ◌<◌, ◌&&◌, nat_eq, Bool, true, false, cond, List, [], ◌∷◌, ◌++◌, length, Option, Some, None, refl, ap, sym, ◌∙◌, arith}
use Rattle.std.proofs.lemmas.Bool.{eqb-true}
use Rattle.std.proofs.lemmas.Bool.Decides.{nat_tests}
use Rattle.std.proofs.lemmas.Slice.Eq.{bytes_eq-Decides}
use Rattle.std.specs.List.{position_from}
use Rattle.std.proofs.Common.{Bor, Result, Ok, Err}
use Rattle.std.specs.Option.{option_or, is_some, option_copied, option_eq}
use Rattle.std.specs.Result.{is_err, OnOk}
use Rattle.std.specs.Str.{bytes_eq}
use Rattle.mlir_ir.specs.Values.{Value}
use Rattle.mlir_scope.specs.InScope.{is_named}
use Rattle.mlir_scope.proofs.FirstPlaces.{position_push, position_bounds}

push_first : {A : Type 0} (t : A → Bool) (xs : List A) (x : A) →
    position_from t 0 (xs ++ x ∷ []) ≡ option_or (position_from t 0 xs) (cond (t x) (Some (length xs)) None)
push_first t xs x =
    let e : 0 + length xs ≡ length xs = omega arith in
    position_push t 0 xs x ∙ ap (λ (n : ℕ). option_or (position_from t 0 xs) (cond (t x) (Some n) None)) e

-- a table gives for a name and a place the index of the first of the values that have them
abbrev pub Finds : (List ℕ → ℕ → Option ℕ) → List Value → Type 0
Finds get values = (name : List ℕ) (place : ℕ) → get name place ≡ position_from (is_named name place) 0 values

same_name : (a b : List ℕ) → bytes_eq a b ≡ true → a ≡ b
same_name a b h = grind (arith, bytes_eq-Decides a b)

both_true : (a b : Bool) → (a && b) ≡ true → (a ≡ true) × (b ≡ true)
both_true true b h = (refl, h)
both_true false b h = cc

at_key : (f : List ℕ → ℕ → Option ℕ) (name : List ℕ) (place : ℕ) (v : Value) → is_named name place v ≡ true → f name place ≡ f v.name v.place
at_key f name place v h =
    let parts = both_true (bytes_eq v.name name) (nat_eq v.place place) h in
    let e : v.name ≡ name = same_name v.name name parts.0 in
    let d : v.place ≡ place = eqb-true v.place place parts.1 in
    cc

kept : (b : Bool) (old : Option ℕ) (k : ℕ) → (b ≡ true → is_some old ≡ true) → old ≡ option_or old (cond b (Some k) None)
kept b None k h = grind arith
kept b (Some j) k h = refl

added : (b : Bool) (old : Option ℕ) (k : ℕ) → (b ≡ true → old ≡ None) → cond b (Some k) old ≡ option_or old (cond b (Some k) None)
added true old k h = rw (h refl) refl
added false None k h = refl
added false (Some j) k h = refl

-- what was found before the last value at index k, where that one was found
freed : (b : Bool) (old now : Option ℕ) (k : ℕ) → now ≡ option_or old (cond b (Some k) None) → (b ≡ true → now ≡ Some k) →
    ((j : ℕ) → old ≡ Some j → j < 0 + k) → cond b None now ≡ old
freed true None now k is own bound = refl
freed true (Some j) now k is own bound =
    let e : Some j ≡ Some k = sym is ∙ own refl in
    let d : j ≡ k = cc in
    let less : j < 0 + k = bound j refl in
    absurd (omega arith)
freed false None now k is own bound = is
freed false (Some j) now k is own bound = is

-- and where it was not
left : (b : Bool) (old now : Option ℕ) (k : ℕ) → now ≡ option_or old (cond b (Some k) None) → (b ≡ true → now ≡ Some k → ⊥) → now ≡ old
left true None now k is other = absurd (other refl is)
left true (Some j) now k is other = is
left false None now k is other = is
left false (Some j) now k is other = is

-- a value is put behind the others, where one of its name and place is there
pub known_put : (get : List ℕ → ℕ → Option ℕ) (values : List Value) (v : Value) →
    Finds get values → is_some (get v.name v.place) ≡ true → Finds get (values ++ v ∷ [])
known_put get values v finds known name place =
    finds name place
    ∙ kept (is_named name place v) (position_from (is_named name place) 0 values) (length values)
    (λ h. ap is_some (sym (finds name place) ∙ at_key get name place v h) ∙ known)
    ∙ sym (push_first (is_named name place) values v)

-- and where none is there, with a table that has it besides
pub new_put : (get after : List ℕ → ℕ → Option ℕ) (values : List Value) (v : Value) (index : ℕ) →
    index ≡ length values → Finds get values → get v.name v.place ≡ None →
    ((name : List ℕ) (place : ℕ) → after name place ≡ cond (is_named name place v) (Some index) (get name place)) →
    Finds after (values ++ v ∷ [])
new_put get after values v index is finds unknown updates name place =
    updates name place
    ∙ ap (λ (n : ℕ). cond (is_named name place v) (Some n) (get name place)) is
    ∙ ap (cond (is_named name place v) (Some (length values))) (finds name place)
    ∙ added (is_named name place v) (position_from (is_named name place) 0 values) (length values)
    (λ h. sym (finds name place) ∙ at_key get name place v h ∙ unknown)
    ∙ sym (push_first (is_named name place) values v)

-- the last value is taken, where a table has its index
pub own_taken : (get after : List ℕ → ℕ → Option ℕ) (values : List Value) (v : Value) (index : ℕ) →
    index ≡ length values → Finds get (values ++ v ∷ []) → get v.name v.place ≡ Some index →
    ((name : List ℕ) (place : ℕ) → after name place ≡ cond (is_named name place v) None (get name place)) →
    Finds after values
own_taken get after values v index is finds own updates name place =
    let pushed = push_first (is_named name place) values v in
    updates name place
    ∙ freed (is_named name place v) (position_from (is_named name place) 0 values) (get name place) (length values)
    (finds name place ∙ pushed)
    (λ h. at_key get name place v h ∙ own ∙ ap (λ (n : ℕ). Some n) is)
    (λ k e. (position_bounds (is_named name place) 0 values k e).1)

-- and where it has not
pub other_taken : (get : List ℕ → ℕ → Option ℕ) (values : List Value) (v : Value) (index : ℕ) →
    index ≡ length values → Finds get (values ++ v ∷ []) → (get v.name v.place ≡ Some index → ⊥) → Finds get values
other_taken get values v index is finds other name place =
    let pushed = push_first (is_named name place) values v in
    left (is_named name place v) (position_from (is_named name place) 0 values) (get name place) (length values)
    (finds name place ∙ pushed)
    (λ h e. other (sym (at_key get name place v h) ∙ e ∙ ap (λ (n : ℕ). Some n) (sym is)))

pub none_of : (r : Option (Bor ℕ)) → is_some r ≡ false → option_copied r ≡ None
none_of None h = refl
none_of (Some x) h = cc

pub some_of : (r : Option (Bor ℕ)) → is_some r ≡ true → is_some (option_copied r) ≡ true
some_of None h = h
some_of (Some x) h = refl

pub of_ok : {T E : Type 0} (r : Result T E) (P : Type 0) → is_err r ≡ false → OnOk r P → P
of_ok (Ok x) P h p = p
of_ok (Err e) P h p = cc

pub the_same : (a : Option ℕ) (b : ℕ) → option_eq nat_eq a (Some b) ≡ true → a ≡ Some b
the_same None b h = cc
the_same (Some a) b h = ap (λ n. Some n) (eqb-true a b h)

pub not_the_same : (a : Option ℕ) (b : ℕ) → option_eq nat_eq a (Some b) ≡ false → a ≡ Some b → ⊥
not_the_same a b h e = grind (arith, nat_tests)
