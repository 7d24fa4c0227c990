-- The index of the first element that passes a test, where an element is put behind a list or taken from its end.
use Rattle.std.proofs.Common.{◌≡◌, ℕ, ◌+◌, ◌-◌, ◌<◌, ◌≤◌, Bool, cond, List, [], ◌∷◌, ◌++◌, length, Option, Some, None, refl, arith, slice_get}
use Rattle.std.proofs.Common.{Bor, nat_lt, get_or}
use Rattle.std.proofs.lemmas.Option.{slice_get_past, slice_get-get_or}
use Rattle.std.proofs.lemmas.Bool.Decides.{nat_tests}
use Rattle.std.specs.Option.{is_some, IfSome, option_copied}
use Rattle.std.specs.List.{find, position_from}
use Rattle.std.specs.Option.{option_or}

pub position_push : {A : Type 0} (t : A → Bool) (i : ℕ) (xs : List A) (x : A) →
    position_from t i (xs ++ x ∷ []) ≡ option_or (position_from t i xs) (cond (t x) (Some (i + length xs)) None)
position_push t i [] x = grind arith
position_push t i (y ∷ ys) x = grind (arith, position_push t (i + 1) ys x)

-- an index that is found lies in the list
pub position_bounds : {A : Type 0} (t : A → Bool) (i : ℕ) (xs : List A) (k : ℕ) → position_from t i xs ≡ Some k → (i ≤ k) × (k < i + length xs)
position_bounds t i [] k h = grind arith
position_bounds t i (y ∷ ys) k h = grind (arith, position_bounds t (i + 1) ys k)

pub find_none : {A : Type 0} (t : A → Bool) (i : ℕ) (xs : List A) → position_from t i xs ≡ None → find t xs ≡ None
find_none t i [] h = refl
find_none t i (y ∷ ys) h = grind (arith, find_none t (i + 1) ys)

pub find_at_position : {A : Type 0} (t : A → Bool) (i : ℕ) (xs : List A) (j k : ℕ) → position_from t i xs ≡ Some j → j ≡ i + k → find t xs ≡ slice_get xs k
find_at_position t i [] j k h e = grind arith
find_at_position t i (y ∷ ys) j k h e = grind (arith, find_at_position t (i + 1) ys j (k - 1), position_bounds t (i + 1) ys j)

-- what a look-up by index gives, as a copy
pub copied_at : {A : Type 0} (xs : List A) (i : ℕ) (r : Option (Bor A)) →
    is_some r ≡ nat_lt i (length xs) → IfSome r (λ x. x.now ≡ get_or xs i x.now) → option_copied r ≡ slice_get xs i
copied_at xs i None some here = grind (arith, nat_tests, slice_get_past xs i)
copied_at xs i (Some x) some here = grind (arith, nat_tests, slice_get-get_or xs i x.now)
