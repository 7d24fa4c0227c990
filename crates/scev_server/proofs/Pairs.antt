-- Two lists of one length, element by element.
use Rattle.std.proofs.Common.{◌≡◌, ℕ, zero, suc, ◌⊎◌, inl, inr, List, [], ◌∷◌, ◌++◌, Some, length, refl, subst, arith, slice_get}
use Rattle.std.proofs.lemmas.Option.{slice_get_within}

-- an element of a list with one more is an element of the list, or the one
pub get_more : {A : Type 0} (xs : List A) (x y : A) (i : ℕ) → slice_get (xs ++ x ∷ []) i ≡ Some y → (slice_get xs i ≡ Some y) ⊎ ((i ≡ length xs) × (x ≡ y))
get_more [] x y zero h = inr (refl, cc)
get_more [] x y (suc i) h = absurd (cc)
get_more (z ∷ zs) x y zero h = inl h
get_more (z ∷ zs) x y (suc i) h = elim (get_more zs x y i h) [ inl a ↦ inl a | inr b ↦ inr (omega (arith, b.0), b.1) ]

pub both_more : {A B : Type 0} (P : A → B → Type 0) (xs : List A) (ys : List B) (x : A) (y : B) → length ys ≡ length xs
    → ((i : ℕ) (a : A) (b : B) → slice_get xs i ≡ Some a → slice_get ys i ≡ Some b → P a b) → P x y
    → (i : ℕ) (a : A) (b : B) → slice_get (xs ++ x ∷ []) i ≡ Some a → slice_get (ys ++ y ∷ []) i ≡ Some b → P a b
both_more P xs ys x y same all here i a b ha hb =
    elim (get_more xs x a i ha) [
      | inl p ↦ elim (get_more ys y b i hb) [
        | inl q ↦ all i a b p q
        | inr q ↦ (let lt = slice_get_within xs i a p in absurd (omega (arith, lt, same, q.0)))
      ]
      | inr p ↦ elim (get_more ys y b i hb) [
        | inl q ↦ (let lt = slice_get_within ys i b q in absurd (omega (arith, lt, same, p.0)))
        | inr q ↦ subst (λ u. P u b) p.1 (subst (P x) q.1 here)
      ]
    ]
