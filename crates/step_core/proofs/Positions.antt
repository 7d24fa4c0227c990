-- An element of a list after a write.
use Rattle.std.proofs.Common.{◌≡◌, ℕ, zero, suc, ◌⊎◌, ◌<◌, List, [], ◌∷◌, ◌++◌, length, set, sym, refl, ap, inl, inr, ⊎_elim, arith}
use mathlib.Core.Option.{some, some-injective, some-ne-none}
use lib.ListN.{get_elem?}

module _ {A : Type 0} where
  pub at_set : (l : List A) (i j : ℕ) (a b : A) → get_elem? (set l i a) j ≡ some b → ((j ≡ i) × (a ≡ b)) ⊎ ((j ≡ i → ⊥) × (get_elem? l j ≡ some b))
  at_set [] i j a b e = absurd (some-ne-none b (sym e))
  at_set (x ∷ xs) zero zero a b e = inl (refl, some-injective a b e)
  at_set (x ∷ xs) zero (suc j) a b e = inr ((λ h. omega arith), e)
  at_set (x ∷ xs) (suc i) zero a b e = inr ((λ h. omega arith), e)
  at_set (x ∷ xs) (suc i) (suc j) a b e = ⊎_elim (λ t. inl (ap suc t.0, t.1)) (λ t. let n = t.0 in inr ((λ h. n (omega arith)), t.1)) (at_set xs i j a b e)

  pub at_snoc : (l : List A) (a b : A) (j : ℕ) → get_elem? (l ++ a ∷ []) j ≡ some b → (get_elem? l j ≡ some b) ⊎ (a ≡ b)
  at_snoc [] a b zero e = inr (some-injective a b e)
  at_snoc [] a b (suc j) e = absurd (some-ne-none b (sym e))
  at_snoc (x ∷ xs) a b zero e = inl e
  at_snoc (x ∷ xs) a b (suc j) e = at_snoc xs a b j e

  pub at_other : (l : List A) (i j : ℕ) (a b : A) → (j ≡ i → ⊥) → get_elem? l j ≡ some b → get_elem? (set l i a) j ≡ some b
  at_other [] i j a b ne e = e
  at_other (x ∷ xs) zero zero a b ne e = absurd (ne refl)
  at_other (x ∷ xs) zero (suc j) a b ne e = e
  at_other (x ∷ xs) (suc i) zero a b ne e = e
  at_other (x ∷ xs) (suc i) (suc j) a b ne e = at_other xs i j a b (λ q. ne (ap suc q)) e

  pub set_as_is : (l : List A) (i : ℕ) (a : A) → get_elem? l i ≡ some a → set l i a ≡ l
  set_as_is [] i a e = refl
  set_as_is (x ∷ xs) zero a e = ap (λ (z : A). z ∷ xs) (sym (some-injective x a e))
  set_as_is (x ∷ xs) (suc i) a e = ap (λ (l : List A). x ∷ l) (set_as_is xs i a e)

  pub at_inside : (l : List A) (i : ℕ) (a : A) → get_elem? l i ≡ some a → i < length l
  at_inside [] i a e = absurd (some-ne-none a (sym e))
  at_inside (x ∷ xs) zero a e = omega arith
  at_inside (x ∷ xs) (suc i) a e = let s = at_inside xs i a e in omega arith
