-- each operation has one result at most; the leaves are within the limits
use Rattle.std.proofs.Common.{◌≡◌, ℕ, zero, suc, ◌⊎◌, inl, inr, List, [], ◌∷◌, ◌∙◌, sym, arith}
use Rattle.std.proofs.lemmas.Bool.{ne_eqb, cases_eq}
use Rattle.scev_tree.specs.Polynomial.{Polynomial, num, Power, coefficient, IsMonomial, IsCanonical, IsScaled, variable}
use Rattle.scev_tree.proofs.Unique.{unique_law}
use Rattle.chrec_algebra.specs.Limits.{IsWithin}
use Rattle.chrec_algebra.specs.Line.{IsPart}
use Rattle.chrec_algebra.specs.Place.{IsAt, Has}
use Rattle.chrec_algebra.specs.Product.{IsProduct}
use Rattle.chrec_algebra.specs.Sum.{IsSum, IsDifference, IsTruncated}

same_is : (M : ℕ) (p q : Polynomial) → IsCanonical M p → IsCanonical M q → ((m : List Power) (top : ℕ) → IsMonomial m top → coefficient p m ≡ coefficient q m) → p ≡ q
same_is M p q cp cq h = (unique_law M p q cp cq).0 h

pub sum_one : (M : ℕ) (r q a b : Polynomial) → IsSum M r a b → IsSum M q a b → r ≡ q
sum_one M r q a b s t = same_is M r q s.canon t.canon (λ m top is. s.at m top is ∙ sym (t.at m top is))

pub difference_one : (M : ℕ) (r q a b : Polynomial) → IsDifference M r a b → IsDifference M q a b → r ≡ q
difference_one M r q a b s t = same_is M r q s.canon t.canon (λ m top is. s.at m top is ∙ sym (t.at m top is))

pub product_one : (M : ℕ) (r q a b : Polynomial) → IsProduct M r a b → IsProduct M q a b → r ≡ q
product_one M r q a b s t = same_is M r q s.canon t.canon (λ m top is. s.at m top is ∙ sym (t.at m top is))

pub scaled_one : (M c : ℕ) (r q a : Polynomial) → IsScaled M c r a → IsScaled M c q a → r ≡ q
scaled_one M c r q a s t = same_is M r q s.canon t.canon (λ m top is. s.at m top is ∙ sym (t.at m top is))

pub truncated_one : (M : ℕ) (r q a : Polynomial) → IsTruncated M r a → IsTruncated M q a → r ≡ q
truncated_one M r q a s t = same_is M r q s.canon t.canon (λ m top is. s.at m top is ∙ sym (t.at m top is))

pub has_or : (x : ℕ) (m : List Power) → Has x m ⊎ (Has x m → ⊥)
has_or x [] = inr (λ h. h)
has_or x (q ∷ m) = elim (cases_eq q.var x) [
  | inl e ↦ inl (inl e)
  | inr ne ↦ (elim (has_or x m) [ inl h ↦ inl (inr h) | inr no_one ↦ inr (λ h. elim h [ inl e ↦ ne e | inr k ↦ no_one k ]) ])
]

pub at_one : (M x n : ℕ) (r q a : Polynomial) → IsAt M x n r a → IsAt M x n q a → r ≡ q
at_one M x n r q a s t = same_is M r q s.canon t.canon (λ m top is. elim (has_or x m) [
  | inl h ↦ s.gone m top is h ∙ sym (t.gone m top is h)
  | inr h ↦ s.at m top is h ∙ sym (t.at m top is h)
])

pub part_one : (M x k : ℕ) (r q a : Polynomial) → IsPart M x k r a → IsPart M x k q a → r ≡ q
part_one M x k r q a s t = same_is M r q s.canon t.canon (λ m top is. elim (has_or x m) [
  | inl h ↦ s.gone m top is h ∙ sym (t.gone m top is h)
  | inr h ↦ s.at m top is h ∙ sym (t.at m top is h)
])

-- ---- the limits

pub variable_within : (x : ℕ) → IsWithin (variable x)
variable_within x = record { few = omega arith; low = omega arith }

pub within_of : (x : ℕ) (p : Polynomial) → p ≡ variable x → IsWithin p
within_of x p e = rw e (variable_within x)

pub number_within : (v : ℕ) → IsWithin (num v)
number_within zero = record { few = omega arith; low = omega arith }
number_within (suc v) = let e = ne_eqb (suc v) 0 (λ e. omega arith) in record { few = rw e (omega arith); low = omega arith }
