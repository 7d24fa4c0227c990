-- multiples and products, place by place
use Rattle.std.proofs.Common.{◌≡◌, ℕ, zero, suc, ◌+◌, ◌*◌, ◌%◌, ◌<◌, inl, inr, List, [], ◌∷◌, ◌++◌, refl, ap, ◌∙◌, sym, subst, arith, length, length-append, get_or, Bool, true, false}
use Rattle.std.proofs.Math.ListN.{set}
use Rattle.std.proofs.lemmas.Bool.{cases_lt, cases_eq}
use Rattle.std.proofs.Math.Nat.{mod-eq_of_lt, mod-mod}
use Rattle.scev_tree.specs.declared.tree.Tree.{Tree, Num}
use Rattle.scev_tree.specs.Polynomial.{Polynomial, num, Power, coefficient, place, Under, IsCanonical, AreCanonical, IsScaled, variable_of}
use Rattle.chrec_algebra.specs.Sum.{IsSum, IsTruncated}
use Rattle.chrec_algebra.specs.Product.{IsAdded, IsPut, AreZeros, Narrow, NarrowAll}
use Rattle.scev_tree.specs.Tree.{polynomials, polynomial_of}
use Rattle.scev_tree.proofs.ListedTrees.{polynomial_of_num}
use Rattle.scev_tree.proofs.GrowingLists.{snoc_below, snoc_last, canon_snoc, past_list, zero_coeff}
use Rattle.scev_tree.proofs.TreePlaces.{place_of}
use Rattle.chrec_algebra.proofs.Products.{add_same}

-- ---- multiples

pub added_one : (M c : ℕ) (r old t : Polynomial) → c ≡ 1 → IsSum M r old t → IsAdded M c r old t
added_one M c r old t e s = rw e (record { canon = s.canon; under = s.under; at = λ m top is. s.at m top is ∙ (let h : coefficient old m + coefficient t m ≡ coefficient old m + 1 * coefficient t m = omega arith in ap (λ n. n % M) h) })

pub added_more : (M c : ℕ) (r old s t : Polynomial) → IsScaled M c s t → IsSum M r old s → IsAdded M c r old t
added_more M c r old s t g h = record {
  canon = h.canon;
  under = λ x uo ut. h.under x uo (g.under x ut);
  at = λ m top is. h.at m top is ∙ add_same M (coefficient old m) (coefficient s m) (coefficient old m) (c * coefficient t m) refl (ap (λ n. n % M) (g.at m top is) ∙ mod-mod (c * coefficient t m) M);
}

-- ---- one place of a list

pub set_here : (ts : List Tree) (k : ℕ) (r : Tree) (m : List Power) → k < length ts → place (polynomials (set ts k r)) k m ≡ coefficient (polynomial_of r) m
set_here [] k r m h = absurd (omega arith)
set_here (t ∷ ts) zero r m h = refl
set_here (t ∷ ts) (suc k) r m h = set_here ts k r m (omega arith)

pub set_other : (ts : List Tree) (k : ℕ) (r : Tree) (j : ℕ) (m : List Power) → (j ≡ k → ⊥) → place (polynomials (set ts k r)) j m ≡ place (polynomials ts) j m
set_other [] k r j m h = refl
set_other (t ∷ ts) zero r zero m h = absurd (h refl)
set_other (t ∷ ts) zero r (suc j) m h = refl
set_other (t ∷ ts) (suc k) r zero m h = refl
set_other (t ∷ ts) (suc k) r (suc j) m h = set_other ts k r j m (λ e. h (ap suc e))

pub set_canon : (M x : ℕ) (ts : List Tree) (k : ℕ) (r : Tree) → AreCanonical M (polynomials ts) x → Under (polynomial_of r) x → IsCanonical M (polynomial_of r) → AreCanonical M (polynomials (set ts k r)) x
set_canon M x [] k r c u d = tt
set_canon M x (t ∷ ts) zero r c u d = (u, d, c.2)
set_canon M x (t ∷ ts) (suc k) r c u d = (c.0, c.1, set_canon M x ts k r c.2 u d)

pub under_here : (M x : ℕ) (ts : List Tree) (k : ℕ) (o : Tree) → AreCanonical M (polynomials ts) x → k < length ts → o ≡ get_or ts k o → Under (polynomial_of o) x
under_here M x [] k o c h e = absurd (omega arith)
under_here M x (t ∷ ts) zero o c h e = subst (λ (u : Tree). Under (polynomial_of u) x) (sym e) c.0
under_here M x (t ∷ ts) (suc k) o c h e = under_here M x ts k o c.2 (omega arith) e

pub put_is : (M k c : ℕ) (ts us : List Tree) (o r : Tree) (t : Polynomial) → k < length ts → o ≡ get_or ts k o → us ≡ set ts k r → IsAdded M c (polynomial_of r) (polynomial_of o) t → IsPut M k c t (polynomials ts) (polynomials us)
put_is M k c ts us o r t h eo e a = rw e (record {
  canon = λ x ct dt ut. set_canon M x ts k r ct (a.under x (under_here M x ts k o ct h eo) ut) a.canon;
  here = λ m top is. set_here ts k r m h ∙ (a.at m top is ∙ ap (λ n. (n + c * coefficient t m) % M) (sym (place_of ts k o m eo h)));
  other = λ j m ne. set_other ts k r j m ne;
})

pub even_key : (l : ℕ) → variable_of true l % 2 ≡ 0
even_key l = omega arith

pub even_of : (b : Bool) (l : ℕ) → b ≡ true → variable_of b l % 2 ≡ 0
even_of b l e = subst (λ c. variable_of c l % 2 ≡ 0) (sym e) (even_key l)

pub odd_key : (l : ℕ) → variable_of false l % 2 ≡ 0 → ⊥
odd_key l h = omega arith

-- ---- the whole product

pub narrow_of : (ts : List Tree) (i : ℕ) (t : Tree) → t ≡ get_or ts i t → NarrowAll (polynomials ts) → i < length ts → Narrow (polynomial_of t)
narrow_of [] i t e n h = absurd (omega arith)
narrow_of (u ∷ ts) zero t e n h = subst (λ (v : Tree). Narrow (polynomial_of v)) (sym e) n.0
narrow_of (u ∷ ts) (suc i) t e n h = narrow_of ts i t e n.1 (omega arith)

pub zeros_none : AreZeros (polynomials [])
zeros_none = record { canon = λ M x some. tt; at = λ k m. refl }

pub zeros_push : (ts us : List Tree) → us ≡ ts ++ Num 0 ∷ [] → AreZeros (polynomials ts) → AreZeros (polynomials us)
zeros_push ts us e z = rw e (record {
  canon = λ M x some. canon_snoc M x ts (Num 0) (z.canon M x some) (rw polynomial_of_num tt) (rw polynomial_of_num some);
  at = λ k m. elim (cases_lt k (length ts)) [
    | inl lt ↦ snoc_below ts (Num 0) k m lt ∙ z.at k m
    | inr ge ↦ (elim (cases_eq k (length ts)) [ inl eq ↦ snoc_last ts (Num 0) k m eq ∙ (rw polynomial_of_num (zero_coeff m)) | inr ne ↦ past_list (ts ++ Num 0 ∷ []) k m (omega (arith, length-append ts (Num 0 ∷ []))) ])
  ];
})

pub odd_of : (b : Bool) (l : ℕ) → b ≡ false → variable_of b l % 2 ≡ 0 → ⊥
odd_of b l e = subst (λ c. variable_of c l % 2 ≡ 0 → ⊥) (sym e) (odd_key l)

pub zeros_empty : (ts : List Tree) → ts ≡ [] → AreZeros (polynomials ts)
zeros_empty ts e = subst (λ (us : List Tree). AreZeros (polynomials us)) (sym e) zeros_none

pub truncated : (M : ℕ) (r a : Polynomial) → IsScaled M 1 r a → IsTruncated M r a
truncated M r a s = record { canon = s.canon; under = s.under; at = λ m top is. s.at m top is ∙ (let h : 1 * coefficient a m ≡ coefficient a m = omega arith in ap (λ z. z % M) h) }

num_added_at : (M c u v : ℕ) (m : List Power) → 0 < M → coefficient (num ((u + (c * v) % M) % M)) m ≡ (coefficient (num u) m + c * coefficient (num v) m) % M
num_added_at M c u v [] some = add_same M u ((c * v) % M) u (c * v) refl (mod-mod (c * v) M)
num_added_at M c u v (q ∷ m) some = let z : 0 + c * 0 ≡ 0 = omega arith in sym (ap (λ s. s % M) z ∙ mod-eq_of_lt some)

pub num_added : (M c u v s r : ℕ) (a b : Polynomial) → 0 < M → a ≡ num u → b ≡ num v → s ≡ (c * v) % M → r ≡ (u + s) % M → IsAdded M c (polynomial_of (Num r)) a b
num_added M c u v s r a b some e f g h = rw (polynomial_of_num, e, f, h, g) (record { canon = omega arith; under = λ x p q. tt; at = λ m top is. num_added_at M c u v m some })
