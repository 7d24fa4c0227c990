-- sums, place by place
use Rattle.std.proofs.Common.{◌≡◌, ℕ, ◌+◌, ◌%◌, ◌<◌, ◌≤◌, ◌⊎◌, inl, inr, List, [], ◌∷◌, ◌++◌, refl, ap, ◌∙◌, sym, arith, length, get_or}
use Rattle.std.proofs.lemmas.Bool.{eq-eqb, ne_eqb, cases_order, cases_lt}
use Rattle.std.proofs.Math.Nat.{mod-eq_of_lt}
use Rattle.scev_tree.specs.declared.tree.Tree.{Tree, Num}
use Rattle.scev_tree.specs.Polynomial.{Polynomial, Polynomials, num, ext, Power, coefficient, place, IsMonomial, IsCanonical, AreCanonical, IsBuilt}
use Rattle.chrec_algebra.specs.Sum.{IsSum, IsSumIn, IsPlaceSum, AreSumsTo}
use Rattle.scev_tree.specs.Tree.{polynomials, polynomial_of}
use Rattle.chrec_algebra.specs.Align.{AreSides}
use Rattle.scev_tree.proofs.TreePlaces.{fits_place, canon_of, under_of, place_of}
use Rattle.scev_tree.proofs.ListedTrees.{polynomial_of_num}
use Rattle.scev_tree.proofs.GrowingLists.{snoc_below, snoc_last, canon_snoc, past_list}

num_at : (M a b : ℕ) (m : List Power) → 0 < M → coefficient (num ((a + b) % M)) m ≡ (coefficient (num a) m + coefficient (num b) m) % M
num_at M a b [] some = refl
num_at M a b (q ∷ m) some = sym (mod-eq_of_lt some)

pub num_sum : (M u v r : ℕ) (a b : Polynomial) → 0 < M → a ≡ num u → b ≡ num v → r ≡ (u + v) % M → IsSum M (polynomial_of (Num r)) a b
num_sum M u v r a b some e f g = rw (polynomial_of_num, e, f, g) (record { canon = omega arith; under = λ x p q. tt; at = λ m top is. num_at M u v m some })

pub sum_of_sides : (M x : ℕ) (r a b : Polynomial) (ps qs : Polynomials) → AreSides x ps qs a b → IsCanonical M a → IsCanonical M b → IsSumIn M x r ps qs → IsSum M r a b
sum_of_sides M x r a b ps qs s ca cb i = record { canon = i.canon; under = λ y ua ub. i.under y (s.under y ua ub); at = λ m top is. i.at m top is ∙ rw (s.left.at M ca m top is, s.right.at M cb m top is) refl }

-- ---- one place

right_only : (M x k : ℕ) (ps qs : List Tree) (t r : Tree) → 0 < M → length ps ≤ k → k < length qs → t ≡ get_or qs k t → AreCanonical M (polynomials qs) x → polynomial_of r ≡ polynomial_of t → IsPlaceSum M x k (polynomial_of r) (polynomials ps) (polynomials qs)
right_only M x k ps qs t r some le lt is c e = rw e (record {
  canon = canon_of M x qs k t is c lt;
  under = under_of M x qs k t is c lt;
  at = λ m top mo. sym (place_of qs k t m is lt) ∙ (let f = fits_place M (polynomials qs) k m x some c in let z = past_list ps k m le in let s : place (polynomials ps) k m + place (polynomials qs) k m ≡ place (polynomials qs) k m = omega arith in sym (ap (λ n. n % M) s ∙ mod-eq_of_lt f));
})

left_only : (M x k : ℕ) (ps qs : List Tree) (t r : Tree) → 0 < M → length qs ≤ k → k < length ps → t ≡ get_or ps k t → AreCanonical M (polynomials ps) x → polynomial_of r ≡ polynomial_of t → IsPlaceSum M x k (polynomial_of r) (polynomials ps) (polynomials qs)
left_only M x k ps qs t r some le lt is c e = rw e (record {
  canon = canon_of M x ps k t is c lt;
  under = under_of M x ps k t is c lt;
  at = λ m top mo. sym (place_of ps k t m is lt) ∙ (let f = fits_place M (polynomials ps) k m x some c in let z = past_list qs k m le in let s : place (polynomials ps) k m + place (polynomials qs) k m ≡ place (polynomials ps) k m = omega arith in sym (ap (λ n. n % M) s ∙ mod-eq_of_lt f));
})

pub both_here : (M x k : ℕ) (ps qs : List Tree) (t u : Tree) (r : Polynomial) → k < length ps → k < length qs → t ≡ get_or ps k t → u ≡ get_or qs k u → AreCanonical M (polynomials ps) x → AreCanonical M (polynomials qs) x → IsSum M r (polynomial_of t) (polynomial_of u) → IsPlaceSum M x k r (polynomials ps) (polynomials qs)
both_here M x k ps qs t u r lp lq it iu cp cq s = record {
  canon = s.canon;
  under = s.under x (under_of M x ps k t it cp lp) (under_of M x qs k u iu cq lq);
  at = λ m top is. s.at m top is ∙ rw (place_of ps k t m it lp, place_of qs k u m iu lq) refl;
}

pub right_here : (M x k : ℕ) (ps qs : List Tree) (t r : Tree) → 0 < M → (k < length ps) ⊎ (k < length qs) → length ps ≤ k → t ≡ get_or qs k t → AreCanonical M (polynomials qs) x → polynomial_of r ≡ polynomial_of t → IsPlaceSum M x k (polynomial_of r) (polynomials ps) (polynomials qs)
right_here M x k ps qs t r some w le is c e = elim w [ inl l ↦ absurd (omega arith) | inr l ↦ right_only M x k ps qs t r some le l is c e ]

pub left_here : (M x k : ℕ) (ps qs : List Tree) (t r : Tree) → 0 < M → k < length ps → length qs ≤ k → t ≡ get_or ps k t → AreCanonical M (polynomials ps) x → polynomial_of r ≡ polynomial_of t → IsPlaceSum M x k (polynomial_of r) (polynomials ps) (polynomials qs)
left_here M x k ps qs t r some l le is c e = left_only M x k ps qs t r some le l is c e

-- ---- all places

pub sums_first : (M x : ℕ) (ps qs : Polynomials) → AreSumsTo M x 0 (polynomials []) ps qs
sums_first M x ps qs = record { canon = tt; at = λ k m top h is. absurd (omega arith) }

pub sums_push : (M x n : ℕ) (out out' : List Tree) (r : Tree) (ps qs : Polynomials) → length out ≡ n → out' ≡ out ++ r ∷ [] → AreSumsTo M x n (polynomials out) ps qs → IsPlaceSum M x n (polynomial_of r) ps qs → AreSumsTo M x (n + 1) (polynomials out') ps qs
sums_push M x n out out' r ps qs l e a s = rw e (record {
  canon = canon_snoc M x out r a.canon s.under s.canon;
  at = λ k m top h is. elim (cases_lt k n) [
    | inl lt ↦ snoc_below out r k m (omega arith) ∙ a.at k m top lt is
    | inr ge ↦ (let k' : n ≡ k = omega arith in snoc_last out r k m (omega arith) ∙ (s.at m top is ∙ ap (λ z. (place ps z m + place qs z m) % M) k'))
  ];
})

in_at : (M x n : ℕ) (rs : List Tree) (ps qs : List Tree) → 0 < M → length rs ≡ n → length ps ≤ n → length qs ≤ n → AreSumsTo M x n (polynomials rs) (polynomials ps) (polynomials qs) → (k : ℕ) (m : List Power) (top : ℕ) → IsMonomial m top → place (polynomials rs) k m ≡ (place (polynomials ps) k m + place (polynomials qs) k m) % M
in_at M x n rs ps qs some l lp lq a k m top is = elim (cases_lt k n) [
  | inl lt ↦ a.at k m top lt is
  | inr ge ↦ (let z : place (polynomials ps) k m + place (polynomials qs) k m ≡ 0 = omega (arith, past_list ps k m (omega arith), past_list qs k m (omega arith)) in past_list rs k m (omega arith) ∙ sym (ap (λ s. s % M) z ∙ mod-eq_of_lt some))
]

ext_sum : (M x : ℕ) (rs ps qs : Polynomials) → ((k : ℕ) (m : List Power) (top : ℕ) → IsMonomial m top → place rs k m ≡ (place ps k m + place qs k m) % M) → (m : List Power) (top : ℕ) → IsMonomial m top → coefficient (ext x rs) m ≡ (coefficient (ext x ps) m + coefficient (ext x qs) m) % M
ext_sum M x rs ps qs h [] top is = h 0 [] top is
ext_sum M x rs ps qs h (w ∷ m) top is =
    elim (cases_order w.var x) [
      | inl e ↦ rw (eq-eqb w.var x e) (h w.exp m w.var is.2)
      | inr ne ↦ rw (ne_eqb w.var x (λ e. elim ne [ inl l ↦ omega arith | inr g ↦ omega arith ])) (h 0 (w ∷ m) top is)
    ]

pub sums_built : (M x n : ℕ) (r : Polynomial) (rs ps qs : List Tree) → 0 < M → length rs ≡ n → length ps ≤ n → length qs ≤ n → AreSumsTo M x n (polynomials rs) (polynomials ps) (polynomials qs) → IsBuilt M x (polynomials rs) r → IsSumIn M x r (polynomials ps) (polynomials qs)
sums_built M x n r rs ps qs some l lp lq a b = record { canon = b.canon; under = b.under; at = λ m top is. b.at m top is ∙ ext_sum M x (polynomials rs) (polynomials ps) (polynomials qs) (in_at M x n rs ps qs some l lp lq a) m top is }
