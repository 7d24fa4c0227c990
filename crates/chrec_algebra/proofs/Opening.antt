-- the places of a product before anything is added
use Rattle.std.proofs.Common.{◌≡◌, ℕ, zero, suc, ◌+◌, ◌*◌, ◌%◌, ◌<◌, ◌≤◌, inl, inr, List, [], ◌∷◌, ◌++◌, refl, ap, ◌∙◌, sym, subst, arith, length, length-append}
use Rattle.std.proofs.lemmas.Bool.{eq-eqb, ne_eqb, cases_order, cases_lt}
use Rattle.std.proofs.Math.ListN.{set}
use Rattle.scev_tree.specs.declared.tree.Tree.{Tree}
use Rattle.scev_tree.specs.Polynomial.{Polynomial, Polynomials, num, ext, Power, coefficient, place, Under, IsCanonical, AreCanonical}
use Rattle.scev_tree.specs.Tree.{polynomials, polynomial_of}
use Rattle.scev_tree.proofs.GrowingLists.{snoc_below, snoc_last, past_list, zero_coeff}
use Rattle.scev_tree.proofs.TreePlaces.{places_canon}
use Rattle.chrec_algebra.specs.Product.{AreZeros}
use Rattle.chrec_algebra.specs.Onto.{AreAdded}
use Rattle.chrec_algebra.specs.Places.{IsOverlaid, IsOpened}
use Rattle.chrec_algebra.proofs.PlacewiseProducts.{set_here, set_other, set_canon}
use Rattle.chrec_algebra.proofs.InPlace.{place_coeff}

-- ---- trees are moved to the places that they have

pub overlaid_none : (ops : List Tree) (out : Polynomials) → ops ≡ [] → IsOverlaid (length ops) (polynomials ops) out out
overlaid_none [] out e = record { canon = λ M x cp co. co; below = λ k m lt. absurd (omega arith); rest = λ k m le. refl }
overlaid_none (t ∷ ops) out e = absurd (omega (arith, ap (length {A = Tree}) e))

init_canon : (M x : ℕ) (ts : List Tree) (t : Tree) → AreCanonical M (polynomials (ts ++ t ∷ [])) x → AreCanonical M (polynomials ts) x × (Under (polynomial_of t) x × IsCanonical M (polynomial_of t))
init_canon M x [] t c = (tt, (c.0, c.1))
init_canon M x (u ∷ ts) t c = let r = init_canon M x ts t c.2 in ((c.0, c.1, r.0), r.1)

pub overlaid_step : (ops ts out mid : List Tree) (t : Tree) (new : Polynomials) → ops ≡ ts ++ t ∷ [] → length ops ≤ length out → mid ≡ set out (length ts) t → IsOverlaid (length ts) (polynomials ts) (polynomials mid) new → IsOverlaid (length ops) (polynomials ops) (polynomials out) new
overlaid_step ops ts out mid t new e le em o = rw e (record {
  canon = λ M x cp co. (let r = init_canon M x ts t cp in o.canon M x r.0 (subst (λ (us : List Tree). AreCanonical M (polynomials us) x) (sym em) (set_canon M x out (length ts) t co r.1.0 r.1.1)));
  below = λ k m lt. elim (cases_lt k (length ts)) [
    | inl l ↦ o.below k m l ∙ sym (snoc_below ts t k m l)
    | inr g ↦ (let same : k ≡ length ts = omega (arith, count) in o.rest k m g ∙ (ap (λ (us : List Tree). place (polynomials us) k m) em ∙ (ap (λ z. place (polynomials (set out (length ts) t)) z m) same ∙ (set_here out (length ts) t m (omega (arith, count, whole)) ∙ sym (snoc_last ts t k m same)))))
  ];
  rest = λ k m g. o.rest k m (omega (arith, count)) ∙ (ap (λ (us : List Tree). place (polynomials us) k m) em ∙ set_other out (length ts) t k m (λ q. omega (arith, count)));
})
  where
    count : length (ts ++ t ∷ []) ≡ length ts + 1
    count = length-append ts (t ∷ [])

    whole : length (ts ++ t ∷ []) ≤ length out
    whole = subst (λ (us : List Tree). length us ≤ length out) e le

pub fewer : (ops ts : List Tree) (t : Tree) → ops ≡ ts ++ t ∷ [] → length ts + 1 ≡ length ops
fewer ops ts t e = sym (length-append ts (t ∷ [])) ∙ sym (ap (length {A = Tree}) e)

-- ---- a tree and its places

ext_zero : (x : ℕ) (rs : Polynomials) (m : List Power) → AreZeros rs → coefficient (ext x rs) m ≡ 0
ext_zero x rs [] z = z.at 0 []
ext_zero x rs (q ∷ m) z = elim (cases_order q.var x) [ inl e ↦ rw (eq-eqb q.var x e) (z.at q.exp m) | inr ne ↦ rw (ne_eqb q.var x (λ e. elim ne [ inl l ↦ omega arith | inr g ↦ omega arith ])) (z.at 0 (q ∷ m)) ]

pub opened_zeros : (x : ℕ) (rs : Polynomials) (rest tree : Polynomial) → AreZeros rs → rest ≡ tree → IsOpened x rs rest tree
opened_zeros x rs rest tree z e = rw e (record {
  canon = λ M some c. (z.canon M x some, c);
  under = λ y u. u;
  at = λ m. (let h = ext_zero x rs m z in omega arith);
})

pub opened_places : (x : ℕ) (ops : List Tree) (zs new : Polynomials) (rest tree : Polynomial) → tree ≡ ext x (polynomials ops) → rest ≡ num 0 → AreZeros zs → IsOverlaid (length ops) (polynomials ops) zs new → IsOpened x new rest tree
opened_places x ops zs new rest tree et er z o = rw (et, er) (record {
  canon = λ M some c. (o.canon M x (places_canon M x (polynomials ops) c) (z.canon M x some), some);
  under = λ y u. tt;
  at = λ m. (let h = place_coeff x (polynomials ops) new same m in let e = zero_coeff m in omega arith);
})
  where
    same : (k : ℕ) (m : List Power) → place (polynomials ops) k m ≡ place new k m
    same k m = elim (cases_lt k (length ops)) [ inl lt ↦ sym (o.below k m lt) | inr ge ↦ past_list ops k m ge ∙ sym (o.rest k m ge ∙ z.at k m) ]

pub set_length : (ts : List Tree) (k : ℕ) (t : Tree) → length (set ts k t) ≡ length ts
set_length [] k t = refl
set_length (u ∷ ts) zero t = refl
set_length (u ∷ ts) (suc k) t = ap suc (set_length ts k t)

-- what is added to places that were moved is added to the places
pub added_over : (M c n : ℕ) (ops : List Tree) (ts zs start new : Polynomials) → 0 < M → AreZeros zs → IsOverlaid (length ops) (polynomials ops) zs start → AreAdded M c n ts start new → AreAdded M c n ts (polynomials ops) new
added_over M c n ops ts zs start new some z o a = record {
  canon = λ x co ct. a.canon x (o.canon M x co (z.canon M x some)) ct;
  below = λ k m top lt is. a.below k m top lt is ∙ ap (λ v. (v + c * place ts k m) % M) (same k m);
  rest = λ k m le. a.rest k m le ∙ same k m;
}
  where
    same : (k : ℕ) (m : List Power) → place start k m ≡ place (polynomials ops) k m
    same k m = elim (cases_lt k (length ops)) [ inl lt ↦ o.below k m lt | inr ge ↦ o.rest k m ge ∙ (z.at k m ∙ sym (past_list ops k m ge)) ]
