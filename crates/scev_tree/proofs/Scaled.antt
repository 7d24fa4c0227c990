-- multiples, place by place
use Rattle.std.proofs.Common.{◌≡◌, ℕ, zero, suc, ◌+◌, ◌*◌, ◌%◌, ◌<◌, inl, inr, List, [], ◌∷◌, ◌++◌, refl, ap, ◌∙◌, sym, subst, arith, length, get_or, take}
use Rattle.std.proofs.lemmas.Bool.{eq-eqb, ne_eqb, cases_order}
use Rattle.std.proofs.Math.Nat.{mod-eq_of_lt}
use Rattle.scev_tree.specs.declared.tree.Tree.{Tree, Num}
use Rattle.scev_tree.specs.Polynomial.{Polynomial, Polynomials, num, ext, none, more, Power, coefficient, place, IsMonomial, IsCanonical, AreCanonical, IsScaled, IsBuilt}
use Rattle.scev_tree.specs.Tree.{polynomial_of, polynomials, Each}
use Rattle.scev_tree.proofs.ListedTrees.{polynomial_of_num}
use Rattle.scev_tree.proofs.GrowingLists.{take_snoc}
use Rattle.scev_tree.proofs.TreePlaces.{places_canon}

pub each_push : (R : Polynomial → Polynomial → Type 0) (out out' ts : List Tree) (i : ℕ) (r t : Tree) → Each R (polynomials out) (polynomials (take i ts)) → i < length ts → t ≡ get_or ts i t → R (polynomial_of r) (polynomial_of t) → out' ≡ out ++ r ∷ [] → Each R (polynomials out') (polynomials (take (i + 1) ts))
each_push R out out' ts i r t e h is s o =
    let v : take (i + 1) ts ≡ take i ts ++ t ∷ [] = take_snoc ts i t h ∙ ap (λ u. take i ts ++ u ∷ []) (sym is) in
    rw (o, v) (grow out (take i ts) e)
  where
    grow : (us vs : List Tree) → Each R (polynomials us) (polynomials vs) → Each R (polynomials (us ++ r ∷ [])) (polynomials (vs ++ t ∷ []))
    grow [] [] e = (s, tt)
    grow [] (v ∷ vs) e = absurd e
    grow (u ∷ us) [] e = absurd e
    grow (u ∷ us) (v ∷ vs) e = (e.0, grow us vs e.1)

scaled_canon : (M K c x : ℕ) (rs ps : Polynomials) → Each (IsScaled M c) rs ps → AreCanonical K ps x → AreCanonical M rs x
scaled_canon M K c x none none e d = tt
scaled_canon M K c x none (more p ps) e d = absurd e
scaled_canon M K c x (more r rs) none e d = absurd e
scaled_canon M K c x (more r rs) (more p ps) e d = (e.0.under x d.0, e.0.canon, scaled_canon M K c x rs ps e.1 d.2)

zero_scaled : (M c : ℕ) → 0 < M → 0 ≡ (c * 0) % M
zero_scaled M c some = let z : c * 0 ≡ 0 = omega arith in sym (ap (λ s. s % M) z ∙ mod-eq_of_lt some)

scaled_at : (M c : ℕ) (rs ps : Polynomials) (k : ℕ) (m : List Power) (top : ℕ) → 0 < M → Each (IsScaled M c) rs ps → IsMonomial m top → place rs k m ≡ (c * place ps k m) % M
scaled_at M c none none k m top some e is = zero_scaled M c some
scaled_at M c none (more p ps) k m top some e is = absurd e
scaled_at M c (more r rs) none k m top some e is = absurd e
scaled_at M c (more r rs) (more p ps) zero m top some e is = e.0.at m top is
scaled_at M c (more r rs) (more p ps) (suc k) m top some e is = scaled_at M c rs ps k m top some e.1 is

ext_scaled_at : (M c x : ℕ) (rs ps : Polynomials) → 0 < M → Each (IsScaled M c) rs ps → (m : List Power) (top : ℕ) → IsMonomial m top → coefficient (ext x rs) m ≡ (c * coefficient (ext x ps) m) % M
ext_scaled_at M c x rs ps some e [] top is = scaled_at M c rs ps 0 [] top some e is
ext_scaled_at M c x rs ps some e (q ∷ m) top is =
    elim (cases_order q.var x) [
      | inl eq ↦ rw (eq-eqb q.var x eq) (scaled_at M c rs ps q.exp m q.var some e is.2)
      | inr ne ↦ rw (ne_eqb q.var x (λ e. elim ne [ inl l ↦ omega arith | inr g ↦ omega arith ])) (scaled_at M c rs ps 0 (q ∷ m) top some e is)
    ]

pub scaled_ext : (M K c x : ℕ) (r a : Polynomial) (rs ps : Polynomials) → 0 < M → a ≡ ext x ps → IsCanonical K a → Each (IsScaled M c) rs ps → (AreCanonical M rs x → IsBuilt M x rs r) → IsScaled M c r a
scaled_ext M K c x r a rs ps some ea ca e built =
    let c' : IsCanonical K (ext x ps) = subst (IsCanonical K) ea ca in
    let b = built (scaled_canon M K c x rs ps e (places_canon K x ps c')) in
    rw ea (record { canon = b.canon; under = λ y u. b.under y u; at = λ m top is. b.at m top is ∙ ext_scaled_at M c x rs ps some e m top is })

num_scaled_at : (M c v : ℕ) (m : List Power) → 0 < M → coefficient (num ((c * v) % M)) m ≡ (c * coefficient (num v) m) % M
num_scaled_at M c v [] some = refl
num_scaled_at M c v (q ∷ m) some = zero_scaled M c some

pub scaled_num : (M c v r : ℕ) (a : Polynomial) → 0 < M → a ≡ num v → r ≡ (c * v) % M → IsScaled M c (polynomial_of (Num r)) a
scaled_num M c v r a some e f = rw (polynomial_of_num, e, f) (record { canon = omega arith; under = λ x u. tt; at = λ m top is. num_scaled_at M c v m some })
