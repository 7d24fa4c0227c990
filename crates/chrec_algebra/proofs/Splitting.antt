-- the coefficients of one power of a counter
use Rattle.std.proofs.Common.{◌≡◌, ℕ, zero, suc, ◌+◌, ◌<◌, ◌≤◌, inl, inr, List, [], ◌∷◌, ◌++◌, refl, ap, ◌∙◌, sym, subst, arith, length, get_or, take, Bool, false, IsTrue, ◌↔◌}
use Rattle.std.proofs.lemmas.Bool.{eq-eqb, ne_eqb, cases_order, cases_eq}
use Rattle.scev_tree.specs.declared.tree.Tree.{Tree, Num}
use Rattle.scev_tree.specs.Polynomial.{Polynomial, Polynomials, num, ext, none, more, Power, coefficient, place, IsMonomial, Under, IsCanonical, AreCanonical, IsBuilt}
use Rattle.scev_tree.specs.Tree.{Each, polynomials, polynomial_of}
use Rattle.scev_tree.proofs.GrowingLists.{zero_coeff, past_list, take_snoc}
use Rattle.scev_tree.proofs.TreePlaces.{high_place, canon_of, under_of, place_of}
use Rattle.scev_tree.proofs.ListedTrees.{polynomial_of_num, len_is}
use Rattle.scev_tree.proofs.Unique.{above}
use Rattle.chrec_algebra.specs.Line.{IsLinear, AreLinear, IsPart, IsPartOf, IsPlaceOf}
use Rattle.chrec_algebra.specs.Place.{insert, Has}
use Rattle.chrec_algebra.proofs.Replacements.{insert_none, insert_above, has_above, above_places, under_later, insert_low, insert_high, low_insert, not_front, front_other}

-- ---- a polynomial below the counter

pub part_whole : (x k : ℕ) (r a : Polynomial) → Under a x → k ≡ 0 → r ≡ a → IsPartOf x k r a
part_whole x k r a u z e M some c = rw (e, z) (record {
  canon = c;
  under = λ y v. v;
  at = λ m top is lacks. sym (ap (coefficient a) (insert_none x m));
  gone = λ m top is h. has_above M x top a m c u is h;
})

pub part_nothing : (x k : ℕ) (r a : Polynomial) → Under a x → (k ≡ 0 → ⊥) → r ≡ num 0 → IsPartOf x k r a
part_nothing x zero r a u ne e M some c = absurd (ne refl)
part_nothing x (suc k) r a u ne e M some c = rw e (record {
  canon = some;
  under = λ y v. tt;
  at = λ m top is lacks. zero_coeff m ∙ sym (insert_above M x k a m c u);
  gone = λ m top is h. zero_coeff m;
})

pub part_low : (x k : ℕ) (r a : Polynomial) → Under a x → (k ≡ 0 → r ≡ a) → ((k ≡ 0 → ⊥) → r ≡ num 0) → IsPartOf x k r a
part_low x k r a u whole nothing = elim (cases_eq k 0) [ inl z ↦ part_whole x k r a u z (whole z) | inr ne ↦ part_nothing x k r a u ne (nothing ne) ]

-- ---- the counter itself

pub place_copied : (k : ℕ) (ts : List Tree) (t : Tree) (r : Polynomial) → k < length ts → t ≡ get_or ts k t → r ≡ polynomial_of t → IsPlaceOf k r (polynomials ts)
place_copied k ts t r lt is e = rw e (record { canon = λ M x some c. (under_of M x ts k t is c lt, canon_of M x ts k t is c lt); at = λ m. sym (place_of ts k t m is lt) })

pub place_absent : (k : ℕ) (ts : List Tree) → length ts ≤ k → IsPlaceOf k (polynomial_of (Num 0)) (polynomials ts)
place_absent k ts le = rw polynomial_of_num (record { canon = λ M x some c. (tt, some); at = λ m. zero_coeff m ∙ sym (past_list ts k m le) })

here_part : (M x k : ℕ) (r : Polynomial) (ps : Polynomials) (m : List Power) (top : ℕ) → AreCanonical M ps x → Under r x → IsCanonical M r → ((m : List Power) → coefficient r m ≡ place ps k m) → IsMonomial m top → (Has x m → ⊥) → coefficient r m ≡ coefficient (ext x ps) (insert x k m)
here_part M x k r ps [] top d u c at is lacks = at [] ∙ sym (ap (coefficient (ext x ps)) (insert_low x k [] tt) ∙ high_place x ps k [] tt)
here_part M x k r ps (q ∷ m) top d u c at is lacks = elim (cases_order q.var x) [
  | inl e ↦ absurd (lacks (inl e))
  | inr o ↦ (elim o [
    | inl lt ↦ at (q ∷ m) ∙ sym (ap (coefficient (ext x ps)) (insert_low x k (q ∷ m) (lt, is.1, is.2)) ∙ high_place x ps k (q ∷ m) (lt, is.1, is.2))
    | inr gt ↦ above M r x q m c u (omega arith) ∙ sym (ap (coefficient (ext x ps)) (insert_high x k q m gt) ∙ above_places M x ps q (insert x k m) d gt)
  ])
]

places_of : (M x : ℕ) (ps : Polynomials) → IsCanonical M (ext x ps) → AreCanonical M ps x
places_of M x none c = absurd c
places_of M x (more p ps) c = (c.0, c.1, c.2)

pub part_here : (x z k : ℕ) (r a : Polynomial) (ps : Polynomials) → a ≡ ext z ps → z ≡ x → IsPlaceOf k r ps → IsPartOf x k r a
part_here x z k r a ps e same p =
    let e' : a ≡ ext x ps = e ∙ ap (λ y. ext y ps) same in
    rw e' (λ M some c. (let d = places_of M x ps c in let w = p.canon M x some d in record {
      canon = w.1;
      under = λ y u. under_later r x y w.0 u;
      at = λ m top is lacks. here_part M x k r ps m top d w.0 w.1 p.at is lacks;
      gone = λ m top is h. has_above M x top r m w.1 w.0 is h;
    }))

-- ---- a greater variable

module _ (M x k y : ℕ) (some : 0 < M) (lt : x < y) where
  parts_canon : (rs ps : Polynomials) → Each (IsPartOf x k) rs ps → AreCanonical M ps y → AreCanonical M rs y
  parts_canon none none e d = tt
  parts_canon none (more p ps) e d = absurd e
  parts_canon (more r rs) none e d = absurd e
  parts_canon (more r rs) (more p ps) e d = (let h = e.0 M some d.1 in (h.under y d.0, h.canon, parts_canon rs ps e.1 d.2))

  place_part : (rs ps : Polynomials) (i : ℕ) (m : List Power) (top : ℕ) → Each (IsPartOf x k) rs ps → AreCanonical M ps y → IsMonomial m top → (Has x m → ⊥) → place rs i m ≡ place ps i (insert x k m)
  place_part none none i m top e d is lacks = refl
  place_part none (more p ps) i m top e d is lacks = absurd e
  place_part (more r rs) none i m top e d is lacks = absurd e
  place_part (more r rs) (more p ps) zero m top e d is lacks = (e.0 M some d.1).at m top is lacks
  place_part (more r rs) (more p ps) (suc i) m top e d is lacks = place_part rs ps i m top e.1 d.2 is lacks

  place_free : (rs ps : Polynomials) (i : ℕ) (m : List Power) (top : ℕ) → Each (IsPartOf x k) rs ps → AreCanonical M ps y → IsMonomial m top → Has x m → place rs i m ≡ 0
  place_free none none i m top e d is h = refl
  place_free none (more p ps) i m top e d is h = absurd e
  place_free (more r rs) none i m top e d is h = absurd e
  place_free (more r rs) (more p ps) zero m top e d is h = (e.0 M some d.1).gone m top is h
  place_free (more r rs) (more p ps) (suc i) m top e d is h = place_free rs ps i m top e.1 d.2 is h

  up_part : (rs ps : Polynomials) → Each (IsPartOf x k) rs ps → AreCanonical M ps y → (m : List Power) (top : ℕ) → IsMonomial m top → (Has x m → ⊥) → coefficient (ext y rs) m ≡ coefficient (ext y ps) (insert x k m)
  up_part rs ps e d [] top is lacks = place_part rs ps 0 [] top e d is lacks ∙ sym (low_insert M x 0 y some lt ps k [] (not_front M x 0 y some lt [] 0 tt (omega arith)))
  up_part rs ps e d (q ∷ m) top is lacks =
      elim (cases_eq q.var y) [
        | inl eq ↦ rw (eq-eqb q.var y eq) (place_part rs ps q.exp m q.var e d is.2 (λ h. lacks (inr h)) ∙ sym (ap (coefficient (ext y ps)) (insert_high x k q m (omega arith)) ∙ front q m eq))
        | inr ne ↦ rw (ne_eqb q.var y ne) (place_part rs ps 0 (q ∷ m) top e d is lacks ∙ sym (low_insert M x 0 y some lt ps k (q ∷ m) (front_other M x 0 y some lt q m ne)))
      ]
    where
      front : (q : Power) (m : List Power) → q.var ≡ y → coefficient (ext y ps) (q ∷ insert x k m) ≡ place ps q.exp (insert x k m)
      front q m eq = rw (eq-eqb q.var y eq) refl

  up_free : (rs ps : Polynomials) → Each (IsPartOf x k) rs ps → AreCanonical M ps y → (m : List Power) (top : ℕ) → IsMonomial m top → Has x m → coefficient (ext y rs) m ≡ 0
  up_free rs ps e d [] top is h = absurd h
  up_free rs ps e d (q ∷ m) top is h =
      elim (cases_eq q.var y) [
        | inl eq ↦ rw (eq-eqb q.var y eq) (elim h [ inl a ↦ absurd (omega arith) | inr b ↦ place_free rs ps q.exp m q.var e d is.2 b ])
        | inr ne ↦ rw (ne_eqb q.var y ne) (place_free rs ps 0 (q ∷ m) top e d is h)
      ]

  above_at : (r : Polynomial) (rs ps : Polynomials) → AreCanonical M ps y → Each (IsPartOf x k) rs ps → (AreCanonical M rs y → IsBuilt M y rs r) → IsPart M x k r (ext y ps)
  above_at r rs ps d e built =
      let b = built (parts_canon rs ps e d) in
      record {
        canon = b.canon;
        under = λ z u. b.under z u;
        at = λ m top is lacks. b.at m top is ∙ up_part rs ps e d m top is lacks;
        gone = λ m top is h. b.at m top is ∙ up_free rs ps e d m top is h;
      }

pub part_above : (x k y : ℕ) (r a : Polynomial) (rs ps : Polynomials) → x < y → a ≡ ext y ps → Each (IsPartOf x k) rs ps → ((M : ℕ) → 0 < M → AreCanonical M rs y → IsBuilt M y rs r) → IsPartOf x k r a
part_above x k y r a rs ps lt ea e built = rw ea (λ M some c. above_at M x k y some lt r rs ps (places_of M y ps c) e (built M some))

-- ---- the test

pub linear_of : (x : ℕ) (ts : List Tree) (i : ℕ) (t : Tree) → t ≡ get_or ts i t → i < length ts → AreLinear x (polynomials ts) → IsLinear x (polynomial_of t)
linear_of x [] i t e lt a = absurd (omega arith)
linear_of x (u ∷ ts) zero t e lt a = subst (λ (v : Tree). IsLinear x (polynomial_of v)) (sym e) a.0
linear_of x (u ∷ ts) (suc i) t e lt a = linear_of x ts i t e (omega arith) a.1

pub linear_push : (x : ℕ) (ts : List Tree) (i : ℕ) (t : Tree) → AreLinear x (polynomials (take i ts)) → i < length ts → t ≡ get_or ts i t → IsLinear x (polynomial_of t) → AreLinear x (polynomials (take (i + 1) ts))
linear_push x ts i t a lt e l =
    let v : take (i + 1) ts ≡ take i ts ++ t ∷ [] = take_snoc ts i t lt ∙ ap (λ u. take i ts ++ u ∷ []) (sym e) in
    rw v (grow (take i ts) a)
  where
    grow : (us : List Tree) → AreLinear x (polynomials us) → AreLinear x (polynomials (us ++ t ∷ []))
    grow [] b = (l, tt)
    grow (u ∷ us) b = (b.0, grow us b.1)

pub linear_nested : (x y : ℕ) (a : Polynomial) (ts us : List Tree) (r : Bool) → a ≡ ext y (polynomials ts) → us ≡ ts → (y ≡ x → length ts ≤ 2) → IsTrue r ↔ AreLinear x (polynomials us) → IsTrue r ↔ IsLinear x a
linear_nested x y a ts us r e o few h =
    let h' : IsTrue r ↔ AreLinear x (polynomials ts) = subst (λ (vs : List Tree). IsTrue r ↔ AreLinear x (polynomials vs)) o h in
    rw e (λ t. (λ q. omega (arith, few q, len_is ts), h'.0 t), λ l. h'.1 l.1)

pub bent : (x y : ℕ) (a : Polynomial) (ts : List Tree) → a ≡ ext y (polynomials ts) → y ≡ x → 2 < length ts → IsTrue false ↔ IsLinear x a
bent x y a ts e same many = rw e (λ t. absurd cc, λ l. absurd (omega (arith, l.0 same, len_is ts)))
