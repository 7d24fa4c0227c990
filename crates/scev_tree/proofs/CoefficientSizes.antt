-- the size and the degree of a polynomial, by its coefficients
use Rattle.std.proofs.Common.{◌≡◌, ℕ, zero, suc, ◌+◌, ◌<◌, ◌≤◌, ◌⊎◌, inl, inr, List, [], ◌∷◌, ◌++◌, refl, ap, ◌∙◌, sym, subst, arith, length, length-append, if◌then◌else◌, ◌==◌}
use Rattle.std.proofs.lemmas.Bool.{eq-eqb, ne_eqb, cases_order, cases_lt, cases_eq}
use Rattle.scev_tree.specs.Measure.{monomials, monomials_in, total_degree, total_degree_from}
use Rattle.scev_tree.specs.Polynomial.{Polynomial, Polynomials, num, ext, none, more, Power, power, with_power, coefficient, place, IsMonomial, Under, IsNonzero, EndsNonzero, IsCanonical, AreCanonical}
use Rattle.scev_tree.specs.Support.{degree_of, In, AreDistinct, HasMonomials, HasDegree}
use Rattle.scev_tree.proofs.TreePlaces.{high_place}
use Rattle.scev_tree.proofs.Unique.{above, raised}

-- ---- monomials in x and what is below it

with_front : (x e : ℕ) (m : List Power) → 0 < e → with_power x e m ≡ power x e ∷ m
with_front x zero m h = absurd (omega arith)
with_front x (suc e) m h = refl

degree_front : (x i : ℕ) (m : List Power) → degree_of (with_power x i m) ≡ i + degree_of m
degree_front x zero m = omega arith
degree_front x (suc i) m = refl

front_monomial : (x i top : ℕ) (m : List Power) → x < top → IsMonomial m x → IsMonomial (with_power x i m) top
front_monomial x zero top m lt is = raised 0 m x top is lt
front_monomial x (suc i) top m lt is = (lt, omega arith, is)

-- a monomial with a coefficient that isn't 0, as one of a place
record Fronted (x : ℕ) (ps : Polynomials) (m : List Power) : Type 0 where
  index : ℕ
  rest : List Power
  is : m ≡ with_power x index rest
  monomial : IsMonomial rest x
  some : 0 < place ps index rest

no_less : (n : ℕ) → n ≡ 0 → 0 < n → ⊥
no_less n e h = omega arith

past_front : (M x : ℕ) (ps : Polynomials) (q : Power) (m : List Power) → AreCanonical M ps x → x < q.var → place ps 0 (q ∷ m) ≡ 0
past_front M x none q m c lt = refl
past_front M x (more p ps) q m c lt = above M p x q m c.1 c.0 (omega arith)

fronted : (M x top : ℕ) (ps : Polynomials) (m : List Power) → AreCanonical M ps x → IsMonomial m top → 0 < coefficient (ext x ps) m → Fronted x ps m
fronted M x top ps [] c is some = record { index = 0; rest = []; is = refl; monomial = tt; some = some }
fronted M x top ps (q ∷ m) c is some = elim (cases_order q.var x) [
  | inl e ↦ (let s = rw (eq-eqb q.var x e) at some in
      record { index = q.exp; rest = m; is = sym (with_front x q.exp m is.1 ∙ ap (λ z. power z q.exp ∷ m) (sym e)); monomial = subst (IsMonomial m) e is.2; some = s })
  | inr o ↦ (let s = rw (ne_eqb q.var x (λ e. elim o [ inl l ↦ omega arith | inr g ↦ omega arith ])) at some in
      elim o [
        | inl lt ↦ record { index = 0; rest = q ∷ m; is = refl; monomial = (lt, is.1, is.2); some = s }
        | inr gt ↦ absurd (no_less (place ps 0 (q ∷ m)) (past_front M x ps q m c gt) s)
      ])
]

-- ---- degrees

mutual
  pub degree_bound : (M top : ℕ) (p : Polynomial) (m : List Power) → IsCanonical M p → Under p top → IsMonomial m top → 0 < coefficient p m → degree_of m ≤ total_degree p
  degree_bound M top (num v) [] c u is some = omega arith
  degree_bound M top (num v) (q ∷ m) c u is some = absurd (omega arith)
  degree_bound M top (ext x none) m c u is some = absurd c
  degree_bound M top (ext x (more p ps)) m c u is some =
      let f = fronted M x top (more p ps) m (c.0, c.1, c.2) is some in
      let b = place_bound M x (more p ps) f.index f.rest 0 (c.0, c.1, c.2) f.monomial f.some in
      let d : degree_of m ≡ f.index + degree_of f.rest = ap degree_of f.is ∙ degree_front x f.index f.rest in
      omega (arith, b, d)

  place_bound : (M x : ℕ) (ps : Polynomials) (i : ℕ) (m : List Power) (j : ℕ) → AreCanonical M ps x → IsMonomial m x → 0 < place ps i m → j + (i + degree_of m) ≤ total_degree_from ps j
  place_bound M x none i m j c is some = absurd (omega arith)
  place_bound M x (more (num v) ps) zero [] j c is some = (let e = ne_eqb v 0 (λ z. omega arith) in rw e (omega arith))
  place_bound M x (more (num v) ps) zero (q ∷ m) j c is some = absurd (omega arith)
  place_bound M x (more (ext y qs) ps) zero m j c is some = (let b = degree_bound M x (ext y qs) m c.1 c.0 is some in omega (arith, b))
  place_bound M x (more p ps) (suc i) m j c is some = (let b = place_bound M x ps i m (suc j) c.2 is some in omega (arith, b))

-- a place with a monomial of the greatest degree
record Reached (x : ℕ) (ps : Polynomials) (d : ℕ) : Type 0 where
  index : ℕ
  rest : List Power
  monomial : IsMonomial rest x
  some : 0 < place ps index rest
  degree : index + degree_of rest ≡ d

-- the same where the places begin with the index j
abbrev ReachedFrom : ℕ → Polynomials → ℕ → Type 0
ReachedFrom x ps j = (d : ℕ) × Reached x ps d × (j + d ≡ total_degree_from ps j)

reached_first : (x j d : ℕ) (p : Polynomial) (ps : Polynomials) → HasDegree x p d → j + d ≡ total_degree_from (more p ps) j → ReachedFrom x (more p ps) j
reached_first x j d p ps h e = (d, record { index = 0; rest = h.0; monomial = h.1; some = h.2; degree = omega (arith, h.3) }, e)

reached_later : (x j : ℕ) (p : Polynomial) (ps : Polynomials) (r : ReachedFrom x ps (suc j)) → total_degree_from (more p ps) j ≡ total_degree_from ps (suc j) → ReachedFrom x (more p ps) j
reached_later x j p ps r e =
    let k = r.1 in
    (suc r.0, record { index = suc k.index; rest = k.rest; monomial = k.monomial; some = k.some; degree = omega (arith, k.degree) }, omega (arith, r.2, e))

ends : (p : Polynomial) (ps : Polynomials) → EndsNonzero ps → EndsNonzero (more p ps)
ends p none e = absurd e
ends p (more q qs) e = e

mutual
  degree_reached : (M top : ℕ) (p : Polynomial) → IsCanonical M p → Under p top → IsNonzero p → HasDegree top p (total_degree p)
  degree_reached M top (num v) c u nz = ([], tt, nz, refl)
  degree_reached M top (ext x none) c u nz = absurd c
  degree_reached M top (ext x (more p ps)) c u nz =
      let r = places_reached M x (more p ps) 0 (c.0, c.1, c.2) (ends p ps c.3) in
      let k = r.1 in
      (with_power x k.index k.rest, front_monomial x k.index top k.rest u k.monomial, subst (λ z. 0 < z) (sym (high_place x (more p ps) k.index k.rest k.monomial)) k.some, degree_front x k.index k.rest ∙ omega (arith, k.degree, r.2))

  places_reached : (M x : ℕ) (ps : Polynomials) (j : ℕ) → AreCanonical M ps x → EndsNonzero ps → ReachedFrom x ps j
  places_reached M x none j c e = absurd e
  places_reached M x (more (num v) none) j c e = (let t = ne_eqb v 0 (λ z. omega (arith, e)) in reached_first x j 0 (num v) none ([], tt, e, refl) (rw t (omega arith)))
  places_reached M x (more (ext y qs) none) j c e = reached_first x j (total_degree (ext y qs)) (ext y qs) none (degree_reached M x (ext y qs) c.1 c.0 tt) (omega arith)
  places_reached M x (more (num v) (more q qs)) j c e =
      let r = places_reached M x (more q qs) (suc j) c.2 e in
      reached_later x j (num v) (more q qs) r (elim (cases_eq v 0) [ inl z ↦ rw (eq-eqb v 0 z) (omega arith) | inr ne ↦ rw (ne_eqb v 0 ne) (omega (arith, r.2)) ])
  places_reached M x (more (ext y ps) (more q qs)) j c e =
      let r = places_reached M x (more q qs) (suc j) c.2 e in
      elim (cases_lt (j + total_degree (ext y ps)) (total_degree_from (more q qs) (suc j))) [
        | inl lt ↦ reached_later x j (ext y ps) (more q qs) r (omega (arith, lt))
        | inr ge ↦ reached_first x j (total_degree (ext y ps)) (ext y ps) (more q qs) (degree_reached M x (ext y ps) c.1 c.0 tt) (omega (arith, ge))
      ]

nonzero_of : (p : Polynomial) → (p ≡ num 0 → ⊥) → IsNonzero p
nonzero_of (num v) ne = elim (cases_lt 0 v) [ inl l ↦ l | inr g ↦ (let e : v ≡ 0 = omega arith in absurd (ne (ap num e))) ]
nonzero_of (ext x ps) ne = tt

pub has_degree : (M top : ℕ) (p : Polynomial) → IsCanonical M p → Under p top → (p ≡ num 0 → ⊥) → HasDegree top p (total_degree p)
has_degree M top p c u ne = degree_reached M top p c u (nonzero_of p ne)

-- ---- the list of monomials

front : ℕ → ℕ → List (List Power) → List (List Power)
front x j [] = []
front x j (m ∷ ms) = with_power x j m ∷ front x j ms

mutual
  list_of : Polynomial → List (List Power)
  list_of (num v) = if v == 0 then [] else ([] ∷ [])
  list_of (ext x ps) = list_in x ps 0

  list_in : ℕ → Polynomials → ℕ → List (List Power)
  list_in x none j = []
  list_in x (more p ps) j = front x j (list_of p) ++ list_in x ps (suc j)

length_front : (x j : ℕ) (ms : List (List Power)) → length (front x j ms) ≡ length ms
unfolding front
length_front x j [] = refl
length_front x j (m ∷ ms) = omega (arith, length_front x j ms)

mutual
  unfolding list_of list_in

  list_count : (p : Polynomial) → length (list_of p) ≡ monomials p
  list_count (num v) = elim (cases_eq v 0) [ inl z ↦ rw (eq-eqb v 0 z) refl | inr ne ↦ rw (ne_eqb v 0 ne) refl ]
  list_count (ext x ps) = lists_count x ps 0

  lists_count : (x : ℕ) (ps : Polynomials) (j : ℕ) → length (list_in x ps j) ≡ monomials_in ps
  lists_count x none j = refl
  lists_count x (more p ps) j = length-append (front x j (list_of p)) (list_in x ps (suc j)) ∙ (let f = length_front x j (list_of p) in let a = list_count p in let b = lists_count x ps (suc j) in omega arith)

in_left : (m : List Power) (ms ns : List (List Power)) → In m ms → In m (ms ++ ns)
in_left m [] ns h = absurd h
in_left m (k ∷ ms) ns h = elim h [ inl e ↦ inl e | inr i ↦ inr (in_left m ms ns i) ]

in_right : (m : List Power) (ms ns : List (List Power)) → In m ns → In m (ms ++ ns)
in_right m [] ns h = h
in_right m (k ∷ ms) ns h = inr (in_right m ms ns h)

in_either : (m : List Power) (ms ns : List (List Power)) → In m (ms ++ ns) → In m ms ⊎ In m ns
in_either m [] ns h = inr h
in_either m (k ∷ ms) ns h = elim h [ inl e ↦ inl (inl e) | inr i ↦ (elim (in_either m ms ns i) [ inl a ↦ inl (inr a) | inr b ↦ inr b ]) ]

in_front : (x j : ℕ) (m : List Power) (ms : List (List Power)) → In m ms → In (with_power x j m) (front x j ms)
unfolding front
in_front x j m [] h = absurd h
in_front x j m (k ∷ ms) h = elim h [ inl e ↦ inl (ap (with_power x j) e) | inr i ↦ inr (in_front x j m ms i) ]

front_in : (x j : ℕ) (w : List Power) (ms : List (List Power)) → In w (front x j ms) → (m : List Power) × (w ≡ with_power x j m) × In m ms
unfolding front
front_in x j w [] h = absurd h
front_in x j w (k ∷ ms) h = elim h [ inl e ↦ (k, e, inl refl) | inr i ↦ (let r = front_in x j w ms i in (r.0, r.1, inr r.2)) ]

only_one : (v top : ℕ) (m : List Power) → (v ≡ 0 → ⊥) → In m ([] ∷ []) → IsMonomial m top × (0 < coefficient (num v) m)
only_one v top m ne h = elim h [
  | inl e ↦ subst (λ n. IsMonomial n top × (0 < coefficient (num v) n)) (sym e) (tt, positive v ne)
  | inr i ↦ absurd i
]
  where
    positive : (v : ℕ) → (v ≡ 0 → ⊥) → 0 < v
    positive v ne = elim (cases_lt 0 v) [ inl l ↦ l | inr g ↦ absurd (ne (omega arith)) ]

-- an element of the list, by its place
record Listed (x : ℕ) (ps : Polynomials) (j : ℕ) (w : List Power) : Type 0 where
  index : ℕ
  rest : List Power
  is : w ≡ with_power x (j + index) rest
  monomial : IsMonomial rest x
  some : 0 < place ps index rest

mutual
  unfolding list_of list_in

  list_nonzero : (M top : ℕ) (p : Polynomial) (m : List Power) → IsCanonical M p → Under p top → In m (list_of p) → IsMonomial m top × (0 < coefficient p m)
  list_nonzero M top (num v) m c u h = elim (cases_eq v 0) [
    | inl z ↦ absurd (rw (eq-eqb v 0 z) at h)
    | inr ne ↦ only_one v top m ne (rw (ne_eqb v 0 ne) at h)
  ]
  list_nonzero M top (ext x none) m c u h = absurd c
  list_nonzero M top (ext x (more p ps)) m c u h =
      let l = listed M x (more p ps) 0 m (c.0, c.1, c.2) h in
      let e : m ≡ with_power x l.index l.rest = l.is ∙ ap (λ k. with_power x k l.rest) (omega arith) in
      (subst (λ n. IsMonomial n top) (sym e) (front_monomial x l.index top l.rest u l.monomial), subst (λ n. 0 < coefficient (ext x (more p ps)) n) (sym e) (subst (λ z. 0 < z) (sym (high_place x (more p ps) l.index l.rest l.monomial)) l.some))

  listed : (M x : ℕ) (ps : Polynomials) (j : ℕ) (w : List Power) → AreCanonical M ps x → In w (list_in x ps j) → Listed x ps j w
  listed M x none j w c h = absurd h
  listed M x (more p ps) j w c h = elim (in_either w (front x j (list_of p)) (list_in x ps (suc j)) h) [
    | inl a ↦ (let r = front_in x j w (list_of p) a in
        let s = list_nonzero M x p r.0 c.1 c.0 r.2 in
        record { index = 0; rest = r.0; is = r.1 ∙ ap (λ k. with_power x k r.0) (omega arith); monomial = s.0; some = s.1 })
    | inr b ↦ (let l = listed M x ps (suc j) w c.2 b in
        record { index = suc l.index; rest = l.rest; is = l.is ∙ ap (λ k. with_power x k l.rest) (omega arith); monomial = l.monomial; some = l.some })
  ]

mutual
  unfolding list_of list_in

  list_all : (M top : ℕ) (p : Polynomial) (m : List Power) → IsCanonical M p → Under p top → IsMonomial m top → 0 < coefficient p m → In m (list_of p)
  list_all M top (num v) [] c u is some = rw (ne_eqb v 0 (λ z. omega arith)) (inl refl)
  list_all M top (num v) (q ∷ m) c u is some = absurd (omega arith)
  list_all M top (ext x none) m c u is some = absurd c
  list_all M top (ext x (more p ps)) m c u is some =
      let f = fronted M x top (more p ps) m (c.0, c.1, c.2) is some in
      let i = lists_all M x (more p ps) 0 f.index f.rest (c.0, c.1, c.2) f.monomial f.some in
      subst (λ n. In n (list_in x (more p ps) 0)) (sym (f.is ∙ ap (λ k. with_power x k f.rest) (omega arith))) i

  lists_all : (M x : ℕ) (ps : Polynomials) (j i : ℕ) (m : List Power) → AreCanonical M ps x → IsMonomial m x → 0 < place ps i m → In (with_power x (j + i) m) (list_in x ps j)
  lists_all M x none j i m c is some = absurd (omega arith)
  lists_all M x (more p ps) j zero m c is some =
      let h = in_front x j m (list_of p) (list_all M x p m c.1 c.0 is some) in
      in_left (with_power x (j + 0) m) (front x j (list_of p)) (list_in x ps (suc j)) (subst (λ k. In (with_power x k m) (front x j (list_of p))) (omega arith) h)
  lists_all M x (more p ps) j (suc i) m c is some =
      let h = lists_all M x ps (suc j) i m c.2 is some in
      in_right (with_power x (j + suc i) m) (front x j (list_of p)) (list_in x ps (suc j)) (subst (λ k. In (with_power x k m) (list_in x ps (suc j))) (omega arith) h)

-- ---- each once

same_rest : (x j : ℕ) (m n : List Power) → with_power x j m ≡ with_power x j n → m ≡ n
same_rest x zero m n e = e
same_rest x (suc j) m n e = cc

other_index : (x j k : ℕ) (m n : List Power) → j < k → IsMonomial m x → with_power x j m ≡ with_power x k n → ⊥
other_index x j zero m n lt is e = omega arith
other_index x zero (suc k) [] n lt is e = absurd cc
other_index x zero (suc k) (q ∷ m) n lt is e = (let s : q ≡ power x (suc k) = cc in let v : q.var ≡ x = ap (λ (z : Power). z.var) s in omega (arith, v, is.0))
other_index x (suc j) (suc k) m n lt is e = (let s : power x (suc j) ≡ power x (suc k) = cc in let v : suc j ≡ suc k = ap (λ (z : Power). z.exp) s in omega (arith, v, lt))

distinct_front : (x j : ℕ) (ms : List (List Power)) → AreDistinct ms → AreDistinct (front x j ms)
unfolding front
distinct_front x j [] d = tt
distinct_front x j (m ∷ ms) d = (λ h. (let r = front_in x j (with_power x j m) ms h in d.0 (subst (λ n. In n ms) (sym (same_rest x j m r.0 r.1)) r.2)), distinct_front x j ms d.1)

distinct_both : (ms ns : List (List Power)) → AreDistinct ms → AreDistinct ns → ((w : List Power) → In w ms → In w ns → ⊥) → AreDistinct (ms ++ ns)
distinct_both [] ns a b h = b
distinct_both (m ∷ ms) ns a b h = (λ i. elim (in_either m ms ns i) [ inl l ↦ a.0 l | inr r ↦ h m (inl refl) r ], distinct_both ms ns a.1 b (λ w l r. h w (inr l) r))

mutual
  unfolding list_of list_in

  list_distinct : (M top : ℕ) (p : Polynomial) → IsCanonical M p → Under p top → AreDistinct (list_of p)
  list_distinct M top (num v) c u = elim (cases_eq v 0) [ inl z ↦ rw (eq-eqb v 0 z) tt | inr ne ↦ rw (ne_eqb v 0 ne) (λ h. h, tt) ]
  list_distinct M top (ext x none) c u = absurd c
  list_distinct M top (ext x (more p ps)) c u = lists_distinct M x (more p ps) 0 (c.0, c.1, c.2)

  lists_distinct : (M x : ℕ) (ps : Polynomials) (j : ℕ) → AreCanonical M ps x → AreDistinct (list_in x ps j)
  lists_distinct M x none j c = tt
  lists_distinct M x (more p ps) j c =
      distinct_both (front x j (list_of p)) (list_in x ps (suc j)) (distinct_front x j (list_of p) (list_distinct M x p c.1 c.0)) (lists_distinct M x ps (suc j) c.2)
      (λ w a b. (let r = front_in x j w (list_of p) a in let l = listed M x ps (suc j) w c.2 b in
      other_index x j (suc j + l.index) r.0 l.rest (omega arith) (list_nonzero M x p r.0 c.1 c.0 r.2).0 (sym r.1 ∙ l.is)))

pub has_monomials : (M top : ℕ) (p : Polynomial) → IsCanonical M p → Under p top → HasMonomials top p (monomials p)
has_monomials M top p c u = (list_of p, record { distinct = list_distinct M top p c u; nonzero = λ m h. list_nonzero M top p m c u h; all = λ m is some. list_all M top p m c u is some }, list_count p)
