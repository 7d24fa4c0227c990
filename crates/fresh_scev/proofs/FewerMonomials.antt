-- Parts of lines and truncations of what is within the limits are within them.
use Rattle.std.proofs.Common.{◌≡◌, ℕ, zero, suc, ◌+◌, ◌%◌, ◌<◌, ◌≤◌, inl, inr, List, [], ◌∷◌, length, refl, ap, ◌∙◌, sym, subst, arith}
use Rattle.std.specs.Prelude.{◌==◌, if◌then◌else◌}
use Rattle.std.proofs.lemmas.Bool.{cases_lt, eq-eqb, ne_eqb, lt-ltb, le-ltb}
use Rattle.std.proofs.Math.Nat.{mod-eq_of_lt}
use Rattle.scev_tree.specs.Measure.{monomials, total_degree}
use Rattle.scev_tree.specs.Polynomial.{Polynomial, num, ext, Power, coefficient, IsMonomial, Under, IsCanonical}
use Rattle.scev_tree.specs.Support.{degree_of, In, AreDistinct}
use Rattle.scev_tree.proofs.CoefficientSizes.{has_monomials, degree_bound, has_degree}
use Rattle.chrec_algebra.specs.Limits.{IsWithin}
use Rattle.chrec_algebra.specs.Line.{IsPart}
use Rattle.chrec_algebra.specs.Place.{insert, Has}
use Rattle.chrec_algebra.specs.Sum.{IsTruncated}

-- ---- a list whose elements go to different elements of another one isn't longer

abbrev without : (x : List Power) (ns : List (List Power)) → In x ns → List (List Power)
without x [] i = absurd i
without x (n ∷ ns) (inl e) = ns
without x (n ∷ ns) (inr i) = n ∷ without x ns i

without_length : (x : List Power) (ns : List (List Power)) (i : In x ns) → length ns ≡ suc (length (without x ns i))
without_length x [] i = absurd i
without_length x (n ∷ ns) (inl e) = refl
without_length x (n ∷ ns) (inr i) = ap suc (without_length x ns i)

in_without : (x y : List Power) (ns : List (List Power)) (i : In x ns) → In y ns → (y ≡ x → ⊥) → In y (without x ns i)
in_without x y [] i j ne = absurd i
in_without x y (n ∷ ns) (inl e) (inl d) ne = absurd (ne (d ∙ sym e))
in_without x y (n ∷ ns) (inl e) (inr j) ne = j
in_without x y (n ∷ ns) (inr i) (inl d) ne = inl d
in_without x y (n ∷ ns) (inr i) (inr j) ne = inr (in_without x y ns i j ne)

module _ (f : List Power → List Power) where
  not_longer : (ms ns : List (List Power)) → AreDistinct ms → ((m : List Power) → In m ms → In (f m) ns) → ((m n : List Power) → In m ms → In n ms → f m ≡ f n → m ≡ n) → length ms ≤ length ns
  not_longer [] ns d goes apart = omega arith
  not_longer (m ∷ ms) ns d goes apart =
      let i : In (f m) ns = goes m (inl refl) in
      let rest = not_longer ms (without (f m) ns i) d.1
      (λ k j. in_without (f m) (f k) ns i (goes k (inr j)) (λ e. d.0 (subst (λ (z : List Power). In z ms) (apart k m (inr j) (inl refl) e) j)))
      (λ a b ia ib e. apart a b (inr ia) (inr ib) e) in
      let l = without_length (f m) ns i in
      omega (arith, rest, l)

-- the monomials of r go to different monomials of a whose degrees aren't less
pub record GoesTo (top : ℕ) (r a : Polynomial) (f : List Power → List Power) : Type 0 where
  pub is : (m : List Power) → IsMonomial m top → 0 < coefficient r m → IsMonomial (f m) top × (0 < coefficient a (f m))
  pub degree : (m : List Power) → degree_of m ≤ degree_of (f m)
  pub apart : (m n : List Power) → IsMonomial m top → 0 < coefficient r m → IsMonomial n top → 0 < coefficient r n → f m ≡ f n → m ≡ n

module _ (M K top : ℕ) (r a : Polynomial) (f : List Power → List Power) (cr : IsCanonical M r) (ca : IsCanonical K a) (ua : Under a top) (g : GoesTo top r a f) where
  fewer : Under r top → monomials r ≤ monomials a
  fewer ur =
      let h = has_monomials M top r cr ur in
      let k = has_monomials K top a ca ua in
      let le = not_longer f h.0 k.0 h.1.distinct
      (λ m i. let s = h.1.nonzero m i in let t = g.is m s.0 s.1 in k.1.all (f m) t.0 t.1)
      (λ m n i j e. let s = h.1.nonzero m i in let t = h.1.nonzero n j in g.apart m n s.0 s.1 t.0 t.1 e) in
      omega (arith, le, h.2, k.2)

  lower : (q : Polynomial) → q ≡ r → Under q top → total_degree q ≤ total_degree a
  lower (num v) e u = omega arith
  lower (ext x ps) e u =
      let c : IsCanonical M (ext x ps) = subst (IsCanonical M) (sym e) cr in
      let h = has_degree M top (ext x ps) c u (λ z. absurd (cc)) in
      let t = g.is h.0 h.1 (subst (λ (p : Polynomial). 0 < coefficient p h.0) e h.2) in
      let b = degree_bound K top a (f h.0) ca ua t.0 t.1 in
      omega (arith, h.3, b, g.degree h.0)

  within_by : Under r top → IsWithin a → IsWithin r
  within_by ur w = record { few = omega (arith, fewer ur, w.few); low = omega (arith, lower r refl ur, w.low) }

some_top : (p : Polynomial) → (t : ℕ) × Under p t
some_top (num v) = (0, tt)
some_top (ext x ps) = (suc x, omega arith)

raised_under : (p : Polynomial) (x y : ℕ) → Under p x → x ≤ y → Under p y
raised_under (num v) x y u le = tt
raised_under (ext z ps) x y u le = omega arith

-- ---- truncations

pub truncated_within : (M K : ℕ) (r a : Polynomial) → 0 < M → IsCanonical K a → IsTruncated M r a → IsWithin a → IsWithin r
truncated_within M K r a some ca t w =
    let s = some_top a in
    within_by M K s.0 r a (λ m. m) t.canon ca s.1 (record {
      is = λ m is lt. (is, kept (coefficient a m) (subst (λ n. 0 < n) (t.at m s.0 is) lt));
      degree = λ m. omega arith;
      apart = λ m n im lm in' ln e. e;
    }) (t.under s.0 s.1) w
  where
    kept : (n : ℕ) → 0 < n % M → 0 < n
    kept zero lt = absurd (omega (arith, lt, mod-eq_of_lt some))
    kept (suc n) lt = omega arith

-- ---- slopes

abbrev pub without_var : ℕ → List Power → List Power
without_var x [] = []
without_var x (q ∷ m) = if q.var == x then m else q ∷ without_var x m

module _ (x : ℕ) where
  not_low : (q : Power) (m : List Power) → (Has x (q ∷ m) → ⊥) → q.var ≡ x → ⊥
  not_low q m lacks e = lacks (inl e)

  pub insert_removed : (m : List Power) → (Has x m → ⊥) → without_var x (insert x 1 m) ≡ m
  unfolding insert
  insert_removed [] lacks = rw (eq-eqb x x refl) refl
  insert_removed (q ∷ m) lacks = elim (cases_lt x q.var) [
    | inl lt ↦ rw (lt-ltb x q.var lt, ne_eqb q.var x (not_low q m lacks)) (ap (λ (n : List Power). q ∷ n) (insert_removed m (λ h. lacks (inr h))))
    | inr ge ↦ rw (le-ltb x q.var ge, eq-eqb x x refl) refl
  ]

  insert_monomial : (m : List Power) (top : ℕ) → IsMonomial m top → x < top → (Has x m → ⊥) → IsMonomial (insert x 1 m) top
  unfolding insert
  insert_monomial [] top is lt lacks = (lt, omega arith, tt)
  insert_monomial (q ∷ m) top is lt lacks = elim (cases_lt x q.var) [
    | inl up ↦ rw (lt-ltb x q.var up) (is.0, is.1, insert_monomial m q.var is.2 up (λ h. lacks (inr h)))
    | inr ge ↦ rw (le-ltb x q.var ge) (lt, omega arith, (below q.var ge (not_low q m lacks), is.1, is.2))
  ]
    where
      below : (v : ℕ) → v ≤ x → (v ≡ x → ⊥) → v < x
      below v le ne = elim (cases_lt v x) [ inl l ↦ l | inr g ↦ absurd (ne (omega (arith, le, g))) ]

  insert_degree : (m : List Power) → degree_of m ≤ degree_of (insert x 1 m)
  unfolding insert
  insert_degree [] = omega arith
  insert_degree (q ∷ m) = elim (cases_lt x q.var) [
    | inl lt ↦ rw (lt-ltb x q.var lt) (let h = insert_degree m in omega (arith, h))
    | inr ge ↦ rw (le-ltb x q.var ge) (omega arith)
  ]

  module _ (M : ℕ) (r a : Polynomial) (p : IsPart M x 1 r a) where
    lacks_it : (m : List Power) (top : ℕ) → IsMonomial m top → 0 < coefficient r m → Has x m → ⊥
    lacks_it m top is lt h = omega (arith, lt, p.gone m top is h)

    pub slope_within : IsCanonical M a → IsWithin a → IsWithin r
    slope_within ca w =
        let s = some_top a in
        let top = suc (s.0 + x) in
        let up : Under a top = raised_under a s.0 top s.1 (omega arith) in
        within_by M M top r a (insert x 1) p.canon ca up (record {
          is = λ m is lt. (insert_monomial m top is (omega arith) (lacks_it m top is lt), subst (λ n. 0 < n) (p.at m top is (lacks_it m top is lt)) lt);
          degree = insert_degree;
          apart = λ m n im lm jn ln e. sym (insert_removed m (lacks_it m top im lm)) ∙ (ap (without_var x) e ∙ insert_removed n (lacks_it n top jn ln));
        }) (p.under top up) w
