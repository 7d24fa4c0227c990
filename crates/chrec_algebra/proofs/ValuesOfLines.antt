-- the value of what is linear in a counter
use Rattle.std.proofs.Common.{◌≡◌, ℕ, zero, suc, ◌+◌, ◌*◌, ◌<◌, ◌≤◌, inl, inr, List, [], ◌∷◌, refl, ap, ◌∙◌, sym, subst, arith}
use Rattle.std.proofs.lemmas.Bool.{eq-eqb, ne_eqb, cases_eq, cases_order, cases_lt}
use Rattle.scev_tree.specs.Polynomial.{Polynomial, Polynomials, num, ext, none, more, Power, power, coefficient, place, IsMonomial, IsCanonical, AreCanonical, with_power}
use Rattle.scev_tree.specs.Tree.{len}
use Rattle.scev_tree.specs.Value.{worth, value, with_value}
use Rattle.scev_tree.proofs.Agreeing.{worth_zero, worth_one}
use Rattle.scev_tree.proofs.TreePlaces.{past_end, high_place}
use Rattle.scev_tree.proofs.Unique.{raised}
use Rattle.scev_tree.proofs.ValueSupport.{worth_other}
use Rattle.chrec_algebra.specs.Line.{IsLinear, AreLinear, IsLine}
use Rattle.chrec_algebra.specs.Place.{insert, Has}
use Rattle.chrec_algebra.specs.Product.{sum_to}
use Rattle.chrec_algebra.proofs.Products.{sum_same, sum_zero}
use Rattle.chrec_algebra.proofs.Replacements.{insert_low, insert_high, insert_above, above_places, var_at_least}
use Rattle.chrec_algebra.proofs.PolynomialValues.{ev, ev_same, ev_zero, sum_add, sum_times, sum_front, value_is, height, under_height, width, wide_width}

-- ---- coefficients with an index above 1 are 0

below : (a b : ℕ) → a ≤ b → (a ≡ b → ⊥) → a < b
below a b le ne = elim (cases_lt a b) [ inl lt ↦ lt | inr ge ↦ absurd (ne (omega arith)) ]

low_front : (x : ℕ) (q : Power) (m : List Power) → q.var ≤ x → (Has x (q ∷ m) → ⊥) → q.var < x
low_front x q m le lacks = elim (cases_eq q.var x) [ inl e ↦ absurd (lacks (inl e)) | inr ne ↦ below q.var x le ne ]

same_front : (y : ℕ) (ps : Polynomials) (q : Power) (m : List Power) → q.var ≡ y → coefficient (ext y ps) (q ∷ m) ≡ place ps q.exp m
same_front y ps q m e = rw (eq-eqb q.var y e) refl

other_front : (y : ℕ) (ps : Polynomials) (q : Power) (m : List Power) → (q.var ≡ y → ⊥) → coefficient (ext y ps) (q ∷ m) ≡ place ps 0 (q ∷ m)
other_front y ps q m ne = rw (ne_eqb q.var y ne) refl

-- the coefficients of C(x,k + 2) in the places ps are 0
abbrev NoneIn : ℕ → ℕ → Polynomials → Type 0
NoneIn x k ps = (i : ℕ) (m : List Power) (top : ℕ) → IsMonomial m top → (Has x m → ⊥) → place ps i (insert x (suc (suc k)) m) ≡ 0

linear_above : (x k y : ℕ) (ps : Polynomials) (m : List Power) (top : ℕ) → x < y → NoneIn x k ps → IsMonomial m top → (Has x m → ⊥) → coefficient (ext y ps) (insert x (suc (suc k)) m) ≡ 0
linear_above x k y ps [] top lt h is lacks =
    let i = insert_low x (suc (suc k)) [] tt in
    ap (coefficient (ext y ps)) i ∙ (other_front y ps (power x (suc (suc k))) [] (λ e. omega arith) ∙ (ap (place ps 0) (sym i) ∙ h 0 [] top is lacks))
linear_above x k y ps (q ∷ m) top lt h is lacks = elim (cases_lt x q.var) [
  | inl high ↦ ap (coefficient (ext y ps)) (insert_high x (suc (suc k)) q m high) ∙ (elim (cases_eq q.var y) [
    | inl e ↦ same_front y ps q (insert x (suc (suc k)) m) e ∙ h q.exp m q.var is.2 (λ g. lacks (inr g))
    | inr ne ↦ other_front y ps q (insert x (suc (suc k)) m) ne ∙ (ap (place ps 0) (sym (insert_high x (suc (suc k)) q m high)) ∙ h 0 (q ∷ m) top is lacks)
  ])
  | inr low ↦ (let lower : IsMonomial (q ∷ m) x = (low_front x q m low lacks, is.1, is.2) in
      let i = insert_low x (suc (suc k)) (q ∷ m) lower in
      ap (coefficient (ext y ps)) i ∙ (other_front y ps (power x (suc (suc k))) (q ∷ m) (λ e. omega arith) ∙ (ap (place ps 0) (sym i) ∙ h 0 (q ∷ m) top is lacks)))
]

linear_here : (M x k : ℕ) (ps : Polynomials) (m : List Power) (top : ℕ) → AreCanonical M ps x → len ps ≤ 2 → IsMonomial m top → (Has x m → ⊥) → coefficient (ext x ps) (insert x (suc (suc k)) m) ≡ 0
linear_here M x k ps [] top c few is lacks = ap (coefficient (ext x ps)) (insert_low x (suc (suc k)) [] tt) ∙ (high_place x ps (suc (suc k)) [] tt ∙ past_end ps (suc (suc k)) [] (omega arith))
linear_here M x k ps (q ∷ m) top c few is lacks = elim (cases_lt x q.var) [
  | inl high ↦ ap (coefficient (ext x ps)) (insert_high x (suc (suc k)) q m high) ∙ above_places M x ps q (insert x (suc (suc k)) m) c high
  | inr low ↦ (let lower : IsMonomial (q ∷ m) x = (low_front x q m low lacks, is.1, is.2) in
      ap (coefficient (ext x ps)) (insert_low x (suc (suc k)) (q ∷ m) lower) ∙ (high_place x ps (suc (suc k)) (q ∷ m) lower ∙ past_end ps (suc (suc k)) (q ∷ m) (omega arith)))
]

mutual
  pub linear_at : (M x k : ℕ) (p : Polynomial) (m : List Power) (top : ℕ) → IsCanonical M p → IsLinear x p → IsMonomial m top → (Has x m → ⊥) → coefficient p (insert x (suc (suc k)) m) ≡ 0
  linear_at M x k (num v) m top c l is lacks = insert_above M x (suc k) (num v) m c tt
  linear_at M x k (ext y none) m top c l is lacks = absurd c
  linear_at M x k (ext y (more p ps)) m top c l is lacks = elim (cases_order y x) [
    | inl e ↦ (let P : ℕ → Type 0 = λ z. coefficient (ext z (more p ps)) (insert x (suc (suc k)) m) ≡ 0 in
        subst P (sym e) (linear_here M x k (more p ps) m top (subst (λ z. AreCanonical M (more p ps) z) e (c.0, c.1, c.2)) (l.0 e) is lacks))
    | inr o ↦ (elim o [
      | inl lt ↦ insert_above M x (suc k) (ext y (more p ps)) m c lt
      | inr gt ↦ linear_above x k y (more p ps) m top gt (λ i n t w z. linear_places M x k y (more p ps) i n t (c.0, c.1, c.2) l.1 w z) is lacks
    ])
  ]

  linear_places : (M x k y : ℕ) (ps : Polynomials) (i : ℕ) (m : List Power) (top : ℕ) → AreCanonical M ps y → AreLinear x ps → IsMonomial m top → (Has x m → ⊥) → place ps i (insert x (suc (suc k)) m) ≡ 0
  linear_places M x k y none i m top c l is lacks = refl
  linear_places M x k y (more p ps) zero m top c l is lacks = linear_at M x k p m top c.1 l.0 is lacks
  linear_places M x k y (more p ps) (suc i) m top c l is lacks = linear_places M x k y ps i m top c.2 l.1 is lacks

-- ---- the value

ev_agrees : (s t : ℕ → ℕ) (d top : ℕ) (f : List Power → ℕ) → ((y j : ℕ) → y < top → worth s y j ≡ worth t y j) → ev s d top f ≡ ev t d top f
unfolding ev
ev_agrees s t d zero f h = refl
ev_agrees s t d (suc y) f h = sum_same d _ _ (λ j lj. rw (ev_agrees s t d y (λ m. f (with_power y j m)) (λ z i lt. h z i (omega arith)), h y j (omega arith)) refl)

-- the parts of a coefficient function in x, in the variables below top
record AreParts (x top : ℕ) (f g h : List Power → ℕ) : Type 0 where
  base : (m : List Power) → IsMonomial m top → (Has x m → ⊥) → g m ≡ f (insert x 0 m)
  slope : (m : List Power) → IsMonomial m top → (Has x m → ⊥) → h m ≡ f (insert x 1 m)
  rest : (k : ℕ) (m : List Power) → IsMonomial m top → (Has x m → ⊥) → f (insert x (suc (suc k)) m) ≡ 0
  base_free : (m : List Power) → IsMonomial m top → Has x m → g m ≡ 0
  slope_free : (m : List Power) → IsMonomial m top → Has x m → h m ≡ 0

beyond : (x y : ℕ) → x < suc y → (y ≡ x → ⊥) → x < y
beyond x y lt ne = elim (cases_lt x y) [ inl l ↦ l | inr ge ↦ absurd (ne (omega arith)) ]

spread : (a b w n : ℕ) → (a + b * n) * w ≡ a * w + n * (b * w)
spread a b w n = omega arith

turned : (a n b : ℕ) → a + n * b ≡ a + b * n
turned a n b = omega arith

module _ (env : ℕ → ℕ) (x n e : ℕ) where
  not_has : (m : List Power) → IsMonomial m x → Has x m → ⊥
  not_has m is h = let l = var_at_least x x m is h in omega arith

  low_env : (f : List Power → ℕ) → ev (with_value env x n) (suc (suc e)) x f ≡ ev env (suc (suc e)) x f
  low_env f = ev_agrees (with_value env x n) env (suc (suc e)) x f (λ y j lt. worth_other env x n y j (λ q. omega arith))

  -- a function without x
  free_of : (g : List Power → ℕ) → ((m : List Power) → IsMonomial m (suc x) → Has x m → g m ≡ 0) → ev env (suc (suc e)) (suc x) g ≡ ev env (suc (suc e)) x g
  unfolding ev
  free_of g z =
      sum_front (suc e) (λ j. ev env (suc (suc e)) x (λ m. g (with_power x j m)) * worth env x j)
      ∙ (ap (λ s. ev env (suc (suc e)) x g * worth env x 0 + s) (sum_zero (suc e) _ (λ j lj. none_of j))
      ∙ (let w = ap (λ t. ev env (suc (suc e)) x g * t) (worth_zero env x) in omega arith))
    where
      none_of : (j : ℕ) → ev env (suc (suc e)) x (λ m. g (power x (suc j) ∷ m)) * worth env x (suc j) ≡ 0
      none_of j = ap (λ t. t * worth env x (suc j)) (ev_zero env (suc (suc e)) x _ (λ m is. z (power x (suc j) ∷ m) (omega arith, omega arith, is) (inl refl))) ∙ omega arith

  here : (f g h : List Power → ℕ) → AreParts x (suc x) f g h → ev (with_value env x n) (suc (suc e)) (suc x) f ≡ ev env (suc (suc e)) (suc x) g + ev env (suc (suc e)) (suc x) h * n
  unfolding ev
  here f g h p =
      let E = ev (with_value env x n) (suc (suc e)) x in
      let whole = sum_front (suc e) (λ j. E (λ m. f (with_power x j m)) * worth (with_value env x n) x j) in
      let tail = sum_front e (λ j. E (λ m. f (with_power x (suc j) m)) * worth (with_value env x n) x (suc j)) in
      let zeros = sum_zero e (λ j. E (λ m. f (with_power x (suc (suc j)) m)) * worth (with_value env x n) x (suc (suc j))) (λ j lj. none_of j) in
      let w0 : E f * worth (with_value env x n) x 0 ≡ ev env (suc (suc e)) x g = ap (λ t. E f * t) (worth_zero (with_value env x n) x) ∙ (times_one (E f) ∙ first) in
      let w1 : E (λ m. f (power x 1 ∷ m)) * worth (with_value env x n) x 1 ≡ ev env (suc (suc e)) x h * n = ap (λ t. E (λ m. f (power x 1 ∷ m)) * t) (worth_one (with_value env x n) x ∙ number_here) ∙ ap (λ t. t * n) second in
      let fg = free_of g p.base_free in
      let fh = free_of h p.slope_free in
      let t : ev env (suc (suc e)) (suc x) h * n ≡ ev env (suc (suc e)) x h * n = ap (λ z. z * n) fh in
      whole ∙ (ap (λ s. E f * worth (with_value env x n) x 0 + s) (tail ∙ ap (λ s. E (λ m. f (power x 1 ∷ m)) * worth (with_value env x n) x 1 + s) zeros) ∙ omega (arith, w0, w1, fg, t))
    where
      times_one : (a : ℕ) → a * 1 ≡ a
      times_one a = omega arith

      number_here : with_value env x n x ≡ n
      number_here = rw (eq-eqb x x refl) refl

      up : (m : List Power) → IsMonomial m x → IsMonomial m (suc x)
      up m is = raised 0 m x (suc x) is (omega arith)

      first : ev (with_value env x n) (suc (suc e)) x f ≡ ev env (suc (suc e)) x g
      first = low_env f ∙ ev_same env (suc (suc e)) x f g (λ m is. ap f (sym (insert_low x 0 m is)) ∙ sym (p.base m (up m is) (not_has m is)))

      second : ev (with_value env x n) (suc (suc e)) x (λ m. f (power x 1 ∷ m)) ≡ ev env (suc (suc e)) x h
      second = low_env (λ m. f (power x 1 ∷ m)) ∙ ev_same env (suc (suc e)) x (λ m. f (power x 1 ∷ m)) h (λ m is. ap f (sym (insert_low x 1 m is)) ∙ sym (p.slope m (up m is) (not_has m is)))

      none_of : (j : ℕ) → ev (with_value env x n) (suc (suc e)) x (λ m. f (power x (suc (suc j)) ∷ m)) * worth (with_value env x n) x (suc (suc j)) ≡ 0
      none_of j = ap (λ t. t * worth (with_value env x n) x (suc (suc j))) (ev_zero (with_value env x n) (suc (suc e)) x _ (λ m is. ap f (sym (insert_low x (suc (suc j)) m is)) ∙ p.rest j m (up m is) (not_has m is))) ∙ omega arith

  -- the parts of the places of a greater variable
  parts_in : (y j : ℕ) (f g h : List Power → ℕ) → x < y → AreParts x (suc y) f g h → AreParts x y (λ m. f (with_power y j m)) (λ m. g (with_power y j m)) (λ m. h (with_power y j m))
  parts_in y zero f g h lt p = record {
    base = λ m is lacks. p.base m (raised 0 m y (suc y) is (omega arith)) lacks;
    slope = λ m is lacks. p.slope m (raised 0 m y (suc y) is (omega arith)) lacks;
    rest = λ k m is lacks. p.rest k m (raised 0 m y (suc y) is (omega arith)) lacks;
    base_free = λ m is has. p.base_free m (raised 0 m y (suc y) is (omega arith)) has;
    slope_free = λ m is has. p.slope_free m (raised 0 m y (suc y) is (omega arith)) has;
  }
  parts_in y (suc j) f g h lt p = record {
    base = λ m is lacks. p.base (power y (suc j) ∷ m) (omega arith, omega arith, is) (front m lacks) ∙ ap f (insert_high x 0 (power y (suc j)) m lt);
    slope = λ m is lacks. p.slope (power y (suc j) ∷ m) (omega arith, omega arith, is) (front m lacks) ∙ ap f (insert_high x 1 (power y (suc j)) m lt);
    rest = λ k m is lacks. ap f (sym (insert_high x (suc (suc k)) (power y (suc j)) m lt)) ∙ p.rest k (power y (suc j) ∷ m) (omega arith, omega arith, is) (front m lacks);
    base_free = λ m is has. p.base_free (power y (suc j) ∷ m) (omega arith, omega arith, is) (inr has);
    slope_free = λ m is has. p.slope_free (power y (suc j) ∷ m) (omega arith, omega arith, is) (inr has);
  }
    where
      front : (m : List Power) → (Has x m → ⊥) → Has x (power y (suc j) ∷ m) → ⊥
      front m lacks has = elim has [ inl q ↦ omega arith | inr w ↦ lacks w ]

  line_ev : (top : ℕ) (f g h : List Power → ℕ) → x < top → AreParts x top f g h → ev (with_value env x n) (suc (suc e)) top f ≡ ev env (suc (suc e)) top g + ev env (suc (suc e)) top h * n
  unfolding ev
  line_ev zero f g h lt p = absurd (omega arith)
  line_ev (suc y) f g h lt p = elim (cases_eq y x) [
    | inl eq ↦ (let P : ℕ → Type 0 = λ t. AreParts x (suc t) f g h → ev (with_value env x n) (suc (suc e)) (suc t) f ≡ ev env (suc (suc e)) (suc t) g + ev env (suc (suc e)) (suc t) h * n in subst P (sym eq) (here f g h) p)
    | inr ne ↦ (let gt : x < y = beyond x y lt ne in
        sum_same (suc (suc e)) _ (λ j. G j * worth env y j + n * (H j * worth env y j)) (λ j lj. rw (worth_other env x n y j ne, line_ev y (λ m. f (with_power y j m)) (λ m. g (with_power y j m)) (λ m. h (with_power y j m)) gt (parts_in y j f g h gt p)) (spread (G j) (H j) (worth env y j) n))
        ∙ (sum_add (suc (suc e)) (λ j. G j * worth env y j) (λ j. n * (H j * worth env y j))
        ∙ (ap (λ s. sum_to (suc (suc e)) (λ j. G j * worth env y j) + s) (sum_times (suc (suc e)) n (λ j. H j * worth env y j))
        ∙ turned (sum_to (suc (suc e)) (λ j. G j * worth env y j)) n (sum_to (suc (suc e)) (λ j. H j * worth env y j)))))
  ]
    where
      G : ℕ → ℕ
      G j = ev env (suc (suc e)) y (λ m. g (with_power y j m))

      H : ℕ → ℕ
      H j = ev env (suc (suc e)) y (λ m. h (with_power y j m))

-- the value of a line in the iteration n
pub value_line : (env : ℕ → ℕ) (M x n : ℕ) (base slope a : Polynomial) → IsCanonical M a → IsLine M x base slope a → value (with_value env x n) a ≡ value env base + value env slope * n
value_line env M x n base slope a ca l =
    let t = height base + height slope + height a + suc x in
    let e = width base + width slope + width a in
    let some : 0 < suc (suc e) = omega arith in
    let va = value_is (with_value env x n) M (suc (suc e)) some t a ca (under_height a t (omega arith)) (wide_width a (suc (suc e)) (omega arith)) in
    let vb = value_is env M (suc (suc e)) some t base l.base.canon (under_height base t (omega arith)) (wide_width base (suc (suc e)) (omega arith)) in
    let vs = value_is env M (suc (suc e)) some t slope l.slope.canon (under_height slope t (omega arith)) (wide_width slope (suc (suc e)) (omega arith)) in
    let parts : AreParts x t (coefficient a) (coefficient base) (coefficient slope) = record {
      base = λ m is lacks. l.base.at m t is lacks;
      slope = λ m is lacks. l.slope.at m t is lacks;
      rest = λ k m is lacks. linear_at M x k a m t ca l.linear is lacks;
      base_free = λ m is has. l.base.gone m t is has;
      slope_free = λ m is has. l.slope.gone m t is has;
    } in
    rw (← va, ← vb, ← vs) (line_ev env x n e t (coefficient a) (coefficient base) (coefficient slope) (omega arith) parts)
