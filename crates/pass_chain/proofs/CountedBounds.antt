-- Where the trip count of an `scf.for` is a number, its bounds and its step are numbers.
use Rattle.std.proofs.Common.{◌≡◌, ℕ, ◌+◌, ◌^◌, ◌==◌, ◌<◌, ◌≤◌, inl, inr, Bool, true, false, List, [], ◌∷◌, refl, ap, ◌∙◌, sym, subst, arith, Option, Some, None, if◌then◌else◌}
use Rattle.std.proofs.lemmas.Bool.{cases_eq, cases_lt, and_parts, eq-eqb, eqb-true, lt-ltb, le-ltb, ne_eqb}
use Rattle.arith_word.specs.declared.op.Pred.{Pred}
use Rattle.arith_word.specs.declared.op.Pred.TheVariants.{Slt}
use Rattle.phi_solve.specs.Step.{IsChain}
use Rattle.scev_tree.specs.Polynomial.{Polynomial, Polynomials, num, ext, none, more, Power, power, IsMonomial, coefficient, Under, IsCanonical, variable}
use Rattle.scev_tree.proofs.Unique.{above, unique_law}
use Rattle.trip_count.specs.Kind.{Kind, unit_step, both_numbers, by_difference, by_sides, by_odd_step, by_unit_step, kind_of}
use Rattle.trip_count.specs.Predicate.{swapped, is_unit_step}
use Rattle.trip_count.specs.Shape.{Shape, affine, symbolic_step, moving, shape_of_places, shape_of, numeric, number}
use Rattle.trip_count.specs.Turns.{IsCountOf}
use Rattle.trip_count.specs.declared.answer.Turns.{Turns}
use Rattle.trip_count.specs.declared.answer.Turns.TheVariants.{Count, Never, Exactly, Guarded, Unknown}
use Rattle.trip_count.proofs.Chain.{Maybe, where_true, chain}
use Rattle.fresh_scev.specs.Expressions.{Expression, counter, symbol}
use Rattle.fresh_scev.specs.Loops.{IsVariable, comparing, AreComparedTurns}
use Rattle.fresh_scev.specs.Rules.{have_width, fitting, IsCutOf}
use Rattle.fresh_scev.proofs.Before.{within_or}

-- ---- tests that are solved to a number

abbrev IsNumeric : Shape → Type 0
IsNumeric (affine (num a) b) = Unit {0}
IsNumeric (affine (ext y ps) b) = ⊥
IsNumeric symbolic_step = ⊥
IsNumeric moving = ⊥

abbrev IsSome : {A : Type 0} → Option A → Type 0
IsSome (Some a) = Unit {0}
IsSome None = ⊥

numeric_some : (s : Shape) → IsSome (numeric s) → IsNumeric s
numeric_some (affine (num a) b) h = tt
numeric_some (affine (ext y ps) b) h = h
numeric_some symbolic_step h = h
numeric_some moving h = h

number_some : (s : Shape) → IsSome (number s) → IsNumeric s
number_some (affine (num a) b) h = tt
number_some (affine (ext y ps) b) h = h
number_some symbolic_step h = h
number_some moving h = h

abbrev IsCount : Turns → Type 0
IsCount (Count n) = Unit {0}
IsCount Never = ⊥
IsCount (Exactly e) = ⊥
IsCount (Guarded pred a c e) = ⊥
IsCount (Unknown why) = ⊥

module _ (w n : ℕ) (l r d : Shape) where
  abbrev Q : Kind → Type 0
  Q kind = IsCountOf w kind (Count n) → IsNumeric l × IsNumeric r

  both_q : (o p : Option ℕ) → (IsSome o → IsNumeric l) → (IsSome p → IsNumeric r) → Maybe Q (both_numbers w Slt o p)
  both_q (Some u) (Some v) f g = λ h. (f tt, g tt)
  both_q (Some u) None f g = tt
  both_q None p f g = tt

  difference_q : (o : Option (ℕ × ℕ)) → Maybe Q (by_difference Slt o)
  difference_q (Some s) = tt
  difference_q None = tt

  sides_q : (o : Option (ℕ × ℕ)) (p : Option ℕ) → (IsSome o → IsNumeric l) → (IsSome p → IsNumeric r)
      → Maybe Q (by_sides Slt o p)
  sides_q (Some s) (Some c) f g = λ h. (f tt, g tt)
  sides_q (Some s) None f g = tt
  sides_q None p f g = tt

  turned_q : (o : Option (ℕ × ℕ)) (p : Option ℕ) → (IsSome o → IsNumeric r) → (IsSome p → IsNumeric l)
      → Maybe Q (by_sides (swapped Slt) o p)
  turned_q (Some s) (Some c) f g = λ h. (g tt, f tt)
  turned_q (Some s) None f g = tt
  turned_q None p f g = tt

  odd_q : (s : Shape) → Maybe Q (by_odd_step Slt s)
  odd_q (affine a o) = tt
  odd_q symbolic_step = tt
  odd_q moving = tt

  unit_q : (p : Pred) (s u : Shape) → Maybe Q (by_unit_step w p s u)
  unit_q p (affine a s) (affine c u) =
      where_true Q (u == 0) (if is_unit_step w p s then Some (unit_step p a c) else None)
      (λ i. where_true Q (is_unit_step w p s) (Some (unit_step p a c))
      (λ j g. absurd (subst IsCount g.is tt)))
  unit_q p (affine a s) symbolic_step = tt
  unit_q p (affine a s) moving = tt
  unit_q p symbolic_step u = tt
  unit_q p moving u = tt

  counted_shapes : Q (kind_of w Slt l r d)
  counted_shapes =
      chain Q w Slt l r d (both_q (number l) (number r) (number_some l) (number_some r)) (difference_q (numeric d))
      (sides_q (numeric l) (number r) (numeric_some l) (number_some r))
      (turned_q (numeric r) (number l) (numeric_some r) (number_some l)) (odd_q d) (unit_q Slt l r)
      (unit_q (swapped Slt) r l) (λ g. absurd (subst IsCount g tt))

-- ---- polynomials of these shapes

-- a number, or a number with a number as its step, in the counter x
abbrev IsLine : ℕ → Polynomial → Type 0
IsLine x (num v) = Unit {0}
IsLine x (ext y (more (num a) (more (num b) none))) = y ≡ x
IsLine x (ext y ps) = ⊥

places_line : (x : ℕ) (ps : Polynomials) → IsNumeric (shape_of_places ps) → IsLine x (ext x ps)
places_line x none h = absurd h
places_line x (more a none) h = absurd h
places_line x (more (num a) (more (num b) none)) h = refl
places_line x (more (ext y ps) (more (num b) none)) h = absurd h
places_line x (more a (more (ext y ps) none)) h = absurd h
places_line x (more a (more b (more c ps))) h = absurd h

numeric_line : (x : ℕ) (p : Polynomial) → IsNumeric (shape_of x p) → IsLine x p
numeric_line x (num v) h = tt
numeric_line x (ext y ps) h = elim (cases_lt y x) [
  | inl lt ↦ absurd (subst IsNumeric (low lt) h)
  | inr ge ↦ (elim (cases_eq y x) [
    | inl e ↦ subst (λ z. IsLine x (ext z ps)) (sym e) (places_line x ps (subst IsNumeric (here ge e) h))
    | inr ne ↦ absurd (subst IsNumeric (high ge ne) h)
  ])
]
  where
    low : y < x → shape_of x (ext y ps) ≡ affine (ext y ps) 0
    low lt = rw (lt-ltb y x lt) refl

    here : x ≤ y → y ≡ x → shape_of x (ext y ps) ≡ shape_of_places ps
    here ge e = rw (le-ltb y x ge, eq-eqb y x e) refl

    high : x ≤ y → (y ≡ x → ⊥) → shape_of x (ext y ps) ≡ moving
    high ge ne = rw (le-ltb y x ge, ne_eqb y x ne) refl

-- one in variables below the counter is a number
abbrev pub IsNumber : Polynomial → Type 0
IsNumber p = (v : ℕ) × (p ≡ num v)

line_number : (x : ℕ) (p : Polynomial) → IsLine x p → Under p x → IsNumber p
line_number x (num v) h u = (v, refl)
line_number x (ext y (more (num a) (more (num b) none))) h u = absurd (omega (arith, h, u))
line_number x (ext y none) h u = absurd h
line_number x (ext y (more (num a) none)) h u = absurd h
line_number x (ext y (more (ext z ps) none)) h u = absurd h
line_number x (ext y (more (ext z ps) (more b none))) h u = absurd h
line_number x (ext y (more (num a) (more (ext z ps) none))) h u = absurd h
line_number x (ext y (more (num a) (more (num b) (more c ps)))) h u = absurd h
line_number x (ext y (more (num a) (more (ext z qs) (more c ps)))) h u = absurd h
line_number x (ext y (more (ext z qs) (more b (more c ps)))) h u = absurd h

-- ---- what the line of a chain says of its initial value and its step

-- a polynomial in variables below x with the coefficients of a number
is_number : (M x v : ℕ) (p : Polynomial) → IsCanonical M p → Under p x → v < M
    → ((m : List Power) → IsMonomial m x → coefficient p m ≡ coefficient (num v) m) → p ≡ num v
is_number M x v p c u lt same = (unique_law M p (num v) c lt).0 all
  where
    all : (m : List Power) (top : ℕ) → IsMonomial m top → coefficient p m ≡ coefficient (num v) m
    all [] top is = same [] tt
    all (q ∷ m) top is = elim (cases_lt q.var x) [
      | inl less ↦ same (q ∷ m) (less, is.1, is.2)
      | inr ge ↦ above M p x q m c u ge
    ]

module _ (M x : ℕ) (init step : Polynomial) (ci : IsCanonical M init) (ui : Under init x) (cs : IsCanonical M step)
    (us : Under step x) where
  abbrev AreNumbers : Type 0
  AreNumbers = IsNumber init × IsNumber step

  of_number : (v : ℕ) → IsChain M x (num v) init step → AreNumbers
  of_number v ch = (
    (v, is_number M x v init ci ui ch.canon (λ m is. sym (ch.first m is))),
    (0, is_number M x 0 step cs us (some v ch.canon) (λ m is. sym (ch.later 0 m is) ∙ zero_at m)),
  )
    where
      some : (v : ℕ) → v < M → 0 < M
      some v lt = omega arith

      zero_at : (m : List Power) → 0 ≡ coefficient (num 0) m
      zero_at [] = refl
      zero_at (q ∷ m) = refl

  of_line : (a b : ℕ) → IsChain M x (ext x (more (num a) (more (num b) none))) init step → AreNumbers
  of_line a b ch = (
    (a, is_number M x a init ci ui ch.canon.1 (λ m is. sym (ch.first m is) ∙ at_first m is)),
    (b, is_number M x b step cs us ch.canon.2.1 (λ m is. sym (ch.later 0 m is) ∙ at_second m)),
  )
    where
      at_first : (m : List Power) → IsMonomial m x
          → coefficient (ext x (more (num a) (more (num b) none))) m ≡ coefficient (num a) m
      at_first [] is = refl
      at_first (q ∷ m) is = rw (ne_eqb q.var x (λ e. omega (arith, e, is.0))) refl

      at_second : (m : List Power)
          → coefficient (ext x (more (num a) (more (num b) none))) (power x 1 ∷ m) ≡ coefficient (num b) m
      at_second m = rw (eq-eqb x x refl) refl

  chain_numbers : (r : Polynomial) → IsLine x r → IsChain M x r init step → AreNumbers
  chain_numbers (num v) h ch = of_number v ch
  chain_numbers (ext y (more (num a) (more (num b) none))) h ch =
      of_line a b (subst (λ z. IsChain M x (ext z (more (num a) (more (num b) none))) init step) h ch)
  chain_numbers (ext y none) h ch = absurd h
  chain_numbers (ext y (more (num a) none)) h ch = absurd h
  chain_numbers (ext y (more (ext z ps) none)) h ch = absurd h
  chain_numbers (ext y (more (ext z ps) (more b none))) h ch = absurd h
  chain_numbers (ext y (more (num a) (more (ext z ps) none))) h ch = absurd h
  chain_numbers (ext y (more (num a) (more (num b) (more c ps)))) h ch = absurd h
  chain_numbers (ext y (more (num a) (more (ext z qs) (more c ps)))) h ch = absurd h
  chain_numbers (ext y (more (ext z qs) (more b (more c ps)))) h ch = absurd h

-- ---- bounds and step

pub record HasNumbers (w : ℕ) (lower upper step : Expression) : Type 0 where
  pub lower_width : lower.w ≡ w
  pub upper_width : upper.w ≡ w
  pub step_width : step.w ≡ w
  pub lower_number : IsNumber lower.p
  pub upper_number : IsNumber upper.p
  pub step_number : IsNumber step.p

module _ (t w : ℕ) (lower upper step e : Expression) (n : ℕ) (cl : IsCanonical (2 ^ lower.w) lower.p)
    (ul : Under lower.p (counter t)) (uu : Under upper.p (counter t)) (cs : IsCanonical (2 ^ step.w) step.p)
    (us : Under step.p (counter t)) where
  -- the variable isn't its own symbol
  own_moves : (p : Polynomial) → p ≡ variable (symbol (t + 1)) → IsNumeric (shape_of (counter t) p) → ⊥
  own_moves p e h = subst IsNumeric moves (subst (λ q. IsNumeric (shape_of (counter t) q)) e h)
    where
      moves : shape_of (counter t) (variable (symbol (t + 1))) ≡ moving
      moves = rw (le-ltb (symbol (t + 1)) (counter t) (omega arith), ne_eqb (symbol (t + 1)) (counter t) (λ q. omega (arith, q))) refl

  of_variable : (fit : Bool) → have_width w lower step ≡ fit
      → fitting fit w (t + 1) e (IsCutOf w (t + 1) e (λ p. IsChain (2 ^ w) (counter t) p lower.p step.p))
      → IsNumeric (shape_of (counter t) e.p)
      → (lower.w ≡ w) × (step.w ≡ w) × (e.w ≡ w) × IsNumber lower.p × IsNumber step.p
  of_variable true same cut h =
      let wide = and_parts (lower.w == w) (step.w == w) same in
      let wl = eqb-true lower.w w wide.0 in
      let ws = eqb-true step.w w wide.1 in
      elim (within_or cut.0) [
        | inl i ↦ (let kept = cut.2.kept i in
            let line = numeric_line (counter t) cut.0 (subst (λ q. IsNumeric (shape_of (counter t) q)) kept h) in
            let both = chain_numbers (2 ^ w) (counter t) lower.p step.p (subst (λ z. IsCanonical (2 ^ z) lower.p) wl cl) ul
            (subst (λ z. IsCanonical (2 ^ z) step.p) ws cs) us cut.0 line cut.1 in
            (wl, ws, cut.2.width, both.0, both.1))
        | inr o ↦ absurd (own_moves e.p (cut.2.dropped o) h)
      ]
  of_variable false same is h = absurd (own_moves e.p (ap (λ (x : Expression). x.p) is) h)

  -- where a loop of that variable and that upper bound turns n times
  pub counted_bounds : IsVariable t w (t + 1) lower step e → AreComparedTurns t Slt e upper (Count n)
      → HasNumbers w lower upper step
  counted_bounds is turned = by (upper.w == e.w) refl turned
    where
      by : (wide : Bool) → (upper.w == e.w) ≡ wide → comparing wide t Slt e upper (Count n)
          → HasNumbers w lower upper step
      by true same c =
          let shapes = counted_shapes e.w n (shape_of (counter t) e.p) (shape_of (counter t) upper.p)
          (shape_of (counter t) c.d) c.count in
          let v = of_variable (have_width w lower step) refl is shapes.0 in
          record {
            lower_width = v.0;
            upper_width = eqb-true upper.w e.w same ∙ v.2;
            step_width = v.1;
            lower_number = v.3;
            upper_number = line_number (counter t) upper.p (numeric_line (counter t) upper.p shapes.1) uu;
            step_number = v.4;
          }
      by false same c = absurd (subst IsCount c tt)
