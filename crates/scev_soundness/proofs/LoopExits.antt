-- Loops are left after the iterations that their trip counts say.
use Rattle.std.proofs.Common.{◌≡◌, ℕ, ◌+◌, ◌-◌, ◌%◌, ◌^◌, ◌<◌, ◌≤◌, inl, inr, List, ◌∷◌, refl, ap, ◌∙◌, sym, subst, arith, Bool, true, false, Option, Some, None}
use Rattle.std.specs.Prelude.{not, nat_lt, ◌==◌, if◌then◌else◌}
use Rattle.std.proofs.lemmas.Bool.{both_ways, cases_lt, eq-eqb, eqb-true, lt-ltb, le-ltb}
use Rattle.std.proofs.lemmas.Nat.{mod_below, pow_pos}
use Rattle.std.proofs.Math.Nat.{mod-eq_of_lt}
use Rattle.arith_word.specs.Operation.{holds}
use Rattle.arith_word.specs.declared.label.Label.{Label}
use Rattle.arith_word.specs.declared.op.Pred.{Pred}
use Rattle.chrec_algebra.specs.Sum.{IsDifference}
use Rattle.chrec_algebra.proofs.Differences.{value_difference}
use Rattle.exit_solver.proofs.Exits.{left_inside}
use Rattle.mlir_ir.specs.Runs.{Binding, Iteration, look}
use Rattle.mlir_ir.specs.Typed.{Types}
use Rattle.mlir_ir.specs.Words.{bits_of}
use Rattle.mlir_ir.specs.declared.types.IrType.{IrType}
use Rattle.scev_tree.specs.Polynomial.{Polynomial, Polynomials, num, ext, none, more, Under, IsCanonical}
use Rattle.scev_tree.specs.Tree.{polynomial_of}
use Rattle.scev_tree.specs.Value.{value, with_value}
use Rattle.scev_tree.specs.declared.expr.Expr.{Expr}
use Rattle.scev_tree.proofs.Agreeing.{value_number, tree_for}
use Rattle.trip_count.specs.Failing.{IsLeastNumber, holds_of}
use Rattle.trip_count.specs.Kind.{Kind, constant, all_numbers, odd_step, unit_step, unsolved, both_numbers, by_difference, by_sides, by_odd_step, by_unit_step, kind_at}
use Rattle.trip_count.specs.Predicate.{swapped, is_equality, is_ne, is_unit_step}
use Rattle.trip_count.specs.Shape.{Shape, affine, symbolic_step, moving, shape_of_places, shape_of, numeric, number}
use Rattle.trip_count.specs.Turns.{IsCountOf, always}
use Rattle.trip_count.specs.declared.answer.Turns.{Turns}
use Rattle.trip_count.specs.declared.answer.Turns.TheVariants.{Count, Never, Exactly, Guarded, Unknown}
use Rattle.trip_count.specs.declared.answer.Why.{Why}
use Rattle.trip_count.specs.declared.answer.Why.TheVariants.{NotACompare}
use Rattle.trip_count.specs.declared.condition.Test.TheVariants.{Compare}
use Rattle.trip_count.proofs.Chain.{Maybe, where_true, where_false, chain}
use Rattle.trip_count.proofs.Exits.{compare_trip}
use Rattle.trip_count.proofs.Invariant.{IsInvariant, invariant}
use Rattle.trip_count.proofs.PolynomialShapes.{shape_cases}
use Rattle.trip_count.proofs.Predicates.{by_equality, equal_by_difference, ne_is_equality}
use Rattle.trip_count.proofs.Trips.{IsTrip, always_trip}
use Rattle.fresh_scev.specs.Expressions.{Expression, counter, number_in}
use Rattle.fresh_scev.specs.Facts.{Facts, Comparison, Role, unnamed, counts, untested, tested, IsTested}
use Rattle.fresh_scev.specs.Loops.{IsCompared, comparing, AreComparedTurns, constant_turns}
use Rattle.fresh_scev.proofs.Before.{under_later}
use Rattle.scev_soundness.specs.Holding.{IsTurned, point}
use Rattle.scev_soundness.specs.Agreement.{Agrees, Keeps}
use Rattle.scev_soundness.specs.Arguments.{turn_of}
use Rattle.scev_soundness.specs.Counted.{IsCounted}
use Rattle.scev_soundness.proofs.Counted.{trip_counted}
use Rattle.scev_soundness.proofs.Points.{value_keeps, turn_value}

-- ---- least iterations

-- a loop whose test is first false in iteration k
pub least_turned : (env : List Binding) (around : List Iteration) (t : Turns) (k : ℕ) (P : ℕ → Type 0)
    → IsTrip (point env around) P t → P k
    → ((j : ℕ) → j < k → P j → ⊥) → IsTurned env around t k
least_turned env around t k P trip at before = of t trip
  where
    least : (n : ℕ) → IsLeastNumber P n → k ≡ n
    least n l = let le = l.1 k at in elim (cases_lt n k) [ inl lt ↦ absurd (before n lt l.0) | inr ge ↦ omega arith ]

    of : (t : Turns) → IsTrip (point env around) P t → IsTurned env around t k
    of (Count n) l = least n l
    of Never l = l k at
    of (Exactly e) l = least _ l
    of (Guarded pred a c e) l = least _ l
    of (Unknown why) l = tt

-- A follows from the trip count of a loop and from its tests, which are known up to iteration k
abbrev pub FromTests : (ℕ → ℕ) → Turns → ℕ → (ℕ → Bool) → Type 0 → Type 0
FromTests s t k goes A =
    (truth : ℕ → Bool) → IsTrip s (λ j. truth j ≡ false) t → ((j : ℕ) → j ≤ k → truth j ≡ goes j) → A

-- a loop whose test is false in iteration k, and true before
pub trip_turned : (env : List Binding) (around : List Iteration) (t : Turns) (k : ℕ)
    → FromTests (point env around) t k (λ j. nat_lt j k) (IsTurned env around t k)
trip_turned env around t k truth trip h =
    least_turned env around t k (λ j. truth j ≡ false) trip (h k (omega arith) ∙ le-ltb k k (omega arith))
    (λ j lt f. both_ways (truth j) f (h j (omega arith) ∙ lt-ltb j k lt))

-- ---- kinds of tests whose sides are the same with what is in scope inside the loop

-- a polynomial whose shape is a line has only variables of the counter and below
abbrev IsSteady : ℕ → Polynomial → Shape → Type 0
IsSteady x p (affine a b) = Under p (x + 1)
IsSteady x p symbolic_step = Unit {0}
IsSteady x p moving = Unit {0}

places_steady : (x : ℕ) (ps : Polynomials) → IsSteady x (ext x ps) (shape_of_places ps)
places_steady x none = tt
places_steady x (more a none) = tt
places_steady x (more a (more (num b) none)) = omega arith
places_steady x (more a (more (ext z ps) none)) = tt
places_steady x (more a (more b (more d ps))) = tt

steady : (M x : ℕ) (p : Polynomial) → IsCanonical M p → IsSteady x p (shape_of x p)
steady M x p c =
    shape_cases M x (λ q s. IsSteady x q s) (λ q u cq. under_later q x (x + 1) u (omega arith)) (λ q. tt)
    (λ ps cp. places_steady x ps) p c

-- the same of one whose shape is a number
abbrev IsSteadyNumber : ℕ → Polynomial → Option ℕ → Type 0
IsSteadyNumber x p (Some c) = Under p (x + 1)
IsSteadyNumber x p None = Unit {0}

if_steady : (x : ℕ) (p : Polynomial) (b : Bool) (a : ℕ) → Under p (x + 1)
    → IsSteadyNumber x p (if b then Some a else None)
if_steady x p true a u = u
if_steady x p false a u = tt

number_steady : (x : ℕ) (p : Polynomial) (s : Shape) → IsSteady x p s → IsSteadyNumber x p (number s)
number_steady x p (affine (num a) b) u = if_steady x p (b == 0) a u
number_steady x p (affine (ext y ps) b) u = tt
number_steady x p symbolic_step u = tt
number_steady x p moving u = tt

-- A, but for a kind that is unsolved
abbrev UnlessUnsolved : Type 0 → Kind → Type 0
UnlessUnsolved A (unsolved why) = Unit {0}
UnlessUnsolved A _ = A

-- two points with the same numbers of the counter and of the variables below
module _ (here there : ℕ → ℕ) (w x : ℕ) (pred : Pred) (l r d : Polynomial) (cl : IsCanonical (2 ^ w) l)
    (cr : IsCanonical (2 ^ w) r) (cd : IsCanonical (2 ^ w) d) (diff : IsDifference (2 ^ w) d l r)
    (same : (p : Polynomial) → Under p (x + 1) → IsCanonical (2 ^ w) p → value here p ≡ value there p) where
  abbrev Alike : Type 0
  Alike = holds_of here w pred l r ≡ holds_of there w pred l r

  abbrev Q : Kind → Type 0
  Q kind = UnlessUnsolved Alike kind

  sides_alike : Under l (x + 1) → Under r (x + 1) → Alike
  sides_alike ul ur = rw (same l ul cl, same r ur cr) refl

  -- an equality compares the difference and 0
  by_zero : (s : ℕ → ℕ) → is_equality pred ≡ true → holds_of s w pred l r ≡ holds pred w (value s d % 2 ^ w) 0
  by_zero s i =
      let M = 2 ^ w in
      let vl = value s l in
      let vr = value s r in
      let e : value s d % M ≡ (vl % M + (M - vr % M)) % M =
      value_difference s M d l r (pow_pos w) cl cr diff ∙ sym (left_inside vl (M - vr % M) M) in
      by_equality w pred (vl % M) (vr % M) (value s d % M) i
      (equal_by_difference M (vl % M) (vr % M) (value s d % M) (mod_below vl M (pow_pos w))
      (mod_below vr M (pow_pos w)) e)

  difference_alike : is_equality pred ≡ true → Under d (x + 1) → Alike
  difference_alike i u = by_zero here i ∙ (ap (λ v. holds pred w (v % 2 ^ w) 0) (same d u cd) ∙ sym (by_zero there i))

  both_q : (u v : Option ℕ) → IsSteadyNumber x l u → IsSteadyNumber x r v → Maybe Q (both_numbers w pred u v)
  both_q (Some u) (Some v) ul ur = sides_alike ul ur
  both_q (Some u) None ul ur = tt
  both_q None v ul ur = tt

  difference_q : (s : Shape) → IsSteady x d s → Maybe Q (by_difference pred (numeric s))
  difference_q (affine (num a) b) u =
      where_true Q (is_equality pred) (Some (all_numbers pred a b 0)) (λ i. difference_alike i u)
  difference_q (affine (ext y ps) b) u = tt
  difference_q symbolic_step u = tt
  difference_q moving u = tt

  sides_q : (p : Pred) (a b : Polynomial) (s : Shape) (c : Option ℕ) → IsSteady x a s → IsSteadyNumber x b c
      → (Under a (x + 1) → Under b (x + 1) → Alike) → Maybe Q (by_sides p (numeric s) c)
  sides_q p a b (affine (num v) k) (Some c) ua ub h =
      where_false Q (is_equality p) (Some (all_numbers p v k c)) (h ua ub)
  sides_q p a b (affine (num v) k) None ua ub h = tt
  sides_q p a b (affine (ext y ps) k) c ua ub h = tt
  sides_q p a b symbolic_step c ua ub h = tt
  sides_q p a b moving c ua ub h = tt

  odd_q : (s : Shape) → IsSteady x d s → Maybe Q (by_odd_step pred s)
  odd_q (affine a o) u = where_true Q (is_ne pred) (if o % 2 == 1 then Some (odd_step a o) else None) (λ i.
      where_true Q (o % 2 == 1) (Some (odd_step a o)) (λ j. difference_alike (ne_is_equality pred i) u))
  odd_q symbolic_step u = tt
  odd_q moving u = tt

  unit_q : (p : Pred) (a b : Polynomial) (s u : Shape) → IsSteady x a s → IsSteady x b u
      → (Under a (x + 1) → Under b (x + 1) → Alike) → Maybe Q (by_unit_step w p s u)
  unit_q p a b (affine e k) (affine c t) ua ub h =
      where_true Q (t == 0) (if is_unit_step w p k then Some (unit_step p e c) else None) (λ i.
      where_true Q (is_unit_step w p k) (Some (unit_step p e c)) (λ j. h ua ub))
  unit_q p a b (affine e k) symbolic_step ua ub h = tt
  unit_q p a b (affine e k) moving ua ub h = tt
  unit_q p a b symbolic_step u ua ub h = tt
  unit_q p a b moving u ua ub h = tt

  kind_alike : Q (kind_at w x pred l r d)
  kind_alike =
      let M = 2 ^ w in
      let sl = steady M x l cl in
      let sr = steady M x r cr in
      let sd = steady M x d cd in
      let nl = number_steady x l (shape_of x l) sl in
      let nr = number_steady x r (shape_of x r) sr in
      chain Q w pred (shape_of x l) (shape_of x r) (shape_of x d)
      (both_q (number (shape_of x l)) (number (shape_of x r)) nl nr)
      (difference_q (shape_of x d) sd) (sides_q pred l r (shape_of x l) (number (shape_of x r)) sl nr sides_alike)
      (sides_q (swapped pred) r l (shape_of x r) (number (shape_of x l)) sr nl (λ ur ul. sides_alike ul ur))
      (odd_q (shape_of x d) sd)
      (unit_q pred l r (shape_of x l) (shape_of x r) sl sr sides_alike)
      (unit_q (swapped pred) r l (shape_of x r) (shape_of x l) sr sl (λ ur ul. sides_alike ul ur)) tt

unless : (A B : Type 0) (kind : Kind) → (A → B) → UnlessUnsolved A kind → UnlessUnsolved B kind
unless A B (unsolved why) f h = tt
unless A B (constant b) f h = f h
unless A B (all_numbers pred a b c) f h = f h
unless A B (odd_step a o) f h = f h
unless A B (unit_step pred a c) f h = f h

-- ---- comparisons

-- the values of what has only variables of a loop's counter and below
inside_value : (env w : List Binding) (around : List Iteration) (loop j M : ℕ) (p : Polynomial) → Keeps env w loop
    → Under p (counter loop + 1)
    → IsCanonical M p
    → value (point w (turn_of loop j ∷ around)) p ≡ value (with_value (point env around) (counter loop) j) p
inside_value env w around loop j M p keeps u c =
    value_keeps env w (turn_of loop j ∷ around) (turn_of loop j ∷ around) loop (loop + 1) (counter loop + 1) M p u c
    (omega arith) (omega arith) keeps
    (λ z lt. refl)
    ∙ turn_value env around loop j M p c

module _ (loop : ℕ) (pred : Pred) (a b : Expression) (t : Turns) (env : List Binding) (around : List Iteration)
    (k : ℕ) (same : b.w ≡ a.w) (wide : 1 ≤ a.w) (ca : IsCanonical (2 ^ a.w) a.p) (cb : IsCanonical (2 ^ a.w) b.p)
    (c : IsCompared loop pred a b t) (goes : ℕ → Bool)
    (ran : (j : ℕ) → j ≤ k → (w : List Binding) × Keeps env w loop
    × (holds pred a.w (value (point w (turn_of loop j ∷ around)) a.p % 2 ^ a.w)
    (value (point w (turn_of loop j ∷ around)) b.p % 2 ^ a.w) ≡ goes j)) where
  -- the test in iteration j
  abbrev Truth : ℕ → Bool
  Truth j = holds_of (with_value (point env around) (counter loop) j) a.w pred a.p b.p

  abbrev Fails : ℕ → Type 0
  Fails j = Truth j ≡ false

  reads : (j : ℕ) → j ≤ k → UnlessUnsolved (Truth j ≡ goes j) (kind_at a.w (counter loop) pred a.p b.p c.d)
  reads j le =
      let f = ran j le in
      unless (holds_of (point f.0 (turn_of loop j ∷ around)) a.w pred a.p b.p ≡ Truth j) (Truth j ≡ goes j)
      (kind_at a.w (counter loop) pred a.p b.p c.d) (λ e. sym e ∙ f.2)
      (kind_alike (point f.0 (turn_of loop j ∷ around)) (with_value (point env around) (counter loop) j) a.w
      (counter loop) pred a.p b.p c.d
      ca cb c.difference.canon c.difference (λ p u cp. inside_value env f.0 around loop j (2 ^ a.w) p f.1 u cp))

  -- what holds of a trip count that isn't known, and follows from one that is
  module _ (Q : Turns → Type 0) (unknown : (why : Why) → Q (Unknown why))
      (follows : FromTests (point env around) t k goes (Q t)) where
    by_kind : (kind : Kind) → IsCountOf a.w kind t → IsTrip (point env around) Fails t
        → ((j : ℕ) → j ≤ k → UnlessUnsolved (Truth j ≡ goes j) kind) → Q t
    by_kind (unsolved why) g trip h = subst Q (sym g) (unknown why)
    by_kind (constant b) g trip h = follows Truth trip h
    by_kind (all_numbers pred a b c) g trip h = follows Truth trip h
    by_kind (odd_step a o) g trip h = follows Truth trip h
    by_kind (unit_step pred a c) g trip h = follows Truth trip h

    -- of a loop whose test compares a and b
    pub compared_by : Q t
    compared_by =
        by_kind (kind_at a.w (counter loop) pred a.p b.p c.d) c.count
        (compare_trip (point env around) a.w
        (counter loop) pred a.p b.p c.d t ca cb c.difference.canon c.difference c.count) reads

-- ---- conditions

-- the trip count of sides of one width
pub compared_are : (loop : ℕ) (pred : Pred) (a b : Expression) (t : Turns) → b.w ≡ a.w
    → AreComparedTurns loop pred a b t → IsCompared loop pred a b t
compared_are loop pred a b t e c = subst (λ wide. comparing wide loop pred a b t) (eq-eqb b.w a.w e) c

-- iteration j of a loop, with what is in scope where its condition stands: whether the condition is 0
pub record IsRound (T : Types) (F : Facts) (conditions : List Label) (at loop cond : ℕ) (env : List Binding)
    (around : List Iteration) (j : ℕ) (over : Bool) : Type 0 where
  pub inner : List Binding
  pub keeps : Keeps env inner loop
  pub agrees : Agrees T F conditions at inner (turn_of loop j ∷ around)
  pub zero_it : ((look inner cond).v == 0) ≡ over

number_is : (p : Polynomial) (v : ℕ) → number_in p ≡ Some v → p ≡ num v
number_is (num u) v e = ap (of u) e
  where
    of : ℕ → Option ℕ → Polynomial
    of u (Some v) = num v
    of u None = num u
number_is (ext x ps) v e = absurd (subst Is e tt)
  where
    Is : Option ℕ → Type 0
    Is None = Unit {0}
    Is (Some v) = ⊥

truth_of : (b : Bool) (n : ℕ) (over : Bool) → n ≡ (if b then 1 else 0) → (n == 0) ≡ over → b ≡ not over
truth_of true n over e z = ap not (sym (ap (λ m. m == 0) e) ∙ z)
truth_of false n over e z = ap not (sym (ap (λ m. m == 0) e) ∙ z)

-- a comparison of numbers that are the values x and y, at the width of these
pub sides_hold : (pred : Pred) (w u v left right x y : ℕ) → left ≡ w → right ≡ w → u ≡ x % 2 ^ left
    → v ≡ y % 2 ^ right
    → holds pred w u v ≡ holds pred left (x % 2 ^ left) (y % 2 ^ left)
sides_hold pred w u v left right x y el er hu hv =
    ap (λ z. holds pred z u v) (sym el) ∙ (ap (λ z. holds pred left z v) hu
    ∙ ap (λ z. holds pred left (x % 2 ^ left) z) (hv ∙ ap (λ z. y % 2 ^ z) (er ∙ sym el)))

module _ (T : Types) (F : Facts) (conditions : List Label) (at loop cond : ℕ) (env : List Binding)
    (around : List Iteration) (t : Turns) (k : ℕ) (ty : IrType) (known : T cond ≡ Some ty) (over : ℕ → Bool)
    (rounds : (j : ℕ) → j ≤ k → IsRound T F conditions at loop cond env around j (over j))
    (Q : Turns → Type 0) (unknown : (why : Why) → Q (Unknown why))
    (follows : FromTests (point env around) t k (λ j. not (over j)) (Q t)) where
  abbrev Round : ℕ → Bool → Type 0
  Round j over = IsRound T F conditions at loop cond env around j over

  number_reads : (v j : ℕ) (over : Bool) → (F.expr cond).p ≡ num v → Round j over → (v == 0) ≡ over
  number_reads v j over e r =
      let good = r.agrees.good cond ty known in
      let n = r.agrees.number cond ty known in
      let low : v < 2 ^ (F.expr cond).w = subst (λ p. IsCanonical (2 ^ (F.expr cond).w) p) e
      (subst (λ w. IsCanonical (2 ^ w) (F.expr cond).p) (sym good.width) good.canon) in
      let s = point r.inner (turn_of loop j ∷ around) in
      let is : (look r.inner cond).v ≡ v =
      n.number ∙ (ap (λ p. value s p % 2 ^ (F.expr cond).w) e
      ∙ (ap (λ z. z % 2 ^ (F.expr cond).w) (value_number s v) ∙ mod-eq_of_lt low)) in
      ap (λ z. z == 0) (sym is) ∙ r.zero_it

  module _ (c : Comparison) (role : F.role cond ≡ tested c) where
    abbrev Compares : ℕ → List Binding → Bool
    Compares j w = holds c.pred (F.expr c.left).w
        (value (point w (turn_of loop j ∷ around)) (F.expr c.left).p % 2 ^ (F.expr c.left).w)
        (value (point w (turn_of loop j ∷ around)) (F.expr c.right).p % 2 ^ (F.expr c.left).w)

    test_reads : (j : ℕ) (over : Bool) (r : Round j over) → Compares j r.inner ≡ not over
    test_reads j over r =
        let test = r.agrees.tests cond ty c known role in
        let left = r.agrees.number c.left test.ty test.left in
        let right = r.agrees.number c.right test.ty test.right in
        sym (sides_hold c.pred (bits_of test.ty) (look r.inner c.left).v (look r.inner c.right).v (F.expr c.left).w
        (F.expr c.right).w _ _
        (r.agrees.good c.left test.ty test.left).width
        (r.agrees.good c.right test.ty test.right).width left.number right.number)
        ∙ truth_of _ (look r.inner cond).v over test.result r.zero_it

    ran : (j : ℕ) → j ≤ k → (w : List Binding) × Keeps env w loop × (Compares j w ≡ not (over j))
    ran j le = let r = rounds j le in (r.inner, r.keeps, test_reads j (over j) r)

    test_by : AreComparedTurns loop c.pred (F.expr c.left) (F.expr c.right) t → Q t
    test_by h =
        let last = rounds k (omega arith) in
        let test = last.agrees.tests cond ty c known role in
        let left = last.agrees.good c.left test.ty test.left in
        let right = last.agrees.good c.right test.ty test.right in
        let same : (F.expr c.right).w ≡ (F.expr c.left).w = right.width ∙ sym left.width in
        compared_by loop c.pred (F.expr c.left) (F.expr c.right) t env around k same
        (subst (λ w. 1 ≤ w) (sym left.width) (last.agrees.wide c.left test.ty test.left))
        (subst (λ w. IsCanonical (2 ^ w) (F.expr c.left).p) (sym left.width) left.canon)
        (subst (λ w. IsCanonical (2 ^ w) (F.expr c.right).p) (sym left.width) right.canon)
        (compared_are loop c.pred (F.expr c.left) (F.expr c.right) t same h) (λ j. not (over j)) ran Q unknown follows

  -- a condition that is the same number in each iteration
  number_by : (v : ℕ) → (F.expr cond).p ≡ num v → t ≡ constant_turns v → Q t
  number_by v p e = follows (λ j. not (v == 0))
      (subst (λ u. IsTrip (point env around) (λ j. not (v == 0) ≡ false) u) (sym e)
      (always_trip (point env around) (λ j. not (v == 0) ≡ false) (not (v == 0)) (λ n f. f) (λ n f. f)))
      (λ j le. ap not (number_reads v j (over j) p (rounds j le)))

  by_role : (o : Option ℕ) (role : Role) → number_in (F.expr cond).p ≡ o → F.role cond ≡ role
      → IsTested F loop o role t → Q t
  by_role (Some v) role e r h = number_by v (number_is (F.expr cond).p v e) h
  by_role None unnamed e r h = subst Q (sym h) (unknown NotACompare)
  by_role None counts e r h = subst Q (sym h) (unknown NotACompare)
  by_role None untested e r h = subst Q (sym h) (unknown NotACompare)
  by_role None (tested c) e r h = test_by c r h

  -- what holds of the trip count of a loop whose conditions are known up to iteration k
  pub tested_by : IsTested F loop (number_in (F.expr cond).p) (F.role cond) t → Q t
  tested_by h = by_role (number_in (F.expr cond).p) (F.role cond) refl refl h

module _ (T : Types) (F : Facts) (conditions : List Label) (at loop cond : ℕ) (env : List Binding)
    (around : List Iteration) (t : Turns) (k : ℕ) (ty : IrType) (known : T cond ≡ Some ty)
    (before : (j : ℕ) → j < k → IsRound T F conditions at loop cond env around j false)
    (h : IsTested F loop (number_in (F.expr cond).p) (F.role cond) t) where
  -- a loop that is left in iteration k, and not before, since its condition is 0 there
  pub tested_turned : IsRound T F conditions at loop cond env around k true → IsTurned env around t k
  tested_turned last =
      tested_by T F conditions at loop cond env around t k ty known (λ j. not (nat_lt j k)) rounds
      (λ t. IsTurned env around t k) (λ why. tt)
      (λ truth trip h. trip_turned env around t k truth trip (λ j le. h j le ∙ twice (nat_lt j k))) h
    where
      twice : (b : Bool) → not (not b) ≡ b
      twice true = refl
      twice false = refl

      rounds : (j : ℕ) → j ≤ k → IsRound T F conditions at loop cond env around j (not (nat_lt j k))
      rounds j le = elim (cases_lt j k) [
        | inl lt ↦ rw (lt-ltb j k lt) (before j lt)
        | inr ge ↦ (let e : k ≡ j = omega arith in
            rw (le-ltb j k ge) (subst (λ j. IsRound T F conditions at loop cond env around j true) e last))
      ]

  -- a loop that goes on behind the test of iteration k
  pub tested_counted : IsRound T F conditions at loop cond env around k false → IsCounted t false k
  tested_counted last =
      tested_by T F conditions at loop cond env around t k ty known (λ j. false) rounds
      (λ t. IsCounted t false k) (λ why. tt) (trip_counted (point env around) t k) h
    where
      rounds : (j : ℕ) → j ≤ k → IsRound T F conditions at loop cond env around j false
      rounds j le = elim (cases_lt j k) [
        | inl lt ↦ before j lt
        | inr ge ↦ (let e : k ≡ j = omega arith in
            subst (λ j. IsRound T F conditions at loop cond env around j false) e last)
      ]

-- ---- the expressions of a trip count have only variables of labels below the loop

one_width : (loop : ℕ) (pred : Pred) (a b : Expression) (t : Turns) → b.w ≡ a.w → IsCanonical (2 ^ a.w) a.p
    → IsCanonical (2 ^ a.w) b.p
    → IsCompared loop pred a b t → IsInvariant (counter loop) t
one_width loop pred a b t same ca cb c =
    let l = tree_of a.w a.p ca in
    let r = tree_of a.w b.p cb in
    let d = tree_of a.w c.d c.difference.canon in
    invariant (counter loop) (Compare pred l.0 r.0 d.0) t
    (refl, refl, by_parts (λ x y z. IsDifference (2 ^ a.w) z x y) _ _ _ _ _ _ l.1 r.1 d.1 c.difference)
    (by_parts (λ x y z. IsCountOf a.w (kind_at a.w (counter loop) pred x y z) t) _ _ _ _ _ _ l.1 r.1 d.1 c.count)
  where
    tree_of : (w : ℕ) (p : Polynomial) → IsCanonical (2 ^ w) p → (e : Expr) × (polynomial_of e.tree ≡ p)
    tree_of w p c = let t = tree_for p in
        (record { w = w; tree = t.0; canonical = subst (IsCanonical (2 ^ w)) (sym t.1) c }, t.1)

    by_parts : (P : Polynomial → Polynomial → Polynomial → Type 0) (x y z p q r : Polynomial) → x ≡ p → y ≡ q → z ≡ r
        → P p q r → P x y z
    by_parts P x y z p q r e f g h =
        subst (λ v. P v y z) (sym e) (subst (λ v. P p v z) (sym f) (subst (λ v. P p q v) (sym g) h))

pub compared_invariant : (loop : ℕ) (pred : Pred) (a b : Expression) (t : Turns) → IsCanonical (2 ^ a.w) a.p
    → IsCanonical (2 ^ b.w) b.p
    → AreComparedTurns loop pred a b t → IsInvariant (counter loop) t
compared_invariant loop pred a b t ca cb h = by (b.w == a.w) refl h
  where
    by : (wide : Bool) → (b.w == a.w) ≡ wide → comparing wide loop pred a b t → IsInvariant (counter loop) t
    by true e c = (let same = eqb-true b.w a.w e in
        one_width loop pred a b t same ca (subst (λ w. IsCanonical (2 ^ w) b.p) same cb) c)
    by false e c = subst (IsInvariant (counter loop)) (sym c) tt

pub tested_invariant : (T : Types) (F : Facts) (conditions : List Label) (at loop cond : ℕ) (env : List Binding)
    (around : List Iteration) (t : Turns) (ty : IrType)
    → Agrees T F conditions at env around → T cond ≡ Some ty
    → IsTested F loop (number_in (F.expr cond).p) (F.role cond) t → IsInvariant (counter loop) t
tested_invariant T F conditions at loop cond env around t ty ag known h =
    by (number_in (F.expr cond).p) (F.role cond) refl h
  where
    always_so : (b : Bool) → IsInvariant (counter loop) (always b)
    always_so true = tt
    always_so false = tt

    canon : (l : ℕ) (u : IrType) → T l ≡ Some u → IsCanonical (2 ^ (F.expr l).w) (F.expr l).p
    canon l u e = let g = ag.good l u e in subst (λ w. IsCanonical (2 ^ w) (F.expr l).p) (sym g.width) g.canon

    by : (o : Option ℕ) (role : Role) → F.role cond ≡ role → IsTested F loop o role t → IsInvariant (counter loop) t
    by (Some v) role r h = subst (IsInvariant (counter loop)) (sym h) (always_so (not (v == 0)))
    by None unnamed r h = subst (IsInvariant (counter loop)) (sym h) tt
    by None counts r h = subst (IsInvariant (counter loop)) (sym h) tt
    by None untested r h = subst (IsInvariant (counter loop)) (sym h) tt
    by None (tested c) r h =
        let test = ag.tests cond ty c known r in
        compared_invariant loop c.pred (F.expr c.left) (F.expr c.right) t (canon c.left test.ty test.left)
        (canon c.right test.ty test.right) h
