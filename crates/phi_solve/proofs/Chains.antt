-- a chain begins with its initial value and grows by its step
use Rattle.std.proofs.Common.{◌≡◌, ℕ, zero, suc, ◌+◌, ◌*◌, ◌%◌, ◌<◌, ◌⊎◌, inl, inr, List, [], ◌∷◌, refl, ap, ◌∙◌, sym, subst, arith, add-one}
use Rattle.std.proofs.lemmas.Bool.{eq-eqb, cases_order, cases_lt}
use Rattle.scev_tree.specs.Polynomial.{Polynomial, Polynomials, num, ext, none, more, Power, power, coefficient, IsMonomial, Under, IsCanonical, AreCanonical, EndsNonzero, IsSamePolynomial, with_power}
use Rattle.arith_word.specs.Binomial.{binomial}
use Rattle.scev_tree.specs.Value.{worth, value, values, with_value}
use Rattle.scev_tree.proofs.ValueSupport.{value_under, worth_here}
use Rattle.scev_tree.proofs.Unique.{unique_law, above}
use Rattle.scev_tree.proofs.TreePlaces.{high_place}
use Rattle.scev_tree.specs.Side.{IsSide}
use Rattle.phi_solve.specs.Step.{IsChain}
use Rattle.phi_solve.proofs.StepTrees.{side_one, side_ext}

first : (n : ℕ) → binomial n 0 ≡ 1
unfolding binomial
first zero = refl
first (suc n) = refl

pascal : (n j : ℕ) → binomial (n + 1) (suc j) ≡ binomial n j + binomial n (suc j)
unfolding binomial
pascal n j = rw add-one refl

product_sum : (v a b c : ℕ) → a ≡ b + c → v * a ≡ v * b + v * c
product_sum v a b c e = ap (λ z. v * z) e ∙ omega arith

-- the places after the first: by Pascal's rule
rest : (env : ℕ → ℕ) (x n M : ℕ) (ps : Polynomials) (j : ℕ) → x % 2 ≡ 0 → AreCanonical M ps x → values (with_value env x (n + 1)) x ps (suc j) ≡ values (with_value env x n) x ps j + values (with_value env x n) x ps (suc j)
unfolding value
rest env x n M none j e c = refl
rest env x n M (more p ps) j e c =
    let i = rest env x n M ps (suc j) e c.2 in
    let a = value_under env x (n + 1) M p c.0 c.1 in
    let b = value_under env x n M p c.0 c.1 in
    let m = product_sum (value env p) (binomial (n + 1) (suc j)) (binomial n j) (binomial n (suc j)) (pascal n j) in
    rw (a, b, worth_here env x (n + 1) (suc j) e, worth_here env x n j e, worth_here env x n (suc j) e, i) (omega arith)

pub grows : (env : ℕ → ℕ) (x n : ℕ) (init : Polynomial) (ps : Polynomials) (M : ℕ) → x % 2 ≡ 0 → Under init x → IsCanonical M init → AreCanonical M ps x → value (with_value env x (n + 1)) (ext x (more init ps)) ≡ value (with_value env x n) (ext x (more init ps)) + value (with_value env x n) (ext x ps)
unfolding value
grows env x n init ps M e u ci cp =
    let i = rest env x n M ps 0 e cp in
    let a = value_under env x (n + 1) M init u ci in
    let b = value_under env x n M init u ci in
    rw (a, b, worth_here env x (n + 1) 0 e, worth_here env x n 0 e, first (n + 1), first n, i) (omega arith)

-- the places after the first are 0 at turn 0
none_at_first : (env : ℕ → ℕ) (x : ℕ) (ps : Polynomials) (j : ℕ) → x % 2 ≡ 0 → values (with_value env x 0) x ps (suc j) ≡ 0
unfolding value binomial
none_at_first env x none j e = refl
none_at_first env x (more p ps) j e =
    let i = none_at_first env x ps (suc j) e in
    rw (worth_here env x 0 (suc j) e, i) (omega arith)

begins : (env : ℕ → ℕ) (x M : ℕ) (init : Polynomial) (ps : Polynomials) → x % 2 ≡ 0 → Under init x → IsCanonical M init → value (with_value env x 0) (ext x (more init ps)) ≡ value env init
unfolding value
begins env x M init ps e u ci =
    let a = value_under env x 0 M init u ci in
    rw (a, worth_here env x 0 0 e, first 0, none_at_first env x ps 0 e) (omega arith)

-- ---- the tree of a chain

-- the places of p as a polynomial in x, where p isn't 0
record Split (M x : ℕ) (p : Polynomial) : Type 0 where
  places : Polynomials
  side : IsSide x places p
  canon : AreCanonical M places x
  ends : EndsNonzero places
  same : (env : ℕ → ℕ) → x % 2 ≡ 0 → value env (ext x places) ≡ value env p

alone : (env : ℕ → ℕ) (x : ℕ) (p : Polynomial) → x % 2 ≡ 0 → value env (ext x (more p none)) ≡ value env p
unfolding value worth
alone env x p e = rw (eq-eqb (x % 2) 0 e, first (env x)) (omega arith)

grown : (q : Polynomial) (qs : Polynomials) → EndsNonzero qs → EndsNonzero (more q qs)
grown q none e = absurd e
grown q (more r rs) e = e

split : (M x : ℕ) (p : Polynomial) → IsCanonical M p → Under p (suc x) → (p ≡ num 0) ⊎ Split M x p
split M x (num zero) c u = inl refl
split M x (num (suc v)) c u = inr record { places = more (num (suc v)) none; side = side_one x (num (suc v)) tt; canon = (tt, c, tt); ends = omega arith; same = λ env e. alone env x (num (suc v)) e }
split M x (ext y none) c u = absurd c
split M x (ext y (more q qs)) c u = elim (cases_lt y x) [
  | inl lt ↦ inr record { places = more (ext y (more q qs)) none; side = side_one x (ext y (more q qs)) lt; canon = (lt, c, tt); ends = tt; same = λ env e. alone env x (ext y (more q qs)) e }
  | inr ge ↦ (let e : x ≡ y = omega arith in
      let P : ℕ → Type 0 = λ z. Split M z (ext y (more q qs)) in
      inr (subst P (sym e) (record { places = more q qs; side = side_ext y (more q qs); canon = (c.0, c.1, c.2); ends = grown q qs c.3; same = λ env h. refl })))
]

-- the coefficients of a chain are those of the tree of init and the places
module _ (M x : ℕ) (r init p : Polynomial) (ps : Polynomials) (ch : IsChain M x r init p) (cp : IsCanonical M p) (side : IsSide x ps p) (ct : IsCanonical M (ext x (more init ps))) where
  mono : (k : ℕ) (m : List Power) → IsMonomial m x → IsMonomial (with_power x k m) (suc x)
  mono zero m is = raise m is
    where
      raise : (m : List Power) → IsMonomial m x → IsMonomial m (suc x)
      raise [] is = tt
      raise (q ∷ m) is = (omega (arith, is.0), is.1, is.2)
  mono (suc k) m is = (omega arith, omega arith, is)

  in_x : (k : ℕ) (m : List Power) → IsMonomial m x → coefficient r (power x (suc k) ∷ m) ≡ coefficient (ext x (more init ps)) (power x (suc k) ∷ m)
  in_x k m is =
      ch.later k m is ∙ (sym (side.at M cp (with_power x k m) (suc x) (mono k m is)) ∙ (high_place x ps k m is ∙ sym (high_place x (more init ps) (suc k) m is)))

  at_x : (j : ℕ) (m : List Power) → 0 < j → IsMonomial m x → coefficient r (power x j ∷ m) ≡ coefficient (ext x (more init ps)) (power x j ∷ m)
  at_x zero m pos is = absurd (omega arith)
  at_x (suc k) m pos is = in_x k m is

  chain_same : IsSamePolynomial r (ext x (more init ps))
  chain_same [] top is = ch.first [] tt
  chain_same (q ∷ m) top is = elim (cases_order q.var x) [
    | inl e ↦ (let P : ℕ → Type 0 = λ z. coefficient r (power z q.exp ∷ m) ≡ coefficient (ext x (more init ps)) (power z q.exp ∷ m) in
        subst P (sym e) (at_x q.exp m is.1 (subst (IsMonomial m) e is.2)))
    | inr o ↦ (elim o [
      | inl lt ↦ ch.first (q ∷ m) (lt, is.1, is.2) ∙ sym (high_place x (more init ps) 0 (q ∷ m) (lt, is.1, is.2))
      | inr gt ↦ above M r (suc x) q m ch.canon ch.under (omega arith) ∙ sym (above M (ext x (more init ps)) (suc x) q m ct (omega arith) (omega arith))
    ])
  ]

-- a chain with the step 0 is its initial value
module _ (M x : ℕ) (r init : Polynomial) (ch : IsChain M x r init (num 0)) (ci : IsCanonical M init) (ui : Under init x) where
  nothing : (k : ℕ) (m : List Power) → coefficient (num 0) (with_power x k m) ≡ 0
  nothing zero [] = refl
  nothing zero (q ∷ m) = refl
  nothing (suc k) m = refl

  still_at : (j : ℕ) (m : List Power) → 0 < j → IsMonomial m x → coefficient r (power x j ∷ m) ≡ coefficient init (power x j ∷ m)
  still_at zero m pos is = absurd (omega arith)
  still_at (suc k) m pos is = ch.later k m is ∙ (nothing k m ∙ sym (above M init x (power x (suc k)) m ci ui (omega arith)))

  still_same : IsSamePolynomial r init
  still_same [] top is = ch.first [] tt
  still_same (q ∷ m) top is = elim (cases_order q.var x) [
    | inl e ↦ (let P : ℕ → Type 0 = λ z. coefficient r (power z q.exp ∷ m) ≡ coefficient init (power z q.exp ∷ m) in
        subst P (sym e) (still_at q.exp m is.1 (subst (IsMonomial m) e is.2)))
    | inr o ↦ (elim o [
      | inl lt ↦ ch.first (q ∷ m) (lt, is.1, is.2)
      | inr gt ↦ above M r (suc x) q m ch.canon ch.under (omega arith) ∙ sym (above M init x q m ci ui (omega arith))
    ])
  ]

-- ---- the laws

still : (M x : ℕ) (r init p : Polynomial) → p ≡ num 0 → IsCanonical M init → Under init x → IsChain M x r init p → r ≡ init
still M x r init p e ci ui ch =
    let ch' : IsChain M x r init (num 0) = subst (λ q. IsChain M x r init q) e ch in
    (unique_law M r init ch'.canon ci).0 (still_same M x r init ch' ci ui)

moving : (M x : ℕ) (r init p : Polynomial) (s : Split M x p) → IsCanonical M p → IsCanonical M init → Under init x → IsChain M x r init p → r ≡ ext x (more init s.places)
moving M x r init p s cp ci ui ch =
    let ct : IsCanonical M (ext x (more init s.places)) = (ui, ci, s.canon, s.ends) in
    (unique_law M r (ext x (more init s.places)) ch.canon ct).0 (chain_same M x r init p s.places ch cp s.side ct)

bound : (p : Polynomial) (x : ℕ) → Under p (x + 1) → Under p (suc x)
bound (num v) x u = tt
bound (ext y ps) x u = omega arith

pub chain_begins : (env : ℕ → ℕ) (M x : ℕ) (r init p : Polynomial) → x % 2 ≡ 0 → IsCanonical M init → Under init x → IsCanonical M p → Under p (x + 1) → IsChain M x r init p → value (with_value env x 0) r ≡ value env init
chain_begins env M x r init p e ci ui cp up ch = elim (split M x p cp (bound p x up)) [
  | inl z ↦ ap (λ q. value (with_value env x 0) q) (still M x r init p z ci ui ch) ∙ value_under env x 0 M init ui ci
  | inr s ↦ ap (λ q. value (with_value env x 0) q) (moving M x r init p s cp ci ui ch) ∙ begins env x M init s.places e ui ci
]

zero_value : (env : ℕ → ℕ) (p : Polynomial) → p ≡ num 0 → value env p ≡ 0
unfolding value
zero_value env p e = ap (λ q. value env q) e

pub chain_grows : (env : ℕ → ℕ) (M x n : ℕ) (r init p : Polynomial) → x % 2 ≡ 0 → IsCanonical M init → Under init x → IsCanonical M p → Under p (x + 1) → IsChain M x r init p → value (with_value env x (n + 1)) r ≡ value (with_value env x n) r + value (with_value env x n) p
chain_grows env M x n r init p e ci ui cp up ch = elim (split M x p cp (bound p x up)) [
  | inl z ↦ (let q = still M x r init p z ci ui ch in
      let a : value (with_value env x (n + 1)) r ≡ value env init = ap (λ t. value (with_value env x (n + 1)) t) q ∙ value_under env x (n + 1) M init ui ci in
      let b : value (with_value env x n) r ≡ value env init = ap (λ t. value (with_value env x n) t) q ∙ value_under env x n M init ui ci in
      let d = zero_value (with_value env x n) p z in
      omega arith)
  | inr s ↦ (let q = moving M x r init p s cp ci ui ch in
      let a : value (with_value env x (n + 1)) r ≡ value (with_value env x (n + 1)) (ext x (more init s.places)) = ap (λ t. value (with_value env x (n + 1)) t) q in
      let b : value (with_value env x n) r ≡ value (with_value env x n) (ext x (more init s.places)) = ap (λ t. value (with_value env x n) t) q in
      let g = grows env x n init s.places M e ui ci s.canon in
      let d = s.same (with_value env x n) e in
      omega arith)
]
