-- Scopes to which values are added, and what agrees with them.
use Rattle.std.proofs.Common.{◌≡◌, ℕ, ◌+◌, ◌%◌, ◌^◌, ◌<◌, ◌≤◌, ◌⊎◌, inl, inr, List, [], ◌∷◌, length, refl, ap, ◌∙◌, sym, subst, arith, Option, Some, None}
use Rattle.std.specs.Option.{option_or}
use Rattle.std.proofs.lemmas.Bool.{eq-eqb, ne_eqb, cases_eq}
use Rattle.arith_word.specs.declared.label.Label.{Label}
use Rattle.mlir_ir.specs.Runs.{Number, Binding, Iteration, look, binds, definitions}
use Rattle.mlir_ir.specs.Typed.{Types, typed_from, with_types}
use Rattle.mlir_ir.specs.Words.{bits_of}
use Rattle.mlir_ir.specs.declared.types.IrType.{IrType}
use Rattle.fresh_scev.specs.Expressions.{Expression, counter}
use Rattle.fresh_scev.specs.Facts.{Facts, Comparison, Role, untested, tested}
use Rattle.scev_soundness.specs.Holding.{HasValue, IsBound, AllHold}
use Rattle.scev_soundness.specs.Agreement.{IsGood, IsTestOf, AreTrueIn, IsHeld, Agrees, IsDefined, Keeps, IsReady, AreReady}
use Rattle.scev_soundness.specs.Arguments.{turn_of}
use Rattle.scev_soundness.proofs.Points.{bind, KeepsTurns, look_here, look_other, keeps_push, keeps_both, keeps_turn, value_keeps}

-- ---- types

pub typed_before : (at : ℕ) (tys : List IrType) (l : ℕ) → l < at → typed_from at tys l ≡ None
typed_before at [] l lt = refl
typed_before at (ty ∷ tys) l lt = rw (ne_eqb at l (λ e. omega arith)) (typed_before (at + 1) tys l (omega arith))

-- a type of a scope with more is one of the scope, or of what is added
or_cases : (a b : Option IrType) (u : IrType) → option_or a b ≡ Some u → (a ≡ Some u) ⊎ (b ≡ Some u)
or_cases (Some v) b u e = inl e
or_cases None b u e = inr e

pub one_cases : (T : Types) (x : ℕ) (ty : IrType) (l : ℕ) (u : IrType) → with_types T x (ty ∷ []) l ≡ Some u
    → (T l ≡ Some u) ⊎ ((x ≡ l) × (ty ≡ u))
one_cases T x ty l u e = elim (or_cases (T l) (typed_from x (ty ∷ []) l) u e) [
  | inl h ↦ inl h
  | inr h ↦ (elim (cases_eq x l) [
    | inl q ↦ (let k : Some ty ≡ Some u = sym (rw (eq-eqb x l q) refl) ∙ h in inr (q, some_is ty u k))
    | inr nq ↦ (let k : None ≡ Some u = sym (rw (ne_eqb x l nq) refl) ∙ h in absurd (none_is u k))
  ])
]
  where
    unwrapped : IrType → Option IrType → IrType
    unwrapped d None = d
    unwrapped d (Some u) = u

    some_is : (a b : IrType) → Some a ≡ Some b → a ≡ b
    some_is a b e = ap (unwrapped a) e

    Is : Option IrType → Type 0
    Is None = Unit {0}
    Is (Some u) = ⊥

    none_is : (u : IrType) → None ≡ Some u → ⊥
    none_is u e = subst Is e tt

-- what a scope has, a scope with more has
pub with_old : (T : Types) (at : ℕ) (tys : List IrType) (l : ℕ) (u : IrType) → T l ≡ Some u
    → with_types T at tys l ≡ Some u
with_old T at tys l u e = rw e refl

-- types beside one another are added one by one
pub with_more : (T : Types) (at : ℕ) (ty : IrType) (tys : List IrType) (l : ℕ)
    → with_types (with_types T at (ty ∷ [])) (at + 1) tys l ≡ with_types T at (ty ∷ tys) l
with_more T at ty tys l = of (T l) (cases_eq at l)
  where
    of : (a : Option IrType) → (at ≡ l) ⊎ (at ≡ l → ⊥)
        → option_or (option_or a (typed_from at (ty ∷ []) l)) (typed_from (at + 1) tys l)
        ≡ option_or a (typed_from at (ty ∷ tys) l)
    of (Some u) c = refl
    of None (inl e) = rw (eq-eqb at l e) refl
    of None (inr n) = rw (ne_eqb at l n) refl

-- ---- agreement

pub agrees_same : (T U : Types) (F : Facts) (conditions : List Label) (at : ℕ) (env : List Binding)
    (around : List Iteration)
    → ((l : ℕ) → T l ≡ U l) → Agrees T F conditions at env around → Agrees U F conditions at env around
agrees_same T U F conditions at env around h ag = record {
  wide = λ l u e. ag.wide l u (h l ∙ e);
  good = λ l u e. ag.good l u (h l ∙ e);
  below = λ l u e. ag.below l u (h l ∙ e);
  number = λ l u e. ag.number l u (h l ∙ e);
  bound = ag.bound;
  tests = λ l u c e t. test_same l c (ag.tests l u c (h l ∙ e) t);
  guards = guards_same conditions ag.guards;
}
  where
    test_same : (l : ℕ) (c : Comparison) → IsTestOf T env l c → IsTestOf U env l c
    test_same l c t = record {
      ty = t.ty;
      left = sym (h c.left) ∙ t.left;
      right = sym (h c.right) ∙ t.right;
      left_below = t.left_below;
      right_below = t.right_below;
      result = t.result;
    }

    guards_same : (cs : List Label) → AreTrueIn T env cs → AreTrueIn U env cs
    guards_same [] g = tt
    guards_same (c ∷ cs) g = (
      record { ty = g.0.ty; known = sym (h c.0) ∙ g.0.known; true_it = g.0.true_it },
      guards_same cs g.1,
    )

pub held_until : (F : Facts) (at end : ℕ) (env : List Binding) (around : List Iteration) (l : ℕ) → at ≤ end
    → IsHeld F at env around l
    → IsHeld F end env around l
held_until F at end env around l le h =
    record { w = h.w; good = h.good; below = (let b = h.below in omega arith); number = h.number }

pub agrees_later : (T : Types) (F : Facts) (conditions : List Label) (at end : ℕ) (env : List Binding)
    (around : List Iteration) → at ≤ end
    → Agrees T F conditions at env around → Agrees T F conditions end env around
agrees_later T F conditions at end env around le ag = record {
  wide = ag.wide;
  good = ag.good;
  below = λ l u e. (let b = ag.below l u e in omega arith);
  number = ag.number;
  bound = λ l b. held_until F at end env around l le (ag.bound l b);
  tests = ag.tests;
  guards = ag.guards;
}

-- the number of an expression with variables of a label and below, where these stay
pub value_stays : (env later : List Binding) (around after : List Iteration) (l w : ℕ) (e : Expression) (n : Number)
    → IsGood w l e
    → Keeps env later (l + 1) → KeepsTurns around after (l + 1) → HasValue env around e n → HasValue later after e n
value_stays env later around after l w e n g ke kt h = record {
  width = h.width;
  number = h.number ∙ ap (λ z. z % 2 ^ e.w)
      (sym (value_keeps env later around after (l + 1) (l + 1) (counter (l + 1)) (2 ^ w) e.p g.under g.canon
      (omega arith) (omega arith) ke kt));
}

-- a value that is bound has the same number later, and in a new iteration of a loop behind it
pub held_later : (F : Facts) (at end : ℕ) (env later : List Binding) (around after : List Iteration) (l : ℕ)
    → at ≤ end → Keeps env later at
    → KeepsTurns around after at → IsHeld F at env around l → IsHeld F end later after l
held_later F at end env later around after l le k kt h =
    let b = h.below in
    record {
      w = h.w;
      good = h.good;
      below = omega arith;
      number = subst (λ n. HasValue later after (F.expr l) n) (sym (k l b))
          (value_stays env later around after l h.w (F.expr l) (look env l) h.good (λ z lt. k z (omega arith))
          (λ z lt. kt z (omega arith)) h.number);
    }

-- the same by other facts
pub held_same : (F G : Facts) (at : ℕ) (env : List Binding) (around : List Iteration) (l : ℕ) → F.expr l ≡ G.expr l
    → IsHeld F at env around l
    → IsHeld G at env around l
held_same F G at env around l e h = record {
  w = h.w;
  good = subst (λ x. IsGood h.w l x) e h.good;
  below = h.below;
  number = subst (λ x. HasValue env around x (look env l)) e h.number;
}

-- a value of a scope has the same number later
pub number_later : (T : Types) (F : Facts) (conditions : List Label) (at : ℕ) (env later : List Binding)
    (around : List Iteration)
    → Agrees T F conditions at env around → Keeps env later at → (l : ℕ) (u : IrType) → T l ≡ Some u
    → HasValue later around (F.expr l) (look later l)
number_later T F conditions at env later around ag k l u e =
    let b = ag.below l u e in
    subst (λ n. HasValue later around (F.expr l) n) (sym (k l b))
    (value_stays env later around around l (bits_of u) (F.expr l) (look env l) (ag.good l u e)
    (λ z lt. k z (omega arith)) (λ z lt. refl) (ag.number l u e))

pub test_later : (T U : Types) (env later : List Binding) (at l : ℕ) (c : Comparison)
    → ((z : ℕ) (u : IrType) → T z ≡ Some u → U z ≡ Some u)
    → Keeps env later at → l < at → IsTestOf T env l c → IsTestOf U later l c
test_later T U env later at l c h k lt t =
    let lb = t.left_below in
    let rb = t.right_below in
    record {
      ty = t.ty;
      left = h c.left t.ty t.left;
      right = h c.right t.ty t.right;
      left_below = lb;
      right_below = rb;
      result = rw (k l lt, k c.left (omega arith), k c.right (omega arith)) t.result;
    }

pub guards_later : (T U : Types) (env later : List Binding) (at : ℕ) (cs : List Label)
    → ((z : ℕ) (u : IrType) → T z ≡ Some u → U z ≡ Some u)
    → ((z : ℕ) (u : IrType) → T z ≡ Some u → z < at) → Keeps env later at → AreTrueIn T env cs → AreTrueIn U later cs
guards_later T U env later at [] h below k g = tt
guards_later T U env later at (c ∷ cs) h below k g =
    let lt = below c.0 g.0.ty g.0.known in (
      record {
        ty = g.0.ty;
        known = h c.0 g.0.ty g.0.known;
        true_it = λ z. g.0.true_it (ap (λ (n : Number). n.v) (sym (k c.0 lt)) ∙ z);
      },
      guards_later T U env later at cs h below k g.1,
    )

-- a new value
module _ (T : Types) (F : Facts) (conditions : List Label) (at : ℕ) (env : List Binding) (around : List Iteration)
    (x : ℕ) (ty : IrType) (n : Number) (ag : Agrees T F conditions at env around) (le : at ≤ x)
    (d : IsDefined T F x ty n (bind x n ∷ env) around) where
  abbrev U : Types
  U = with_types T x (ty ∷ [])

  abbrev now : List Binding
  now = bind x n ∷ env

  by : (P : ℕ → IrType → Type 0) → P x ty → ((l : ℕ) (u : IrType) → T l ≡ Some u → P l u) → (l : ℕ) (u : IrType)
      → U l ≡ Some u → P l u
  by P here old l u e = elim (one_cases T x ty l u e) [
    | inl h ↦ old l u h
    | inr h ↦ subst (λ z. P z u) h.0 (subst (λ v. P x v) h.1 here)
  ]

  old_to_new : (z : ℕ) (u : IrType) → T z ≡ Some u → U z ≡ Some u
  old_to_new z u e = with_old T x (ty ∷ []) z u e

  keeps_at : Keeps env now at
  keeps_at = keeps_push env x n at le

  test_of_new : (l : ℕ) (u : IrType) → U l ≡ Some u → (c : Comparison) → F.role l ≡ tested c → IsTestOf U now l c
  test_of_new = by (λ l u. (c : Comparison) → F.role l ≡ tested c → IsTestOf U now l c)
      (λ c t. test_later T U now now (x + 1) x c old_to_new (λ z lt. refl) (omega arith) (d.tests c t))
      (λ l u e c t. test_later T U env now at l c old_to_new keeps_at (ag.below l u e) (ag.tests l u c e t))

  held_new : IsHeld F (x + 1) now around x
  held_new = record {
    w = bits_of ty;
    good = d.good;
    below = omega arith;
    number = subst (λ m. HasValue now around (F.expr x) m) (sym (look_here x n env)) d.number;
  }

  bound_new : (l : ℕ) → IsBound now l → IsHeld F (x + 1) now around l
  bound_new l (inl e) = subst (λ z. IsHeld F (x + 1) now around z) e held_new
  bound_new l (inr b) = held_later F at (x + 1) env now around around l (omega arith) keeps_at (λ z lt. refl)
      (ag.bound l b)

  pub agrees_push : Agrees U F conditions (x + 1) now around
  agrees_push = record {
    wide = by (λ l u. 1 ≤ bits_of u) d.wide ag.wide;
    good = by (λ l u. IsGood (bits_of u) l (F.expr l)) d.good ag.good;
    below = by (λ l u. l < x + 1) (omega arith) (λ l u e. let b = ag.below l u e in omega arith);
    number = by (λ l u. HasValue now around (F.expr l) (look now l))
        (subst (λ m. HasValue now around (F.expr x) m) (sym (look_here x n env)) d.number)
        (λ l u e. number_later T F conditions at env now around ag keeps_at l u e);
    bound = bound_new;
    tests = λ l u c e t. test_of_new l u e c t;
    guards = guards_later T U env now at conditions old_to_new ag.below keeps_at ag.guards;
  }

-- a new iteration of a loop whose counter has the label `at`
pub agrees_turn : (T : Types) (F : Facts) (conditions : List Label) (at k : ℕ) (env : List Binding)
    (around : List Iteration)
    → Agrees T F conditions at env around → Agrees T F conditions (at + 1) env (turn_of at k ∷ around)
agrees_turn T F conditions at k env around ag = record {
  wide = ag.wide;
  good = ag.good;
  below = λ l u e. (let b = ag.below l u e in omega arith);
  number = λ l u e. (let b = ag.below l u e in
      value_stays env env around (turn_of at k ∷ around) l (bits_of u) (F.expr l) (look env l) (ag.good l u e)
      (λ z lt. refl)
      (keeps_turn around at k (l + 1) (omega arith)) (ag.number l u e));
  bound = λ l b. held_later F at (at + 1) env env around (turn_of at k ∷ around) l (omega arith) (λ z lt. refl)
      (keeps_turn around at k at (omega arith)) (ag.bound l b);
  tests = ag.tests;
  guards = ag.guards;
}

-- ---- values that are given together

ready_defined : (T : Types) (F : Facts) (at : ℕ) (env later : List Binding) (around : List Iteration) (x : ℕ)
    (ty : IrType) (n : Number)
    → Keeps env later at → look later x ≡ n → IsReady F at env around x ty n → IsDefined T F x ty n later around
ready_defined T F at env later around x ty n k l r = record {
  wide = r.wide;
  good = r.good;
  number = r.number later k l;
  tests = λ c t. absurd (never (sym r.plain ∙ t));
}
  where
    Is : Role → Type 0
    Is (tested c) = ⊥
    Is _ = Unit {0}

    never : {c : Comparison} → untested ≡ tested c → ⊥
    never e = subst Is e tt

pub binds_keep : (ns : List Number) (r : ℕ) (env : List Binding) → Keeps env (binds r ns env) r
binds_keep [] r env y lt = refl
binds_keep (n ∷ ns) r env y lt =
    binds_keep ns (r + 1) (bind r n ∷ env) y (omega arith) ∙ look_other r n y env (λ e. omega arith)

pub binds_ready : (T : Types) (F : Facts) (conditions : List Label) (at : ℕ) (env : List Binding)
    (around : List Iteration) (tys : List IrType)
    (ns : List Number) (r : ℕ) (now : List Binding) → at ≤ r → Keeps env now at → AreReady F at env around r tys ns
    → Agrees T F conditions r now around
    → AllHold F (definitions r ns around now)
    × Agrees (with_types T r tys) F conditions (r + length tys) (binds r ns now) around
binds_ready T F conditions at env around [] [] r now le k h ag = (
  tt,
  agrees_same T (with_types T r []) F conditions (r + 0) now around (λ l. none_more (T l))
      (agrees_later T F conditions r (r + 0) now around (omega arith) ag),
)
  where
    none_more : (a : Option IrType) → a ≡ option_or a None
    none_more (Some u) = refl
    none_more None = refl
binds_ready T F conditions at env around [] (n ∷ ns) r now le k h ag = absurd h
binds_ready T F conditions at env around (ty ∷ tys) [] r now le k h ag = absurd h
binds_ready T F conditions at env around (ty ∷ tys) (n ∷ ns) r now le k h ag =
    let k2 : Keeps env (bind r n ∷ now) at = keeps_both env now (bind r n ∷ now) at k (keeps_push now r n at le) in
    let d = ready_defined T F at env (bind r n ∷ now) around r ty n k2 (look_here r n now) h.0 in
    let ag2 = agrees_push T F conditions r now around r ty n ag (omega arith) d in
    let q = binds_ready (with_types T r (ty ∷ [])) F conditions at env around tys ns (r + 1) (bind r n ∷ now)
    (omega arith) k2 h.1 ag2 in (
      (d.number, q.0),
      agrees_same (with_types (with_types T r (ty ∷ [])) (r + 1) tys) (with_types T r (ty ∷ tys)) F conditions
          (r + length (ty ∷ tys)) (binds r (n ∷ ns) now) around
          (with_more T r ty tys)
          (agrees_later (with_types (with_types T r (ty ∷ [])) (r + 1) tys) F conditions (r + 1 + length tys)
          (r + length (ty ∷ tys)) (binds r (n ∷ ns) now) around (omega arith) q.1),
    )
