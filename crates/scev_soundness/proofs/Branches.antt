-- Conditional operations are sound where their regions are.
use Rattle.std.proofs.Common.{◌≡◌, ℕ, ◌+◌, ◌*◌, ◌%◌, ◌^◌, ◌<◌, ◌≤◌, ◌==◌, ◌&&◌, ◌||◌, nat_lt, ◌⊎◌, inl, inr, List, [], ◌∷◌, ◌++◌, length, refl, ap, ◌∙◌, sym, subst, arith, Bool, true, false, Some}
use Rattle.std.proofs.Math.Nat.{mod-lt}
use Rattle.std.proofs.lemmas.Bool.{and_parts, or_cases, eqb-true, eq-eqb}
use Rattle.std.proofs.lemmas.Bool.Decides.{nat_tests}
use Rattle.std.proofs.lemmas.Nat.{pow_pos}
use Rattle.std.specs.List.{list_all}
use Rattle.arith_word.specs.declared.label.Label.{Label}
use Rattle.mlir_ir.specs.Operations.{If, OpList, labels_of, inner_labels}
use Rattle.mlir_ir.specs.Rules.{truth}
use Rattle.mlir_ir.specs.Runs.{Binding, Iteration, State, Segment, look, numbers_of, is_false, defines, hands, run_ops, run_kind}
use Rattle.mlir_ir.specs.Typed.{Types, knows, with_types, types_after, yields, TypedOp, TypedRegions}
use Rattle.mlir_ir.specs.Words.{bits_of}
use Rattle.mlir_ir.specs.declared.types.IrType.{IrType}
use Rattle.mlir_ir.specs.declared.types.Pack.{Pack}
use Rattle.scev_tree.specs.Polynomial.{Under}
use Rattle.scev_tree.specs.Value.{value}
use Rattle.fresh_scev.specs.Each.{Each}
use Rattle.fresh_scev.specs.Expressions.{Expression, counter, own}
use Rattle.fresh_scev.specs.Facts.{Facts, untested, AreMerged, IsKind}
use Rattle.fresh_scev.specs.Rules.{have_width, fitting, IsMerged}
use Rattle.fresh_scev.proofs.Before.{under_later, expression_or}
use Rattle.scev_tree.proofs.EqualTrees.{under_or}
use Rattle.scev_soundness.specs.Agreement.{IsGood, IsTrueIn, AreTrueIn, Agrees, Keeps, After, IsSound, IsReady, AreReady}
use Rattle.scev_soundness.specs.Holding.{HasValue, point}
use Rattle.scev_soundness.proofs.Points.{value_keeps}
use Rattle.scev_soundness.proofs.Ready.{own_ready}
use Rattle.scev_soundness.proofs.Scopes.{agrees_later}
use Rattle.scev_soundness.proofs.Segments.{sound_then, sound_if, sound_weaker}
use Rattle.scev_soundness.proofs.SimpleOperations.{width_in, defines_sound}
use Rattle.scev_soundness.proofs.TypedUses.{fit_type, AreTyped, all_typed}

-- ---- conditions

true_more : (T : Types) (env : List Binding) (conditions : List Label) (c : Label) → AreTrueIn T env conditions
    → IsTrueIn T env c → AreTrueIn T env (conditions ++ c ∷ [])
true_more T env [] c g t = (t, tt)
true_more T env (d ∷ conditions) c g t = (g.0, true_more T env conditions c g.1 t)

-- a condition that isn't 0
pub true_in : (T : Types) (env : List Binding) (c : Label) → T c.0 ≡ Some truth → is_false env c ≡ false
    → IsTrueIn T env c
true_in T env c known f = record {
  ty = truth;
  known = known;
  true_it = λ z. (let e : is_false env c ≡ true = eq-eqb (look env c.0).v 0 z in absurd (cc));
}

-- one condition more that holds
pub agrees_guarded : (T : Types) (F : Facts) (conditions : List Label) (c : Label) (at : ℕ) (env : List Binding)
    (around : List Iteration) → Agrees T F conditions at env around → IsTrueIn T env c
    → Agrees T F (conditions ++ c ∷ []) at env around
agrees_guarded T F conditions c at env around ag t = record {
  wide = ag.wide;
  good = ag.good;
  below = ag.below;
  number = ag.number;
  bound = ag.bound;
  tests = ag.tests;
  guards = true_more T env conditions c ag.guards t;
}

-- ---- what a region hands out

-- a region ends with w
module _ (F : Facts) (at : ℕ) (env : List Binding) (around : List Iteration) (w : List Binding) (kw : Keeps env w at)
    (U : Types) (conditions : List Label) (end : ℕ) (aw : Agrees U F conditions end w around) where
  -- a value of the region becomes one with its own symbol
  pub own_handed : (y r : ℕ) (ty : IrType) → 1 ≤ bits_of ty → U y ≡ Some ty → F.expr r ≡ own (bits_of ty) r
      → F.role r ≡ untested → IsReady F at env around r ty (look w y)
  own_handed y r ty wide e h plain =
      let g = aw.good y ty e in
      let n = aw.number y ty e in
      let v = value (point w around) (F.expr y).p in
      let m : (look w y).v ≡ v % 2 ^ bits_of ty = n.number ∙ ap (λ k. v % 2 ^ k) g.width in
      let lt : v % 2 ^ bits_of ty < 2 ^ bits_of ty = mod-lt v (pow_pos (bits_of ty)) in
      own_ready F at env around r ty (look w y) wide h plain (width_in U F conditions end w around aw y ty e)
      (omega (arith, m, lt))

  -- it keeps its expression, which has only variables of labels before the operation
  pub same_handed : (y r : ℕ) (ty : IrType) → at ≤ r → 1 ≤ bits_of ty → U y ≡ Some ty
      → Under (F.expr y).p (counter at) → F.expr r ≡ F.expr y → F.role r ≡ untested
      → IsReady F at env around r ty (look w y)
  same_handed y r ty le wide e u h plain =
      let g = aw.good y ty e in
      let n = aw.number y ty e in
      let p = (F.expr y).p in
      let M = 2 ^ bits_of ty in
      let room : 2 * at ≤ 2 * (r + 1) = omega arith in
      record {
        wide = wide;
        good = subst (λ k. IsGood (bits_of ty) r k) (sym h)
            (record {
              width = g.width;
              canon = g.canon;
              under = under_later p (counter at) (counter (r + 1)) u room;
              within = g.within;
            });
        number = λ later k l. (
            let here = value_keeps env w around around at at (counter at) M p u g.canon (omega arith)
            (omega arith) kw (λ z lt. refl) in
            let there = value_keeps env later around around at at (counter at) M p u g.canon (omega arith)
            (omega arith) k (λ z lt. refl) in
            let same : HasValue later around (F.expr y) (look w y) =
            record { width = n.width; number = n.number ∙ ap (λ z. z % 2 ^ (F.expr y).w) (here ∙ sym there) } in
            subst (λ k. HasValue later around k (look w y)) (sym h) same);
        plain = plain;
      }

  merged_handed : (y r : ℕ) (ty : IrType) (b : Expression) → at ≤ r → 1 ≤ bits_of ty → U y ≡ Some ty
      → IsMerged at (bits_of ty) r (F.expr y) b (F.expr r) → F.role r ≡ untested
      → IsReady F at env around r ty (look w y)
  merged_handed y r ty b le wide e m plain = elim (expression_or (F.expr y) b) [
    | inl q ↦ (elim (under_or (F.expr y).p (counter at)) [
      | inl u ↦ same_handed y r ty le wide e u (m.same q u) plain
      | inr n ↦ own_handed y r ty wide e (m.other (λ q2 u. n u)) plain
    ])
    | inr n ↦ own_handed y r ty wide e (m.other (λ q u. n q)) plain
  ]

  flip : (w label : ℕ) (a b e : Expression) → IsMerged at w label a b e → IsMerged at w label b a e
  flip w label a b e m = record {
    same = λ q u. m.same (sym q) (subst (λ (k : Expression). Under k.p (counter at)) q u) ∙ sym q;
    other = λ f. m.other (λ q u. f (sym q) (subst (λ (k : Expression). Under k.p (counter at)) q u));
  }

  first_handed : (t : Bool) (y r : ℕ) (ty : IrType) (b : Expression) → at ≤ r → 1 ≤ bits_of ty → U y ≡ Some ty
      → fitting t (bits_of ty) r (F.expr r) (IsMerged at (bits_of ty) r (F.expr y) b (F.expr r))
      → F.role r ≡ untested → IsReady F at env around r ty (look w y)
  first_handed true y r ty b le wide e m plain = merged_handed y r ty b le wide e m plain
  first_handed false y r ty b le wide e m plain = own_handed y r ty wide e m plain

  other_handed : (t : Bool) (y r : ℕ) (ty : IrType) (b : Expression) → at ≤ r → 1 ≤ bits_of ty → U y ≡ Some ty
      → fitting t (bits_of ty) r (F.expr r) (IsMerged at (bits_of ty) r b (F.expr y) (F.expr r))
      → F.role r ≡ untested → IsReady F at env around r ty (look w y)
  other_handed true y r ty b le wide e m plain =
      merged_handed y r ty b le wide e (flip (bits_of ty) r b (F.expr y) (F.expr r) m) plain
  other_handed false y r ty b le wide e m plain = own_handed y r ty wide e m plain

  pub firsts_ready : (r : ℕ) (tys : List IrType) (ys zs : List Label) → at ≤ r → Each (λ l ty. 1 ≤ bits_of ty) r tys
      → length ys ≡ length tys → length zs ≡ length tys
      → AreTyped U tys ys → AreMerged F at r tys ys zs → AreReady F at env around r tys (numbers_of w ys)
  firsts_ready r [] [] zs le wide ly lz t h = tt
  firsts_ready r [] (y ∷ ys) zs le wide ly lz t h = absurd (omega (arith, ly))
  firsts_ready r (ty ∷ tys) [] zs le wide ly lz t h = absurd (omega (arith, ly))
  firsts_ready r (ty ∷ tys) (y ∷ ys) [] le wide ly lz t h = absurd (omega (arith, lz))
  firsts_ready r (ty ∷ tys) (y ∷ ys) (z ∷ zs) le wide ly lz t h = (
    first_handed (have_width (bits_of ty) (F.expr y.0) (F.expr z.0)) y.0 r ty (F.expr z.0) le wide.0 t.0 h.0 h.1,
    firsts_ready (r + 1) tys ys zs (omega arith) wide.1 (omega (arith, ly)) (omega (arith, lz)) t.1 h.2,
  )

  pub others_ready : (r : ℕ) (tys : List IrType) (ys zs : List Label) → at ≤ r → Each (λ l ty. 1 ≤ bits_of ty) r tys
      → length ys ≡ length tys → length zs ≡ length tys
      → AreTyped U tys zs → AreMerged F at r tys ys zs → AreReady F at env around r tys (numbers_of w zs)
  others_ready r [] ys [] le wide ly lz t h = tt
  others_ready r [] ys (z ∷ zs) le wide ly lz t h = absurd (omega (arith, lz))
  others_ready r (ty ∷ tys) [] zs le wide ly lz t h = absurd (omega (arith, ly))
  others_ready r (ty ∷ tys) (y ∷ ys) [] le wide ly lz t h = absurd (omega (arith, lz))
  others_ready r (ty ∷ tys) (y ∷ ys) (z ∷ zs) le wide ly lz t h = (
    other_handed (have_width (bits_of ty) (F.expr y.0) (F.expr z.0)) z.0 r ty (F.expr y.0) le wide.0 t.0 h.0 h.1,
    others_ready (r + 1) tys ys zs (omega arith) wide.1 (omega (arith, ly)) (omega (arith, lz)) t.1 h.2,
  )

-- ---- counts

some_more : (n : ℕ) → nat_lt 0 n ≡ true → 0 < n
some_more n e = grind (arith, nat_tests, e)

-- a yield has as many operands as it gives values, where it has some, or where there are none
pub yield_length : (results : List IrType) (ends : List Label) → yields results ends ≡ true
    → (length results ≡ 0) ⊎ (0 < length ends) → length ends ≡ length results
yield_length results ends y some = elim (or_cases (length ends == 0) (length ends == length results) y) [
  | inl none_given ↦ (let e = eqb-true (length ends) 0 none_given in
      elim some [ inl z ↦ omega (arith, e, z) | inr more ↦ absurd (omega (arith, e, more)) ])
  | inr e ↦ eqb-true (length ends) (length results) e
]

-- both regions of a conditional operation yield as many values as it has results
pub branch_lengths : (results : List IrType) (firsts others : List Label)
    → (length results == 0 || nat_lt 0 (length firsts) && nat_lt 0 (length others)) ≡ true
    → yields results firsts ≡ true → yields results others ≡ true
    → (length firsts ≡ length results) × (length others ≡ length results)
branch_lengths results firsts others counted y z =
    elim (or_cases (length results == 0) (nat_lt 0 (length firsts) && nat_lt 0 (length others)) counted) [
      | inl e ↦ (let n = eqb-true (length results) 0 e in
          (yield_length results firsts y (inl n), yield_length results others z (inl n)))
      | inr e ↦ (let p = and_parts (nat_lt 0 (length firsts)) (nat_lt 0 (length others)) e in (
        yield_length results firsts y (inr (some_more (length firsts) p.0)),
        yield_length results others z (inr (some_more (length others) p.1)),
      ))
    ]

-- ---- the operation

pub after_moved : (T : Types) (F : Facts) (conditions : List Label) (at res to last end : ℕ) (results : List IrType)
    (env later : List Binding) (around : List Iteration) → res ≡ to → last ≡ end
    → After (with_types T res results) F conditions at last env later around
    → After (with_types T to results) F conditions at end env later around
after_moved T F conditions at res to last end results env later around e f h =
    subst (λ n. After (with_types T to results) F conditions at n env later around) f
    (subst (λ n. After (with_types T n results) F conditions at last env later around) e h)

pub if_sound : (c : Label) (first : OpList) (firsts : List Label) (has_else : Bool) (other : OpList)
    (others : List Label) (T : Types) (F : Facts) (conditions : List Label) (at fuel : ℕ) (packs : List Pack)
    (results : List IrType)
    (env : List Binding) (around : List Iteration) (s : State)
    → TypedOp T packs results (If c first firsts has_else other others)
    → TypedRegions T at results (If c first firsts has_else other others)
    → Each (λ l ty. 1 ≤ bits_of ty) (at + inner_labels (If c first firsts has_else other others)) results
    → IsKind conditions (If c first firsts has_else other others) results at F
    → Agrees T F conditions at env around
    → (Agrees T F (conditions ++ c ∷ []) at env around
    → IsSound F (run_ops first fuel at around env s)
    (λ w. After (types_after T at first) F (conditions ++ c ∷ []) at (at + labels_of first) env w around))
    → (Agrees T F conditions (at + labels_of first) env around
    → IsSound F (run_ops other fuel (at + labels_of first) around env s)
    (λ w. After (types_after T (at + labels_of first) other) F conditions (at + labels_of first)
    (at + labels_of first + labels_of other) env w around))
    → IsSound F (run_kind (If c first firsts has_else other others) results fuel at around env s)
    (λ later. After (with_types T (at + inner_labels (If c first firsts has_else other others)) results) F conditions
    at
    (at + (inner_labels (If c first firsts has_else other others) + length results)) env later around)
if_sound c first firsts has_else other others T F conditions at fuel packs results env around s t r wide is ag
    sound_first sound_other =
    sound_if F (is_false env c) (hands res others around env run_other) (hands res firsts around env run_first)
    (λ w. Post w)
    (λ no_then. sound_then F run_other (λ w. After (types_after T behind other) F conditions behind res env w around)
    (λ w. Post w) (λ w s1. defines res (numbers_of w others) around env s1)
    (sound_other (agrees_later T F conditions at behind env around (omega arith) ag)) (λ w s1 a. handed_other w s1 a))
    (λ some_then. sound_then F run_first (λ w. After (types_after T at first) F
    (conditions ++ c ∷ []) at behind env w around) (λ w. Post w)
    (λ w s1. defines res (numbers_of w firsts) around env s1)
    (sound_first (agrees_guarded T F conditions c at env around ag (true_in T env c known_here some_then)))
    (λ w s1 a. handed_first w s1 a))
  where
    behind : ℕ
    behind = at + labels_of first

    res : ℕ
    res = at + labels_of first + labels_of other

    run_first : Segment
    run_first = run_ops first fuel at around env s

    run_other : Segment
    run_other = run_ops other fuel (at + labels_of first) around env s

    Post : List Binding → Type 0
    Post later = After (with_types T (at + inner_labels (If c first firsts has_else other others)) results) F
        conditions at
        (at + (inner_labels (If c first firsts has_else other others) + length results)) env later around

    lengths : (length firsts ≡ length results) × (length others ≡ length results)
    lengths = branch_lengths results firsts others t.counted r.1.counted r.3.counted

    same_place : at + labels_of first + labels_of other ≡ at + inner_labels (If c first firsts has_else other others)
    same_place = omega arith

    same_end : at + labels_of first + labels_of other + length results
        ≡ at + (inner_labels (If c first firsts has_else other others) + length results)
    same_end = omega arith

    wide_here : Each (λ l ty. 1 ≤ bits_of ty) res results
    wide_here = subst (λ l. Each (λ l ty. 1 ≤ bits_of ty) l results) (sym same_place) wide

    known_here : T c.0 ≡ Some truth
    known_here = fit_type T truth c (and_parts (knows T c) (list_all (knows T) []) t.in_scope).0 t.typed

    moved : (w : List Binding) → After (with_types T res results) F conditions at (res + length results) env w around
        → Post w
    moved w h = after_moved T F conditions at res (at + inner_labels (If c first firsts has_else other others))
        (res + length results)
        (at + (inner_labels (If c first firsts has_else other others) + length results)) results env w around
        same_place same_end h

    handed_first : (w : List Binding) (s1 : State)
        → After (types_after T at first) F (conditions ++ c ∷ []) at behind env w around
        → IsSound F (defines res (numbers_of w firsts) around env s1) (λ w. Post w)
    handed_first w s1 a =
        let ready = firsts_ready F at env around w a.keeps (types_after T at first)
        (conditions ++ c ∷ []) behind a.agrees res results firsts others
        (omega arith) wide_here lengths.0 lengths.1
        (all_typed (types_after T at first) results firsts r.1.in_scope r.1.typed) is.2 in
        sound_weaker F (defines res (numbers_of w firsts) around env s1)
        (λ w. After (with_types T res results) F conditions at (res + length results) env w around)
        (λ w. Post w) moved
        (defines_sound T F conditions at res env around s1 results (numbers_of w firsts) ag (omega arith) ready)

    handed_other : (w : List Binding) (s1 : State)
        → After (types_after T behind other) F conditions behind res env w around
        → IsSound F (defines res (numbers_of w others) around env s1) (λ w. Post w)
    handed_other w s1 a =
        let ready = others_ready F at env around w (λ z lt. a.keeps z (omega arith))
        (types_after T behind other) conditions res a.agrees res results firsts others
        (omega arith) wide_here lengths.0 lengths.1
        (all_typed (types_after T behind other) results others r.3.in_scope r.3.typed) is.2 in
        sound_weaker F (defines res (numbers_of w others) around env s1)
        (λ w. After (with_types T res results) F conditions at (res + length results) env w around)
        (λ w. Post w) moved
        (defines_sound T F conditions at res env around s1 results (numbers_of w others) ag (omega arith) ready)
