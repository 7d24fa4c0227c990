-- The results of loops get their numbers: the values that are carried or passed out, in the iteration in which the
-- loop is left.
use Rattle.std.proofs.Common.{◌≡◌, ℕ, ◌+◌, ◌-◌, ◌*◌, ◌%◌, ◌^◌, ◌<◌, ◌≤◌, List, [], ◌∷◌, length, refl, ap, ◌∙◌, sym, subst, arith, true, Option, Some, None}
use Rattle.std.specs.List.{list_all}
use Rattle.std.specs.Option.{is_some, option_map_or}
use Rattle.std.specs.Prelude.{if◌then◌else◌}
use Rattle.std.proofs.Math.Nat.{mod-lt}
use Rattle.std.proofs.Math.Pow.{mod-mod-pow}
use Rattle.std.proofs.lemmas.Bool.{and_parts}
use Rattle.std.proofs.lemmas.Nat.{pow_pos}
use Rattle.arith_word.specs.declared.label.Label.{Label}
use Rattle.chrec_algebra.specs.Limits.{IsWithin}
use Rattle.chrec_algebra.proofs.Degrees.{narrow_from}
use Rattle.chrec_algebra.proofs.Differences.{value_truncation}
use Rattle.chrec_algebra.proofs.PolynomialValues.{value_sum, value_product}
use Rattle.chrec_algebra.proofs.Products.{add_same, mul_same}
use Rattle.chrec_algebra.proofs.ValuesAt.{value_at}
use Rattle.chrec_algebra.proofs.ValuesOfLines.{value_line}
use Rattle.mlir_ir.specs.Rules.{same_type, same_types}
use Rattle.mlir_ir.specs.Runs.{Number, Binding, Iteration, look, numbers_of}
use Rattle.mlir_ir.specs.Typed.{Types, knows, fits, all_fit}
use Rattle.mlir_ir.specs.Words.{bits_of}
use Rattle.mlir_ir.specs.declared.types.IrType.{IrType}
use Rattle.scev_tree.specs.Polynomial.{Polynomial, Under, IsCanonical}
use Rattle.scev_tree.specs.Tree.{polynomial_of}
use Rattle.scev_tree.specs.Value.{value}
use Rattle.scev_tree.specs.declared.expr.Expr.{Expr}
use Rattle.trip_count.specs.Failing.{value_of}
use Rattle.trip_count.specs.declared.answer.Turns.{Turns}
use Rattle.trip_count.specs.declared.answer.Turns.TheVariants.{Count, Never, Exactly, Guarded, Unknown}
use Rattle.trip_count.proofs.Invariant.{IsInvariant}
use Rattle.fresh_scev.specs.Expressions.{Expression, counter, own}
use Rattle.fresh_scev.specs.Facts.{Facts, untested, IsProved, AreCarried, ArePassedOn}
use Rattle.fresh_scev.specs.Loops.{IsAtValue, IsAtEnd, IsResult, settled, unsettled}
use Rattle.fresh_scev.proofs.TypedWidths.{same_bits}
use Rattle.scev_soundness.specs.Holding.{HasValue, IsTurned, point}
use Rattle.scev_soundness.specs.Agreement.{Agrees, IsGood, Keeps, IsReady, AreReady}
use Rattle.scev_soundness.specs.Arguments.{turn_of}
use Rattle.scev_soundness.proofs.Points.{bind, look_here, keeps_push, value_keeps, turn_value, even}
use Rattle.scev_soundness.proofs.Ready.{own_ready, cut_ready}
use Rattle.scev_soundness.proofs.Guards.{GuardHolds, guard_of}

-- ---- the value where the loop is left

end_canon : (P : Type 0) (W loop : ℕ) (t : Turns) (a c : Polynomial) → IsAtEnd P W loop t a c → IsCanonical (2 ^ W) c
end_canon P W loop (Count n) a c h = h.canon
end_canon P W loop Never a c h = absurd h
end_canon P W loop (Exactly e) a c h = h.sum.canon
end_canon P W loop (Guarded pred from to e) a c h = h.1.sum.canon
end_canon P W loop (Unknown why) a c h = absurd h

-- a shorter mask after a longer one
shorter : (v big W : ℕ) → W ≤ big → (v % 2 ^ big) % 2 ^ W ≡ v % 2 ^ W
shorter v big W le =
    let e : big ≡ big - W + W = omega arith in
    ap (λ z. (v % 2 ^ z) % 2 ^ W) e ∙ mod-mod-pow v (big - W) W

-- loop iterations with what is in scope inside
module _ (env w : List Binding) (around : List Iteration) (loop k W : ℕ) (a : Polynomial) (keeps : Keeps env w loop)
    (ca : IsCanonical (2 ^ W) a) (within : IsWithin a) where
  abbrev M : ℕ
  M = 2 ^ W

  abbrev s : ℕ → ℕ
  s = point w around

  abbrev here : ℕ
  here = value (point w (turn_of loop k ∷ around)) a

  outer : (K : ℕ) (p : Polynomial) → IsCanonical K p → Under p (counter loop) → value s p ≡ value (point env around) p
  outer K p c u = value_keeps env w around around loop loop (counter loop) K p u c (omega arith) (omega arith) keeps
      (λ z lt. refl)

  at_count : (c : Polynomial) → IsAtEnd (Unit {0}) W loop (Count k) a c → value s c % M ≡ here % M
  at_count c h =
      value_at s M (counter loop) k c a (even loop) ca (narrow_from M a 0 ca within.low) h
      ∙ ap (λ z. z % M) (sym (turn_value w around loop k M a ca))

  at_value : (e : Expr) (c : Polynomial) → k ≡ value_of (point env around) e
      → Under (polynomial_of e.tree) (counter loop)
      → IsAtValue W loop e a c → value s c % M ≡ here % M
  at_value e c is u h =
      let pe = polynomial_of e.tree in
      let turns : value s h.turns % M ≡ k % M =
      value_truncation s M (2 ^ e.w) h.turns pe e.canonical h.truncated
      ∙ (ap (λ z. z % M) (outer (2 ^ e.w) pe e.canonical u)
      ∙ (sym (shorter (value (point env around) pe) e.w W h.wide) ∙ ap (λ z. z % M) (sym is))) in
      let moved : value s h.moved % M ≡ (value s h.slope * k) % M =
      value_product s M h.moved h.slope h.turns h.line.slope.canon h.truncated.canon h.product
      ∙ mul_same M (value s h.slope) (value s h.turns) (value s h.slope) k refl turns in
      value_sum s M c h.base h.moved h.line.base.canon h.product.canon h.sum
      ∙ (add_same M (value s h.base) (value s h.moved) (value s h.base) (value s h.slope * k) refl moved
      ∙ ap (λ z. z % M) (sym (turn_value w around loop k M a ca
      ∙ value_line s M (counter loop) k h.base h.slope a ca h.line)))

  at_end : (P : Type 0) (t : Turns) (c : Polynomial) → IsTurned env around t k → IsInvariant (counter loop) t
      → (P → GuardHolds (point env around) t)
      → IsAtEnd P W loop t a c → value s c % M ≡ here % M
  at_end P (Count n) c is i g h = at_count c (subst (λ z. IsAtEnd (Unit {0}) W loop (Count z) a c) (sym is) h)
  at_end P Never c is i g h = absurd h
  at_end P (Exactly e) c is i g h = at_value e c is i h
  at_end P (Guarded pred from to e) c is i g h =
      at_value e c (is ∙ ap (λ b. if b then value_of (point env around) e else 0) (g h.0)) i.2 h.1
  at_end P (Unknown why) c is i g h = absurd h

-- a result of a loop that is left in iteration k, where the expression a of what is carried to it has the number n
pub exit_ready : (P : Type 0) (F : Facts) (loop label : ℕ) (ty : IrType) (t : Turns) (a : Expression) (n : Number)
    (env w : List Binding) (around : List Iteration) (k : ℕ)
    → 1 ≤ bits_of ty → loop ≤ label → IsTurned env around t k → IsInvariant (counter loop) t
    → (P → GuardHolds (point env around) t)
    → IsCanonical (2 ^ bits_of ty) a.p → IsWithin a.p → a.w ≡ bits_of ty → Keeps env w loop
    → HasValue w (turn_of loop k ∷ around) a n
    → F.role label ≡ untested → IsResult P (bits_of ty) loop label t a (F.expr label)
    → IsReady F loop env around label ty n
exit_ready P F loop label ty t a n env w around k some le turned inv guard ca within width keeps has plain result =
    of result
  where
    wide : n.w ≡ bits_of ty
    wide = has.width ∙ width

    number : n.v ≡ value (point w (turn_of loop k ∷ around)) a.p % 2 ^ bits_of ty
    number = has.number ∙ ap (λ z. value (point w (turn_of loop k ∷ around)) a.p % 2 ^ z) width

    below : (v : ℕ) → n.v ≡ v % 2 ^ bits_of ty → n.v < 2 ^ bits_of ty
    below v e = let b : v % 2 ^ bits_of ty < 2 ^ bits_of ty = mod-lt v (pow_pos (bits_of ty)) in omega arith

    of : IsResult P (bits_of ty) loop label t a (F.expr label) → IsReady F loop env around label ty n
    of (unsettled none own) = own_ready F loop env around label ty n some own plain wide (below _ number)
    of (settled c x cut) =
        let cc = end_canon P (bits_of ty) loop t a.p c x.ends in
        cut_ready F loop env around label ty n c (counter loop) some le (omega arith) x.under cc cut plain wide
        (number ∙ (sym (at_end env w around loop k (bits_of ty) a.p keeps ca within P t c turned inv guard x.ends)
        ∙ ap (λ z. z % 2 ^ bits_of ty)
        (outer env w around loop k (bits_of ty) a.p keeps ca within (2 ^ bits_of ty) c cc x.under)))

-- ---- results beside one another

-- of a loop that is left in iteration k
module _ (T : Types) (F : Facts) (conditions : List Label) (at : ℕ) (env : List Binding) (around : List Iteration)
    (k : ℕ) (ag : Agrees T F conditions at env around) (turned : IsTurned env around (F.turns at) k)
    (inv : IsInvariant (counter at) (F.turns at)) where
  abbrev P : Type 0
  P = IsProved F conditions (F.turns at)

  result_ready : (label : ℕ) (ty : IrType) (a : Expression) (n : Number) (u : IrType) (from : ℕ) (w : List Binding)
      → 1 ≤ bits_of u → at ≤ label
      → bits_of u ≡ bits_of ty → IsGood (bits_of u) from a → Keeps env w at → HasValue w (turn_of at k ∷ around) a n
      → F.role label ≡ untested
      → IsResult P (bits_of ty) at label (F.turns at) a (F.expr label) → IsReady F at env around label ty n
  result_ready label ty a n u from w some le bits good keeps has plain result =
      exit_ready P F at label ty (F.turns at) a n env w around k (subst (λ z. 1 ≤ z) bits some) le turned inv
      (guard_of T F conditions at env around (F.turns at) ag)
      (subst (λ z. IsCanonical (2 ^ z) a.p) bits good.canon) good.within
      (good.width ∙ bits) keeps has plain result

  -- the results of an `scf.for`, whose arguments from label `first` on have the numbers where it is left
  pub carried_ready : (tys results : List IrType) (ns : List Number) (first res : ℕ) → at ≤ first → at ≤ res
      → same_types tys results ≡ true
      → length tys ≡ length results → AreReady F at env (turn_of at k ∷ around) first tys ns
      → AreCarried F conditions at first res results
      → AreReady F at env around res results ns
  carried_ready [] [] [] first res lf ll same many ready carried = tt
  carried_ready [] [] (n ∷ ns) first res lf ll same many ready carried = absurd ready
  carried_ready [] (ty ∷ results) ns first res lf ll same many ready carried = absurd (omega (arith, many))
  carried_ready (u ∷ tys) [] ns first res lf ll same many ready carried = absurd (omega (arith, many))
  carried_ready (u ∷ tys) (ty ∷ results) [] first res lf ll same many ready carried = absurd ready
  carried_ready (u ∷ tys) (ty ∷ results) (n ∷ ns) first res lf ll same many ready carried =
      let s = and_parts (same_type u ty) (same_types tys results) same in
      let w : List Binding = bind first n ∷ env in
      let keeps : Keeps env w at = keeps_push env first n at lf in
      let a = ready.0 in (
        result_ready res ty (F.expr first) n u first w a.wide ll (same_bits u ty s.0) a.good keeps
            (a.number w keeps (look_here first n env))
            carried.1 carried.0,
        carried_ready tys results ns (first + 1) (res + 1) (omega arith) (omega arith) s.1
            (omega (arith, many)) ready.1 carried.2,
      )

  -- the results of an `scf.while`, where the values that it passes are in scope
  module _ (U : Types) (end : ℕ) (inner : List Binding) (keeps : Keeps env inner at)
      (inside : Agrees U F conditions end inner (turn_of at k ∷ around)) where
    passed_ready : (y label : ℕ) (ty : IrType) (o : Option IrType) → U y ≡ o → is_some o ≡ true
        → option_map_or (same_type ty) o true ≡ true
        → at ≤ label → F.role label ≡ untested
        → IsResult P (bits_of ty) at label (F.turns at) (F.expr y) (F.expr label)
        → IsReady F at env around label ty (look inner y)
    passed_ready y label ty None known scope fit le plain result = absurd (cc)
    passed_ready y label ty (Some u) known scope fit le plain result =
        result_ready label ty (F.expr y) (look inner y) u y inner (inside.wide y u known) le
        (sym (same_bits ty u fit)) (inside.good y u known) keeps
        (inside.number y u known) plain result

    pub passed_on_ready : (results : List IrType) (passed : List Label) (res : ℕ) → list_all (knows U) passed ≡ true
        → all_fit U results passed ≡ true
        → length passed ≡ length results → at ≤ res → ArePassedOn F conditions at passed res results
        → AreReady F at env around res results (numbers_of inner passed)
    passed_on_ready [] [] res scope fit many le on = tt
    passed_on_ready (ty ∷ results) [] res scope fit many le on = absurd (omega (arith, many))
    passed_on_ready [] (y ∷ passed) res scope fit many le on = absurd (omega (arith, many))
    passed_on_ready (ty ∷ results) (y ∷ passed) res scope fit many le on =
        let s = and_parts (knows U y) (list_all (knows U) passed) scope in
        let f = and_parts (fits U ty y) (all_fit U results passed) fit in (
          passed_ready y.0 res ty (U y.0) refl s.0 f.0 le on.1 on.0,
          passed_on_ready results passed (res + 1) s.1 f.1 (omega (arith, many)) (omega arith) on.2,
        )
