-- Plans that are read from the facts of a function.
use Rattle.std.proofs.Common.{◌≡◌, ℕ, ◌+◌, ◌^◌, ◌<◌, ◌≤◌, inl, inr, List, [], ◌∷◌, length, refl, ap, ◌∙◌, sym, subst, arith, Option, Some, None}
use Rattle.std.specs.Prelude.{MatchOption}
use Rattle.std.proofs.lemmas.Nat.{pow_pos}
use Rattle.std.proofs.Math.Nat.{mod-lt, mod-eq_of_lt}
use Rattle.arith_word.specs.Labels.{label_at}
use Rattle.arith_word.specs.declared.label.Label.{Label}
use Rattle.arith_word.specs.declared.op.Pred.TheVariants.{Slt}
use Rattle.mlir_ir.proofs.LabelsFit.{labels_fit}
use Rattle.mlir_ir.specs.Check.{IsWellFormed}
use Rattle.mlir_ir.specs.Operations.{OpKind, Simple, If, For, While, OpList, nil, next, labels_of, inner_labels}
use Rattle.mlir_ir.specs.View.{view_items}
use Rattle.mlir_ir.specs.Words.{bits_of}
use Rattle.mlir_ir.specs.declared.types.Body.{Body}
use Rattle.mlir_ir.specs.declared.types.Func.{Func}
use Rattle.mlir_ir.specs.declared.types.IrType.{IrType}
use Rattle.scev_tree.specs.Polynomial.{Polynomial, num, ext, Under, IsCanonical}
use Rattle.trip_count.specs.declared.answer.Turns.TheVariants.{Count}
use Rattle.fresh_scev.specs.Answers.{facts_shown}
use Rattle.fresh_scev.specs.Bits.{HaveBits}
use Rattle.fresh_scev.specs.Expressions.{Expression, number, number_in, counter}
use Rattle.fresh_scev.specs.Facts as plain
use Rattle.fresh_scev.specs.Facts.{IsFacts, round_limit}
use Rattle.fresh_scev.specs.Insides.{for_loop, IsForInside}
use Rattle.fresh_scev.specs.Loops.{AreComparedTurns}
use Rattle.fresh_scev.specs.Table.{AreKnown, expr_in, fact_at}
use Rattle.fresh_scev.specs.UsesBelow.{DoUseBelow, DoesUseBelow, DoItemsUseBelow}
use Rattle.fresh_scev.specs.declared.fact.Fact.{Fact}
use Rattle.fresh_scev.specs.declared.fact.Fact.TheVariants.{Value, Loop}
use Rattle.fresh_scev.specs.declared.facts.Facts.{Facts}
use Rattle.fresh_scev.proofs.Before.{under_later, same_expression}
use Rattle.fresh_scev.proofs.UsesOfTyped.{function_uses_below}
use Rattle.scev_soundness.proofs.Rounds.{last_inside}
use Rattle.pass_copy.specs.Replaced.{Operation, StandsIn, StandsInside, StandsInItems, StandsInBody, StandsAt}
use Rattle.pass_unroll.specs.Copies.{ForLoop, operation_of}
use Rattle.pass_unroll.specs.Planned.{IsPlanned, IsPlannedBy}
use Rattle.pass_unroll.specs.declared.plan.Plan.{Plan}
use Rattle.pass_chain.specs.Parts.{TurnInParts}
use Rattle.pass_chain.specs.Plans.{HasBounds, IsForWith, IsPlanOf, Suits, IsPlanFor, IsTooLong, Refuses, SuitsAt, IsTooLongAt, RefusesAt}
use Rattle.pass_chain.specs.declared.pass_kind.PassKind.{PassKind}
use Rattle.pass_chain.specs.declared.pass_kind.PassKind.TheVariants.{Unroll, UnrollFull, Peel, ExitValues, Reduce}
use Rattle.pass_chain.specs.declared.pass_kind.PassRefusal.{PassRefusal}
use Rattle.pass_chain.specs.declared.pass_kind.PassRefusal.TheVariants.{NotFor, CountNotKnown, NoTurn, TooManyTurns, StepTooLarge, NothingToDo, TooLarge}
use Rattle.pass_chain.specs.declared.bounds.Bounds.{Bounds}
use Rattle.pass_chain.proofs.CountedBounds.{HasNumbers, IsNumber, counted_bounds}
use Rattle.pass_chain.proofs.FactPlans.{same_loop, facts_plan}
use Rattle.pass_chain.proofs.LoopFacts.{has_clause}
use Rattle.pass_copy.proofs.AloneLoops.{alone_at_label}

-- ---- what a loop uses is defined before

module _ (t : ℕ) (o : Operation) where
  mutual
    uses_in : (ops : OpList) (at : ℕ) → DoUseBelow ops at → StandsIn t o at ops → DoesUseBelow o.kind t
    uses_in nil at below h = absurd h
    uses_in (next packs results kind rest) at below (inl h) =
        subst (λ l. DoesUseBelow o.kind l) h.0 (subst (λ (q : Operation). DoesUseBelow q.kind at) h.2 below.0)
    uses_in (next packs results kind rest) at below (inr (inl h)) = uses_inside kind at below.0 h
    uses_in (next packs results kind rest) at below (inr (inr h)) =
        uses_in rest (at + (inner_labels kind + length results)) below.1 h

    uses_inside : (kind : OpKind) (at : ℕ) → DoesUseBelow kind at → StandsInside t o at kind → DoesUseBelow o.kind t
    uses_inside (Simple does) at below h = absurd h
    uses_inside (If c first firsts has_else other others) at below (inl h) = uses_in first at below.1 h
    uses_inside (If c first firsts has_else other others) at below (inr h) =
        uses_in other (at + labels_of first) below.3 h
    uses_inside (For lower upper step iv args inits body ends) at below h = uses_in body (at + 2 + length args) below.1 h
    uses_inside (While args inits before passed cond after_args after ends) at below (inl h) =
        uses_in before (at + 1 + length args) below.1 h
    uses_inside (While args inits before passed cond after_args after ends) at below (inr h) =
        uses_in after (at + 1 + length args + labels_of before + length after_args) below.3 h

  uses_items : (items : List OpList) (func k : ℕ) → DoItemsUseBelow func k items → StandsInItems t o func k items
      → DoesUseBelow o.kind t
  uses_items [] func k below h = absurd h
  uses_items (ops ∷ items) func k below (inl h) = uses_in ops (label_at func k 0) below.0 h
  uses_items (ops ∷ items) func k below (inr h) = uses_items items func (k + 1) below.1 h

  uses_body : (func : ℕ) (body : Option Body)
      → ((b : Body) → body ≡ Some b → DoItemsUseBelow func 1 (view_items b.items)) → StandsInBody t o func body
      → DoesUseBelow o.kind t
  uses_body func None below h = absurd h
  uses_body func (Some b) below h = uses_items (view_items b.items) func 1 (below b refl) h

  uses_at : (f : Func) → IsWellFormed f → StandsAt f t o → DoesUseBelow o.kind t
  uses_at f well h = uses_body f.index f.body (λ b e. function_uses_below f b well e) h

-- ---- the loop with these bounds

-- an operation at label t that has these bounds is an `scf.for` with them
pub for_with : (f : Func) (t : ℕ) (b : Bounds) (o : Operation) → HasBounds b o.kind → StandsAt f t o → IsForWith f t b
for_with f t b o has h = by o.kind refl has
  where
    by : (kind : OpKind) → o.kind ≡ kind → HasBounds b kind → IsForWith f t b
    by (Simple does) e has = absurd has
    by (If c first firsts has_else other others) e has = absurd has
    by (For lower upper step iv args inits body ends) e has =
        let same : o ≡ record {
          packs = o.packs;
          results = o.results;
          kind = For lower upper step iv args inits body ends;
        } = ap (λ (k : OpKind). record { packs = o.packs; results = o.results; kind = k }) e in
        record {
          o = record {
            packs = o.packs;
            results = o.results;
            lower = lower;
            upper = upper;
            step = step;
            iv = iv;
            args = args;
            inits = inits;
            body = body;
            ends = ends;
          };
          stands = subst (λ (q : Operation). StandsAt f t q) same h;
          lower = has.0;
          upper = has.1;
          step = has.2;
          ty = has.3;
        }
    by (While args inits before passed cond after_args after ends) e has = absurd has

-- ---- the facts that a program keeps

shown_canonical : (facts : Facts) (l : ℕ)
    → IsCanonical (2 ^ ((facts_shown facts).expr l).w) ((facts_shown facts).expr l).p
shown_canonical facts l = of (fact_at facts.func facts.items l)
  where
    of : (o : Option Fact) → IsCanonical (2 ^ (expr_in o).w) (expr_in o).p
    of (Some (Value e test)) = e.canonical
    of (Some (Loop t)) = mod-lt 0 (pow_pos 1)
    of None = mod-lt 0 (pow_pos 1)

module _ (facts : Facts) (f : Func) (t : ℕ) (b : Bounds) (well : IsWellFormed f) (is : IsFacts f (facts_shown facts))
    (known : AreKnown (facts_shown facts)) (stands : IsForWith f t b) where
  abbrev F : plain.Facts
  F = facts_shown facts

  under : (l : Label) → l.0 < t → Under (F.expr l.0).p (counter t)
  under l lt = under_later (F.expr l.0).p (counter (l.0 + 1)) (counter t) (known.exprs l.0).under (omega (arith, lt))

  numbers_at : (o : ForLoop) (n : ℕ) → StandsAt f t (operation_of o) → F.turns t ≡ Count n
      → HasNumbers (bits_of o.iv.ty) (F.expr o.lower.0) (F.expr o.upper.0) (F.expr o.step.0)
  numbers_at o n h turns =
      let clause = has_clause t (operation_of o) F f is h in
      let inside = last_inside (for_loop t o.args o.inits o.ends)
      (IsForInside clause.0 t o.lower o.step o.iv (t + 2 + length o.args) o.body) round_limit F clause.1.0 in
      let low = uses_at t (operation_of o) f well h in
      counted_bounds t (bits_of o.iv.ty) (F.expr o.lower.0) (F.expr o.upper.0) (F.expr o.step.0) (F.expr (t + 1)) n
      (shown_canonical facts o.lower.0) (under o.lower low.0.0) (under o.upper low.0.1.0)
      (shown_canonical facts o.step.0) (under o.step low.0.1.1.0) inside.0
      (subst (λ c. AreComparedTurns t Slt (F.expr (t + 1)) (F.expr o.upper.0) c) turns clause.1.1)

  -- bounds and step are numbers where the trip count is one
  bounds_numbers : (n : ℕ) → F.turns t ≡ Count n
      → HasNumbers (bits_of b.ty) (F.expr b.lower.0) (F.expr b.upper.0) (F.expr b.step.0)
  bounds_numbers n turns =
      let h = numbers_at stands.o n stands.stands turns in
      subst (λ (l : Label). HasNumbers (bits_of b.ty) (F.expr l.0) (F.expr b.upper.0) (F.expr b.step.0)) (sym stands.lower)
      (subst (λ (l : Label). HasNumbers (bits_of b.ty) (F.expr stands.o.lower.0) (F.expr l.0) (F.expr b.step.0)) (sym stands.upper)
      (subst (λ (l : Label). HasNumbers (bits_of b.ty) (F.expr stands.o.lower.0) (F.expr stands.o.upper.0) (F.expr l.0)) (sym stands.step)
      (subst (λ (ty : IrType). HasNumbers (bits_of ty) (F.expr stands.o.lower.0) (F.expr stands.o.upper.0) (F.expr stands.o.step.0)) (sym stands.ty) h)))

  abbrev Is : Option ℕ → Type 0
  Is (Some v) = Unit {0}
  Is None = ⊥

  some_number : (p : Polynomial) → IsNumber p → number_in p ≡ None → ⊥
  some_number p h e = subst Is (sym (ap number_in h.1) ∙ e) tt

  pub some_lower : (n : ℕ) → F.turns t ≡ Count n → number_in (F.expr b.lower.0).p ≡ None → ⊥
  some_lower n turns e = some_number (F.expr b.lower.0).p (bounds_numbers n turns).lower_number e

  pub some_upper : (n : ℕ) → F.turns t ≡ Count n → number_in (F.expr b.upper.0).p ≡ None → ⊥
  some_upper n turns e = some_number (F.expr b.upper.0).p (bounds_numbers n turns).upper_number e

  pub some_step : (n : ℕ) → F.turns t ≡ Count n → number_in (F.expr b.step.0).p ≡ None → ⊥
  some_step n turns e = some_number (F.expr b.step.0).p (bounds_numbers n turns).step_number e

  -- an expression of width w that is the number v
  read_number : (w v : ℕ) (e : Expression) → IsCanonical (2 ^ e.w) e.p → e.w ≡ w → number_in e.p ≡ Some v
      → (e ≡ number w v) × (v < 2 ^ w)
  read_number w v e c wide h =
      let p = is_num e.p h in
      let low : v < 2 ^ w = subst (λ z. IsCanonical (2 ^ z) (num v)) wide (subst (λ q. IsCanonical (2 ^ e.w) q) p c) in
      (same_expression e (number w v) wide (p ∙ ap num (sym (mod-eq_of_lt low))), low)
    where
      as_num : ℕ → Option ℕ → Polynomial
      as_num d (Some v) = num v
      as_num d None = num d

      is_num : (p : Polynomial) → number_in p ≡ Some v → p ≡ num v
      is_num (num u) h = ap (as_num u) h
      is_num (ext x ps) h = absurd (subst Is (sym h) tt)

  pub plan_read : (plan : Plan) → F.turns t ≡ Count plan.count → Some plan.lower ≡ number_in (F.expr b.lower.0).p
      → Some plan.upper ≡ number_in (F.expr b.upper.0).p → Some plan.step ≡ number_in (F.expr b.step.0).p
      → IsPlanOf F f t plan
  plan_read plan turns lower upper step =
      let h = numbers_at stands.o plan.count stands.stands turns in
      let w = bits_of stands.o.iv.ty in
      let l = read_number w plan.lower (F.expr stands.o.lower.0) (shown_canonical facts stands.o.lower.0) h.lower_width
      (subst (λ (x : Label). number_in (F.expr x.0).p ≡ Some plan.lower) stands.lower (sym lower)) in
      let u = read_number w plan.upper (F.expr stands.o.upper.0) (shown_canonical facts stands.o.upper.0) h.upper_width
      (subst (λ (x : Label). number_in (F.expr x.0).p ≡ Some plan.upper) stands.upper (sym upper)) in
      let s = read_number w plan.step (F.expr stands.o.step.0) (shown_canonical facts stands.o.step.0) h.step_width
      (subst (λ (x : Label). number_in (F.expr x.0).p ≡ Some plan.step) stands.step (sym step)) in
      record {
        o = stands.o;
        stands = stands.stands;
        lower = l.0;
        upper = u.0;
        step = s.0;
        count = turns;
        low_lower = l.1;
        low_upper = u.1;
        low_step = s.1;
      }

-- ---- what a plan of the facts is for a pass

abbrev pub NoCount : plain.Facts → ℕ → Type 0
NoCount F t = (n : ℕ) → F.turns t ≡ Count n → ⊥

pub plan_found : (F : plain.Facts) (f : Func) (t : ℕ) (r : Option Plan) (plan : Plan) → r ≡ Some plan
    → MatchOption r (NoCount F t) (λ plan. IsPlanOf F f t plan) → IsPlanOf F f t plan
plan_found F f t r plan e h = subst (λ o. MatchOption o (NoCount F t) (λ plan. IsPlanOf F f t plan)) e h

module _ (w : ℕ) (kind : PassKind) (factor : ℕ) (plan : Plan) (r : Option PassRefusal) where
  abbrev pub IsAnswer : Option PassRefusal → Type 0
  IsAnswer o = MatchOption o (SuitsAt w kind factor plan) (λ refusal. RefusesAt w kind factor plan refusal)

  pub suits_at : r ≡ None → IsAnswer r → SuitsAt w kind factor plan
  suits_at e h = subst IsAnswer e h

  pub refuses_at : (refusal : PassRefusal) → r ≡ Some refusal → IsAnswer r → RefusesAt w kind factor plan refusal
  refuses_at refusal e h = subst IsAnswer e h

module _ (F : plain.Facts) (f : Func) (t : ℕ) (b : Bounds) (plan : Plan) (well : IsWellFormed f) (bits : HaveBits f)
    (is : IsFacts f F) (stands : IsForWith f t b) (p : IsPlanOf F f t plan) where
  abbrev w : ℕ
  w = bits_of b.ty

  same_at : (q : ForLoop) → StandsAt f t (operation_of q) → p.o ≡ q
  same_at q h = same_loop p.o q
      (alone_at_label f (labels_fit f well) t (operation_of p.o) (operation_of q) p.stands h)

  same_width : (q : ForLoop) → StandsAt f t (operation_of q) → w ≡ bits_of q.iv.ty
  same_width q h =
      ap bits_of stands.ty
      ∙ (sym (ap (λ (o : ForLoop). bits_of o.iv.ty) (same_at stands.o stands.stands))
      ∙ ap (λ (o : ForLoop). bits_of o.iv.ty) (same_at q h))

  pub low_plan : (plan.lower < 2 ^ w) × (plan.upper < 2 ^ w) × (plan.step < 2 ^ w)
  low_plan = subst (λ v. (plan.lower < 2 ^ v) × (plan.upper < 2 ^ v) × (plan.step < 2 ^ v))
      (sym (same_width p.o p.stands)) (p.low_lower, p.low_upper, p.low_step)

  planned : IsPlanned f t plan
  planned = facts_plan f F t p.o plan well bits is p.stands p.lower p.upper p.step p.count

  planned_by : (factor : ℕ) → 2 ≤ factor → factor ≤ 32 → TurnInParts w plan factor → IsPlannedBy f t factor plan
  planned_by factor low high parts = record {
    planned = planned;
    factor_low = low;
    factor_high = high;
    main = λ q h. (subst (λ v. TurnInParts v plan factor) (same_width q h) parts).main;
    rest = λ q h. (subst (λ v. TurnInParts v plan factor) (same_width q h) parts).rest;
  }

  in_parts : (factor : ℕ) → IsPlannedBy f t factor plan → TurnInParts w plan factor
  in_parts factor by = subst (λ v. TurnInParts v plan factor) (sym (same_width p.o p.stands))
      (record { main = by.main p.o p.stands; rest = by.rest p.o p.stands })

  module _ (factor : ℕ) (low : 2 ≤ factor) (high : factor ≤ 32) where
    suits : (kind : PassKind) → SuitsAt w kind factor plan → Suits f t kind factor plan
    suits Unroll h = (h.0, planned_by factor low high h.1)
    suits UnrollFull h = h
    suits Peel h = h
    suits ExitValues h = h
    suits Reduce h = h

    pub plan_for : (kind : PassKind) → SuitsAt w kind factor plan → IsPlanFor F f t kind factor plan
    plan_for kind h = record { is = p; planned = planned; suits = suits kind h }

    too_long : (kind : PassKind) → IsTooLongAt w kind factor plan → IsTooLong f t kind factor plan
    too_long Unroll h = (h.0, λ by. h.1 (in_parts factor by))
    too_long UnrollFull h = h
    too_long Peel h = h
    too_long ExitValues h = h
    too_long Reduce h = h

    pub refuses : (kind : PassKind) (refusal : PassRefusal) → RefusesAt w kind factor plan refusal
        → Refuses F f t kind factor refusal
    refuses kind NotFor h = absurd h
    refuses kind CountNotKnown h = absurd h
    refuses kind NoTurn h = (plan, p, h)
    refuses kind TooManyTurns h = (plan, p, h)
    refuses kind StepTooLarge h = (plan, p, too_long kind h)
    refuses kind NothingToDo h = h
    refuses kind TooLarge h = h
