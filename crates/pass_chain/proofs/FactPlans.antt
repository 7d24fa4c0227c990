-- The facts of a function give plans of its loops.
use Rattle.std.proofs.Common.{◌≡◌, ℕ, ◌+◌, ◌%◌, ◌^◌, List, [], ◌∷◌, length, ap, ◌∙◌, subst, Option, Some, None}
use Rattle.std.proofs.lemmas.Nat.{pow_pos}
use Rattle.std.proofs.Math.Nat.{mod-lt, mod-eq_of_lt}
use Rattle.std.specs.Option.{option_map_or}
use Rattle.arith_word.specs.declared.label.Label.{Label}
use Rattle.arith_word.specs.declared.op.Pred.TheVariants.{Slt}
use Rattle.mlir_ir.proofs.LabelsFit.{labels_fit}
use Rattle.mlir_ir.proofs.SizedFunctions.{well_formed}
use Rattle.mlir_ir.specs.Check.{IsWellFormed}
use Rattle.mlir_ir.specs.Operations.{OpKind, For}
use Rattle.mlir_ir.specs.Runs.{Number, number, Binding, Iteration, Report, arrived, defined, left, look, run_body, run_declared, run_of}
use Rattle.mlir_ir.specs.Typed.{Types, TypedOp, args_typed}
use Rattle.mlir_ir.specs.View.{view_items}
use Rattle.mlir_ir.specs.WellFormed.{IsTypedBody, IsSizedBody}
use Rattle.mlir_ir.specs.Words.{bits_of}
use Rattle.mlir_ir.specs.declared.types.Body.{Body}
use Rattle.mlir_ir.specs.declared.types.Func.{Func}
use Rattle.mlir_ir.specs.declared.types.IrType.{IrType}
use Rattle.mlir_ir.specs.declared.types.Pack.{Pack}
use Rattle.scev_tree.proofs.Agreeing.{value_number}
use Rattle.trip_count.specs.declared.answer.Turns.TheVariants.{Count}
use Rattle.fresh_scev.specs.Bits.{HaveBits}
use Rattle.fresh_scev.specs.Expressions.{Expression, number as number_expression}
use Rattle.fresh_scev.specs.Facts.{Facts, IsFacts, round_limit}
use Rattle.fresh_scev.specs.Insides.{for_loop, IsForInside}
use Rattle.fresh_scev.specs.Loops.{IsVariable, AreComparedTurns}
use Rattle.scev_soundness.specs.Holding.{HasValue, IsBound, AllHold, point}
use Rattle.scev_soundness.proofs.Functions.{function_sound}
use Rattle.scev_soundness.proofs.LoopUses.{for_bounds}
use Rattle.scev_soundness.proofs.Rounds.{last_inside}
use Rattle.pass_copy.specs.Reported.{AllHoldAt, HoldsIn, at_arrivals}
use Rattle.pass_copy.specs.Replaced.{Operation, StandsInBody, StandsAt}
use Rattle.pass_copy.proofs.AloneLoops.{alone_at_label}
use Rattle.pass_unroll.specs.Copies.{ForLoop, operation_of}
use Rattle.pass_unroll.specs.Planned.{Turns, HasHeader, IsPlanned}
use Rattle.pass_unroll.specs.declared.plan.Plan.{Plan}
use Rattle.pass_chain.proofs.Positions.{Extends, AtLabel, around_items}
use Rattle.pass_chain.proofs.BoundRuns.{AreBound, body_told}
use Rattle.pass_chain.proofs.LoopFacts.{has_clause}
use Rattle.pass_chain.proofs.NumberTurns.{number_turns}

-- ---- the loop at a label, by its operation

abbrev loop_from : ForLoop → List Pack → List IrType → OpKind → ForLoop
loop_from d packs results (For lower upper step iv args inits body ends) = record {
  packs = packs;
  results = results;
  lower = lower;
  upper = upper;
  step = step;
  iv = iv;
  args = args;
  inits = inits;
  body = body;
  ends = ends;
}
loop_from d packs results _ = d

pub same_loop : (o q : ForLoop) → operation_of o ≡ operation_of q → o ≡ q
same_loop o q e = ap (λ (x : Operation). loop_from o x.packs x.results x.kind) e

-- ---- bounds and step are in scope wherever a run comes to the loop's label

module _ (t : ℕ) (o : ForLoop) where
  abbrev Known : Types → Label → Type 0
  Known T l = (ty : IrType) × (T l.0 ≡ Some ty)

  abbrev AreKnown : Types → Type 0
  AreKnown T = Known T o.lower × Known T o.upper × Known T o.step

  more_known : (T U : Types) → Extends T U → AreKnown T → AreKnown U
  more_known T U more k = (
    (k.0.0, more o.lower.0 k.0.0 k.0.1),
    (k.1.0, more o.upper.0 k.1.0 k.1.1),
    (k.2.0, more o.step.0 k.2.0 k.2.1),
  )

  own_known : (T : Types) → TypedOp T o.packs o.results (operation_of o).kind → AreKnown T
  own_known T typed =
      let b = for_bounds T o.packs o.results o.lower o.upper o.step o.iv o.args o.inits o.body o.ends t typed in
      ((b.0.its, b.0.known), (b.1.its, b.1.known), (b.2.its, b.2.known))

  abbrev Bound : ℕ → List Binding → Type 0
  Bound at env = at ≡ t → IsBound env o.lower.0 × IsBound env o.upper.0 × IsBound env o.step.0

  known_bound : (T : Types) (at : ℕ) (env : List Binding) → (at ≡ t → AreKnown T) → AreBound T env → Bound at env
  known_bound T at env known b e =
      let k = known e in
      (b o.lower.0 k.0.0 k.0.1, b o.upper.0 k.1.0 k.1.1, b o.step.0 k.2.0 k.2.1)

  bound_in : (f : Func) (body : Option Body) (args replies : List ℕ) (budget : ℕ) → length args ≡ length f.args
      → IsTypedBody f body → IsSizedBody body → StandsInBody t (operation_of o) f.index body
      → AllHoldAt (at_arrivals Bound) (option_map_or (λ body. run_body f body args replies budget) body run_declared).reports
  bound_in f None args replies budget many typed sized h = absurd h
  bound_in f (Some body) args replies budget many typed sized h =
      body_told Bound (AtLabel t (operation_of o) AreKnown more_known own_known) known_bound f body args replies budget
      many typed.inside
      (around_items t (operation_of o) AreKnown more_known own_known (view_items body.items) (args_typed f.index f.args)
      f.index 1 sized.inside typed.inside h)

-- ---- numbers of expressions

pub same_number : (n m : Number) → n.w ≡ m.w → n.v ≡ m.v → n ≡ m
same_number n m e h =
    let first : n ≡ record { w = m.w; v = n.v } = ap (λ (w : ℕ). record { w = w; v = n.v }) e in
    first ∙ ap (λ (v : ℕ). record { w = m.w; v = v }) h

-- a value whose expression is a number
number_read : (w v : ℕ) (e : Expression) (n : Number) (env : List Binding) (around : List Iteration)
    → e ≡ number_expression w v → HasValue env around e n → n ≡ number w v
number_read w v e n env around is h =
    let g : HasValue env around (number_expression w v) n = subst (λ x. HasValue env around x n) is h in
    same_number n (number w v) g.width
    (g.number ∙ (ap (λ x. x % 2 ^ w) (value_number (point env around) (v % 2 ^ w)) ∙ mod-eq_of_lt (mod-lt v (pow_pos w))))

module _ (f : Func) (F : Facts) (t : ℕ) (o : ForLoop) (plan : Plan) (well : IsWellFormed f) (bits : HaveBits f)
    (is : IsFacts f F) (stands : StandsAt f t (operation_of o))
    (lower : F.expr o.lower.0 ≡ number_expression (bits_of o.iv.ty) plan.lower)
    (upper : F.expr o.upper.0 ≡ number_expression (bits_of o.iv.ty) plan.upper)
    (step : F.expr o.step.0 ≡ number_expression (bits_of o.iv.ty) plan.step)
    (turns : F.turns t ≡ Count plan.count) where
  abbrev w : ℕ
  w = bits_of o.iv.ty

  headed_in : (reports : List Report) → AllHold F reports → AllHoldAt (at_arrivals (Bound t o)) reports
      → AllHoldAt (HasHeader t o plan) reports
  headed_in [] h b = tt
  headed_in (arrived at env around ∷ reports) h b = (
    λ e. (let s = b.0 e in (
      number_read w plan.lower (F.expr o.lower.0) (look env o.lower.0) env around lower (h.0 o.lower.0 s.0),
      number_read w plan.upper (F.expr o.upper.0) (look env o.upper.0) env around upper (h.0 o.upper.0 s.1),
      number_read w plan.step (F.expr o.step.0) (look env o.step.0) env around step (h.0 o.step.0 s.2),
    )),
    headed_in reports h.1 b.1,
  )
  headed_in (defined label n env around ∷ reports) h b = (tt, headed_in reports h.1 b.1)
  headed_in (left counter k env around ∷ reports) h b = (tt, headed_in reports h.1 b.1)

  headed : HoldsIn (HasHeader t o plan) f
  headed args replies budget many =
      let s = well_formed f well in
      headed_in (run_of f args replies budget).reports (function_sound f F args replies budget well bits is many)
      (bound_in t o f f.body args replies budget many s.0 s.2.inside stands)

  turns_so : Turns w (plan.lower % 2 ^ w) (plan.upper % 2 ^ w) plan.step plan.count
  turns_so =
      let clause = has_clause t (operation_of o) F f is stands in
      let inside = last_inside (for_loop t o.args o.inits o.ends)
      (IsForInside clause.0 t o.lower o.step o.iv (t + 2 + length o.args) o.body) round_limit F clause.1.0 in
      let variable : IsVariable t w (t + 1) (number_expression w plan.lower) (number_expression w plan.step) (F.expr (t + 1)) =
      subst (λ x. IsVariable t w (t + 1) x (number_expression w plan.step) (F.expr (t + 1))) lower
      (subst (λ x. IsVariable t w (t + 1) (F.expr o.lower.0) x (F.expr (t + 1))) step inside.0) in
      number_turns t w plan.lower plan.step (F.expr (t + 1)) variable plan.upper (F.expr o.upper.0) upper plan.count
      (subst (λ c. AreComparedTurns t Slt (F.expr (t + 1)) (F.expr o.upper.0) c) turns clause.1.1)

  same_at : (q : ForLoop) → StandsAt f t (operation_of q) → o ≡ q
  same_at q h = same_loop o q (alone_at_label f (labels_fit f well) t (operation_of o) (operation_of q) stands h)

  -- where bounds and step are numbers, and the trip count is one
  pub facts_plan : IsPlanned f t plan
  facts_plan = record {
    headed = λ q h. subst (λ r. HoldsIn (HasHeader t r plan) f) (same_at q h) headed;
    turns = λ q h. subst (λ (r : ForLoop). Turns (bits_of r.iv.ty) (plan.lower % 2 ^ bits_of r.iv.ty)
        (plan.upper % 2 ^ bits_of r.iv.ty) plan.step plan.count) (same_at q h) turns_so;
  }
