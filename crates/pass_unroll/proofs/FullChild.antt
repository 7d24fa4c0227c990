-- The child in which a loop is unrolled in full, as far as it is built.
use Rattle.std.proofs.Common.{◌≡◌, ℕ, ◌+◌, List, [], ◌∷◌, ◌++◌, length, ap, ◌∙◌, arith}
use Rattle.arith_word.specs.declared.label.Label.{Label}
use Rattle.mlir_ir.specs.Operations.{labels_of, joined}
use Rattle.mlir_ir.specs.View.{view_ops}
use Rattle.pass_copy.specs.Built.{IsBehind, fresh_at, moved}
use Rattle.pass_copy.specs.Renaming.{links}
use Rattle.pass_copy.specs.declared.building.Out.{Out}
use Rattle.pass_copy.specs.declared.renaming.Span.{Span}
use Rattle.pass_unroll.specs.Children.{full_spans, unrolled_full}
use Rattle.pass_unroll.specs.Copies.{ForLoop, full_copies, full_ends}
use Rattle.pass_unroll.specs.declared.plan.Plan.{Plan}

module _ (t : ℕ) (plan : Plan) (o : ForLoop) (out new : Out) (at : out.at ≡ t) (given : out.fresh.given ≡ 0)
    (built : IsBehind out (full_copies (fresh_at out) t o plan.step plan.count out.fresh.given out.at plan.lower o.inits) new) where
  copies : full_copies (fresh_at out) t o plan.step plan.count out.fresh.given out.at plan.lower o.inits ≡ unrolled_full (fresh_at out) t plan o
  copies = λ i. full_copies (fresh_at out) t o plan.step plan.count (given i) (at i) plan.lower o.inits

  pub full_ops : view_ops new.ops.items ≡ joined (view_ops out.ops.items) (unrolled_full (fresh_at out) t plan o)
  full_ops = built.ops ∙ ap (joined (view_ops out.ops.items)) copies

  pub full_moves : (results_at end : ℕ) (ends passed : List Label) (spans : List Span) → results_at ≡ t + 2 + length o.args + labels_of o.body → end ≡ results_at + length o.results
      → ends ≡ full_ends (fresh_at out) t o plan.count out.at o.inits → passed ≡ ends → spans ≡ links results_at passed ++ moved end new.at ∷ []
      → spans ≡ full_spans (fresh_at out) t plan o
  full_moves results_at end ends passed spans r e yields same is =
      let results = t + 2 + length o.args + labels_of o.body in
      let behind : end ≡ results + length o.results = omega arith in
      let to : new.at ≡ t + labels_of (unrolled_full (fresh_at out) t plan o) = built.at ∙ (λ i. at i + labels_of (copies i)) in
      let values : passed ≡ full_ends (fresh_at out) t o plan.count t o.inits = same ∙ yields ∙ (λ i. full_ends (fresh_at out) t o plan.count (at i) o.inits) in
      is ∙ (λ i. links (r i) (values i) ++ moved (behind i) (to i) ∷ [])
