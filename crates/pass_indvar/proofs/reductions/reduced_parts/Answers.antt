use Rattle.std.proofs.Common.{◌≡◌, ◌+◌, ◌++◌, ◌∷◌, [], ◌∙◌}
use Rattle.mlir_ir.specs.Operations.{For}
use Rattle.mlir_ir.specs.View.{rows_of}
use Rattle.pass_copy.specs.Built.{fresh_at}
use Rattle.pass_indvar.specs.Grown.{sum_body}
use Rattle.pass_unroll.specs.Built.{loop_of}
use Rattle.pass_unroll.proofs.LoopParts.{for_made}
use Rattle.pass_indvar.proofs.reductions.reduced_parts.Goals as goal

pub returns-clause-parts : goal.returns-clause-parts
returns-clause-parts c =
    let source = c.args.source.now in
    let o = loop_of source in
    let t = source.start.0 in
    let out = c.args.out.now in
    let fresh = fresh_at out in
    let ty = c.args.g.now.ty in
    let product = c.args.g.now.product.0 in
    let given = c.in_ok-name.ensures.given in
    let body : rows_of c.in_ok-body.body ≡ sum_body t o product out.at (fresh (out.fresh.given + 1)) ty c.args.values.step =
    c.in_ok-body.ensures.ops ∙ (λ j. sum_body t o product out.at (given.same j (given.count j)) ty c.args.values.step) in
    for_made _ _ _ _ _ _ _
    ∙ (λ j. For o.lower o.upper o.step (c.in_ok-same_arg.ensures j)
    ((c.in_ok-and_one.ensures ∙ (λ i. (c.in_ok-args.ensures ∙ c.as_slice.ensures) i ++ record { name = c.in_ok-name.ensures.name i; ty = ty } ∷ [])) j)
    ((c.in_ok-and_one-2.ensures ∙ (λ i. (c.in_ok-inits.ensures ∙ c.as_slice-2.ensures) i ++ c.args.values.start ∷ [])) j)
    (body j) (c.in_ok-body.ensures.ends j))
