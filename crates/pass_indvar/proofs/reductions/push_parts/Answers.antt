use Rattle.std.proofs.Common.{◌++◌, ◌∷◌, [], ap, ◌∙◌, refl}
use Rattle.mlir_ir.specs.View.{view_for, view_ops}
use Rattle.pass_copy.specs.Built.{fresh_at}
use Rattle.pass_copy.proofs.BuiltBehind.{view_pushed}
use Rattle.pass_indvar.specs.Grown.{pack}
use Rattle.pass_indvar.proofs.reductions.push_parts.Goals as goal

pub returns : goal.returns
returns c =
    let op = c.args.source.now.op.now in
    let out = c.args.out.now in
    ap view_ops c.in_ok-push.ensures.items
    ∙ view_pushed out.ops.items _ (op.packs ++ pack (fresh_at out out.fresh.given) ∷ []) (op.results ++ c.args.ty.now ∷ []) (view_for c.args.parts)
    (c.in_ok-and_one.ensures ∙ (λ i. (c.in_ok-packs.ensures ∙ c.as_slice.ensures) i ++ pack (c.in_ok-name.ensures.name i) ∷ []))
    (c.in_ok-and_one-2.ensures ∙ (λ i. (c.in_ok-results.ensures ∙ c.as_slice-2.ensures) i ++ c.args.ty.now ∷ [])) refl
