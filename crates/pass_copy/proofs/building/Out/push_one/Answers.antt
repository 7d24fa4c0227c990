use Rattle.std.proofs.Common.{◌∙◌, ◌∷◌, ◌++◌, [], List, ap, refl}
use Rattle.mlir_ir.specs.View.{view_kind}
use Rattle.mlir_ir.specs.declared.types.IrType.{IrType}
use Rattle.mlir_ir.specs.declared.types.Pack.{Pack}
use Rattle.pass_copy.specs.Built.{fresh_at}
use Rattle.pass_copy.proofs.BuiltBehind.{simple_behind, one_pack, pack_of}
use Rattle.pass_copy.proofs.building.Out.push_one.Goals as goal

pub returns-clause-built : goal.returns-clause-built
returns-clause-built c =
    simple_behind c.args.self.now _ (fresh_at c.args.self.now c.args.self.now.fresh.given) c.args.ty (view_kind c.args.kind) c.requires.simple _
    c.in_ok-push-3.ensures.items
    (c.from_vec.ensures ∙ c.in_ok-push.ensures.items ∙ ap (λ (z : List Pack). z ++ one_pack c.in_ok-name.name) c.in_ok-packs.ensures.items ∙ pack_of c.in_ok-name.ensures.name)
    (c.from_vec-2.ensures ∙ c.in_ok-push-2.ensures.items ∙ ap (λ (z : List IrType). z ++ c.args.ty ∷ []) c.in_ok-results.ensures.items) refl
    c.in_ok-advance.ensures c.in_ok-name.ensures.given
