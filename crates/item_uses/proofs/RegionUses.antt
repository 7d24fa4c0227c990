-- The operands of regions and loops, by what the program reads of them.
use Rattle.std.proofs.Common.{◌≡◌, ◌++◌, List, [], ◌∷◌, refl, ap, ◌∙◌, sym, append_assoc}
use Rattle.mlir_ir.proofs.PartViews.{region_rows}
use Rattle.mlir_ir.specs.declared.types.Region.{Region, Region', out-Region}
use Rattle.mlir_ir.specs.declared.types.ForParts.{ForParts, ForParts', out-ForParts}
use Rattle.mlir_ir.specs.declared.types.WhileParts.{WhileParts, WhileParts', out-WhileParts}
use Rattle.arith_word.specs.declared.label.Label.{Label}
use Rattle.mlir_ir.specs.Operations as plain
use Rattle.mlir_ir.specs.View.{view_row, view_kind, view_ops, view_for, view_while}
use Rattle.item_uses.specs.Uses.{ops_uses, inner_uses}
use Rattle.item_uses.specs.Marks.{region_uses}

pub region_inner : (r : Region) → region_uses r ≡ ops_uses (view_ops (out-Region r).ops) ++ (out-Region r).ends
unfolding out-Region denote.Hole.Carrier.out Rattle.mlir_ir.specs.declared.types.Kind.TheBlock.shown-the_row-Op-0
region_inner (Region' shape row ends) = ap (λ ops. ops_uses ops ++ ends) (region_rows (Region' shape row ends))

pub for_inner : (p : ForParts) → inner_uses (view_for p) ≡ region_uses (out-ForParts p).body
unfolding out-ForParts denote.Hole.Carrier.out
for_inner (ForParts' lower upper step iv args inits (Region' shape row ends)) = refl

pub while_inner : (p : WhileParts) → inner_uses (view_while p)
    ≡ (let q = out-WhileParts p in ops_uses (view_ops (out-Region q.before).ops) ++ q.cond ∷ (out-Region q.before).ends ++ region_uses q.after)
unfolding out-WhileParts out-Region denote.Hole.Carrier.out Rattle.mlir_ir.specs.declared.types.Kind.TheBlock.shown-the_row-Op-0
while_inner (WhileParts' args inits (Region' shape row passed) cond after_args (Region' shape2 after ends)) =
    let items = region_rows (Region' shape row passed) in
    ap (λ ops. ops_uses ops ++ cond ∷ passed ++ ops_uses (view_row after) ++ ends) items
    ∙ append_assoc (ops_uses (view_ops (out-Region (Region' shape row passed)).ops) ++ cond ∷ passed) (ops_uses (view_row after)) ends

-- lists that are added one behind another
pub added : (start mid all a b : List Label) → mid ≡ start ++ a → all ≡ mid ++ b → all ≡ start ++ (a ++ b)
added start mid all a b p q = q ∙ ap (λ l. l ++ b) p ∙ append_assoc start a b

pub one_by_one : (xs : List Label) (y : Label) (zs : List Label) → (xs ++ y ∷ []) ++ zs ≡ xs ++ y ∷ zs
one_by_one xs y zs = append_assoc xs (y ∷ []) zs
