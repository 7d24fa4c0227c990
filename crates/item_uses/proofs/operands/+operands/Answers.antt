use Rattle.std.proofs.Common.{[], ◌∷◌, ◌++◌}
use Rattle.mlir_ir.specs.View.{view_ops}
use Rattle.mlir_ir.specs.declared.types.WhileParts.{out-WhileParts}
use Rattle.item_uses.specs.Uses.{ops_uses}
use Rattle.item_uses.specs.Marks.{region_uses}
use Rattle.item_uses.proofs.RegionUses.{region_inner, while_inner, added, one_by_one}
use Rattle.item_uses.proofs.operands.+operands.Goals as goal

pub push_region-returns : goal.push_region-returns
push_region-returns t c =
    let start = c.args.out.now.items in
    rw (region_inner c.args.region.now, ← c.as_slice.ensures, ← c.as_slice-2.ensures)
    (added start c.push_ops.new.out.items _ (ops_uses (view_ops c.as_slice.result.now)) c.as_slice-2.result.now c.in_ok-push_ops.ensures c.in_ok-extend_from_slice.ensures.items)

pub push_while-returns : goal.push_while-returns
push_while-returns t c =
    let start = c.args.out.now.items in
    let cond = (out-WhileParts c.args.parts.now).cond in
    let first = ops_uses (view_ops c.as_slice.result.now) in
    let ends = c.as_slice-2.result.now in
    let with_cond = added start c.push_ops.new.out.items _ first (cond ∷ []) c.in_ok-push_ops.ensures c.in_ok-push.ensures.items in
    let before = added start c.push.new.self.items _ (first ++ cond ∷ []) ends with_cond c.in_ok-extend_from_slice.ensures.items in
    let all = added start c.extend_from_slice.new.self.items _ ((first ++ cond ∷ []) ++ ends) (region_uses (out-WhileParts c.args.parts.now).after) before c.in_ok-push_region.ensures in
    rw (while_inner c.args.parts.now, ← c.as_slice.ensures, ← c.as_slice-2.ensures, ← one_by_one first cond ends) all
