use Rattle.std.proofs.Common.{arith, refl, false, ◌≡◌, ◌≤◌, ◌*◌, length}
use Rattle.std.proofs.lemmas.Bool.{both_ways}
use Rattle.scev_tree.specs.Polynomial.{variable_of}
use Rattle.scev_tree.proofs.GrowingLists.{from_true, from_false}
use Rattle.scev_tree.proofs.TreePlaces.{ext_is}
use Rattle.chrec_algebra.proofs.Splitting.{linear_of, linear_push, linear_nested, bent}
use Rattle.chrec_algebra.proofs.lines.+linear.Goals as goal
use Rattle.chrec_algebra.proofs.lines.+linear.Goals.{is_linear-else-rank-via-then-rank+else-len-gt2, is_linear-else-rank-via-else-rank}

pub is_linear-returns-then-len-gt2 : goal.is_linear-returns-then-len-gt2
is_linear-returns-then-len-gt2 t c = bent _ _ _ c.in-Ext.ops (ext_is c.args.t.now c.in-Ext.is' c.in-Ext.var c.in-Ext.ops c.in-Ext.ops c.in-Ext.is refl) (omega arith) (omega arith)

pub is_linear-returns-else-rank : goal.is_linear-returns-else-rank
is_linear-returns-else-rank t c =
    let x = 2 * c.args.counter.0 in
    let y = variable_of c.in-Ext.is' c.in-Ext.var.0 in
    let few : y ≡ x → length c.in-Ext.ops ≤ 2 = elim c.else-rank.branch [
      | is_linear-else-rank-via-then-rank+else-len-gt2 w ↦ λ e. omega (arith, w.len.ensures, w.if-len-gt2.false)
      | is_linear-else-rank-via-else-rank w ↦ λ e. absurd (w.if-rank.false (omega (arith, c.rank.ensures, c.rank-in-Ext.ensures)))
    ] in
    linear_nested x y _ c.in-Ext.ops c.as_slice.result.now _ (ext_is c.args.t.now c.in-Ext.is' c.in-Ext.var c.in-Ext.ops c.in-Ext.ops c.in-Ext.is refl) c.as_slice.ensures few c.are_linear.ensures

pub are_linear-returns-then-not-is_linear : goal.are_linear-returns-then-not-is_linear
are_linear-returns-then-not-is_linear t c = (λ h. absurd (both_ways false refl h), λ a. absurd (from_false _ _ c.is_linear.ensures c.if-not-is_linear.true (linear_of _ c.args.ts.now c.loop-t.t-index c.t-item.result c.t-item.is (omega arith) a)))

pub are_linear-loop-t-preserved : goal.are_linear-loop-t-preserved
are_linear-loop-t-preserved t c = linear_push _ c.args.ts.now c.loop-t.t-index c.t-item.result c.loop-t.invariant (omega arith) c.t-item.is (from_true _ _ c.is_linear.ensures c.if-not-is_linear.false)
