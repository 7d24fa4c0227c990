use Rattle.std.proofs.Common.{length, List, arith, ap, sym, ◌∙◌}
use Rattle.mlir_ir.specs.Operations.{labels_of}
use Rattle.mlir_ir.specs.View.{view_ops}
use Rattle.mlir_ir.specs.declared.types.Arg.{Arg}
use Rattle.mlir_ir.specs.declared.types.IrType.{IrType}
use Rattle.mlir_ir.specs.declared.types.Op.{Op}
use Rattle.mlir_ir.specs.declared.types.ForParts.{out-ForParts}
use Rattle.mlir_ir.proofs.PartViews.{region_rows}
use Rattle.pass_unroll.proofs.source.source_at.Goals as goal

pub invariant_of-result : goal.invariant_of-result
invariant_of-result c =
    let parts = out-ForParts c.args.parts.now in
    let a1 = c.in_ok-advance.ensures in
    let a2 = c.in_ok-advance-2.ensures in
    let a3 = c.in_ok-advance-3.ensures in
    let a4 = c.in_ok-advance-4.ensures in
    let a5 = c.in_ok-advance-5.ensures in
    let n = ap (λ (xs : List Arg). length xs) c.as_slice.ensures in
    let r = ap (λ (xs : List IrType). length xs) c.as_slice-3.ensures in
    record {
      variable = omega arith;
      args = omega arith;
      inside = omega arith;
      labels = c.in_ok-body.ensures ∙ ap (λ (ops : List Op). labels_of (view_ops ops)) c.as_slice-2.ensures ∙ ap labels_of (sym (region_rows parts.body));
      results = omega arith;
      behind = omega arith;
    }
