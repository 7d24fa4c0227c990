use Rattle.std.proofs.Common.{◌+◌, ℕ, arith, ◌∙◌, ap, refl, sym}
use Rattle.mlir_ir.specs.Operations.{joined}
use Rattle.mlir_ir.specs.View.{view_ops}
use Rattle.mlir_ir.specs.declared.types.ForParts.{out-ForParts}
use Rattle.mlir_ir.proofs.PartViews.{region_rows, region_ends}
use Rattle.pass_copy.specs.Renamed.{relabels}
use Rattle.pass_copy.specs.Renaming.{renamed}
use Rattle.pass_copy.proofs.JoinedOps.{view_append}
use Rattle.pass_copy.specs.Built.{fresh_at}
use Rattle.pass_unroll.proofs.CopiesBehind.{kept_ops}
use Rattle.pass_unroll.proofs.unrolled.push_first.Goals as goal

pub returns-clause-built : goal.returns-clause-built
returns-clause-built c =
    let body = (out-ForParts c.args.source.now.parts.now).body in
    record {
      ops = ap view_ops c.in_ok-append.ensures.items ∙ view_append c.args.out.now.ops.items c.in_ok-ops.ops.items
          ∙ ap (joined (view_ops c.args.out.now.ops.items))
          (kept_ops c.kept-kept.result c.in_ok-map.map.spans.items _ _ _ _ _ c.kept-kept.ensures.kept c.kept-kept.ensures.given (c.in_ok-map.ensures (fresh_at c.args.out.now))
          (ap view_ops c.as_slice.ensures ∙ sym (region_rows body)) c.in_ok-ops.ensures.ops);
      at = c.in_ok-advance.ensures ∙ ap (λ (n : ℕ). c.args.out.now.at + n) c.args.source.now.labels;
      names = record { kept = refl; same = refl; count = omega arith };
    }

pub returns-clause-ends : goal.returns-clause-ends
returns-clause-ends c =
    let body = (out-ForParts c.args.source.now.parts.now).body in
    c.in_ok-ends.ensures ∙ (λ j. relabels (renamed (c.in_ok-map.ensures (fresh_at c.args.out.now) j)) ((c.as_slice-2.ensures ∙ sym (region_ends body)) j))
