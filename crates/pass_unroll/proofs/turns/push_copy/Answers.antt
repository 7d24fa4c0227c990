use Rattle.std.proofs.Common.{◌+◌, ◌∙◌, ap, sym}
use Rattle.mlir_ir.specs.View.{view_ops}
use Rattle.mlir_ir.specs.declared.types.ForParts.{out-ForParts}
use Rattle.mlir_ir.proofs.PartViews.{region_rows, region_ends}
use Rattle.pass_copy.specs.Renamed.{relabels}
use Rattle.pass_copy.specs.Renaming.{renamed}
use Rattle.pass_unroll.specs.Built.{loop_of}
use Rattle.pass_copy.specs.Built.{fresh_at}
use Rattle.pass_unroll.proofs.CopiesBehind.{copy_behind}
use Rattle.pass_unroll.proofs.turns.push_copy.Goals as goal

pub returns-clause-ends : goal.returns-clause-ends
returns-clause-ends c fresh =
    let body = (out-ForParts c.args.source.now.parts.now).body in
    c.in_ok-ends.ensures ∙ (λ j. relabels (renamed (c.in_ok-map.ensures fresh j)) ((c.as_slice-2.ensures ∙ sym (region_ends body)) j))

pub returns-clause-built : goal.returns-clause-built
returns-clause-built c =
    let body = (out-ForParts c.args.source.now.parts.now).body in
    copy_behind c.args.out.now _ c.in_ok-map.map.spans.items c.args.source.now.start.0 (loop_of c.args.source.now) c.args.variable c.args.args.now c.in_ok-ops.ops.items _
    c.requires.anew (c.in_ok-map.ensures (fresh_at c.args.out.now)) (ap view_ops c.as_slice.ensures ∙ sym (region_rows body))
    c.in_ok-ops.ensures.ops c.in_ok-append.ensures.items
    (c.in_ok-advance.ensures ∙ ap (λ n. c.args.out.now.at + n) c.args.source.now.labels)
    c.in_ok-ops.ensures.given
