use Rattle.std.proofs.Common.{◌≡◌, [], arith, ◌∙◌}
use Rattle.mlir_ir.specs.View.{view_ops, rows_of, ends_of}
use Rattle.pass_copy.specs.Copied.{fresh_by}
use Rattle.pass_unroll.specs.Built.{loop_of}
use Rattle.pass_unroll.proofs.CopiesBehind.{copied_at}
use Rattle.pass_unroll.proofs.LoopParts.{for_made}
use Rattle.pass_unroll.proofs.RestLoop.{rest_made}
use Rattle.pass_unroll.proofs.unrolled.rest_parts.Goals as goal

pub returns-clause-parts : goal.returns-clause-parts
returns-clause-parts c plan factor =
    let source = c.args.source.now in
    let o = loop_of source in
    let t = source.start.0 in
    let old = c.args.out.now in
    let n0 = old.fresh in
    let n1 = c.copy_arg.new.names in
    let n2 = c.copy_args.new.names in
    let values = c.as_slice-2.ensures ∙ c.in_ok-values.ensures.args in
    let empty : c.replace-outer.new.dest.items ≡ [] = (λ i. (c.replace-outer.ensures.after i).items) ∙ c.new.ensures.items in
    let body = c.region_of.ensures.ops ∙ (λ i. view_ops (c.replace-body.ensures.value i).items) ∙ c.in_ok-ends.ensures.built.ops in
    let ends = c.region_of.ensures.ends ∙ c.in_ok-ends.ensures.ends (fresh_by n0) in
    for_made _ _ _ _ _ _ _
    ∙ rest_made t plan o factor old.at c.enter.new.at n0 n1 n2 c.in_ok-iv.iv c.in_ok-args.args c.as_slice.result.now c.args.inits (ends_of c.region_of.result) (rows_of c.region_of.result)
    (record { 0 = c.advance.new.at }) c.as_slice-2.result.now c.replace-outer.new.dest.items
    c.requires.anew c.in_ok-iv.ensures.given c.in_ok-args.ensures.given c.as_slice.ensures
    c.in_ok-iv.ensures.arg c.in_ok-args.ensures.args c.in_ok-advance.ensures values c.in_ok-values.ensures.at empty body ends

pub returns-clause-ops : goal.returns-clause-ops
returns-clause-ops c = c.replace-body.ensures.after ∙ c.replace-outer.ensures.value

pub returns-clause-at : goal.returns-clause-at
returns-clause-at c =
    let source = c.args.source.now in
    let o = loop_of source in
    let x = copied_at _ c.push_copy.new.out source.start.0 o (record { 0 = c.advance.new.at }) c.as_slice-2.result.now c.in_ok-ends.ensures.built in
    let y = c.in_ok-values.ensures.at in
    omega arith
