use Rattle.std.proofs.Common.{◌≡◌, ◌-◌, [], arith, ◌∙◌}
use Rattle.mlir_ir.specs.Operations.{For}
use Rattle.mlir_ir.specs.View.{view_ops, rows_of, ends_of}
use Rattle.pass_unroll.specs.Built.{loop_of}
use Rattle.pass_copy.specs.Built.{fresh_at}
use Rattle.pass_unroll.specs.Children.{main_body, main_ends}
use Rattle.pass_unroll.proofs.LoopParts.{for_made}
use Rattle.pass_unroll.proofs.MainLoop.{body_made, ends_made, at_made, more_names}
use Rattle.pass_unroll.proofs.unrolled.main_parts.Goals as goal

pub returns-clause-parts : goal.returns-clause-parts
returns-clause-parts c =
    let source = c.args.source.now in
    let o = loop_of source in
    let t = source.start.0 in
    let plan = c.args.by.now.plan.now in
    let factor = c.args.by.now.factor in
    let old = c.args.out.now in
    let fresh = fresh_at old in
    let out3 = c.push_first.new.out in
    let out4 = c.push_more.new.out in
    let first = c.in_ok-first.ensures in
    let more = c.in_ok-ends.ensures in
    let args = c.as_slice.ensures ∙ c.in_ok-args.ensures.args in
    let given : out3.fresh.given ≡ 2 = let x = first.built.names.count in let y = c.requires.given in omega arith in
    let empty : c.replace-outer.new.dest.items ≡ [] = (λ i. (c.replace-outer.ensures.after i).items) ∙ c.new.ensures.items in
    let body : rows_of c.region_of.result ≡ main_body fresh t plan o factor old.at =
    c.region_of.ensures.ops ∙ (λ i. view_ops (c.replace-body.ensures.value i).items)
    ∙ body_made fresh t plan o factor old.at (record { 0 = c.advance.new.at }) c.as_slice.result.now c.enter.new.at out3.at out3.fresh.given (fresh_at out3) c.in_ok-first.first
    c.in_ok-advance.ensures args c.in_ok-args.ensures.at first.built.at first.ends c.replace-outer.new.dest.items (view_ops out3.ops.items) _ empty first.built.names.same given
    first.built.ops more.built.ops in
    let ends : ends_of c.region_of.result ≡ main_ends fresh t plan o factor old.at =
    c.region_of.ensures.ends
    ∙ ends_made fresh t plan o factor old.at (record { 0 = c.advance.new.at }) c.as_slice.result.now c.enter.new.at out3.at out3.fresh.given (fresh_at out3) c.in_ok-first.first
    c.in_ok-advance.ensures args c.in_ok-args.ensures.at first.built.at first.ends c.in_ok-ends.ends (more.ends fresh) in
    for_made _ _ _ _ _ _ _
    ∙ (λ j. For o.lower source.start (record { 0 = source.variable j }) (c.in_ok-same_arg.ensures j) ((c.in_ok-same_args.ensures ∙ c.as_slice-2.ensures) j)
    ((c.in_ok-same_labels.ensures ∙ c.as_slice-3.ensures) j) (body j) (ends j))

pub returns-clause-built : goal.returns-clause-built
returns-clause-built c =
    let source = c.args.source.now in
    let o = loop_of source in
    let t = source.start.0 in
    let plan = c.args.by.now.plan.now in
    let factor = c.args.by.now.factor in
    let old = c.args.out.now in
    let fresh = fresh_at old in
    let out3 = c.push_first.new.out in
    let out4 = c.push_more.new.out in
    let first = c.in_ok-first.ensures in
    let more = c.in_ok-ends.ensures in
    let args = c.as_slice.ensures ∙ c.in_ok-args.ensures.args in
    let given : out3.fresh.given ≡ 2 = let x = first.built.names.count in let y = c.requires.given in omega arith in
    record {
      ops = c.replace-body.ensures.after ∙ c.replace-outer.ensures.value;
      at =
          at_made fresh t plan o factor old.at (record { 0 = c.advance.new.at }) c.as_slice.result.now c.enter.new.at out3.at out3.fresh.given (fresh_at out3) c.in_ok-first.first
          c.in_ok-advance.ensures args c.in_ok-args.ensures.at first.built.at first.ends out4.at more.built.at first.built.names.same given;
      given = record {
        kept = more.built.names.kept ∙ first.built.names.kept;
        same = more.built.names.same ∙ first.built.names.same;
        count =
            let x = more.built.names.count in
            let y = first.built.names.count in
            let z = more_names (fresh_at out3) t o plan.step (record { 0 = c.advance.new.at }) (factor - 1) 1 out3.fresh.given out3.at c.in_ok-first.first in
            omega arith;
      };
    }
