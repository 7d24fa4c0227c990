use Rattle.std.proofs.Common.{◌%◌, ap, ◌∙◌}
use Rattle.std.proofs.lemmas.Bool.{ne_eqb}
use Rattle.mlir_ir.specs.Operations.{joined}
use Rattle.mlir_ir.specs.View.{view_for, view_ops}
use Rattle.pass_unroll.specs.Built.{loop_of}
use Rattle.pass_copy.specs.Built.{fresh_at}
use Rattle.pass_unroll.proofs.UnrolledLoops.{both_at, both_ops}
use Rattle.pass_unroll.proofs.unrolled.push_loops.Goals as goal

pub returns-clause-at : goal.returns-clause-at
returns-clause-at c =
    let source = c.args.source.now in
    let plan = c.args.by.now.plan.now in
    let left = ne_eqb (plan.count % c.args.by.now.factor) 0 (λ e. c.if-by-from-eq0.false ((λ i. plan.count % c.from.ensures i) ∙ e)) in
    both_at (fresh_at c.args.out.now) source.start.0 plan (loop_of source) c.args.by.now.factor c.args.out.now.at (view_for c.args.main) c.in_ok-results-2.results
    c.requires.main c.requires.at left c.in_ok-results-2.ensures.at

pub returns-clause-ops : goal.returns-clause-ops
returns-clause-ops c =
    let source = c.args.source.now in
    let plan = c.args.by.now.plan.now in
    let left = ne_eqb (plan.count % c.args.by.now.factor) 0 (λ e. c.if-by-from-eq0.false ((λ i. plan.count % c.from.ensures i) ∙ e)) in
    c.in_ok-results-2.ensures.ops plan c.args.by.now.factor
    ∙ ap (joined (view_ops c.args.out.now.ops.items))
    (both_ops (fresh_at c.args.out.now) source.start.0 plan (loop_of source) c.args.by.now.factor c.args.out.now.fresh.given c.args.out.now.at (view_for c.args.main)
    c.requires.given c.requires.main c.requires.at left)
