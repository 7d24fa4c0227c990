use Rattle.std.proofs.Common.{◌≡◌, ◌+◌, ◌*◌, ◌/◌, ◌-◌, ◌∷◌, [], length, ◌∙◌, arith}
use Rattle.mlir_ir.specs.Operations.{labels_of, joined, nil}
use Rattle.mlir_ir.specs.View.{view_ops}
use Rattle.pass_copy.proofs.JoinedOps.{joined_assoc}
use Rattle.pass_unroll.specs.Built.{loop_of}
use Rattle.pass_copy.specs.Built.{fresh_at, moved, constant}
use Rattle.pass_unroll.specs.Children.{unrolled}
use Rattle.pass_unroll.specs.Steps.{main_loops}
use Rattle.pass_unroll.proofs.unrolled.push_unrolled.Goals as goal

pub returns-clause-built : goal.returns-clause-built
returns-clause-built c =
    let source = c.args.source.now in
    let o = loop_of source in
    let t = source.start.0 in
    let plan = c.args.by.plan.now in
    let factor = c.args.by.factor in
    let old = c.args.out.now in
    let out2 = c.main_parts.new.out in
    let header = c.in_ok-push_header.ensures in
    let main = c.in_ok-main.ensures in
    let upper = plan.lower + plan.count / factor * factor * plan.step in
    let constants = constant (fresh_at old old.fresh.given) o.iv.ty upper (constant (fresh_at old (old.fresh.given + 1)) o.iv.ty (factor * plan.step) nil) in
    let loops = main_loops (fresh_at old) t plan o factor in
    let fresh : fresh_at out2 ≡ fresh_at old = main.built.given.same ∙ header.names.same in
    c.in_ok-results.ensures.ops
    ∙ (λ i. joined (((λ j. view_ops (main.built.ops j).items) ∙ header.ops) i) (main_loops (fresh i) t plan o factor))
    ∙ joined_assoc (view_ops old.ops.items) constants loops
    ∙ (λ i. joined (view_ops old.ops.items) (constant (fresh_at old (c.requires.given i)) o.iv.ty upper (constant (fresh_at old (c.requires.given i + 1)) o.iv.ty (factor * plan.step) loops)))

pub returns-clause-map : goal.returns-clause-map
returns-clause-map c =
    let source = c.args.source.now in
    let o = loop_of source in
    let t = source.start.0 in
    let plan = c.args.by.plan.now in
    let factor = c.args.by.factor in
    let old = c.args.out.now in
    let out2 = c.main_parts.new.out in
    let header = c.in_ok-push_header.ensures in
    let main = c.in_ok-main.ensures in
    let fresh : fresh_at out2 ≡ fresh_at old = main.built.given.same ∙ header.names.same in
    let from : source.results_at ≡ t + 2 + length o.args + labels_of o.body = let x = source.results in let y = source.labels in omega arith in
    let to : c.in_ok-results.results ≡ t + labels_of (unrolled (fresh_at old) t plan o factor) - length o.results =
    c.in_ok-results.ensures.at ∙ (λ i. t + labels_of (unrolled (fresh i) t plan o factor) - length o.results) in
    c.in_ok-map.ensures ∙ (λ i. moved (from i) (to i) ∷ [])
