use Rattle.mlir_ir.specs.View.{view_for}
use Rattle.pass_indvar.specs.Grown.{progression_in}
use Rattle.pass_indvar.proofs.ReducedBodies.{reduced_built}
use Rattle.pass_unroll.specs.Built.{loop_of}
use Rattle.pass_indvar.proofs.reductions.push_reduced.Goals as goal

pub returns-clause-built : goal.returns-clause-built
returns-clause-built c =
    let source = c.args.source.now in
    let g = progression_in c.args.g.now in
    reduced_built source.start.0 (loop_of source) g c.args.out.now c.expand.new.out c.expand-2.new.out c.reduced_parts.new.out c.push_parts.new.out c.requires.at c.requires.given
    c.in_ok-start.ensures.built c.in_ok-step.ensures.built c.in_ok-parts.ensures.names c.in_ok-start.start c.in_ok-step.step (view_for c.in_ok-parts.parts)
    c.in_ok-start.ensures.label c.in_ok-step.ensures.label c.in_ok-parts.ensures.parts c.in_ok-push_parts.ensures
