use Rattle.std.proofs.Math.Seq.{drop-cons}
use Rattle.step_core.specs.declared.event.Event.TheVariants.{Load}
use Rattle.step_core.specs.declared.words.Place.TheVariants.{Log}
use Rattle.step_core.proofs.Replaying.{next}
use Rattle.step_core.proofs.stepping.replay.Goals as goal

pub loop-e-preserved : goal.loop-e-preserved
loop-e-preserved c = next c.args.w.now c.loop-e.w _ c.args.events.now c.loop-e.e-index _ _ _ _ _ c.step-answer.result c.loop-e.invariant
    (drop-cons c.args.events.now c.loop-e.e-index (Load 0 (Log 0)) c.loop-e-test.true) c.step-answer.ensures.answer c.step-answer.ensures.words c.push_reserved.ensures.items c.push_reserved.ensures.capacity
