use Rattle.std.proofs.lemmas.Result.{on_ok_weaker}
use Rattle.fresh_scev.proofs.LoopRounds.{variable_said_with}
use Rattle.fresh_scev.proofs.rounds.enter_for.Goals as goal

pub returns : goal.returns
returns c =
    on_ok_weaker c.define_arguments.result
    (λ more. variable_said_with c.args.h.now c.args.t.now c.define_variable.new.t c.requires.place c.define_arguments.new.t c.args.types.now c.args.args c.requires.lower c.requires.step
    c.in_ok-define_variable.ensures more) c.define_arguments.ensures
