use Rattle.std.proofs.Common.{length}
use Rattle.std.proofs.lemmas.Result.{on_ok_weaker}
use Rattle.arith_word.specs.Labels.{label_at}
use Rattle.fresh_scev.proofs.LoopRounds.{for_ends}
use Rattle.fresh_scev.proofs.rounds.end_for.Goals as goal

pub returns : goal.returns
returns c =
    let u = c.args.t.now in
    on_ok_weaker c.define_carried.result
    (λ more. for_ends c.args.h.now c.args.results.now u c.settle.new.t c.define_carried.new.t (label_at u.func (length u.items) c.args.at) c.in_ok-turns.turns c.requires.label
    c.settle.ensures c.in_ok-turns.ensures more) c.define_carried.ensures
