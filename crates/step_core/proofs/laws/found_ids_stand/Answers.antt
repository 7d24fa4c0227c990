use Rattle.step_core.proofs.Keeping.{found_stands}
use Rattle.step_core.proofs.laws.found_ids_stand.Goals as goal

pub returns : goal.returns
returns g c = λ base count seat k key s v now good live has holds full learns.
    found_stands g.M.MemoMeaning.meaning g.M.MemoMeaning.laws base count s.words s.views seat v k key now good live.at live.unspent has holds full learns
