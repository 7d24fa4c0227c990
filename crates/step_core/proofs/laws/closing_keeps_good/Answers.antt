use Rattle.step_core.proofs.Closing.{alone_good}
use Rattle.step_core.proofs.laws.closing_keeps_good.Goals as goal

pub returns : goal.returns
returns g c = λ base count seat s v good live all. alone_good g.M.MemoMeaning.meaning base count s.words s.views seat v good live.at all
