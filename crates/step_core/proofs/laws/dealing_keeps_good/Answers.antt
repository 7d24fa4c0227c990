use Rattle.step_core.proofs.Splitting.{deal_keeps}
use Rattle.step_core.proofs.laws.dealing_keeps_good.Goals as goal

pub returns : goal.returns
returns g c = λ base count seat s v good live fresh. deal_keeps g.M.MemoMeaning.meaning base count s.words s.views seat v good live.at live.unspent fresh
