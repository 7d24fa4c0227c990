use Rattle.step_core.proofs.Starting.{starts}
use Rattle.step_core.proofs.laws.start_is_good.Goals as goal

pub returns : goal.returns
returns g c = starts g.M.MemoMeaning.meaning
