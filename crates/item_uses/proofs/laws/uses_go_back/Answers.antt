use Rattle.item_uses.proofs.UsesGoBack.{uses_back, uses_own}
use Rattle.item_uses.proofs.laws.uses_go_back.Goals as goal

pub returns : goal.returns
returns c = record {
  own = λ f n well. uses_own f well n;
  back = λ f n m well u. uses_back f well n m u;
}
