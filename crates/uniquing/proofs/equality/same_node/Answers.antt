use Rattle.uniquing.proofs.Seeing.{nodes}
use Rattle.uniquing.proofs.equality.same_node.Goals as goal

pub returns : goal.returns
returns c = λ z w x p q s m n. nodes z c.args.a c.args.b w x p q s m n
