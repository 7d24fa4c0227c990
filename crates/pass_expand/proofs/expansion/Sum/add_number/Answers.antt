use Rattle.pass_expand.proofs.AddedTrees.{number_zero}
use Rattle.pass_expand.proofs.expansion.Sum.add_number.Goals as goal

pub returns-else-v-ne0-clause-built : goal.returns-else-v-ne0-clause-built
returns-else-v-ne0-clause-built c = number_zero c.args.self.now.ty c.args.out.now c.args.v c.args.self.now.value _ c.if-v-ne0.false
