use Rattle.std.proofs.Common.{◌∙◌}
use Rattle.pass_copy.proofs.taken.Taken.contains.Goals as goal

pub returns : goal.returns
returns c = c.contains.ensures ∙ c.args.self.now.all c.args.name.now
