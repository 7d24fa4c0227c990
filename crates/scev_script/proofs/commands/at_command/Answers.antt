-- Fewer than two words.
use Rattle.scev_script.proofs.CommandShapes.{at_short}
use Rattle.scev_script.proofs.commands.at_command.Goals as goal

pub returns-in_default : goal.returns-in_default
returns-in_default c = at_short c.args.words.now c.in_default.len_below
