use Rattle.pass_indvar.proofs.ExitBreaks.{exit_values_break}
use Rattle.pass_indvar.proofs.exit_laws.exit_values_are_well_formed.Goals as goal

pub returns : goal.returns
returns c = exit_values_break
