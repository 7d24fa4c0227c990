use Rattle.scf_eval.proofs.Items.{runnable}
use Rattle.scf_eval.proofs.function.run.Goals as goal

pub run_body-requires : goal.run_body-requires
run_body-requires c = runnable c.args.f.now c.in-Some.body c.args.args.now c.requires.well_formed c.in-Some.is c.requires.arguments
