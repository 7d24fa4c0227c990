-- The least exit tells how often the loop turns.
use Rattle.std.proofs.Common.{subst}
use Rattle.exit_solver.specs.Exit.{IsLeast}
use Rattle.pass_chain.proofs.ExactTurns.{Fails, turns_exact}
use Rattle.pass_chain.proofs.turning.turns_exactly.Goals as goal

-- src/turning.rt:10:1
pub returns-in-At : goal.returns-in-At
returns-in-At c = turns_exact c.args.w c.args.lower c.args.upper c.args.step c.args.n c.in-At.least
    (subst (IsLeast (Fails c.args.w c.args.lower c.args.upper c.args.step)) c.in-At.is c.least_exit.ensures)
