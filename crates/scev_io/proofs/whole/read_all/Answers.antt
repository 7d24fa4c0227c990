use Rattle.std.proofs.Common.{arith, ◌++◌, take, length-append}
use Rattle.std.proofs.lemmas.Grind.{common_steps}
use Rattle.scev_io.proofs.Give.{give_more}
use Rattle.scev_io.proofs.whole.read_all.Goals as goal

pub returns-then-is_err-clause-no_memory : goal.returns-then-is_err-clause-no_memory
returns-then-is_err-clause-no_memory g c =
    λ _. (c.loop-buf.all.items ++ take c.in-Ok.count c.take.new.buf, simp length-append (grind (arith, common_steps)), give_more _ _ _ _ _ c.loop-buf.invariant.1 c.in-Ok.ensures.gives)
