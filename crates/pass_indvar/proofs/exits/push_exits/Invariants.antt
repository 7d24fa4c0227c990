use Rattle.std.proofs.Common.{drop}
use Rattle.pass_indvar.specs.Built.{exits_in}
use Rattle.pass_indvar.proofs.PushedExits.{IsPushed}
use Rattle.pass_indvar.proofs.exits.push_exits.Given as goal

abbrev pub invariant-loop-one : goal.invariant-loop-one
invariant-loop-one l = IsPushed l.initial.out l.out (exits_in l.found) (exits_in (drop l.one-index l.found)) l.initial.spans.items l.spans.items
