use Rattle.pass_copy.specs.Places.{operation_in}
use Rattle.pass_indvar.proofs.EntryLists.{AreChosenSoFar}
use Rattle.pass_indvar.proofs.exits.chosen.Given as goal

abbrev pub invariant-loop-i : goal.invariant-loop-i
invariant-loop-i l = AreChosenSoFar l.f l.target.0 (operation_in l.op) l.exprs l.found.items l.at l.i
