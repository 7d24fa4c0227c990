use Rattle.pass_expand.proofs.ScopedTrees.{FromPlace}
use Rattle.pass_expand.proofs.expandable.+expandable.Given as goal

abbrev pub invariant-all_expand-loop-t : goal.invariant-all_expand-loop-t
invariant-all_expand-loop-t l = FromPlace l.place.f.now l.place.target.0 l.place.ty l.ts l.t-index
