use Rattle.std.proofs.Common.{drop}
use Rattle.pass_indvar.proofs.SoughtProducts.{IsSought}
use Rattle.pass_indvar.proofs.progressions.first_growth.Given as goal

abbrev pub invariant-loop-op : goal.invariant-loop-op
invariant-loop-op l = IsSought l.f l.target.0 l.fn.at l.ops l.exprs (drop l.op-index l.ops) l.at l.passed
