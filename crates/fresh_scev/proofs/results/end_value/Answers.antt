use Rattle.std.proofs.Common.{sym, subst}
use Rattle.std.specs.Prelude.{IsTrue}
use Rattle.scev_tree.specs.Tree.{polynomial_of}
use Rattle.trip_count.specs.declared.answer.Turns.{Turns}
use Rattle.fresh_scev.specs.Loops.{IsAtEnd, IsFound}
use Rattle.fresh_scev.proofs.results.end_value.Goals as goal

pub returns-in_ok-guarded_value-in-Guarded : goal.returns-in_ok-guarded_value-in-Guarded
returns-in_ok-guarded_value-in-Guarded c =
    let a = c.args.a.now in
    let P : Turns → _ = λ (t : Turns). IsFound a.w (IsAtEnd (IsTrue c.args.proved) a.w c.args.counter.0 t (polynomial_of a.tree)) c.in_ok-guarded_value-in-Guarded.field-0 in
    subst P (sym c.in-Guarded.is) c.in_ok-guarded_value-in-Guarded.ensures
