use Rattle.trip_count.specs.declared.answer.Turns.TheVariants.{Exactly, Guarded}
use Rattle.trip_count.proofs.Invariant.{invariant}
use Rattle.trip_count.proofs.laws.symbolic_counts_are_invariant.Goals as goal

pub returns-clause-exactly : goal.returns-clause-exactly
returns-clause-exactly c = λ x test e i h. invariant x test (Exactly e) i h

pub returns-clause-guard : goal.returns-clause-guard
returns-clause-guard c = λ x test pred a cc e i h. let v = invariant x test (Guarded pred a cc e) i h in (v.0, v.1)

pub returns-clause-guarded : goal.returns-clause-guarded
returns-clause-guarded c = λ x test pred a cc e i h. let v = invariant x test (Guarded pred a cc e) i h in v.2
