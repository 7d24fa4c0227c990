use Rattle.trip_count.specs.declared.answer.Turns.TheVariants.{Count, Never, Exactly, Guarded}
use Rattle.trip_count.proofs.Exits.{trip}
use Rattle.trip_count.proofs.laws.trip_counts_are_least_exits.Goals as goal

pub returns-clause-count : goal.returns-clause-count
returns-clause-count c = λ env x n test i h. trip env x test (Count n) i h

pub returns-clause-never : goal.returns-clause-never
returns-clause-never c = λ env x k test i h. trip env x test Never i h k

pub returns-clause-exactly : goal.returns-clause-exactly
returns-clause-exactly c = λ env x test e i h. trip env x test (Exactly e) i h

pub returns-clause-guarded : goal.returns-clause-guarded
returns-clause-guarded c = λ env x test pred a cc e i h. trip env x test (Guarded pred a cc e) i h
