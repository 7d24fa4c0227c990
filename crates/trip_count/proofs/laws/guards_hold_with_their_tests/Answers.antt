use Rattle.trip_count.proofs.Guards.{guard_holds, guarded_count}
use Rattle.trip_count.proofs.laws.guards_hold_with_their_tests.Goals as goal

pub returns-clause-holds : goal.returns-clause-holds
returns-clause-holds c = λ env pred p a cc e l r d i g. guard_holds env pred p a cc e l r d i g

pub returns-clause-count : goal.returns-clause-count
returns-clause-count c = λ env x test pred p a cc e l r d i h j g on. guarded_count env x test pred p a cc e l r d i h j g on
