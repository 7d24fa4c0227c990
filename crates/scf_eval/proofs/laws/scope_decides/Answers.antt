use Rattle.scf_eval.proofs.ScopedRuns.{ops_same, items_same, outcome_same}
use Rattle.scf_eval.proofs.laws.scope_decides.Goals as goal

pub returns-clause-operations : goal.returns-clause-operations
returns-clause-operations c = λ T ops fuel at around env other s t h. ops_same ops T fuel at around env other s t h

pub returns-clause-items : goal.returns-clause-items
returns-clause-items c = λ T func k fuel items env other s t h. items_same items T func k fuel env other s t h

pub returns-clause-outcomes : goal.returns-clause-outcomes
returns-clause-outcomes c = λ T func k fuel items ret env other s t known h. outcome_same items T func k fuel ret env other s t known h
