use Rattle.mlir_scope.proofs.OneReading.{one_list, one_fault, not_both}
use Rattle.mlir_scope.proofs.laws.one_reading.Goals as goal

pub returns-clause-functions : goal.returns-clause-functions
returns-clause-functions c = λ bytes m n a b. one_list bytes m n a b

pub returns-clause-fault : goal.returns-clause-fault
returns-clause-fault c = λ bytes s t i j k l a b first second. one_fault bytes s t i j k l a b first second

pub returns-clause-not_both : goal.returns-clause-not_both
returns-clause-not_both c = λ bytes m s at kind reads parsed fault. not_both bytes m s at kind reads parsed fault
