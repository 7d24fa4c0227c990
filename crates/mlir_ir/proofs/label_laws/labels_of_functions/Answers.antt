use Rattle.mlir_ir.proofs.LabelsFit.{few_items, labels_fit}
use Rattle.mlir_ir.proofs.label_laws.labels_of_functions.Goals as goal

pub returns-clause-few : goal.returns-clause-few
returns-clause-few c = few_items

pub returns-clause-fit : goal.returns-clause-fit
returns-clause-fit c = labels_fit
