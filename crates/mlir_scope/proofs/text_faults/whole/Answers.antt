use Rattle.mlir_scope.proofs.TextNotes.{whole_is, whole_none}
use Rattle.mlir_scope.proofs.text_faults.whole.Goals as goal

pub returns-then-is_same_form : goal.returns-then-is_same_form
returns-then-is_same_form c = whole_is c.args.root.now c.as_slice.result.now c.is_same_form.result c.as_slice.ensures.value c.is_same_form.ensures c.if-is_same_form.true

pub returns-else-is_same_form : goal.returns-else-is_same_form
returns-else-is_same_form c = whole_none c.args.root.now c.is_same_form.result c.is_same_form.ensures c.if-is_same_form.false
