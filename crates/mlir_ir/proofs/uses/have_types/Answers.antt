use Rattle.std.proofs.Common.{drop, ◌∙◌, sym}
use Rattle.std.proofs.lemmas.List.{drop_all}
use Rattle.mlir_ir.specs.Scope.{scope_values}
use Rattle.mlir_ir.proofs.TypedLabels.{no_labels}
use Rattle.mlir_ir.proofs.uses.have_types.Goals as goal

pub returns : goal.returns
returns c = sym (no_labels (scope_values c.args.scope.now) (drop c.loop-k.k c.args.types.now)) ∙ (rw (drop_all c.loop-k.k c.args.labels.now c.loop-k-test.false) at c.loop-k.invariant)
