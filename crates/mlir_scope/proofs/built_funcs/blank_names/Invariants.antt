use Rattle.std.proofs.Common.{◌≡◌, ◌≤◌, ◌-◌, length}
use Rattle.mlir_scope.specs.BuiltFunctions.{AreBlank}
use Rattle.mlir_scope.proofs.built_funcs.blank_names.Given as goal

abbrev pub invariant-each : goal.invariant-each
invariant-each l = (length l.made.items ≤ l.count) × AreBlank l.made.items

abbrev pub decreases-each : goal.decreases-each
decreases-each l = l.count - length l.made.items
