use Rattle.std.proofs.Common.{◌≡◌, length, map, ◌++◌}
use Rattle.mlir_ir.specs.Phrases as phrases
use Rattle.mlir_ir.specs.Source as source
use Rattle.mlir_ir.specs.declared.syntax.Form.TheVariants as forms
use Rattle.mlir_scope.specs.Said.{said}
use Rattle.mlir_scope.specs.Reading.{packed_said}
use Rattle.mlir_scope.proofs.said.packs_in.Given as goal

abbrev pub invariant-seek : goal.invariant-seek
invariant-seek l = (map packed_said l.found.items ++ map source.packed (phrases.lines forms.Pack (said l.tokens l.rest))) ≡ map source.packed (phrases.lines forms.Pack (said l.tokens l.parts))

abbrev pub decreases-seek : goal.decreases-seek
decreases-seek l = length l.rest
