-- The terminators that the code's endings stand for.
use Rattle.std.specs.Prelude.{map}
use Rattle.mlir_ir.specs.Source as source
use Rattle.mlir_scope.specs.Reading.{use_said, written_said}
use Rattle.mlir_scope.specs.declared.endings.Ending.{Ending}

abbrev pub ending_said : Ending → source.Ending
ending_said e = record { word = e.word; uses = map use_said e.uses.items; types = map written_said e.types.items }
