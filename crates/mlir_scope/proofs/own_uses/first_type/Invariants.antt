use Rattle.std.proofs.Common.{◌≡◌, length, slice_get}
use Rattle.std.specs.Option.{option_map}
use Rattle.mlir_ir.specs.Source as source
use Rattle.mlir_scope.specs.Said.{said}
use Rattle.mlir_scope.proofs.own_uses.first_type.Given as goal

abbrev pub invariant-seek : goal.invariant-seek
invariant-seek l = option_map (λ (t : source.Written). t.ty) (slice_get (source.types_in (said l.tokens l.rest)) 0) ≡ option_map (λ (t : source.Written). t.ty) (slice_get (source.types_in (said l.tokens l.parts)) 0)

abbrev pub decreases-seek : goal.decreases-seek
decreases-seek l = length l.rest
