-- The results of an operation, as the code's walk holds them.
use Rattle.std.specs.Prelude.{◌≡◌, List, map}
use Rattle.mlir_ir.specs.Phrases.{Phrase}
use Rattle.mlir_ir.specs.Resolved.{packs_of, tys}
use Rattle.mlir_ir.specs.Source.{Packed, head, op_types}
use Rattle.mlir_ir.specs.Values.{Value, result_values}
use Rattle.mlir_scope.specs.Reading.{packed_said, type_said}
use Rattle.mlir_scope.specs.declared.walk.Own.{Own}

-- the packs, and the types of the results
pub record AreResults (own : Own) (packs : List Packed) (kind : Phrase) : Type 0 where
  pub named : map packed_said own.packs.items ≡ packs
  pub typed : map type_said own.types.items ≡ tys (op_types (head kind) kind)

abbrev pub values_of_own : Own → List Value
values_of_own own = result_values 0 (packs_of (map packed_said own.packs.items)) (map type_said own.types.items)
