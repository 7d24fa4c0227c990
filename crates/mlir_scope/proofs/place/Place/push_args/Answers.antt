use Rattle.std.proofs.Common.{◌≡◌, ◌+◌, length, map, min, arith}
use Rattle.std.proofs.lemmas.List.{length-map}
use Rattle.mlir_scope.specs.Arguments.{named}
use Rattle.mlir_scope.specs.Reading.{defined_said, type_said}
use Rattle.mlir_scope.proofs.FirstTypes.{named_length}
use Rattle.mlir_scope.proofs.place.Place.push_args.Goals as goal

pub returns-clause-next : goal.returns-clause-next
returns-clause-next c =
    let names = c.args.names.now in
    let types = c.args.types.now in
    let count : c.min.result ≡ length (named (map defined_said names) (map type_said types)) =
    omega (arith, c.min.ensures, named_length (map defined_said names) (map type_said types), length-map names defined_said, length-map types type_said) in
    omega (arith, count)
