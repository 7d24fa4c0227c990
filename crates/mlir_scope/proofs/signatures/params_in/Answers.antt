use Rattle.std.proofs.Common.{◌≡◌, length, arith}
use Rattle.mlir_scope.specs.Reading.{written_said, defined_said}
use Rattle.mlir_scope.proofs.OwnTypes.{first_of_pairs, second_of_pairs}
use Rattle.mlir_scope.proofs.signatures.params_in.Goals as goal

pub returns-clause-names : goal.returns-clause-names
returns-clause-names c =
    let many : c.len.result ≡ length c.in_ok-names.names.items = omega (arith, c.in_ok-names.names.ok.0) in
    let others : c.len-2.result ≡ length c.in_ok-types.types.items = omega (arith, c.in_ok-types.types.ok.0) in
    first_of_pairs defined_said written_said c.in_ok-names.names.items _ c.in_ok-types.types.items _ _ _ _ _ c.in_ok-names.ensures c.in_ok-types.ensures many others c.min-many.ensures c.truncate.ensures.items

pub returns-clause-types : goal.returns-clause-types
returns-clause-types c =
    let many : c.len.result ≡ length c.in_ok-names.names.items = omega (arith, c.in_ok-names.names.ok.0) in
    let others : c.len-2.result ≡ length c.in_ok-types.types.items = omega (arith, c.in_ok-types.types.ok.0) in
    second_of_pairs defined_said written_said c.in_ok-names.names.items c.in_ok-types.types.items _ _ _ _ _ _ c.in_ok-names.ensures c.in_ok-types.ensures many others c.min-many.ensures c.truncate-2.ensures.items
