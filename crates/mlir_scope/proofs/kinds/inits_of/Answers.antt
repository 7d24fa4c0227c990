use Rattle.std.proofs.Common.{◌≡◌, ◌∙◌, ap, length, arith}
use Rattle.mlir_ir.specs.Source.{names_in, uses_in}
use Rattle.mlir_scope.specs.Reading.{use_said, defined_said}
use Rattle.mlir_scope.proofs.OwnTypes.{first_of_pairs, second_of_pairs}
use Rattle.mlir_scope.proofs.kinds.inits_of.Goals as goal

pub returns-clause-names : goal.returns-clause-names
returns-clause-names c =
    let many : c.len.result ≡ length c.in_ok-names.names.items = omega (arith, c.in_ok-names.names.ok.0) in
    let others : c.len-2.result ≡ length c.in_ok-uses.uses.items = omega (arith, c.in_ok-uses.uses.ok.0) in
    first_of_pairs defined_said use_said c.in_ok-names.names.items _ c.in_ok-uses.uses.items _ _ _ _ _ (c.in_ok-names.ensures ∙ ap names_in c.inside-inits.ensures) (c.in_ok-uses.ensures ∙ ap uses_in c.inside-inits.ensures) many others c.min-many.ensures c.truncate.ensures.items

pub returns-clause-uses : goal.returns-clause-uses
returns-clause-uses c =
    let many : c.len.result ≡ length c.in_ok-names.names.items = omega (arith, c.in_ok-names.names.ok.0) in
    let others : c.len-2.result ≡ length c.in_ok-uses.uses.items = omega (arith, c.in_ok-uses.uses.ok.0) in
    second_of_pairs defined_said use_said c.in_ok-names.names.items c.in_ok-uses.uses.items _ _ _ _ _ _ (c.in_ok-names.ensures ∙ ap names_in c.inside-inits.ensures) (c.in_ok-uses.ensures ∙ ap uses_in c.inside-inits.ensures) many others c.min-many.ensures c.truncate-2.ensures.items
