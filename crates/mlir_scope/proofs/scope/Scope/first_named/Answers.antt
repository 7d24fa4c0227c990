use Rattle.std.proofs.Common.{◌∙◌, ap, sym, map, Option}
use Rattle.std.specs.Option.{option_map}
use Rattle.mlir_ir.specs.Values.{Value}
use Rattle.mlir_scope.specs.Knowns.{known_said}
use Rattle.mlir_scope.specs.Scopes.{scope_said}
use Rattle.mlir_scope.specs.declared.scope.Known.{Known}
use Rattle.mlir_scope.proofs.NamesAlone.{label_known}
use Rattle.mlir_scope.proofs.scope.Scope.first_named.Goals as goal

pub returns-in-Some : goal.returns-in-Some
returns-in-Some c =
    let self = c.args.self.now in
    ap (λ (r : Option Known). option_map (λ (v : Value). v.label) (option_map known_said r)) (sym c.in-Some.is)
    ∙ label_known c.find.result (map known_said self.names.values.items) (scope_said self) c.args.name.now c.find.ensures self.same

pub returns-in-None : goal.returns-in-None
returns-in-None c =
    let self = c.args.self.now in
    ap (λ (r : Option Known). option_map (λ (v : Value). v.label) (option_map known_said r)) (sym c.in-None.is)
    ∙ label_known c.find.result (map known_said self.names.values.items) (scope_said self) c.args.name.now c.find.ensures self.same
