use Rattle.std.proofs.Common.{◌≡◌, ◌++◌, ◌∙◌, ap, map, length, refl, List}
use Rattle.mlir_ir.specs.Values.{arg_values}
use Rattle.mlir_ir.specs.declared.types.Arg.{Arg}
use Rattle.mlir_scope.specs.Arguments.{named}
use Rattle.mlir_scope.specs.Built.{scope_at}
use Rattle.mlir_scope.specs.Reading.{defined_said, type_said}
use Rattle.mlir_scope.specs.declared.said.Defined.{Defined}
use Rattle.mlir_scope.proofs.BuiltArgs.{blanks_are}
use Rattle.mlir_scope.proofs.built_funcs.unnamed_args.Goals as goal

pub returns-clause-args : goal.returns-clause-args
returns-clause-args c =
    c.in_ok-args.ensures
    ∙ ap (λ (ns : List Defined). named (map defined_said ns) (map type_said c.args.types.now)) c.deref-2.ensures.value
    ∙ blanks_are c.in_ok-names.names.items c.args.types.now (length c.args.types.now) c.in_ok-names.ensures.blank c.in_ok-names.ensures.length refl

pub returns-clause-scope : goal.returns-clause-scope
returns-clause-scope c =
    c.in_ok-push_args.ensures.scope
    ∙ ap (λ (ns : List Defined). scope_at c.args.place.now ++ arg_values c.args.place.now.next (named (map defined_said ns) (map type_said c.args.types.now))) c.deref.ensures.value
    ∙ ap (λ (args : List Arg). scope_at c.args.place.now ++ arg_values c.args.place.now.next args) (blanks_are c.in_ok-names.names.items c.args.types.now (length c.args.types.now) c.in_ok-names.ensures.blank c.in_ok-names.ensures.length refl)
