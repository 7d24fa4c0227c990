use Rattle.std.proofs.Common.{◌≡◌, ◌+◌, ◌++◌, ◌∙◌, ap, map, length, sym, List}
use Rattle.mlir_ir.specs.Phrases.{Phrase}
use Rattle.mlir_ir.specs.Resolved.{args_of, tys}
use Rattle.mlir_ir.specs.Source.{params_in, types_in}
use Rattle.mlir_ir.specs.Values.{arg_values}
use Rattle.mlir_ir.specs.declared.types.Arg.{Arg}
use Rattle.mlir_scope.specs.Built.{scope_at}
use Rattle.mlir_scope.specs.BuiltFunctions.{args_said}
use Rattle.mlir_scope.specs.Reading.{type_said}
use Rattle.mlir_scope.specs.Said.{said}
use Rattle.mlir_scope.proofs.BuiltArgs.{args_are, args_joined}
use Rattle.mlir_scope.proofs.built_funcs.build_args.Goals as goal

pub returns-clause-args : goal.returns-clause-args
returns-clause-args c =
    c.in_ok-args.ensures
    ∙ args_are (said c.args.tokens.now c.args.parts.now) c.in_ok-params.params c.in_ok-more.more _
    (c.in_ok-params.ensures.args ∙ ap (λ (p : Phrase). args_of (params_in p)) c.inside-named.ensures)
    c.in_ok-more.ensures.args
    (ap (map type_said) c.as_slice.ensures.value ∙ c.in_ok-types.ensures ∙ ap (λ (p : Phrase). tys (types_in p)) c.inside-bare.ensures)

pub returns-clause-scope : goal.returns-clause-scope
returns-clause-scope c =
    let all =
    args_are (said c.args.tokens.now c.args.parts.now) c.in_ok-params.params c.in_ok-more.more _
    (c.in_ok-params.ensures.args ∙ ap (λ (p : Phrase). args_of (params_in p)) c.inside-named.ensures)
    c.in_ok-more.ensures.args
    (ap (map type_said) c.as_slice.ensures.value ∙ c.in_ok-types.ensures ∙ ap (λ (p : Phrase). tys (types_in p)) c.inside-bare.ensures) in
    args_joined (said c.args.tokens.now c.args.parts.now) (scope_at c.args.place.now) (scope_at c.push_params.new.place) _ c.args.place.now.next c.push_params.new.place.next c.in_ok-params.params c.in_ok-more.more
    (c.in_ok-params.ensures.scope ∙ sym (ap (λ (args : List Arg). scope_at c.args.place.now ++ arg_values c.args.place.now.next args) c.in_ok-params.ensures.args))
    (c.in_ok-params.ensures.next ∙ sym (ap (λ (args : List Arg). c.args.place.now.next + length args) c.in_ok-params.ensures.args))
    (c.in_ok-more.ensures.scope ∙ sym (ap (λ (args : List Arg). scope_at c.push_params.new.place ++ arg_values c.push_params.new.place.next args) c.in_ok-more.ensures.args))
    all
