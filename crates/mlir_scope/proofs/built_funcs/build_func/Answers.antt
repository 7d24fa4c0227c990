use Rattle.std.proofs.Common.{ℕ, ◌≡◌, ◌++◌, ◌∙◌, ap, map, List}
use Rattle.mlir_ir.specs.Phrases.{Spot, lines}
use Rattle.mlir_ir.specs.Source as source
use Rattle.mlir_ir.specs.Values.{Value, arg_values}
use Rattle.mlir_ir.specs.declared.syntax.Form.TheVariants as forms
use Rattle.mlir_scope.specs.Built.{names_said}
use Rattle.mlir_scope.specs.BuiltFunctions.{args_said, first_body}
use Rattle.mlir_scope.specs.Reading.{type_said}
use Rattle.mlir_scope.specs.Said.{said}
use Rattle.mlir_scope.proofs.BuiltArgs.{body_first}
use Rattle.mlir_scope.proofs.built_funcs.build_func.Goals as goal

pub returns : goal.returns
returns c =
    let names = names_said c.args.origin.funcs.now in
    let parts = said c.args.origin.tokens.now c.args.line.parts.now in
    let args = args_said parts in
    let name = c.in_ok-name.ensures ∙ c.unsigned-symbol.ensures ∙ ap (λ (spot : Spot). source.unsigned spot.text) c.first_spot.ensures in
    let scope = c.in_ok-args.ensures.scope ∙ ap (λ (s : List Value). s ++ arg_values c.new.result.0 args) c.new-place.ensures ∙ ap (λ (n : ℕ). arg_values n args) c.new.ensures in
    let body = c.in_ok-body.ensures ∙ ap (λ (s : List Value). first_body names c.args.index s (lines forms.Body parts)) scope ∙ body_first names c.args.index args (lines forms.Body parts) in
    let results = c.in_ok-results.ensures ∙ ap (map type_said) c.deref.ensures.value ∙ c.in_ok-types.ensures in
    λ i. record {
      index = c.args.index;
      name = name i;
      private = c.has.ensures i;
      args = c.in_ok-args.ensures.args i;
      results = results i;
      body = body i;
    }
