use Rattle.std.proofs.Common.{◌≡◌, ◌≤◌, ◌++◌, List, map, take, length, ap, ◌∙◌, sym, arith}
use Rattle.std.proofs.lemmas.List.{take_all}
use Rattle.mlir_ir.specs.Phrases as phrases
use Rattle.mlir_ir.specs.Resolved.{tys}
use Rattle.mlir_ir.specs.declared.syntax.Form.TheVariants as forms
use Rattle.mlir_ir.specs.Source as source
use Rattle.mlir_scope.specs.Reading.{written_said}
use Rattle.mlir_scope.specs.Said.{said, line_said}
use Rattle.mlir_scope.specs.declared.said.Written.{Written}
use Rattle.mlir_scope.proofs.FunctionNotes.{arg_types_are}
use Rattle.mlir_scope.proofs.signatures.args_of.Goals as goal

pub returns-clause-types : goal.returns-clause-types
returns-clause-types c =
    let items = c.deref-t-items.result.now in
    let written = c.in_ok-params.params.types.items in
    let end : length items ≤ c.each.t-index = omega arith in
    let listed : map written_said (take c.each.t-index items) ≡ source.types_in (phrases.inside forms.Types (said c.args.tokens.now c.args.f.parts.now)) =
    ap (map written_said) (take_all c.each.t-index items end) ∙ ap (λ (ts : List Written). map written_said ts) c.deref-t-items.ensures.value ∙ c.in_ok-listed.ensures ∙ ap source.types_in c.inside-2.ensures in
    let first : map written_said written ≡ map (λ (p : source.Defined × source.Written). p.1) (source.params_in (phrases.inside forms.Params (said c.args.tokens.now c.args.f.parts.now))) =
    c.in_ok-params.ensures.types ∙ ap (λ p. map (λ (q : source.Defined × source.Written). q.1) (source.params_in p)) c.inside.ensures in
    c.each.invariant.1
    ∙ ap (λ (ts : List source.Written). tys (map written_said written) ++ tys ts) listed
    ∙ ap (λ (ts : List source.Written). tys ts ++ tys (source.types_in (phrases.inside forms.Types (said c.args.tokens.now c.args.f.parts.now)))) first
    ∙ sym (arg_types_are (line_said c.args.tokens.now c.args.f))
