use Rattle.std.proofs.Common.{List, map, ap, ◌∙◌}
use Rattle.mlir_ir.specs.Phrases as phrases
use Rattle.mlir_ir.specs.Resolved.{tys}
use Rattle.mlir_ir.specs.ScopeFaults.{listed_breaks, over}
use Rattle.mlir_ir.specs.Source as source
use Rattle.mlir_scope.specs.Noted.{noted}
use Rattle.mlir_scope.specs.Reading.{use_said, type_said, written_said}
use Rattle.mlir_scope.specs.Said.{said}
use Rattle.mlir_scope.specs.Scopes.{scope_said}
use Rattle.mlir_scope.specs.Texts.{funcs_in}
use Rattle.mlir_scope.specs.declared.said.Use.{Use}
use Rattle.mlir_scope.specs.declared.said.ValueType.{ValueType}
use Rattle.mlir_scope.specs.declared.said.Written.{Written}
use Rattle.mlir_scope.proofs.Simples.{call_noted}
use Rattle.mlir_scope.proofs.simple.note_call.Goals as goal

pub returns : goal.returns
returns c =
    let kind = said c.args.text.now.tokens.now c.args.kind.now in
    let scope = scope_said c.args.scope.now in
    let best = c.args.first.now.best in
    let one = c.note_listed.new.first.best in
    let uses = c.in_ok-uses.uses.items in
    let types = c.in_ok-types-2.types.items in
    let at = c.word.result.at in
    call_noted (funcs_in c.args.text.now) scope kind at (map use_said uses) (map type_said types) best one c.note_over_uses.new.first.best c.note_callee.new.first.best
    (ap (λ (s : phrases.Spot). s.at) c.word.ensures)
    (c.in_ok-uses.ensures ∙ ap source.uses_in c.inside.ensures)
    (c.in_ok-types-2.ensures ∙ ap (λ (ts : List Written). tys (map written_said ts)) c.deref.ensures.value ∙ ap tys (c.in_ok-types.ensures ∙ ap source.types_in c.inside-2.ensures))
    (c.note_listed.ensures
    ∙ ap (λ (us : List Use). noted best (listed_breaks scope at (map use_said us) (map type_said c.deref-3.result.now))) c.deref-2.ensures.value
    ∙ ap (λ (ts : List ValueType). noted best (listed_breaks scope at (map use_said uses) (map type_said ts))) c.deref-3.ensures.value)
    (c.note_over_uses.ensures ∙ ap (λ (us : List Use). noted one (over 16 (map (λ (u : source.Use). u.at) (map use_said us)))) c.deref-4.ensures.value)
    c.in_ok-note_callee.ensures
