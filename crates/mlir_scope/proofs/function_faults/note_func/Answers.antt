use Rattle.std.proofs.Common.{List, map, ap, ◌∙◌}
use Rattle.std.specs.List.{flat_map}
use Rattle.mlir_ir.specs.ScopeFaults.{over, repeated, names_of, body_breaks}
use Rattle.mlir_ir.specs.Source as source
use Rattle.mlir_scope.specs.Noted.{noted}
use Rattle.mlir_scope.specs.Reading.{defined_said, written_said}
use Rattle.mlir_scope.specs.Said.{line_said}
use Rattle.mlir_scope.specs.Scopes.{scope_said}
use Rattle.mlir_scope.specs.Texts.{funcs_in}
use Rattle.mlir_scope.specs.declared.phrase.Line.{Line}
use Rattle.mlir_scope.specs.declared.said.Defined.{Defined}
use Rattle.mlir_scope.specs.declared.said.Written.{Written}
use Rattle.mlir_scope.proofs.FunctionNotes.{func_noted}
use Rattle.mlir_scope.proofs.function_faults.note_func.Goals as goal

pub returns : goal.returns
returns c =
    let tokens = c.args.text.now.tokens.now in
    let f = line_said tokens c.args.f in
    let funcs = funcs_in c.args.text.now in
    let best = c.args.first.now.best in
    let names = c.in_ok-params.params.names.items in
    let args = c.in_ok-args.args.names.items in
    let results = c.in_ok-results.results.items in
    let bodies = c.in_ok-bodies.bodies.items in
    let start = scope_said c.new-none.result in
    let one = c.note_repeated.new.first.best in
    let two = c.note_over_names.new.first.best in
    let three = c.note_over_types.new.first.best in
    func_noted funcs f start (map defined_said names) (map defined_said args) (map written_said results) (map (line_said tokens) bodies) best one two three c.note_bodies.new.first.best
    c.new-none.ensures
    (c.in_ok-params.ensures.names ∙ ap (λ p. map (λ (q : source.Defined × source.Written). q.0) (source.params_in p)) c.inside-params.ensures)
    c.in_ok-args.ensures.names
    c.in_ok-results.ensures
    c.in_ok-bodies.ensures
    (c.in_ok-note_repeated.ensures.noted ∙ ap (λ (ns : List Defined). noted best (repeated (names_of start) (map defined_said ns))) c.deref.ensures.value)
    (c.note_over_names.ensures ∙ ap (λ (ns : List Defined). noted one (over 16 (map (λ (d : source.Defined). d.at) (map defined_said ns)))) c.deref-2.ensures.value)
    (c.note_over_types.ensures ∙ ap (λ (ts : List Written). noted two (over 16 (map (λ (t : source.Written). t.at) (map written_said ts)))) c.deref-3.ensures.value)
    (c.in_ok-note_bodies.ensures ∙ ap (λ (bs : List Line). noted three (flat_map (body_breaks funcs f) (map (line_said tokens) bs))) c.deref-4.ensures.value)
