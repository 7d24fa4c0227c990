use Rattle.std.proofs.Common.{◌++◌, List, map, ap, ◌∙◌}
use Rattle.std.proofs.lemmas.List.{map-append}
use Rattle.mlir_ir.specs.ScopeFaults.{over, repeated, names_of, listed_breaks}
use Rattle.mlir_ir.specs.Source as source
use Rattle.mlir_scope.specs.Noted.{noted}
use Rattle.mlir_scope.specs.Reading.{type_said, use_said, defined_said}
use Rattle.mlir_scope.specs.Said.{said}
use Rattle.mlir_scope.specs.Walks.{in_scope}
use Rattle.mlir_scope.specs.declared.said.Defined.{Defined}
use Rattle.mlir_scope.specs.declared.said.Use.{Use}
use Rattle.mlir_scope.proofs.LoopParts.{carried_noted}
use Rattle.mlir_scope.proofs.loops.note_carried.Goals as goal

pub returns : goal.returns
returns c =
    let kind = said c.args.text.now.tokens.now c.args.kind.now in
    let inits = c.in_ok-inits.inits in
    let scope = in_scope c.args.w.now in
    let before = c.args.before.now in
    let types = map type_said c.args.types.now in
    let best = c.args.w.now.first.best in
    let one = c.note_listed.new.first.best in
    let two = c.note_repeated.new.first.best in
    let at = c.word-at.result.at in
    record {
      noted_all =
          carried_noted scope kind c.args.loops at (map defined_said before) (map defined_said inits.names.items) (map defined_said c.in_ok-names.names.items) (map use_said inits.uses.items) types
          best one two c.note_over_names.new.first.best c.note_if.new.self.best
          (ap (λ s. s.at) c.word-at.ensures) c.in_ok-inits.ensures.uses c.in_ok-inits.ensures.names
          (ap (map defined_said) (c.in_ok-names.ensures ∙ ap (λ (xs : List Defined). before ++ xs) c.deref.ensures.value) ∙ map-append defined_said before inits.names.items)
          (c.note_listed.ensures ∙ ap (λ (xs : List Use). noted best (listed_breaks scope at (map use_said xs) types)) c.deref-2.ensures.value)
          (c.in_ok-note_repeated.ensures.noted ∙ ap (λ (xs : List Defined). noted one (repeated (names_of scope) (map defined_said xs))) c.deref-3.ensures.value)
          (c.note_over_names.ensures ∙ ap (λ (xs : List Defined). noted two (over 16 (map (λ (d : source.Defined). d.at) (map defined_said xs)))) c.deref-4.ensures.value)
          c.note_if.ensures;
      same = c.in_ok-note_repeated.ensures.kept;
    }
