use Rattle.std.proofs.Common.{◌≡◌, ◌∷◌, [], List, map, ap, ◌∙◌}
use Rattle.mlir_ir.specs.Phrases as phrases
use Rattle.mlir_ir.specs.ScopeFaults.{carried_breaks}
use Rattle.mlir_ir.specs.Source as source
use Rattle.mlir_ir.specs.Values.{Value}
use Rattle.mlir_ir.specs.declared.terminal.Terminal.TheVariants as terminals
use Rattle.mlir_ir.specs.declared.types.IrType.{IrType}
use Rattle.mlir_scope.specs.Noted.{noted}
use Rattle.mlir_scope.specs.Reading.{type_said, defined_said}
use Rattle.mlir_scope.specs.Said.{said}
use Rattle.mlir_scope.specs.Walks.{in_scope, bounds_breaks, wanted_types}
use Rattle.mlir_scope.specs.declared.said.Defined.{Defined}
use Rattle.mlir_scope.specs.declared.said.ValueType.{ValueType}
use Rattle.mlir_scope.proofs.Notes.{noted_two}
use Rattle.mlir_scope.proofs.loop_headers.note_for_header.Goals as goal

pub returns : goal.returns
returns c =
    let kind = said c.args.text.now.tokens.now c.args.kind.now in
    let loops = c.args.loops in
    let scope = in_scope c.args.w.now in
    let best = c.args.w.now.first.best in
    let bounds = c.in_ok-note_bounds.ensures in
    let carried = c.in_ok-note_carried.ensures in
    let one = c.note_bounds.new.w.first.best in
    let counter = source.defined (phrases.first_spot (phrases.spots terminals.Value kind)) in
    let names : map defined_said c.deref.result.now ≡ counter ∷ [] = ap (λ (ns : List Defined). map defined_said ns) c.deref.ensures.value ∙ c.in_ok-counter.ensures in
    let types : map type_said c.deref-2.result.now ≡ wanted_types kind = ap (λ (ts : List ValueType). map type_said ts) c.deref-2.ensures.value ∙ c.in_ok-wanted.ensures in
    record {
      noted_all =
          noted_two best one c.note_carried.new.w.first.best (bounds_breaks scope kind) (carried_breaks scope loops kind (counter ∷ []) (wanted_types kind)) bounds.noted_all
          (carried.noted_all
          ∙ ap (λ (s : List Value). noted one (carried_breaks s loops kind (map defined_said c.deref.result.now) (map type_said c.deref-2.result.now))) bounds.same
          ∙ ap (λ (ns : List source.Defined). noted one (carried_breaks scope loops kind ns (map type_said c.deref-2.result.now))) names
          ∙ ap (λ (ts : List IrType). noted one (carried_breaks scope loops kind (counter ∷ []) ts)) types);
      same = carried.same ∙ bounds.same;
    }
