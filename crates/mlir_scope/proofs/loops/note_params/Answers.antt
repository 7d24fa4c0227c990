use Rattle.std.proofs.Common.{◌≡◌, List, map, length, not, nat_eq, ap, ◌∙◌, sym, arith}
use Rattle.std.proofs.lemmas.List.{length-map}
use Rattle.mlir_ir.specs.ScopeFaults.{over, repeated, names_of, written_breaks}
use Rattle.mlir_ir.specs.Source.{word, after_params}
use Rattle.mlir_ir.specs.Source as source
use Rattle.mlir_scope.specs.Noted.{noted}
use Rattle.mlir_scope.specs.Reading.{type_said, written_said, defined_said}
use Rattle.mlir_scope.specs.Said.{said}
use Rattle.mlir_scope.specs.Walks.{in_scope}
use Rattle.mlir_scope.specs.declared.said.Defined.{Defined}
use Rattle.mlir_scope.specs.declared.said.Written.{Written}
use Rattle.mlir_scope.proofs.Lengths.{same_length}
use Rattle.mlir_scope.proofs.LoopParts.{params_noted}
use Rattle.mlir_scope.proofs.loops.note_params.Goals as goal

pub returns : goal.returns
returns c =
    let kind = said c.args.text.now.tokens.now c.args.kind.now in
    let params = c.in_ok-params.params in
    let wanted = c.args.wanted.now in
    let ps = after_params kind in
    let many : length params.types.items ≡ length ps = same_length written_said (λ (p : source.Defined × source.Written). p.1) params.types.items ps c.in_ok-params.ensures.types in
    let n : c.len.result ≡ length ps = omega (arith, many, c.len.ensures, params.types.ok.0) in
    let one = c.note_repeated.new.first.best in
    let two = c.note_over_names.new.first.best in
    record {
      noted_all =
          params_noted (in_scope c.args.w.now) c.word-at.result.at (word kind).at (map defined_said params.names.items) (map written_said params.types.items) (map type_said wanted) ps
          (not (nat_eq c.len.result (length wanted))) c.args.w.now.first.best one two c.note_written.new.first.best c.note_if.new.self.best
          (ap (λ s. s.at) c.word-at.ensures) c.in_ok-params.ensures.names c.in_ok-params.ensures.types
          (ap (λ k. not (nat_eq k (length wanted))) n ∙ ap (λ k. not (nat_eq (length ps) k)) (sym (length-map wanted type_said)))
          (c.in_ok-note_repeated.ensures.noted ∙ ap (λ (xs : List Defined). noted c.args.w.now.first.best (repeated (names_of (in_scope c.args.w.now)) (map defined_said xs))) c.deref.ensures.value)
          (c.note_over_names.ensures ∙ ap (λ (xs : List Defined). noted one (over 16 (map (λ (d : source.Defined). d.at) (map defined_said xs)))) c.deref-2.ensures.value)
          (c.note_written.ensures ∙ ap (λ (xs : List Written). noted two (written_breaks (map written_said xs) (map type_said wanted))) c.deref-3.ensures.value)
          c.note_if.ensures;
      same = c.in_ok-note_repeated.ensures.kept;
    }
