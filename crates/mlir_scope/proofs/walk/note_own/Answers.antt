use Rattle.std.proofs.Common.{refl, ◌≡◌, List, map, length, ap, ◌∙◌, sym, arith}
use Rattle.std.proofs.lemmas.List.{length-map}
use Rattle.mlir_ir.specs.Resolved.{tys}
use Rattle.mlir_ir.specs.ScopeFaults.{operands, packs_breaks}
use Rattle.mlir_ir.specs.Source.{head, op_types}
use Rattle.mlir_scope.specs.Noted.{noted}
use Rattle.mlir_scope.specs.Reading.{type_said, packed_said}
use Rattle.mlir_scope.specs.Said.{said}
use Rattle.mlir_scope.specs.Walks.{in_scope, packs_said}
use Rattle.mlir_scope.specs.declared.said.Packed.{Packed}
use Rattle.mlir_scope.proofs.WalkParts.{own_noted}
use Rattle.mlir_scope.proofs.walk.note_own.Goals as goal

pub returns : goal.returns
returns c =
    let kind = said c.args.text.now.tokens.now c.args.o.kind.now in
    let scope = in_scope c.args.w.now in
    let best = c.args.w.now.first.best in
    let at = c.word-at.result.at in
    let own = c.args.own.now in
    let n : c.len.result ≡ length (tys (op_types (head kind) kind)) =
    omega (arith, c.len.ensures, own.types.ok.0, sym (length-map own.types.items type_said) ∙ ap length c.requires.typed) in
    record {
      noted_all =
          own_noted scope kind at c.len.result (operands (head kind) kind) (map packed_said own.packs.items) (packs_said c.args.text.now.tokens.now c.args.o)
          best c.note_operands.new.first.best c.note_packs.new.first.best
          (ap (λ s. s.at) c.word-at.ensures) refl n c.requires.named
          c.in_ok-note_operands.ensures
          (c.in_ok-note_packs.ensures.noted ∙ ap (λ (xs : List Packed). noted c.note_operands.new.first.best (packs_breaks scope at c.len.result (map packed_said xs))) c.deref.ensures.value);
      same = c.in_ok-note_packs.ensures.kept;
    }
