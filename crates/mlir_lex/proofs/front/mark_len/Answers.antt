-- A mark has one byte, unless it is `->`.
use Rattle.std.proofs.Common.{◌==◌, ◌∙◌, sym}
use Rattle.std.proofs.lemmas.Bool.{and_left, and_right, ne_eqb}
use Rattle.mlir_ir.specs.Tokens.{is_next}
use Rattle.mlir_lex.proofs.Lengths.{mark_alone}
use Rattle.mlir_lex.proofs.front.mark_len.Goals as goal
use Rattle.mlir_lex.proofs.front.mark_len.Goals.{then-first-eq45, else-first-eq45}

pub returns-else-arrow : goal.returns-else-arrow
returns-else-arrow c =
    mark_alone c.args.first c.args.rest.now c.requires
    (elim c.if-first-eq45.branch [
      | then-first-eq45 w ↦ and_right (c.args.first == 45) (is_next 62 c.args.rest.now) (sym w.is_next-arrow.ensures ∙ sym w.arrow-is ∙ c.if-arrow.false)
      | else-first-eq45 w ↦ and_left (c.args.first == 45) (is_next 62 c.args.rest.now) (ne_eqb c.args.first 45 w.if-first-eq45.false)
    ])
