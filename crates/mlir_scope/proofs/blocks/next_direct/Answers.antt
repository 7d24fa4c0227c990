use Rattle.std.proofs.Common.{◌∙◌, sym, ap}
use Rattle.mlir_scope.specs.Said.{said, with_part}
use Rattle.mlir_scope.proofs.Blocked.{block_op}
use Rattle.mlir_scope.proofs.blocks.next_direct.Goals as goal

pub returns-then-is_same_form : goal.returns-then-is_same_form
returns-then-is_same_form c =
    let ts = c.args.tokens.now in
    let rest = said ts c.in-Some.behind.now in
    sym c.seek.invariant
    ∙ block_op
    (said ts c.seek.rest.now)
    (said ts c.in-Line.parts.now)
    (said ts c.inside-kind.result.now)
    rest
    c.in-Line.form
    c.in-Line.at
    (c.in-Some.ensures.0 ∙ ap (λ part. with_part ts part rest) c.in-Line.is)
    (sym c.is_same_form.ensures ∙ c.if-is_same_form.true)
    c.inside-kind.ensures
