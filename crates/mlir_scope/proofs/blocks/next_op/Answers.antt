use Rattle.std.proofs.Common.{◌∙◌, sym, ap, Bool, if◌then◌else◌}
use Rattle.mlir_ir.specs.Source.{block, region}
use Rattle.mlir_scope.specs.Said.{said, with_part}
use Rattle.mlir_scope.proofs.Blocked.{region_op}
use Rattle.mlir_scope.proofs.blocks.next_op.Goals as goal

pub returns-then-is_same_form-2 : goal.returns-then-is_same_form-2
returns-then-is_same_form-2 c =
    let ts = c.args.tokens.now in
    let all = said ts c.args.ops.parts.now in
    let rest = said ts c.in-Some.behind.now in
    ap (λ (direct : Bool). if direct then block all else region all) c.if-ops.false
    ∙ sym c.seek.invariant
    ∙ region_op
    (said ts c.seek.rest.now)
    (said ts c.in-Line.parts.now)
    (said ts c.inside-kind.result.now)
    rest
    c.in-Line.form
    c.in-Line.at
    (c.in-Some.ensures.0 ∙ ap (λ part. with_part ts part rest) c.in-Line.is)
    (sym c.is_same_form.ensures ∙ c.if-is_same_form.false)
    (sym c.is_same_form-in-Line.ensures ∙ c.if-is_same_form-2.true)
    c.inside-kind.ensures
