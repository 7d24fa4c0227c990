use Rattle.std.proofs.Common.{◌++◌, ◌∙◌, ap, map, codes, string_bytes}
use Rattle.mlir_ir.specs.Canonical.{arg_text, arrow_text, bracketed, head_text, joined}
use Rattle.mlir_print.proofs.FuncLines.{opened}
use Rattle.mlir_print.proofs.functions.push_opening.Goals as goal

pub returns : goal.returns
returns c =
    let f = c.args.func.now in
    opened _ _ _ _ _ (head_text f) (bracketed (joined (map arg_text f.args))) (arrow_text f.results) (codes " {")
    c.in_ok-push_head.ensures
    (c.in_ok-push_args.ensures ∙ ap (λ args. string_bytes c.push_head.new.out ++ bracketed (joined (map arg_text args))) c.as_slice.ensures)
    (c.in_ok-push_arrow.ensures ∙ ap (λ tys. string_bytes c.push_args.new.out ++ arrow_text tys) c.as_slice-2.ensures)
    c.in_ok-writeln.ensures.bytes
