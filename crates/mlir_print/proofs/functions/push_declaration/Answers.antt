use Rattle.std.proofs.Common.{◌++◌, ◌∙◌, ap, map, codes, string_bytes}
use Rattle.mlir_ir.specs.Canonical.{arrow_text, head_text, types_text}
use Rattle.mlir_print.proofs.FuncLines.{declared}
use Rattle.mlir_print.proofs.functions.push_declaration.Goals as goal

pub returns : goal.returns
returns c = λ naming.
    let f = c.args.func.now in
    declared naming f _ _ _ _ _ _ _ (head_text f) (codes "(") (types_text (map (λ arg. arg.ty) f.args)) (codes ")") (arrow_text f.results)
    c.in_ok-push_head.ensures
    c.in_ok-write.ensures.bytes
    (c.in_ok-push_arg_types.ensures ∙ ap (λ args. string_bytes c.write.new.self ++ types_text (map (λ arg. arg.ty) args)) c.as_slice.ensures)
    c.in_ok-write-2.ensures.bytes
    (c.in_ok-push_arrow.ensures ∙ ap (λ tys. string_bytes c.write-2.new.self ++ arrow_text tys) c.as_slice-2.ensures)
    c.in_ok-writeln.ensures.bytes
