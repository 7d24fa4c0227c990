use Rattle.std.proofs.Common.{◌++◌, ◌∙◌, ap, string_bytes}
use Rattle.mlir_ir.specs.Canonical.{ends_text}
use Rattle.mlir_print.proofs.FuncLines.{returned}
use Rattle.mlir_print.proofs.functions.push_return.Goals as goal

pub returns : goal.returns
returns c =
    let n = c.args.names.now in
    returned n _ _ _ _ c.args.body.now.ret
    c.in_ok-write.ensures.bytes
    (c.in_ok-push_ends.ensures ∙ ap (λ ret. string_bytes c.write.new.self ++ ends_text n ret) c.as_slice.ensures)
    c.in_ok-write-2.ensures.bytes
