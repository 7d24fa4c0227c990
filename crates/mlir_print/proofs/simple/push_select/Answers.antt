use Rattle.std.proofs.Common.{codes}
use Rattle.mlir_ir.specs.Canonical.{types_text, use_text}
use Rattle.mlir_print.proofs.Texts.{select_pushed}
use Rattle.mlir_print.proofs.simple.push_select.Goals as goal

pub returns : goal.returns
returns c =
    let n = c.args.names.now in
    select_pushed _ _ _ _ _ _ (codes "arith.select ") (use_text n c.args.c) (codes ", ") (use_text n c.args.a) (use_text n c.args.b) (codes " : ") (types_text c.args.results.now)
    c.in_ok-write.ensures.bytes
    c.in_ok-push_use.ensures
    c.in_ok-write-2.ensures.bytes
    c.in_ok-push_pair.ensures
    c.in_ok-push_typed.ensures
