use Rattle.std.proofs.Common.{codes, slice_index_or, []}
use Rattle.mlir_ir.specs.Canonical.{bracketed, results_text, used_types, uses_text}
use Rattle.mlir_print.proofs.Texts.{call_pushed}
use Rattle.mlir_print.proofs.simple.push_call.Goals as goal

pub returns : goal.returns
returns c =
    let n = c.args.names.now in
    call_pushed _ _ _ _ _ _ (codes "func.call @") (slice_index_or n.funcs c.args.func []) (bracketed (uses_text n c.args.uses.now)) (codes " : ") (bracketed (used_types n c.args.uses.now)) (codes " -> ") (results_text c.args.results.now)
    c.in_ok-write.ensures.bytes
    c.in_ok-push_callee.ensures
    c.in_ok-push_passed.ensures
    c.in_ok-write-2.ensures.bytes
    c.in_ok-push_results.ensures
