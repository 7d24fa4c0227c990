use Rattle.std.proofs.Common.{arith, ◌<◌, ◌++◌, take, drop, ap, ◌∙◌}
use Rattle.mlir_ir.specs.Check.{past}
use Rattle.mlir_ir.specs.Limits.{arg_limit}
use Rattle.mlir_ir.specs.Scope.{scope_values}
use Rattle.mlir_ir.specs.Values.{arg_values}
use Rattle.mlir_ir.proofs.ListedBreaks.{next_arg, past_past, found_later, arg_kept}
use Rattle.mlir_ir.proofs.args.check_args.Goals as goal

pub loop-k-preserved : goal.loop-k-preserved
loop-k-preserved c =
    let l : c.loop-k.k < arg_limit = c.arg_rules-rules.ensures.few c.in_ok-keep.ensures.kept in
    let step = next_arg c.args.declared c.args.wanted.now (scope_values c.args.scope.now) c.args.at c.args.args.now c.loop-k.k c.index-args-k.result c.loop-k-test.true c.index-args-k.is in
    let kept =
    arg_kept c.args.declared c.loop-k.k (drop c.loop-k.k c.args.wanted.now) (scope_values c.args.scope.now ++ arg_values c.args.at.next (take c.loop-k.k c.args.args.now)) c.args.at c.loop-k.behind c.index-args-k.result c.arg_rules-rules.result
    c.loop-k.invariant.moved
    c.arg_rules-rules.ensures.value
    c.in_ok-keep.ensures.found in
    record {
      few = omega arith;
      moved = c.past-behind.ensures ∙ (ap (past 1 0) c.loop-k.invariant.moved ∙ past_past 1 0 c.loop-k.k 0 c.args.at);
      rest = found_later _ _ _ _ c.loop-k.invariant.rest step kept;
    }
