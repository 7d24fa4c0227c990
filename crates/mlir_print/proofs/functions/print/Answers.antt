use Rattle.std.proofs.Common.{◌∙◌, map}
use Rattle.mlir_print.proofs.FuncLines.{funcs_more}
use Rattle.mlir_print.proofs.functions.print.Goals as goal

pub loop-func-preserved : goal.loop-func-preserved
loop-func-preserved c = funcs_more _ _ _ c.as_slice-funcs.result.now c.loop-func.func-index c.func-item.result c.loop-func-test.true c.func-item.is c.in_ok-push_func.ensures ∙ c.loop-func.invariant
