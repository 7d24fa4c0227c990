use Rattle.mlir_ir.proofs.RunBudgets.{budgets_extend}
use Rattle.mlir_ir.proofs.laws.budgets_extend_runs.Goals as goal

pub returns : goal.returns
returns c = λ f args replies budget more. budgets_extend f args replies budget more
