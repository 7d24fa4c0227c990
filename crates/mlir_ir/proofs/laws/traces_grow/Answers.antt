use Rattle.mlir_ir.proofs.RunTraces.{ops_grow}
use Rattle.mlir_ir.proofs.laws.traces_grow.Goals as goal

pub returns : goal.returns
returns c = λ ops fuel at around env s. ops_grow ops fuel at around env s
