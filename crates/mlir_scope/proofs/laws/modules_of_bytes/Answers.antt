use Rattle.mlir_scope.proofs.TypedSyntaxes.{functions_checked}
use Rattle.mlir_scope.proofs.laws.modules_of_bytes.Goals as goal

pub returns : goal.returns
returns c = λ bytes m reads.
    functions_checked reads.syntax m.funcs
    (record { stands = reads.parsed.stands; functions = record { keeps = reads.resolved.keeps; same = reads.resolved.funcs } })
