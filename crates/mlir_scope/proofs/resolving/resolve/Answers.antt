use Rattle.mlir_scope.proofs.ResolvedModules.{calls_fit}
use Rattle.mlir_scope.proofs.ResolvedNames.{are_placed, are_apart}
use Rattle.mlir_scope.proofs.ResolvedSyntaxes.{keeps_rules, fault_counts, stand}
use Rattle.mlir_scope.proofs.TypedSyntaxes.{functions_checked}
use Rattle.mlir_scope.proofs.resolving.resolve.Goals as goal

pub functions-requires-clause-keeps : goal.functions-requires-clause-keeps
functions-requires-clause-keeps c = keeps_rules c.args.syntax.now c.in_ok-fault.field-0 c.in_ok-fault.ensures c.in-None.is

pub invariant_of-result : goal.invariant_of-result
invariant_of-result c =
    let s = c.args.syntax.now in
    let funcs = c.from_vec.result in
    let all = stand s c.in_ok-fault.field-0 c.in_ok-funcs-in-None.funcs.items funcs c.requires.stands c.in_ok-fault.ensures c.in-None.is c.in_ok-funcs-in-None.ensures c.from_vec.ensures in
    record { placed = are_placed s funcs all.functions; apart = are_apart s funcs all.functions; calls_fit = calls_fit s funcs all }

pub returns-in-Some-clause-resolved : goal.returns-in-Some-clause-resolved
returns-in-Some-clause-resolved c = fault_counts c.args.syntax.now c.in_ok-fault.field-0 c.in-Some.fault c.in_ok-fault.ensures c.in-Some.is

pub returns-in_ok-funcs-in-None-clause-resolved : goal.returns-in_ok-funcs-in-None-clause-resolved
returns-in_ok-funcs-in-None-clause-resolved c =
    let all = stand c.args.syntax.now c.in_ok-fault.field-0 c.in_ok-funcs-in-None.funcs.items c.from_vec.result c.requires.stands c.in_ok-fault.ensures c.in-None.is c.in_ok-funcs-in-None.ensures c.from_vec.ensures in
    record { keeps = all.functions.keeps; funcs = all.functions.same }

pub returns-in_ok-funcs-in-None-clause-checked : goal.returns-in_ok-funcs-in-None-clause-checked
returns-in_ok-funcs-in-None-clause-checked c =
    functions_checked c.args.syntax.now c.from_vec.result
    (stand c.args.syntax.now c.in_ok-fault.field-0 c.in_ok-funcs-in-None.funcs.items c.from_vec.result c.requires.stands c.in_ok-fault.ensures c.in-None.is c.in_ok-funcs-in-None.ensures c.from_vec.ensures)
