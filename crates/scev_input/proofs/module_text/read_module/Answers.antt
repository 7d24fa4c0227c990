-- The module's text is the front of the text that ends where the module does.
use Rattle.std.proofs.Common.{sym, subst}
use Rattle.mlir_scope.specs.Unresolved.{IsUnresolved}
use Rattle.scev_input.specs.Inputs.{IsRefused}
use Rattle.scev_input.proofs.ModuleEnds.{cut_at_end}
use Rattle.scev_input.proofs.Refusals.{reads_as, scope_at}
use Rattle.scev_input.proofs.module_text.read_module.Goals as goal

pub split_at-requires : goal.split_at-requires
split_at-requires c = cut_at_end c.args.text.now c.args.end c.requires.end

pub returns-in-Ok-clause-reading : goal.returns-in-Ok-clause-reading
returns-in-Ok-clause-reading c =
    reads_as c.args.text.now c.split_at.result.0.now c.args.end c.requires.end c.split_at.ensures.front
    c.in_ok-syntax.syntax c.in-Ok.module c.in_ok-syntax.ensures c.in-Ok.ensures.resolved

pub returns-clause-reading : goal.returns-clause-reading
returns-clause-reading c =
    let fault = c.in-Err-Fault.fault in
    let broken = subst (IsUnresolved c.in_ok-syntax.syntax) c.in-Err-Fault.field-0-is c.in-Err-Fault.ensures.resolved in
    subst (IsRefused c.args.text.now) (sym c.fault_at.ensures)
    (scope_at c.args.text.now c.split_at.result.0.now c.args.end c.requires.end c.split_at.ensures.front
    c.in_ok-syntax.syntax fault.token fault.kind c.kind_by_scope.result c.place.result c.utf8.text c.in_ok-syntax.ensures broken c.kind_by_scope.ensures c.place.ensures)
