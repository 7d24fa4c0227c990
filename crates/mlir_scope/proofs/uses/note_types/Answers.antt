use Rattle.std.proofs.Common.{◌∙◌, ap, sym, map, drop}
use Rattle.mlir_ir.specs.ScopeFaults as faults
use Rattle.mlir_scope.specs.Noted.{noted}
use Rattle.mlir_scope.specs.Reading.{use_said, type_said}
use Rattle.mlir_scope.specs.Scopes.{scope_said}
use Rattle.mlir_scope.proofs.Notes.{no_types}
use Rattle.mlir_scope.proofs.Parted.{cut_past}
use Rattle.mlir_scope.proofs.uses.note_types.Goals as goal

pub returns-in-None : goal.returns-in-None
returns-in-None c =
    let scope = scope_said c.args.scope.now in
    let uses = map use_said (drop c.each.i c.args.uses.now) in
    let end = cut_past c.args.types.now c.each.i c.in-None.ensures.lookup.0 in
    sym (ap (noted c.each.first.best) (ap (λ ts. faults.type_breaks scope uses (map type_said ts)) end ∙ no_types scope uses)) ∙ c.each.invariant
