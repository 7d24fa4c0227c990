use Rattle.std.proofs.Common.{◌≡◌, length}
use Rattle.std.specs.List.{flat_map}
use Rattle.mlir_ir.specs.ScopeFaults as faults
use Rattle.mlir_ir.specs.declared.scope_kind.ScopeKind.TheVariants.{WrongType}
use Rattle.mlir_ir.specs.Source as source
use Rattle.mlir_scope.specs.Said.{said}
use Rattle.mlir_scope.specs.Noted.{noted}
use Rattle.mlir_scope.specs.Reading.{type_said}
use Rattle.mlir_scope.specs.Scopes.{scope_said}
use Rattle.mlir_scope.proofs.own_uses.note_other.Given as goal

abbrev pub invariant-seek : goal.invariant-seek
invariant-seek l = noted l.first.best (flat_map (λ u. faults.broken (faults.differs (scope_said l.scope) u (type_said l.ty)) u.at WrongType) (source.uses_in (said l.tokens l.rest)))
    ≡ noted l.fn.first.best (flat_map (λ u. faults.broken (faults.differs (scope_said l.scope) u (type_said l.ty)) u.at WrongType) (source.uses_in (said l.tokens l.parts)))

abbrev pub decreases-seek : goal.decreases-seek
decreases-seek l = length l.rest
