use Rattle.std.proofs.Common.{◌≡◌, drop, map}
use Rattle.std.specs.List.{flat_map}
use Rattle.mlir_ir.specs.ScopeFaults as faults
use Rattle.mlir_ir.specs.declared.scope_kind.ScopeKind.TheVariants.{WrongType}
use Rattle.mlir_scope.specs.Noted.{noted}
use Rattle.mlir_scope.specs.Reading.{use_said, type_said}
use Rattle.mlir_scope.specs.Scopes.{scope_said}
use Rattle.mlir_scope.proofs.uses.note_differing.Given as goal

abbrev pub invariant-each : goal.invariant-each
invariant-each l = noted l.first.best (flat_map (λ u. faults.broken (faults.differs (scope_said l.scope) u (type_said l.ty)) u.at WrongType) (map use_said (drop l.u-index l.uses))) ≡ noted l.fn.first.best (flat_map (λ u. faults.broken (faults.differs (scope_said l.scope) u (type_said l.ty)) u.at WrongType) (map use_said l.uses))
