-- Why a syntax stands for no module.
use Rattle.mlir_ir.specs.Reads.{IsScopeFault}
use Rattle.mlir_ir.specs.declared.syntax.Syntax.{Syntax}
use Rattle.mlir_scope.specs.declared.resolving.ScopeError.{ScopeError}
use Rattle.mlir_scope.specs.declared.resolving.ScopeError.TheVariants.{NoMemory, Fault}

-- allocation failed, or the fault is that of the syntax
abbrev pub IsUnresolved : Syntax → ScopeError → Type 0
IsUnresolved syntax NoMemory = Unit {0}
IsUnresolved syntax (Fault fault) = IsScopeFault syntax fault.token fault.kind
