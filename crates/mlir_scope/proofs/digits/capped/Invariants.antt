use Rattle.std.proofs.Common.{◌≡◌, ◌≤◌, min, take}
use Rattle.std.specs.Str.Parse.{digits_value}
use Rattle.mlir_scope.specs.declared.digits.TheConstants.{CAP}
use Rattle.mlir_scope.proofs.digits.capped.Given as goal

abbrev pub invariant-loop-digit : goal.invariant-loop-digit
invariant-loop-digit l = (l.value ≡ min (digits_value l.radix (take l.digit-index l.digits)) CAP) × (l.value ≤ CAP)
