-- The break that counts of those noted one after another.
use Rattle.std.specs.Prelude.{List, [], ◌∷◌, Option, Some, None, if◌then◌else◌}
use Rattle.mlir_ir.specs.ScopeFaults.{Break, counts_before}
use Rattle.mlir_scope.specs.declared.first.ScopeFault.{ScopeFault}

abbrev pub as_break : ScopeFault → Break
as_break f = record { at = f.token; kind = f.kind }

abbrev pub as_fault : Break → ScopeFault
as_fault b = record { token = b.at; kind = b.kind }

-- the one that counts of those so far, with one break more
abbrev pub with_break : Option ScopeFault → Break → Option ScopeFault
with_break None b = Some (as_fault b)
with_break (Some f) b = if counts_before (as_break f) b then Some f else Some (as_fault b)

-- the one that counts of those so far, with more breaks
abbrev pub noted : Option ScopeFault → List Break → Option ScopeFault
noted best [] = best
noted best (b ∷ breaks) = noted (with_break best b) breaks
