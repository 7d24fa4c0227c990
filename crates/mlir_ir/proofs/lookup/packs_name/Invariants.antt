use Rattle.std.proofs.Common.{◌≡◌, drop}
use Rattle.mlir_ir.specs.Scope.{packs_name}
use Rattle.mlir_ir.proofs.lookup.packs_name.Given as goal

abbrev pub invariant-loop-pack : goal.invariant-loop-pack
invariant-loop-pack l = packs_name (drop l.pack-index l.packs) l.left l.name ≡ packs_name l.packs l.results l.name
