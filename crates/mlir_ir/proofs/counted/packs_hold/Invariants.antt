use Rattle.std.proofs.Common.{◌≡◌, drop}
use Rattle.mlir_ir.specs.Rules.{packs_hold}
use Rattle.mlir_ir.proofs.counted.packs_hold.Given as goal

abbrev pub invariant-loop-pack : goal.invariant-loop-pack
invariant-loop-pack l = packs_hold (drop l.pack-index l.packs) l.left ≡ packs_hold l.packs l.results
