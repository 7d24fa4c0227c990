use Rattle.std.proofs.Common.{◌≡◌, ◌+◌, drop}
use Rattle.mlir_ir.proofs.TypeAt.{packs_count}
use Rattle.mlir_ir.proofs.lookup.result_type.Given as goal

abbrev pub invariant-loop-pack : goal.invariant-loop-pack
invariant-loop-pack l = l.index + packs_count (drop l.pack-index l.packs) ≡ l.left + packs_count l.packs
