use Rattle.std.proofs.Common.{◌≡◌, ◌++◌, drop, map, string_bytes}
use Rattle.mlir_ir.specs.Canonical.{pack_text, behind_commas}
use Rattle.mlir_print.proofs.lists.push_more_packs.Given as goal

abbrev pub invariant-loop-pack : goal.invariant-loop-pack
invariant-loop-pack l = string_bytes l.out ++ behind_commas (map pack_text (drop l.pack-index l.packs)) ≡ string_bytes l.fn.out ++ behind_commas (map pack_text l.packs)
