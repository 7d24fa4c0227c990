use Rattle.std.proofs.Common.{◌≡◌, ◌++◌, drop}
use Rattle.pass_copy.specs.Listed.{pack_names, texts}
use Rattle.pass_copy.proofs.given.push_packs.Given as goal

abbrev pub invariant-loop-pack : goal.invariant-loop-pack
invariant-loop-pack l = texts l.taken.names.items ++ pack_names (drop l.pack-index l.packs) l.left ≡ texts l.fn.taken.names.items ++ pack_names l.packs l.results
