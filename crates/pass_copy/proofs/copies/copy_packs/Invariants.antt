use Rattle.std.proofs.Common.{◌≡◌, ◌+◌, ◌++◌, drop}
use Rattle.pass_copy.specs.Copied.{HaveGiven, naming}
use Rattle.pass_copy.specs.Renamed.{rename_packs}
use Rattle.pass_copy.proofs.copies.copy_packs.Given as goal

abbrev pub invariant-loop-pack : goal.invariant-loop-pack
invariant-loop-pack l =
    (l.made.items ++ rename_packs (naming l.fn.names) (l.fn.names.given + l.pack-index) (drop l.pack-index l.packs) ≡ rename_packs (naming l.fn.names) l.fn.names.given l.packs)
    × HaveGiven l.fn.names l.pack-index l.names
