use Rattle.std.proofs.Common.{◌≡◌, ◌++◌, drop, map}
use Rattle.std.specs.Prelude.{option_map}
use Rattle.scev_script.specs.Commands.{values_of}
use Rattle.scev_script.proofs.commands.values.Given as goal

-- the numbers so far, and then those of the rest
abbrev pub invariant-loop-word : goal.invariant-loop-word
invariant-loop-word l = option_map (λ ns. l.values.items ++ ns) (values_of (map (λ w. w.now) (drop l.word-index l.words))) ≡ values_of (map (λ w. w.now) l.words)
