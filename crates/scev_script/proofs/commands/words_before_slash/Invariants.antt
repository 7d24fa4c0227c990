use Rattle.std.proofs.Common.{◌≡◌, ◌+◌, drop, map}
use Rattle.std.specs.List.{position_or_len}
use Rattle.scev_script.specs.Commands.{is_slash}
use Rattle.scev_script.proofs.commands.words_before_slash.Given as goal

abbrev pub invariant-loop-at : goal.invariant-loop-at
invariant-loop-at l = l.at + position_or_len is_slash (map (λ w. w.now) (drop l.at l.words)) ≡ position_or_len is_slash (map (λ w. w.now) l.words)
