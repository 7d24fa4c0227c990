use Rattle.std.proofs.Common.{◌≡◌, ℕ, take}
use Rattle.scev_text.specs.Kept.{loop_in}
use Rattle.scev_text.specs.Naming.{loop_number}
use Rattle.scev_text.proofs.loop_numbers.LoopNumbers.new.Given as goal

abbrev pub invariant-loop-number : goal.invariant-loop-number
invariant-loop-number l = (label : ℕ) → loop_in l.known label ≡ loop_number (take l.number l.loops) label
