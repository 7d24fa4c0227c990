use Rattle.std.proofs.Common.{length, ◌-◌, ◌≡◌, ◌≤◌}
use Rattle.scev_script.specs.Lines.{lines_at}
use Rattle.scev_script.specs.Scripts.{sections_of, sections_behind}
use Rattle.scev_script.proofs.input.module_len.Given as goal

-- no section begins before this place
abbrev pub invariant-lines : goal.invariant-lines
invariant-lines l = record {
  within : l.at ≤ length l.bytes;
  rest : sections_of (lines_at 0 l.bytes) ≡ sections_behind l.at l.bytes;
}

abbrev pub decreases-lines : goal.decreases-lines
decreases-lines l = length l.bytes - l.at
