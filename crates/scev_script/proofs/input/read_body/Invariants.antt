use Rattle.std.proofs.Common.{length, ◌-◌, ◌≡◌, ◌≤◌}
use Rattle.scev_script.specs.Lines.{lines_behind}
use Rattle.scev_script.specs.Scripts.{body_of, commands_of, commands_behind, sections_behind}
use Rattle.scev_script.proofs.input.read_body.Given as goal

-- the commands so far, and those of the lines from this place on
abbrev pub invariant-lines : goal.invariant-lines
invariant-lines l = record {
  behind : l.from ≤ l.at;
  within : l.at ≤ length l.bytes;
  commands : commands_behind l.module_end l.from l.bytes ≡ commands_of l.module_end l.commands.list.items (body_of (lines_behind l.at l.bytes));
  rest : sections_behind l.from l.bytes ≡ sections_behind l.at l.bytes;
}

abbrev pub decreases-lines : goal.decreases-lines
decreases-lines l = length l.bytes - l.at
