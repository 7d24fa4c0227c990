use Rattle.std.proofs.Common.{length, ◌-◌, ◌≡◌, ◌≤◌, []}
use Rattle.scev_script.specs.Scripts.{scripts_of, sections_behind}
use Rattle.scev_script.proofs.input.read_scripts.Given as goal

-- the scripts so far, and those of the sections from this place on
abbrev pub invariant-sections : goal.invariant-sections
invariant-sections l = record {
  within : l.at ≤ length l.bytes;
  rest : scripts_of l.module_end [] (sections_behind l.module_end l.bytes) ≡ scripts_of l.module_end l.found.items (sections_behind l.at l.bytes);
}

abbrev pub decreases-sections : goal.decreases-sections
decreases-sections l = length l.bytes - l.at
