-- The scripts of the sections keep what those of each input keep.
use Rattle.scev_script.specs.Scripts.{sections_behind}
use Rattle.scev_script.proofs.InputLaws.{sections_keep}
use Rattle.scev_script.proofs.input.read_input.Goals as goal

pub returns-clause-kept : goal.returns-clause-kept
returns-clause-kept c =
    let end = c.module_len-module_end.result in
    sections_keep end c.in_ok-sessions.sessions (sections_behind end c.as_bytes-bytes.result.now) c.in_ok-sessions.ensures
