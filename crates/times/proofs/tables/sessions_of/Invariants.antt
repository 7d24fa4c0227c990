use Rattle.std.proofs.Common.{vec_len}
use Rattle.table_runs.specs.Plain.{AreAllOf}
use Rattle.times.proofs.tables.sessions_of.Given as goal

abbrev pub invariant-loop-pass : goal.invariant-loop-pass
invariant-loop-pass l = AreAllOf l.shared.table.shared.table_id l.shared.sizes l.passes.items

abbrev pub decreases-loop-pass : goal.decreases-loop-pass
decreases-loop-pass l = vec_len l.passes
