use Rattle.std.proofs.Common.{sym}
use Rattle.scev_queries.proofs.KnownValues.{never_uncounted}
use Rattle.scev_queries.proofs.loops.turns.Goals as goal

pub unreachable-requires : goal.unreachable-requires
unreachable-requires c = never_uncounted c.args.known.now c.requires c.args.number c.in-Some.labels (sym c.in-Some.ensures) c.in-None.ensures.count
