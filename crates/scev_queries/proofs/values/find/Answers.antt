use Rattle.std.proofs.Common.{sym}
use Rattle.scev_queries.proofs.KnownValues.{never_without}
use Rattle.scev_queries.proofs.values.find.Goals as goal

pub unreachable-requires : goal.unreachable-requires
unreachable-requires c =
    never_without c.args.known.now c.requires c.as_bytes.result.now c.args.value.now.nth c.args.value.now.result c.in_ok-label.label.0 (sym c.in_ok-label.ensures) c.in-None.ensures.value
