use Rattle.round_trip.proofs.FlatCounts.{limits_kept}
use Rattle.round_trip.proofs.TextLimits.{limits_are, texts_read, reading_keeps}
use Rattle.round_trip.proofs.laws.canonical_texts_read.Goals as goal

pub returns-clause-limits : goal.returns-clause-limits
returns-clause-limits c = λ m s printable is. limits_are m s printable is

pub returns-clause-reads : goal.returns-clause-reads
returns-clause-reads c = λ m read s printable keeps is same. texts_read m read s printable keeps is same

pub returns-clause-kept : goal.returns-clause-kept
returns-clause-kept c = λ m read printable r. reading_keeps m read printable r

pub returns-clause-within : goal.returns-clause-within
returns-clause-within c = λ m few all each. limits_kept m.funcs few all each
