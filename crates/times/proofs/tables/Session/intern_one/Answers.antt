use Rattle.std.proofs.Common.{refl}
use Rattle.table_runs.proofs.Authors.{has_author}
use Rattle.times.proofs.tables.Session.intern_one.Goals as goal

pub intern-requires-clause-author : goal.intern-requires-clause-author
intern-requires-clause-author c = has_author c.in-Some._author c.args.self.now.pass.view.authors (c.in-Some.ensures.owns c.in-Some._author refl)
