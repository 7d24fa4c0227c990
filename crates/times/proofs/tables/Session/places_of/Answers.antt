use Rattle.std.proofs.Common.{refl}
use Rattle.step_core.specs.Parts.{leaf}
use Rattle.table_runs.proofs.Authors.{has_author}
use Rattle.times.proofs.tables.Session.places_of.Goals as goal

pub put_cell-requires-clause-author : goal.put_cell-requires-clause-author
put_cell-requires-clause-author c = has_author c.in-Some._author c.args.self.now.pass.view.authors (c.in-Some.ensures.owns c.in-Some._author refl)

pub put_cell-requires-clause-word : goal.put_cell-requires-clause-word
put_cell-requires-clause-word c = (leaf c.args.n, (c.number_word-word.ensures, c.requires))
