use Rattle.uniquing.proofs.Histories.{starts, others, looks, forks, joins}
use Rattle.uniquing.proofs.Kept.{closes, counts}
use Rattle.uniquing.proofs.accounting.cells_are_asked_for.Goals as goal

pub returns-clause-starts : goal.returns-clause-starts
returns-clause-starts g c = starts

pub returns-clause-others : goal.returns-clause-others
returns-clause-others g c = others g.M.MemoMeaning.meaning

pub returns-clause-forks : goal.returns-clause-forks
returns-clause-forks g c = forks

pub returns-clause-joins : goal.returns-clause-joins
returns-clause-joins g c = joins

pub returns-clause-closes : goal.returns-clause-closes
returns-clause-closes g c = closes g.M.MemoMeaning.meaning

pub returns-clause-counts : goal.returns-clause-counts
returns-clause-counts g c = counts g.M.MemoMeaning.meaning

pub returns-clause-looks : goal.returns-clause-looks
returns-clause-looks g c = looks g.M.MemoMeaning.meaning
