use Rattle.std.proofs.Common.{◌<◌, subst}
use Rattle.cell_code.specs.Forms.{word_of}
use Rattle.shared_table.specs.declared.sizes.Sizes.{Sizes}
use Rattle.shared_table.specs.declared.sizes.SizedView.{SizedView}
use Rattle.uniquing.proofs.Seeing.{seen_inside}
use Rattle.uniquing.proofs.Looking.{reads_one}
use Rattle.uniquing.proofs.reading.load_form.Goals as goal

pub load_cell-requires-clause-place : goal.load_cell-requires-clause-place
load_cell-requires-clause-place g c =
    let z : SizedView = record { view = c.args.p.now.view; sizes = c.args.p.now.sizes } in
    subst (λ (s : Sizes). c.args.id < s.cells) c.requires.table.1 (seen_inside z c.facts.ensures c.args.id (word_of c.requires.form.0) c.requires.form.1.1)

pub returns-clause-events : goal.returns-clause-events
returns-clause-events g c =
    let e = c.load_cell.ensures in
    reads_one g.M.MemoMeaning.meaning c.args.p.now.view c.load_cell.new.p.view c.args.id c.load_cell.result (record { event = e.event; cells = e.cells; seen = e.seen; has = e.has })
