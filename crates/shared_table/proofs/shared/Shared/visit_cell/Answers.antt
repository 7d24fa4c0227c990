use Rattle.std.proofs.Common.{ℕ, sym, subst}
use Rattle.step_core.specs.Maps.{Has}
use Rattle.step_core.proofs.Slots.{put_won, put_lost}
use Rattle.shared_table.proofs.Probing.{load_gains, put_gains, gains_both, may_more, visit_once, visit_twice}
use Rattle.shared_table.proofs.shared.Shared.visit_cell.Goals as goal

pub try_cell-other-requires-clause-word : goal.try_cell-other-requires-clause-word
try_cell-other-requires-clause-word g c =
    let e = c.load_cell-found.ensures in
    may_more c.args.self.now.sizes.cells c.args.at c.args.word c.args.p.now.view c.load_cell-found.new.p.view (load_gains _ _ c.args.at c.load_cell-found.result (record { event = e.event; cells = e.cells; seen = e.seen; has = e.has })) c.requires.word

pub returns-then-found-ne0-clause-grows : goal.returns-then-found-ne0-clause-grows
returns-then-found-ne0-clause-grows g c =
    let e = c.load_cell-found.ensures in
    load_gains _ _ c.args.at c.load_cell-found.result (record { event = e.event; cells = e.cells; seen = e.seen; has = e.has })

pub returns-then-found-ne0-clause-events : goal.returns-then-found-ne0-clause-events
returns-then-found-ne0-clause-events g c =
    let e = c.load_cell-found.ensures in
    visit_once g.M.MemoMeaning.meaning _ _ c.args.at c.load_cell-found.result c.args.word (record { event = e.event; cells = e.cells; seen = e.seen; has = e.has }) c.if-found-ne0.true

pub returns-then-other-eq0-clause-grows : goal.returns-then-other-eq0-clause-grows
returns-then-other-eq0-clause-grows g c =
    let e = c.load_cell-found.ensures in
    gains_both _ _ _ (load_gains _ _ c.args.at c.load_cell-found.result (record { event = e.event; cells = e.cells; seen = e.seen; has = e.has })) (put_gains _ _ c.args.word c.args.at c.try_cell-other.result c.try_cell-other.ensures.event)

pub returns-then-other-eq0-clause-has : goal.returns-then-other-eq0-clause-has
returns-then-other-eq0-clause-has g c = subst (λ (z : ℕ). Has c.try_cell-other.new.p.view.cells c.args.at z) (put_won c.try_cell-other.result c.args.word c.if-other-eq0.true) c.try_cell-other.ensures.event.has

pub returns-then-other-eq0-clause-events : goal.returns-then-other-eq0-clause-events
returns-then-other-eq0-clause-events g c =
    let e = c.load_cell-found.ensures in
    visit_twice g.M.MemoMeaning.meaning _ _ _ c.args.at c.load_cell-found.result c.try_cell-other.result c.args.word c.args.word (record { event = e.event; cells = e.cells; seen = e.seen; has = e.has }) c.if-found-ne0.false c.try_cell-other.ensures.event
    (sym (put_won c.try_cell-other.result c.args.word c.if-other-eq0.true))

pub returns-else-other-eq0-clause-grows : goal.returns-else-other-eq0-clause-grows
returns-else-other-eq0-clause-grows g c =
    let e = c.load_cell-found.ensures in
    gains_both _ _ _ (load_gains _ _ c.args.at c.load_cell-found.result (record { event = e.event; cells = e.cells; seen = e.seen; has = e.has })) (put_gains _ _ c.args.word c.args.at c.try_cell-other.result c.try_cell-other.ensures.event)

pub returns-else-other-eq0-clause-has : goal.returns-else-other-eq0-clause-has
returns-else-other-eq0-clause-has g c = subst (λ (z : ℕ). Has c.try_cell-other.new.p.view.cells c.args.at z) (put_lost c.try_cell-other.result c.args.word c.if-other-eq0.false) c.try_cell-other.ensures.event.has

pub returns-else-other-eq0-clause-events : goal.returns-else-other-eq0-clause-events
returns-else-other-eq0-clause-events g c =
    let e = c.load_cell-found.ensures in
    visit_twice g.M.MemoMeaning.meaning _ _ _ c.args.at c.load_cell-found.result c.try_cell-other.result c.args.word c.try_cell-other.result (record { event = e.event; cells = e.cells; seen = e.seen; has = e.has }) c.if-found-ne0.false c.try_cell-other.ensures.event
    (sym (put_lost c.try_cell-other.result c.args.word c.if-other-eq0.false))
