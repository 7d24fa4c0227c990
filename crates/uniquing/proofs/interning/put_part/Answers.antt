use Rattle.std.proofs.Common.{ℕ, ◌∙◌, sym, subst}
use Rattle.step_core.specs.Cells.{WordStands}
use Rattle.uniquing.proofs.Filling.{seen_for, put_home, put_full}
use Rattle.uniquing.proofs.interning.put_part.Goals as goal

pub returns-in-Home-clause-interned : goal.returns-in-Home-clause-interned
returns-in-Home-clause-interned g c = λ part ws.
    let w = c.put_cell-put.new.p.view in
    let seen = seen_for w c.put_cell-put.new.p.sizes c.args.s.now.sizes (c.in-Home.ensures.same.2 ∙ c.requires.table.1) c.facts.ensures in
    let word = subst (λ (x : ℕ). WordStands c.args.p.now.view.cells x part) (sym c.cell_word.ensures) ws in
    put_home g.M.MemoMeaning.meaning c.args.s.now.sizes c.args.p.now.view w c.cell_word.result part seen word c.in-Home.ensures.grows c.in-Home.id c.in-Home.ensures.put.1 c.in-Home.ensures.events

pub returns-in-Full-clause-interned : goal.returns-in-Full-clause-interned
returns-in-Full-clause-interned g c = λ part ws.
    let w = c.put_cell-put.new.p.view in
    let seen = seen_for w c.put_cell-put.new.p.sizes c.args.s.now.sizes (c.in-Full.ensures.same.2 ∙ c.requires.table.1) c.facts.ensures in
    let word = subst (λ (x : ℕ). WordStands c.args.p.now.view.cells x part) (sym c.cell_word.ensures) ws in
    put_full g.M.MemoMeaning.meaning c.args.s.now.sizes c.args.p.now.view w c.cell_word.result part seen word c.in-Full.ensures.grows _ c.in-Full.ensures.put c.in-Full.ensures.events
