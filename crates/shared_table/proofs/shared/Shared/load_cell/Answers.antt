use Rattle.std.proofs.Common.{rules, ◌+◌, ◌<◌, ap, sym, subst, ◌∙◌}
use Rattle.step_core.specs.declared.view.View.{View}
use Rattle.step_core.specs.Maps.{Has}
use Rattle.shared_table.specs.declared.sizes.Sizes.{Sizes}
use Rattle.shared_table.specs.Known.{Known}
use Rattle.shared_table.proofs.Inside.{as_before, learns_cell_of}
use Rattle.shared_table.proofs.LoadSteps.{loads_cell}
use Rattle.shared_table.proofs.shared.Shared.load_cell.Goals as goal

pub load-requires : goal.load-requires
load-requires g c =
    let sizes = ap (λ (z : Known). z.sizes) c.p.view_is ∙ c.requires.table.1 in
    let here = ap (λ (z : Sizes). (4096 + (z.memo + z.memo)) + c.args.id) c.args.self.now.sized in
    let range = subst (λ (z : Sizes). c.args.id < z.cells) c.args.self.now.sized c.requires.place in
    (search rules, search rules, loads_cell g.M.MemoMeaning.meaning g.M.MemoMeaning.laws c.args.self.now.table.shared.key _ _ _ (sizes ∙ c.args.self.now.sized) c.p.invariant.1.live.unspent c.args.id ((4096 + (c.args.self.now.sizes.memo + c.args.self.now.sizes.memo)) + c.args.id) here range)

pub invariant_of-p : goal.invariant_of-p
invariant_of-p g c =
    let sizes = ap (λ (z : Known). z.sizes) c.p.view_is ∙ c.requires.table.1 in
    let told = c.load.ensures.2.1 c.args.id (ap (λ (z : Sizes). (4096 + (z.memo + z.memo)) + c.args.id) sizes) in
    as_before c.p.inside.seat.me _ c.p.inside.seen c.p.inside.author c.p.invariant c.load.ensures.2.0 (ap (λ (z : View). z.log) told.event) (ap (λ (z : View). z.authors) told.event)

pub returns-clause-cells : goal.returns-clause-cells
returns-clause-cells g c =
    let sizes = ap (λ (z : Known). z.sizes) c.p.view_is ∙ c.requires.table.1 in
    let told = c.load.ensures.2.1 c.args.id (ap (λ (z : Sizes). (4096 + (z.memo + z.memo)) + c.args.id) sizes) in
    learns_cell_of c.p.inside.seat.me.0.view _ c.load.new.seat.me.0.view c.args.id _ (ap (λ (z : Known). z.view) c.p.view_is) told.cells

pub returns-clause-seen : goal.returns-clause-seen
returns-clause-seen g c = λ word has.
    let sizes = ap (λ (z : Known). z.sizes) c.p.view_is ∙ c.requires.table.1 in
    let told = c.load.ensures.2.1 c.args.id (ap (λ (z : Sizes). (4096 + (z.memo + z.memo)) + c.args.id) sizes) in
    told.seen word (subst (λ (z : View). Has z.cells c.args.id word) (sym (ap (λ (z : Known). z.view) c.p.view_is)) has)
