use Rattle.std.proofs.Common.{rules, ◌+◌, ◌<◌, ap, sym, subst, ◌∙◌}
use Rattle.step_core.specs.declared.view.View.{View}
use Rattle.step_core.specs.Events.{MayPutCell}
use Rattle.shared_table.specs.declared.sizes.Sizes.{Sizes}
use Rattle.shared_table.specs.Known.{Known}
use Rattle.shared_table.specs.Steps.{PutsCell}
use Rattle.shared_table.proofs.Inside.{as_before}
use Rattle.shared_table.proofs.PutSteps.{puts_cell}
use Rattle.shared_table.proofs.shared.Shared.try_cell.Goals as goal

pub compare_exchange-requires : goal.compare_exchange-requires
compare_exchange-requires g c =
    let v = ap (λ (z : Known). z.view) c.p.view_is in
    let sizes = ap (λ (z : Known). z.sizes) c.p.view_is ∙ c.requires.table.1 in
    let here = ap (λ (z : Sizes). (4096 + (z.memo + z.memo)) + c.args.at) c.args.self.now.sized in
    let range = subst (λ (z : Sizes). c.args.at < z.cells) c.args.self.now.sized c.requires.place in
    let mine = subst (λ (z : View). MayPutCell c.args.self.now.sizes.cells z c.args.at c.args.word) (sym v) c.requires.word in
    let may = subst (λ (z : Sizes). MayPutCell z.cells c.p.inside.seat.me.0.view c.args.at c.args.word) c.args.self.now.sized mine in
    (search rules, search rules, puts_cell g.M.MemoMeaning.meaning g.M.MemoMeaning.laws c.args.self.now.table.shared.key _ _ _ (sizes ∙ c.args.self.now.sized) c.p.invariant.1.live.unspent c.args.at ((4096 + (c.args.self.now.sizes.memo + c.args.self.now.sizes.memo)) + c.args.at) c.args.word here range may)

pub invariant_of-p : goal.invariant_of-p
invariant_of-p g c =
    let sizes = ap (λ (z : Known). z.sizes) c.p.view_is ∙ c.requires.table.1 in
    let told = c.compare_exchange.ensures.2.1 c.args.at (ap (λ (z : Sizes). (4096 + (z.memo + z.memo)) + c.args.at) sizes) in
    as_before c.p.inside.seat.me _ c.p.inside.seen c.p.inside.author c.p.invariant c.compare_exchange.ensures.2.0 (ap (λ (z : View). z.log) told.event) (ap (λ (z : View). z.authors) told.event)

pub returns-clause-event : goal.returns-clause-event
returns-clause-event g c =
    let sizes = ap (λ (z : Known). z.sizes) c.p.view_is ∙ c.requires.table.1 in
    let told = c.compare_exchange.ensures.2.1 c.args.at (ap (λ (z : Sizes). (4096 + (z.memo + z.memo)) + c.args.at) sizes) in
    subst (λ (z : View). PutsCell c.args.word z c.args.at c.compare_exchange.result c.compare_exchange.new.seat.me.0.view) (ap (λ (z : Known). z.view) c.p.view_is) told
