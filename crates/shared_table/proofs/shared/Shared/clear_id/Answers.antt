use Rattle.std.proofs.Common.{rules, ℕ, ◌+◌, ◌<◌, ap, sym, subst, ◌∙◌}
use Rattle.step_core.specs.declared.view.View.{View}
use Rattle.shared_table.specs.declared.sizes.Sizes.{Sizes}
use Rattle.shared_table.specs.Known.{Known}
use Rattle.shared_table.specs.Steps.{tried_clear, LearnsUncleared}
use Rattle.shared_table.proofs.Inside.{as_before}
use Rattle.shared_table.proofs.PutSteps.{clears_id}
use Rattle.shared_table.proofs.shared.Shared.clear_id.Goals as goal

pub compare_exchange-found-requires : goal.compare_exchange-found-requires
compare_exchange-found-requires g c =
    let sizes = ap (λ (z : Known). z.sizes) c.p.view_is ∙ c.requires.table.1 in
    let here = ap (λ (z : Sizes). (4096 + z.memo) + c.args.at) c.args.self.now.sized in
    let range = subst (λ (z : Sizes). c.args.at < z.memo) c.args.self.now.sized c.requires.place in
    (search rules, search rules, clears_id g.M.MemoMeaning.meaning g.M.MemoMeaning.laws c.args.self.now.table.shared.key _ _ _ (sizes ∙ c.args.self.now.sized) c.p.invariant.1.live.unspent c.args.at ((4096 + c.args.self.now.sizes.memo) + c.args.at) c.args.old here range)

pub invariant_of-p : goal.invariant_of-p
invariant_of-p g c =
    let sizes = ap (λ (z : Known). z.sizes) c.p.view_is ∙ c.requires.table.1 in
    let told = c.compare_exchange-found.ensures.2.1 c.args.at (ap (λ (z : Sizes). (4096 + z.memo) + c.args.at) sizes) in
    as_before c.p.inside.seat.me _ c.p.inside.seen c.p.inside.author c.p.invariant c.compare_exchange-found.ensures.2.0 (ap (λ (z : View). z.log) told.event) (ap (λ (z : View). z.authors) told.event)

pub returns-clause-event : goal.returns-clause-event
returns-clause-event g c =
    let sizes = ap (λ (z : Known). z.sizes) c.p.view_is ∙ c.requires.table.1 in
    let told = c.compare_exchange-found.ensures.2.1 c.args.at (ap (λ (z : Sizes). (4096 + z.memo) + c.args.at) sizes) in
    told.event ∙ (ap (λ (z : Known). tried_clear z.view c.args.at c.args.old c.compare_exchange-found.result c.compare_exchange-found.new.seat.me.0.view.cells) c.p.view_is ∙ ap (λ (x : ℕ). tried_clear c.args.p.now.view c.args.at c.args.old x c.compare_exchange-found.new.seat.me.0.view.cells) (sym c.kept.ensures.found))

pub returns-clause-cells : goal.returns-clause-cells
returns-clause-cells g c =
    let sizes = ap (λ (z : Known). z.sizes) c.p.view_is ∙ c.requires.table.1 in
    let told = c.compare_exchange-found.ensures.2.1 c.args.at (ap (λ (z : Sizes). (4096 + z.memo) + c.args.at) sizes) in
    subst (λ (x : ℕ). LearnsUncleared c.args.p.now.view c.args.old x c.compare_exchange-found.new.seat.me.0.view) (sym c.kept.ensures.found)
    (subst (λ (z : View). LearnsUncleared z c.args.old c.compare_exchange-found.result c.compare_exchange-found.new.seat.me.0.view) (ap (λ (z : Known). z.view) c.p.view_is) told.cells)
