use Rattle.std.proofs.Common.{rules, ℕ, ◌+◌, ◌<◌, ap, sym, subst, ◌∙◌, refl}
use Rattle.step_core.specs.declared.view.View.{View}
use Rattle.step_core.specs.Maps.{Has}
use Rattle.step_core.specs.Good.{IsKeyAt}
use Rattle.shared_table.specs.declared.sizes.Sizes.{Sizes}
use Rattle.shared_table.specs.Known.{Known}
use Rattle.shared_table.specs.Steps.{tried_key}
use Rattle.shared_table.proofs.Inside.{as_before}
use Rattle.shared_table.proofs.PutSteps.{puts_key}
use Rattle.shared_table.proofs.shared.Shared.put_key.Goals as goal

pub compare_exchange-found-requires : goal.compare_exchange-found-requires
compare_exchange-found-requires g c =
    let v = ap (λ (z : Known). z.view) c.p.view_is in
    let same = ap (λ (z : Known). z.sizes) c.p.view_is ∙ (c.requires.table.1 ∙ c.args.self.now.sized) in
    let range = subst (λ (z : Sizes). c.args.at < z.memo) c.args.self.now.sized c.requires.place in
    let key = subst (λ (z : View). IsKeyAt g.M.MemoMeaning.meaning z.base z.log c.args.word) (sym v) c.requires.word in
    (search rules, search rules, puts_key g.M.MemoMeaning.meaning g.M.MemoMeaning.laws c.args.self.now.table.shared.key _ _ _ same c.p.invariant.1.live.unspent c.args.at (4096 + c.args.at) c.args.word refl range key)

pub invariant_of-p : goal.invariant_of-p
invariant_of-p g c =
    let told = c.compare_exchange-found.ensures.2.1 c.args.at refl in
    as_before c.p.inside.seat.me _ c.p.inside.seen c.p.inside.author c.p.invariant c.compare_exchange-found.ensures.2.0 (ap (λ (z : View). z.log) told.event) (ap (λ (z : View). z.authors) told.event)

pub returns-clause-event : goal.returns-clause-event
returns-clause-event g c =
    let told = c.compare_exchange-found.ensures.2.1 c.args.at refl in
    told.event ∙ (ap (λ (z : Known). tried_key z.view c.args.at c.args.word c.compare_exchange-found.result) c.p.view_is ∙ ap (λ (x : ℕ). tried_key c.args.p.now.view c.args.at c.args.word x) (sym c.kept.ensures.found))

pub returns-clause-seen : goal.returns-clause-seen
returns-clause-seen g c = λ x has.
    let told = c.compare_exchange-found.ensures.2.1 c.args.at refl in
    c.kept.ensures.found ∙ told.seen x (subst (λ (z : View). Has z.keys c.args.at x) (sym (ap (λ (z : Known). z.view) c.p.view_is)) has)
