use Rattle.std.proofs.Common.{rules, ap, subst, ◌∙◌, refl}
use Rattle.shared_table.specs.Known.{Known}
use Rattle.step_core.specs.declared.view.View.{View}
use Rattle.shared_table.specs.Steps.{AsSeen}
use Rattle.shared_table.proofs.Inside.{log_inside}
use Rattle.shared_table.proofs.LoadSteps.{loads_log}
use Rattle.shared_table.proofs.shared.Shared.load_log.Goals as goal

pub load-found-requires : goal.load-found-requires
load-found-requires g c =
    let same = ap (λ (z : Known). z.sizes) c.p.view_is ∙ (c.requires.table.1 ∙ c.args.self.now.sized) in
    (search rules, search rules, loads_log g.M.MemoMeaning.meaning g.M.MemoMeaning.laws c.args.self.now.table.shared.key _ _ _ same c.p.invariant.1.live.unspent c.args.k c.args.k refl c.requires.place)

pub invariant_of-p : goal.invariant_of-p
invariant_of-p g c =
    let told = c.load-found.ensures.2.1 c.args.k refl in
    log_inside c.p.inside.seat.me _ c.p.inside.seen c.seen_after-p-inside.result c.p.inside.author c.args.k c.load-found.result c.requires.place.0 c.p.invariant c.load-found.ensures.2.0 (ap (λ (z : View). z.log) told.event) (ap (λ (z : View). z.authors) told.event) c.seen_after-p-inside.ensures

pub returns-clause-seen : goal.returns-clause-seen
returns-clause-seen g c =
    let told = c.load-found.ensures.2.1 c.args.k refl in
    subst (λ (v : View). AsSeen v c.args.k c.load-found.result) (ap (λ (z : Known). z.view) c.p.view_is) told.seen
