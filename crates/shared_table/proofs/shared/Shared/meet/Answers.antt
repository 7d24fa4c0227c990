use Rattle.std.proofs.Common.{rules, ℕ, [], ap, ◌∙◌, refl, arith}
use Rattle.atomic_table.specs.Table.{Me}
use Rattle.step_core.specs.declared.view.View.{View}
use Rattle.step_core.specs.declared.words.Place.TheVariants.{Log}
use Rattle.step_core.specs.Events.{view_after_load}
use Rattle.step_core.specs.Views.{met}
use Rattle.shared_table.specs.declared.sizes.SizedView.{SizedView}
use Rattle.shared_table.specs.Known.{Known}
use Rattle.shared_table.proofs.LoadSteps.{loads_log}
use Rattle.shared_table.proofs.Unions.{meets, met_inside}
use Rattle.shared_table.proofs.shared.Shared.meet.Goals as goal

pub join_seat-requires : goal.join_seat-requires
join_seat-requires g c = (search rules, search rules, c.other.invariant.0, search rules, meets g.M.MemoMeaning.meaning c.args.self.now.table.shared.key _ _ _ _ c.p.invariant.1.live.unspent c.other.invariant.1.live.unspent)

pub load-found-requires : goal.load-found-requires
load-found-requires g c =
    let is = c.join_seat.ensures.2 in
    let sizes = ap (λ (z : Me ℕ SizedView). z.0.sizes) is ∙ (ap (λ (z : Known). z.sizes) c.p.view_is ∙ (c.requires.table.1 ∙ c.args.self.now.sized)) in
    let live = ap (λ (z : Me ℕ SizedView). z.0.view.spent) is ∙ c.p.invariant.1.live.unspent in
    (search rules, search rules, loads_log g.M.MemoMeaning.meaning g.M.MemoMeaning.laws c.args.self.now.table.shared.key _ _ _ sizes live 1 1 refl (omega arith, omega arith))

pub invariant_of-p : goal.invariant_of-p
invariant_of-p g c =
    let told = c.load-found.ensures.2.1 1 refl in
    met_inside c.p.inside.seat.me c.p.inside.seen c.p.inside.author c.other.inside.seat.me c.other.inside.seen c.other.inside.author c.join_seat.new.seat.me _ c.later-front.result c.seen_after-p-inside.result c.load-found.result
    c.p.invariant c.other.invariant c.join_seat.ensures.2 c.load-found.ensures.2.0 (ap (λ (z : View). z.log) told.event) (ap (λ (z : View). z.authors) told.event) c.later-front.ensures c.seen_after-p-inside.ensures

pub returns-clause-events : goal.returns-clause-events
returns-clause-events g c =
    let told = c.load-found.ensures.2.1 1 refl in
    let n : ℕ = c.load-found.result in
    let is = ap (λ (z : Me ℕ SizedView). view_after_load z.0.view (Log 1) n []) c.join_seat.ensures.2 in
    let p = ap (λ (z : Known). view_after_load (met z.view c.other.inside.seat.me.0.view) (Log 1) n []) c.p.view_is in
    let o = ap (λ (z : Known). view_after_load (met c.args.p.now.view z.view) (Log 1) n []) c.other.view_is in
    (n, told.event ∙ (is ∙ (p ∙ o)))
