use Rattle.std.proofs.Common.{rules, ◌≡◌, ℕ, [], Some, ap, sym, subst, ◌∙◌}
use Rattle.atomic_table.specs.Table.{Me}
use Rattle.step_core.specs.declared.view.View.{View}
use Rattle.step_core.specs.Views.{dealt}
use Rattle.shared_table.specs.declared.sizes.SizedView.{SizedView}
use Rattle.shared_table.specs.Known.{Known, IsInside}
use Rattle.shared_table.proofs.Ends.{deals}
use Rattle.shared_table.proofs.Inside.{dealer_inside, dealt_inside}
use Rattle.shared_table.proofs.opening.deal.Goals as goal

pub split_seat-seat-requires : goal.split_seat-seat-requires
split_seat-seat-requires g c =
    let fresh : c.p.inside.seat.me.0.view.events ≡ [] = ap (λ (z : Known). z.view.events) c.p.view_is ∙ c.requires.fresh.0 in
    (search rules, search rules, deals g.M.MemoMeaning.meaning c.args.shared.now.table.shared.key _ _ c.p.invariant.1.live.unspent fresh)

pub invariant_of-p : goal.invariant_of-p
invariant_of-p g c =
    let fresh : c.p.inside.seat.me.0.view.events ≡ [] = ap (λ (z : Known). z.view.events) c.p.view_is ∙ c.requires.fresh.0 in
    let nobody = ap (λ (z : Known). z.author) c.p.view_is ∙ c.requires.fresh.1 in
    subst (λ (me : Me ℕ SizedView). IsInside me c.p.inside.seen c.p.inside.author) (sym c.split_seat-seat.ensures.2) (dealer_inside c.p.inside.seat.me c.p.inside.seen c.p.inside.author c.p.invariant fresh nobody)

pub invariant_of-result : goal.invariant_of-result
invariant_of-result g c =
    let fresh : c.p.inside.seat.me.0.view.events ≡ [] = ap (λ (z : Known). z.view.events) c.p.view_is ∙ c.requires.fresh.0 in
    let one = ap (λ (z : Known). (dealt z.view).authors) c.p.view_is ∙ ap (λ (z : View). z.authors) c.requires.first in
    subst (λ (me : Me ℕ SizedView). IsInside me 0 (Some c.args.author)) (sym c.split_seat-seat.ensures.4) (dealt_inside c.p.inside.seat.me c.p.inside.seen c.p.inside.author c.args.author c.p.invariant fresh one)
