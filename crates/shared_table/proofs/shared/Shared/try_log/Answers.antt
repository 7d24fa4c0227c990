use Rattle.std.proofs.Common.{rules, ℕ, ◌+◌, ◌-◌, ◌<◌, ◌≤◌, length, ap, sym, subst, ◌∙◌, refl}
use Rattle.step_core.specs.declared.view.View.{View}
use Rattle.step_core.specs.Words.{author_of}
use Rattle.step_core.specs.Maps.{times}
use Rattle.step_core.specs.Events.{grown}
use Rattle.shared_table.specs.Known.{Known}
use Rattle.shared_table.proofs.Held.{seen_short}
use Rattle.shared_table.proofs.Inside.{log_inside}
use Rattle.shared_table.proofs.PutSteps.{puts_log}
use Rattle.shared_table.proofs.Tries.{record_full, seen_now}
use Rattle.shared_table.proofs.shared.Shared.try_log.Goals as goal

pub compare_exchange-found-requires : goal.compare_exchange-found-requires
compare_exchange-found-requires g c =
    let v = ap (λ (z : Known). z.view) c.p.view_is in
    let same = ap (λ (z : Known). z.sizes) c.p.view_is ∙ (c.requires.table.1 ∙ c.args.self.now.sized) in
    let below = subst (λ (z : View). c.args.k ≤ length z.log + 1) (sym v) c.requires.place.2 in
    let by = subst (λ (z : View). 0 < times (author_of c.args.rec) z.authors) (sym v) c.requires.word.1 in
    (search rules, search rules, puts_log g.M.MemoMeaning.meaning g.M.MemoMeaning.laws c.args.self.now.table.shared.key _ _ _ same c.p.invariant.1.live.unspent c.args.k c.args.k c.args.rec refl (c.requires.place.0, c.requires.place.1) below c.requires.word.0 by)

pub invariant_of-p : goal.invariant_of-p
invariant_of-p g c =
    let told = c.compare_exchange-found.ensures.2.1 c.args.k refl in
    let log = ap (λ (z : View). z.log) told.event ∙ ap (λ (x : ℕ). grown c.p.inside.seat.me.0.view.log (c.args.k - 1) x) (sym c.standing-now.ensures) in
    log_inside c.p.inside.seat.me _ c.p.inside.seen c.seen_after-p-inside.result c.p.inside.author c.args.k c.standing-now.result c.requires.place.0 c.p.invariant c.compare_exchange-found.ensures.2.0 log (ap (λ (z : View). z.authors) told.event) c.seen_after-p-inside.ensures

pub returns-clause-seen : goal.returns-clause-seen
returns-clause-seen g c =
    let told = c.compare_exchange-found.ensures.2.1 c.args.k refl in
    let v = ap (λ (z : Known). z.view) c.p.view_is in
    let below = subst (λ (z : View). c.args.k ≤ length z.log + 1) (sym v) c.requires.place.2 in
    let k = seen_now c.p.inside.seat.me.0.view.log c.args.k c.compare_exchange-found.result c.args.rec c.requires.place.0 below (record_full c.args.k c.args.rec c.requires.word.0) in
    let long = ap (λ (z : View). length z.log) told.event in
    (subst (λ (n : ℕ). c.args.k ≤ n) (sym long) k, seen_short c.compare_exchange-found.new.seat.me.0 c.compare_exchange-found.ensures.2.0.2)
