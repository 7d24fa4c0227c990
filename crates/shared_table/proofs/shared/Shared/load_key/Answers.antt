use Rattle.std.proofs.Common.{rules, ◌+◌, ap, sym, subst, ◌∙◌, refl}
use Rattle.step_core.specs.declared.view.View.{View}
use Rattle.step_core.specs.Maps.{Has}
use Rattle.shared_table.specs.Known.{Known}
use Rattle.shared_table.proofs.Inside.{as_before}
use Rattle.shared_table.proofs.LoadSteps.{loads_key}
use Rattle.shared_table.proofs.shared.Shared.load_key.Goals as goal

pub load-requires : goal.load-requires
load-requires g c =
    let same = ap (λ (z : Known). z.sizes) c.p.view_is ∙ (c.requires.table.1 ∙ c.args.self.now.sized) in
    (search rules, search rules, loads_key g.M.MemoMeaning.meaning g.M.MemoMeaning.laws c.args.self.now.table.shared.key _ _ _ same c.p.invariant.1.live.unspent c.args.at (4096 + c.args.at) refl (search rules))

pub invariant_of-p : goal.invariant_of-p
invariant_of-p g c =
    let told = c.load.ensures.2.1 c.args.at refl in
    as_before c.p.inside.seat.me _ c.p.inside.seen c.p.inside.author c.p.invariant c.load.ensures.2.0 (ap (λ (z : View). z.log) told.event) (ap (λ (z : View). z.authors) told.event)

pub returns-clause-seen : goal.returns-clause-seen
returns-clause-seen g c = λ word has.
    let told = c.load.ensures.2.1 c.args.at refl in
    told.seen word (subst (λ (z : View). Has z.keys c.args.at word) (sym (ap (λ (z : Known). z.view) c.p.view_is)) has)
