use Rattle.std.proofs.Common.{rules, ◌+◌, ◌<◌, ap, subst, ◌∙◌}
use Rattle.step_core.specs.declared.view.View.{View}
use Rattle.shared_table.specs.declared.sizes.Sizes.{Sizes}
use Rattle.shared_table.specs.Known.{Known}
use Rattle.shared_table.proofs.Inside.{as_before, learns_id_of, stands_of}
use Rattle.shared_table.proofs.LoadSteps.{loads_id}
use Rattle.shared_table.proofs.shared.Shared.load_id.Goals as goal

pub load-requires : goal.load-requires
load-requires g c =
    let sizes = ap (λ (z : Known). z.sizes) c.p.view_is ∙ c.requires.table.1 in
    let here = ap (λ (z : Sizes). (4096 + z.memo) + c.args.at) c.args.self.now.sized in
    let range = subst (λ (z : Sizes). c.args.at < z.memo) c.args.self.now.sized c.requires.place in
    (search rules, search rules, loads_id g.M.MemoMeaning.meaning g.M.MemoMeaning.laws c.args.self.now.table.shared.key _ _ _ (sizes ∙ c.args.self.now.sized) c.p.invariant.1.live.unspent c.args.at ((4096 + c.args.self.now.sizes.memo) + c.args.at) here range)

pub invariant_of-p : goal.invariant_of-p
invariant_of-p g c =
    let sizes = ap (λ (z : Known). z.sizes) c.p.view_is ∙ c.requires.table.1 in
    let told = c.load.ensures.2.1 c.args.at (ap (λ (z : Sizes). (4096 + z.memo) + c.args.at) sizes) in
    as_before c.p.inside.seat.me _ c.p.inside.seen c.p.inside.author c.p.invariant c.load.ensures.2.0 (ap (λ (z : View). z.log) told.event) (ap (λ (z : View). z.authors) told.event)

pub returns-clause-cells : goal.returns-clause-cells
returns-clause-cells g c =
    let sizes = ap (λ (z : Known). z.sizes) c.p.view_is ∙ c.requires.table.1 in
    let told = c.load.ensures.2.1 c.args.at (ap (λ (z : Sizes). (4096 + z.memo) + c.args.at) sizes) in
    learns_id_of c.p.inside.seat.me.0.view _ c.load.new.seat.me.0.view _ (ap (λ (z : Known). z.view) c.p.view_is) told.cells

pub returns-clause-stands : goal.returns-clause-stands
returns-clause-stands g c =
    let sizes = ap (λ (z : Known). z.sizes) c.p.view_is ∙ c.requires.table.1 in
    let told = c.load.ensures.2.1 c.args.at (ap (λ (z : Sizes). (4096 + z.memo) + c.args.at) sizes) in
    stands_of g.M.MemoMeaning.meaning c.p.inside.seat.me.0.view _ c.load.new.seat.me.0.view c.args.at _ (ap (λ (z : Known). z.view) c.p.view_is) told.stands

pub returns-clause-word : goal.returns-clause-word
returns-clause-word g c =
    let sizes = ap (λ (z : Known). z.sizes) c.p.view_is ∙ c.requires.table.1 in
    let told = c.load.ensures.2.1 c.args.at (ap (λ (z : Sizes). (4096 + z.memo) + c.args.at) sizes) in
    told.is_id
