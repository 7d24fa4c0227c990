use Rattle.std.proofs.Common.{rules, ◌≡◌, ℕ, ◌-◌, ◌+◌, List, length, ap, sym, subst, ◌∙◌, arith}
use Rattle.std.proofs.lemmas.List.{length_push}
use Rattle.step_core.specs.declared.view.View.{View}
use Rattle.atomic_table.specs.Seated.{TableId}
use Rattle.shared_table.specs.declared.sizes.Sizes.{Sizes}
use Rattle.shared_table.specs.Known.{Known, IsOpened}
use Rattle.shared_table.specs.Opening.{AreOpened}
use Rattle.shared_table.proofs.Dealt.{first_alone, others, last_alone, one_more}
use Rattle.shared_table.proofs.opening.deal_all.Goals as goal

pub deal-one-requires-clause-fresh : goal.deal-one-requires-clause-fresh
deal-one-requires-clause-fresh g c = (ap (λ (z : View). z.events) c.loop-i.invariant.rest.view, c.loop-i.invariant.rest.author)

pub deal-one-requires-clause-first : goal.deal-one-requires-clause-first
deal-one-requires-clause-first g c = first_alone c.args.all.view.base c.args.authors c.loop-i.rest.view c.loop-i.i c.loop-i.invariant.rest.view (omega arith)

pub loop-i-preserved : goal.loop-i-preserved
loop-i-preserved g c =
    let v = c.loop-i.invariant in
    let base : List ℕ = c.args.all.view.base in
    let count : ℕ = c.args.authors in
    let table : TableId = c.args.shared.now.table.shared.table_id in
    let sizes : Sizes = c.args.shared.now.sizes in
    let i : ℕ = c.loop-i.i in
    let items = c.push_reserved.ensures.items in
    let d = c.deal-one.ensures in
    let one : IsOpened base count table sizes i c.deal-one.result = subst (λ (z : View). IsOpened z.base z.count table sizes i c.deal-one.result) v.rest.view d.dealt in
    record {
      count = search rules;
      long = ap length items ∙ (length_push c.loop-i.passes.items c.deal-one.result ∙ ap (λ (z : ℕ). z + 1) v.long);
      room = search rules;
      rest = record { of = d.rest; view = d.dealer ∙ others base count c.loop-i.rest.view i v.rest.view (omega arith); author = d.nobody };
      each = subst (λ (ps : List Known). AreOpened base count table sizes (i + 1) ps) (sym items) (one_more base count table sizes c.loop-i.passes.items c.deal-one.result i v.long v.each one);
    }

pub own-requires : goal.own-requires
own-requires g c = last_alone c.args.all.view.base c.args.authors c.loop-i.rest.view c.loop-i.i (c.args.authors - 1) c.loop-i.invariant.rest.view (omega arith) (omega arith)

pub returns-clause-passes : goal.returns-clause-passes
returns-clause-passes g c =
    let v = c.loop-i.invariant in
    let base : List ℕ = c.args.all.view.base in
    let count : ℕ = c.args.authors in
    let table : TableId = c.args.shared.now.table.shared.table_id in
    let sizes : Sizes = c.args.shared.now.sizes in
    let i : ℕ = c.loop-i.i in
    let items = c.push_reserved-2.ensures.items in
    let at : c.args.authors - 1 ≡ i = omega arith in
    let whole : i + 1 ≡ c.args.authors = omega arith in
    let own = subst (λ (z : View). IsOpened z.base z.count c.loop-i.rest.table c.loop-i.rest.sizes (c.args.authors - 1) c.own.result) v.rest.view c.own.ensures in
    let here = subst (λ (z : ℕ). IsOpened base count c.loop-i.rest.table c.loop-i.rest.sizes z c.own.result) at own in
    let named = subst (λ (t : TableId). IsOpened base count t c.loop-i.rest.sizes i c.own.result) v.rest.of.0 here in
    let one = subst (λ (z : Sizes). IsOpened base count table z i c.own.result) v.rest.of.1 named in
    subst (λ (n : ℕ). AreOpened base count table sizes n c.push_reserved-2.new.self.items) whole
    (subst (λ (ps : List Known). AreOpened base count table sizes (i + 1) ps) (sym items) (one_more base count table sizes c.loop-i.passes.items c.own.result i v.long v.each one))
