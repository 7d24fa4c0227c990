use Rattle.std.proofs.Common.{◌≡◌, ℕ, ◌+◌, ◌%◌, ◌<◌, ap, ◌∙◌, List, [], refl, sym, subst, arith, rules}
use Rattle.step_core.specs.declared.view.Access.{Access}
use Rattle.step_core.specs.Words.{IsSize}
use Rattle.step_core.specs.Paths.{distance}
use Rattle.shared_table.specs.declared.sizes.Sizes.{Sizes}
use Rattle.shared_table.specs.Made.{MakesAll}
use Rattle.shared_table.specs.CellPuts.{path_place, Passes, start}
use Rattle.shared_table.proofs.Probing.{seen_size, distance_below, may_at, one_further, gains_both, probe_more, probe_last}
use Rattle.shared_table.proofs.shared.Shared.put_cell.Goals as goal

pub start-first-requires : goal.start-first-requires
start-first-requires g c = subst (λ (z : Sizes). IsSize z.cells) c.requires.table.1 (seen_size _ c.facts.ensures)

pub visit_cell-requires-clause-word : goal.visit_cell-requires-clause-word
visit_cell-requires-clause-word g c =
    let size : ℕ = c.args.self.now.sizes.cells in
    let sized : IsSize size = subst (λ (z : Sizes). IsSize z.cells) c.requires.table.1 (seen_size _ c.facts.ensures) in
    let at : (c.start-first.result + c.loop-k.k) % size ≡ path_place size c.args.word c.loop-k.k = ap (λ (z : ℕ). (z + c.loop-k.k) % size) c.start-first.ensures in
    may_at size sized c.args.p.now.view c.loop-k.p.view c.args.word c.loop-k.k _ c.loop-k-test.true at c.loop-k.invariant.grows c.requires.author c.requires.word c.loop-k.invariant.passed

pub loop-k-init : goal.loop-k-init
loop-k-init g c = record { same = (refl, refl, refl, refl); grows = record { rest = refl; cells = λ at x h. h }; events = ([], refl, start); passed = λ j l near. absurd (omega arith) }

pub loop-k-preserved : goal.loop-k-preserved
loop-k-preserved g c =
    let size : ℕ = c.args.self.now.sizes.cells in
    let sized : IsSize size = subst (λ (z : Sizes). IsSize z.cells) c.requires.table.1 (seen_size _ c.facts.ensures) in
    let at : (c.start-first.result + c.loop-k.k) % size ≡ path_place size c.args.word c.loop-k.k = ap (λ (z : ℕ). (z + c.loop-k.k) % size) c.start-first.ensures in
    let i = c.loop-k.invariant in
    let v = c.visit_cell.ensures in
    let s = v.same in
    record {
      same = (s.0 ∙ i.same.0, s.1 ∙ i.same.1, s.2 ∙ i.same.2, s.3 ∙ i.same.3);
      grows = gains_both c.args.p.now.view c.loop-k.p.view c.visit_cell.new.p.view i.grows v.grows;
      events = probe_more g.M.MemoMeaning.meaning c.args.self.now.sizes c.args.p.now.view c.loop-k.p.view c.visit_cell.new.p.view c.args.word c.loop-k.k _ c.visit_cell.result at c.if-visit_cell-word.false i.events v.events;
      passed = one_further size sized c.loop-k.p.view c.visit_cell.new.p.view c.args.word c.loop-k.k _ c.visit_cell.result c.loop-k-test.true (search rules) at v.grows v.has c.if-visit_cell-word.false i.passed;
    }

pub returns-then-visit_cell-word-clause-events : goal.returns-then-visit_cell-word-clause-events
returns-then-visit_cell-word-clause-events g c =
    let size : ℕ = c.args.self.now.sizes.cells in
    let at : (c.start-first.result + c.loop-k.k) % size ≡ path_place size c.args.word c.loop-k.k = ap (λ (z : ℕ). (z + c.loop-k.k) % size) c.start-first.ensures in
    probe_last g.M.MemoMeaning.meaning c.args.self.now.sizes c.args.p.now.view c.loop-k.p.view c.visit_cell.new.p.view c.args.word c.loop-k.k _ c.visit_cell.result c.loop-k-test.true at c.if-visit_cell-word.true c.loop-k.invariant.events c.visit_cell.ensures.events

pub returns-clause-events : goal.returns-clause-events
returns-clause-events g c =
    let end : c.loop-k.k ≡ c.args.self.now.sizes.cells = (let up = c.loop-k.auto.k-end in let f = c.loop-k-test.false in omega arith) in
    subst (λ (z : ℕ). (es : List Access) × MakesAll g.M.MemoMeaning.meaning c.args.p.now.view es c.loop-k.p.view × Passes c.args.self.now.sizes.cells c.args.word z es) end c.loop-k.invariant.events

pub returns-clause-put : goal.returns-clause-put
returns-clause-put g c =
    let size : ℕ = c.args.self.now.sizes.cells in
    let sized : IsSize size = subst (λ (z : Sizes). IsSize z.cells) c.requires.table.1 (seen_size _ c.facts.ensures) in
    let end : c.loop-k.k ≡ size = (let up = c.loop-k.auto.k-end in let f = c.loop-k-test.false in omega arith) in
    λ j lt. c.loop-k.invariant.passed j lt (subst (λ (z : ℕ). distance size c.args.word j < z) (sym end) (distance_below size c.args.word j sized))
