use Rattle.std.proofs.Common.{[], refl, sym, subst}
use Rattle.shared_table.specs.Found.{found_by}
use Rattle.memo.specs.Forgetting.{ClearsBy}
use Rattle.memo.specs.declared.met.Met.{Met}
use Rattle.memo.proofs.Placing.{cleared}
use Rattle.memo.proofs.forget.clear.Goals as goal

pub returns-then-word-ne0-clause-events : goal.returns-then-word-ne0-clause-events
returns-then-word-ne0-clause-events g c =
    let e = c.clear_id.ensures in
    subst (λ (met : Met). ClearsBy g.M.MemoMeaning.meaning c.args.p.now.view met c.clear_id.new.p.view) (sym c.in-Own.is)
    (cleared g.M.MemoMeaning.meaning c.args.p.now.view c.clear_id.new.p.view c.in-Own.at c.in-Own.word (found_by c.in-Own.word c.clear_id.result) c.if-word-ne0.true (record { event = e.event; cells = e.cells }))

pub returns-else-word-ne0-clause-events : goal.returns-else-word-ne0-clause-events
returns-else-word-ne0-clause-events g c =
    subst (λ (met : Met). ClearsBy g.M.MemoMeaning.meaning c.args.p.now.view met c.args.p.now.view) (sym c.in-Own.is)
    ([], refl, (λ z. refl, λ ne. absurd (ne c.if-word-ne0.false)))
