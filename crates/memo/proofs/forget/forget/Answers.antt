use Rattle.std.proofs.Common.{ℕ, subst}
use Rattle.memo.specs.Forgetting.{ForgetsBy}
use Rattle.memo.proofs.Placing.{forgets}
use Rattle.memo.proofs.forget.forget.Goals as goal

pub returns-clause-events : goal.returns-clause-events
returns-clause-events g c =
    subst (λ (k : ℕ). ForgetsBy g.M.MemoMeaning.meaning c.args.s.now.sizes c.args.p.now.view k c.clear.new.p.view) c.key_word-key.ensures
    (forgets g.M.MemoMeaning.meaning c.args.s.now.sizes c.args.p.now.view c.seek-met.new.p.view c.clear.new.p.view c.key_word-key.result c.seek-met.result c.seek-met.ensures.events c.clear.ensures.events)
