use Rattle.std.proofs.Common.{◌≡◌, ℕ, suc, ◌+◌, ◌-◌, [], refl, subst, ◌∙◌, arith}
use Rattle.memo.specs.Forgetting.{no_label}
use Rattle.memo.proofs.Gaining.{gains_both, log_kept}
use Rattle.memo.proofs.Placing.{Cleared, one_label}
use Rattle.memo.proofs.forget.forget_range.Goals as goal

pub loop-k-init : goal.loop-k-init
loop-k-init g c = record { same = (refl, refl, refl, refl); grows = record { rest = refl; keys = λ at x h. h; cells = λ at x h. h }; events = ([], refl, no_label) }

pub forget-requires-clause-table : goal.forget-requires-clause-table
forget-requires-clause-table g c = let s = c.loop-k.invariant.same in (s.0 ∙ c.requires.table.0, s.2 ∙ c.requires.table.1)

pub forget-requires-clause-version : goal.forget-requires-clause-version
forget-requires-clause-version g c = log_kept c.args.p.now.view c.loop-k.p.view c.args.version c.loop-k.invariant.grows c.requires.version

pub loop-k-preserved : goal.loop-k-preserved
loop-k-preserved g c =
    let i = c.loop-k.invariant in
    let e = c.forget.ensures in
    let s = e.same in
    let from : ℕ = c.args.from.0 in
    let here : c.from-first.result + c.loop-k.k ≡ from + c.loop-k.k = omega arith in
    let next : suc c.loop-k.k ≡ c.loop-k.k + 1 = omega arith in
    record {
      same = (s.0 ∙ i.same.0, s.1 ∙ i.same.1, s.2 ∙ i.same.2, s.3 ∙ i.same.3);
      grows = gains_both c.args.p.now.view c.loop-k.p.view c.forget.new.p.view i.grows e.grows;
      events = subst (λ (n : ℕ). Cleared g.M.MemoMeaning.meaning c.args.s.now.sizes c.args.p.now.view c.args.version from n c.forget.new.p.view) next
          (one_label g.M.MemoMeaning.meaning c.args.s.now.sizes c.args.p.now.view c.loop-k.p.view c.forget.new.p.view c.args.version from c.loop-k.k (c.from-first.result + c.loop-k.k) here i.events e.events);
    }

pub returns-clause-same : goal.returns-clause-same
returns-clause-same g c = c.loop-k.invariant.same

pub returns-clause-grows : goal.returns-clause-grows
returns-clause-grows g c = c.loop-k.invariant.grows

pub returns-clause-events : goal.returns-clause-events
returns-clause-events g c =
    let from : ℕ = c.args.from.0 in
    let end : c.loop-k.k ≡ (c.args.to.0 + 1) - from = omega arith in
    subst (λ (n : ℕ). Cleared g.M.MemoMeaning.meaning c.args.s.now.sizes c.args.p.now.view c.args.version from n c.loop-k.p.view) end c.loop-k.invariant.events
