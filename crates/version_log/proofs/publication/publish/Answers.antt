use Rattle.std.proofs.Common.{◌≡◌, ℕ, suc, ◌+◌, ◌/◌, length, ap, subst, arith}
use Rattle.shared_table.specs.Puts.{PutsEnd}
use Rattle.version_log.proofs.Growing.{published}
use Rattle.version_log.proofs.publication.publish.Goals as goal

pub put_log-requires-clause-word : goal.put_log-requires-clause-word
put_log-requires-clause-word g c = ((c.requires.word.0, (let a = c.seen-from.ensures.seen in let b = c.requires.word.1 in omega arith)), c.requires.author)

pub returns-clause-events : goal.returns-clause-events
returns-clause-events g c =
    let at : c.seen-from.result + 1 ≡ length c.args.p.now.view.log + 1 = ap (λ (n : ℕ). n + 1) c.seen-from.ensures.seen in
    subst (λ (n : ℕ). PutsEnd c.args.p.now.view c.put_log.new.p.view n c.args.word c.put_log.result) at c.put_log.ensures.events

pub returns-clause-published : goal.returns-clause-published
returns-clause-published g c =
    let at : c.seen-from.result + 1 ≡ suc (length c.args.p.now.view.log) = (let a = c.seen-from.ensures.seen in omega arith) in
    let marked = c.requires.word.0.marked in
    published c.args.p.now.view c.put_log.new.p.view (c.seen-from.result + 1) c.args.word c.put_log.result at
    (λ z. let n : c.args.word / 144115188075855872 ≡ 0 = ap (λ (x : ℕ). x / 144115188075855872) z in omega arith) c.put_log.ensures.events
