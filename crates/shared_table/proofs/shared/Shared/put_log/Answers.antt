use Rattle.std.proofs.Common.{◌≡◌, ℕ, ◌<◌, List, [], ◌∷◌, ◌++◌, length, arith, ap, sym, subst, ◌∙◌}
use Rattle.step_core.specs.declared.view.View.{View}
use Rattle.step_core.specs.Words.{author_of}
use Rattle.step_core.specs.Maps.{times}
use Rattle.shared_table.specs.Known.{Known}
use Rattle.shared_table.specs.Steps.{tried_log}
use Rattle.shared_table.specs.Puts.{IsLost}
use Rattle.shared_table.proofs.Tries.{one_more_try, one_more_lost}
use Rattle.shared_table.proofs.shared.Shared.put_log.Goals as goal

pub try_log-requires-clause-table : goal.try_log-requires-clause-table
try_log-requires-clause-table g c = let s = c.loop-k.invariant.same in (s.0 ∙ c.requires.table.0, s.2 ∙ c.requires.table.1)

pub try_log-requires-clause-word : goal.try_log-requires-clause-word
try_log-requires-clause-word g c =
    let p = c.loop-k.invariant.place in
    let w = c.requires.word.0 in
    let low = p.0 in
    ((w.0, omega arith), subst (λ (l : List ℕ). 0 < times (author_of c.args.rec) l) (sym c.loop-k.invariant.authors) c.requires.word.1)

pub returns-then-try_log-eq0-clause-events : goal.returns-then-try_log-eq0-clause-events
returns-then-try_log-eq0-clause-events g c =
    let i = c.loop-k.invariant in
    let z = c.if-try_log-eq0.true in
    let now : c.try_log.new.p.view ≡ tried_log c.loop-k.p.view c.loop-k.k c.args.rec 0 = c.try_log.ensures.event ∙ ap (tried_log c.loop-k.p.view c.loop-k.k c.args.rec) z in
    (i.lost.0, i.lost.1, omega arith, one_more_try _ _ _ _ c.loop-k.k _ 0 i.lost.0 i.lost.1.upto i.lost.2 now)

pub loop-k-preserved : goal.loop-k-preserved
loop-k-preserved g c =
    let i = c.loop-k.invariant in
    let n : ℕ = c.try_log.result in
    let e = c.try_log.ensures.event in
    let s = c.try_log.ensures.same in
    let low = i.place.0 in
    let seen = c.try_log.ensures.seen.0 in
    record {
      same = (s.0 ∙ i.same.0, s.1 ∙ i.same.1, s.2 ∙ i.same.2, s.3 ∙ i.same.3);
      place = (omega arith, omega arith, omega arith);
      authors = ap (λ (z : View). z.authors) e ∙ i.authors;
      lost = (
        i.lost.0 ++ n ∷ [],
        one_more_lost _ c.loop-k.k n i.lost.0 i.lost.1 c.if-try_log-eq0.false,
        one_more_try _ _ _ _ c.loop-k.k _ n i.lost.0 i.lost.1.upto i.lost.2 e,
      );
    }

pub returns-clause-events : goal.returns-clause-events
returns-clause-events g c =
    let i = c.loop-k.invariant in
    let k : c.loop-k.k ≡ 4096 = (let p = i.place.1 in omega arith) in
    let v : c.p.inside.seat.me.0.view ≡ c.loop-k.p.view = ap (λ (z : Known). z.view) c.p.view_is in
    let s : length c.p.inside.seat.me.0.view.log ≡ length c.loop-k.p.view.log = ap (λ (z : View). length z.log) v in
    let short = c.p.invariant.3 in
    let front = c.p.invariant.2 in
    let room = i.place.2 in
    (i.lost.0, subst (λ (z : ℕ). IsLost c.args.from z i.lost.0) k i.lost.1, i.lost.2, omega arith)
