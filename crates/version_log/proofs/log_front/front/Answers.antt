use Rattle.std.proofs.Common.{◌+◌, length, refl, ap, ◌∙◌, inl, inr, arith}
use Rattle.version_log.proofs.Growing.{no_record, one_record, front_found}
use Rattle.version_log.proofs.log_front.front.Goals as goal

pub loop-k-init : goal.loop-k-init
loop-k-init g c =
    let s = c.seen-k.ensures in
    record {
      same = (refl, refl, refl, refl);
      upto = (let a = s.seen in let b = s.most in omega arith);
      seen = no_record g.M.MemoMeaning.meaning c.args.p.now.view (c.seen-k.result + 1) (let a = s.seen in omega arith);
    }

pub load_log-requires-clause-table : goal.load_log-requires-clause-table
load_log-requires-clause-table g c = let s = c.loop-k.invariant.same in (s.0 ∙ c.requires.table.0, s.2 ∙ c.requires.table.1)

pub loop-k-preserved : goal.loop-k-preserved
loop-k-preserved g c =
    let i = c.loop-k.invariant in
    let e = c.load_log.ensures in
    let s = e.same in
    record {
      same = (s.0 ∙ i.same.0, s.1 ∙ i.same.1, s.2 ∙ i.same.2, s.3 ∙ i.same.3);
      upto = omega arith;
      seen = one_record g.M.MemoMeaning.meaning c.args.p.now.view c.loop-k.p.view c.load_log.new.p.view c.loop-k.k c.load_log.result i.seen (record { event = e.event; seen = e.seen }) c.if-load_log-eq0.false;
    }

pub returns-then-load_log-eq0-clause-front : goal.returns-then-load_log-eq0-clause-front
returns-then-load_log-eq0-clause-front g c =
    let i = c.loop-k.invariant in
    let e = c.load_log.ensures in
    let f = front_found g.M.MemoMeaning.meaning c.args.p.now.view c.loop-k.p.view c.load_log.new.p.view c.loop-k.k c.load_log.result i.seen (record { event = e.event; seen = e.seen }) c.if-load_log-eq0.true in
    let long = ap length f.2 in
    let up = i.seen.upto in
    omega arith

pub returns-then-load_log-eq0-clause-events : goal.returns-then-load_log-eq0-clause-events
returns-then-load_log-eq0-clause-events g c =
    let i = c.loop-k.invariant in
    let e = c.load_log.ensures in
    let f = front_found g.M.MemoMeaning.meaning c.args.p.now.view c.loop-k.p.view c.load_log.new.p.view c.loop-k.k c.load_log.result i.seen (record { event = e.event; seen = e.seen }) c.if-load_log-eq0.true in
    (i.seen.records, f.0, inl f.1)

pub returns-clause-front : goal.returns-clause-front
returns-clause-front g c =
    let i = c.loop-k.invariant in
    let up = i.seen.upto in
    let most = i.upto in
    omega arith

pub returns-clause-events : goal.returns-clause-events
returns-clause-events g c =
    let i = c.loop-k.invariant in
    let up = i.seen.upto in
    let most = i.upto in
    (i.seen.records, i.seen.found, inr (i.seen.makes, omega arith))
