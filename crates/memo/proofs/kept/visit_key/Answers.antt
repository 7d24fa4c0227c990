use Rattle.std.proofs.Common.{sym, refl}
use Rattle.step_core.proofs.Slots.{put_won, put_lost}
use Rattle.memo.proofs.Placing.{visit_once, visit_twice}
use Rattle.memo.proofs.kept.visit_key.Goals as goal

pub returns-then-found-ne0-clause-events : goal.returns-then-found-ne0-clause-events
returns-then-found-ne0-clause-events g c =
    let e = c.load_key-found.ensures in
    visit_once g.M.MemoMeaning.meaning _ _ c.args.at c.load_key-found.result c.args.key (record { event = e.event; seen = e.seen }) c.if-found-ne0.true

pub returns-in-At-clause-events : goal.returns-in-At-clause-events
returns-in-At-clause-events g c =
    let e = c.load_key-found.ensures in
    let t = c.in-At.ensures in
    visit_twice g.M.MemoMeaning.meaning _ _ _ c.args.at c.load_key-found.result 0 c.args.key c.args.key (record { event = e.event; seen = e.seen }) c.if-found-ne0.false (record { event = t.event; seen = t.seen }) (sym (put_won 0 c.args.key refl))

pub returns-in-Lost-clause-events : goal.returns-in-Lost-clause-events
returns-in-Lost-clause-events g c =
    let e = c.load_key-found.ensures in
    let t = c.in-Lost.ensures in
    visit_twice g.M.MemoMeaning.meaning _ _ _ c.args.at c.load_key-found.result c.in-Lost.other c.args.key c.in-Lost.other (record { event = e.event; seen = e.seen }) c.if-found-ne0.false (record { event = t.event; seen = t.seen }) (sym (put_lost c.in-Lost.other c.args.key t.answer))
