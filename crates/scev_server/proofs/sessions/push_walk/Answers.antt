use Rattle.std.proofs.Common.{◌≡◌, ◌++◌, ◌∙◌, rules, string_bytes, subst, take}
use Rattle.scev_script.specs.Replies.{reply_lines}
use Rattle.scev_server.specs.Shown.{state_of}
use Rattle.scev_server.specs.Walk.{start, Steps}
use Rattle.scev_server.proofs.Walks.{taken_more, walked_all, walked_more}
use Rattle.scev_server.proofs.sessions.push_walk.Goals as goal

pub commands-preserved : goal.commands-preserved
commands-preserved g c =
    let funcs = c.args.queries.now in
    let state = state_of c.commands.state in
    let next = state_of c.step.new.state in
    let same = c.commands.invariant.same in
    let added : string_bytes c.push_str.new.self ≡ string_bytes c.commands.out ++ reply_lines c.in_ok-reply.reply = search rules in
    record {
      same = c.step.ensures.same ∙ same;
      walked = walked_more funcs (take c.commands.place c.args.script.now.commands) _ (string_bytes c.args.out.now) (string_bytes c.commands.out) (string_bytes c.push_str.new.self)
          start state next c.command-item.result c.in_ok-reply.reply c.commands.invariant.walked
          (subst (λ f. Steps f state c.command-item.result c.in_ok-reply.reply next) same c.in_ok-reply.ensures.step)
          (taken_more c.args.script.now.commands c.as_slice-command-items.result.now c.commands.place c.command-item.result c.as_slice-command-items.ensures c.commands-test.true c.command-item.is) added;
    }

pub returns-clause-walk : goal.returns-clause-walk
returns-clause-walk g c =
    walked_all c.args.queries.now c.args.script.now c.as_slice-command-items.result.now (string_bytes c.args.out.now) (string_bytes c.commands.out) c.commands.place c.commands.state
    c.as_slice-command-items.ensures c.commands-test.false c.commands.invariant.walked
