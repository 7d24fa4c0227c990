use Rattle.std.proofs.Common.{rules, ◌∙◌}
use Rattle.scev_server.proofs.Replies.{answered, refused}
use Rattle.scev_server.proofs.reply.reply_to.Goals as goal

pub returns-in_ok-output_text-in-Ok : goal.returns-in_ok-output_text-in-Ok
returns-in_ok-output_text-in-Ok g c =
    answered c.args.bytes.now c.into_bytes.result.items c.in-Ok.input.module c.in-Ok.input.sessions (search rules) (search rules)

pub returns-in_ok-push_fault-in-Err-Fault : goal.returns-in_ok-push_fault-in-Err-Fault
returns-in_ok-push_fault-in-Err-Fault g c =
    refused c.args.bytes.now c.into_bytes-in-Err-Fault.result.items c.in-Err-Fault.fault (search rules) (search rules)
