use Rattle.std.proofs.Common.{rules}
use Rattle.scev_server.specs.Serving.{CallsFor}
use Rattle.scev_server.specs.declared.status.Status.TheVariants.{Done, BadInput}
use Rattle.scev_server.proofs.Replies.{told, calls_for_done, calls_for_bad_input}
use Rattle.scev_server.proofs.serving.serve.Goals as goal

pub returns-then-reply-clause-complete : goal.returns-then-reply-clause-complete
returns-then-reply-clause-complete g c = λ given read written.
    told (λ bytes. CallsFor bytes Done) (g.S.Source.left c.args.src.now) (g.S.Source.left c.read_all.new.src) c.in-Ok.bytes.items (search rules) (search rules)
    (calls_for_done c.in-Ok.bytes.items c.in-Ok-reply_to.reply.text.items c.in-Ok-reply_to.reply.accepted (search rules) (search rules) (search rules))

pub returns-clause-complete : goal.returns-clause-complete
returns-clause-complete g c = λ given read written.
    told (λ bytes. CallsFor bytes BadInput) (g.S.Source.left c.args.src.now) (g.S.Source.left c.read_all.new.src) c.in-Ok.bytes.items (search rules) (search rules)
    (calls_for_bad_input c.in-Ok.bytes.items c.in-Ok-reply_to.reply.text.items c.in-Ok-reply_to.reply.accepted (search rules) (search rules) (search rules))
