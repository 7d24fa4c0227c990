use Rattle.std.proofs.Common.{refl}
use Rattle.scev_server.proofs.Numbering.{named_more, all_numbered}
use Rattle.scev_server.proofs.equal.numbered.Goals as goal

pub names-preserved : goal.names-preserved
names-preserved c =
    named_more c.args.held.now c.names.named-index c.named-item.result c.names.members.items c.push.new.self.items _ c.names-test.true c.named-item.is c.in_ok-push.ensures.items
    (record { session = refl; name = refl; first = c.first_equal.ensures }) c.names.invariant

pub returns : goal.returns
returns c = all_numbered c.args.held.now c.names.named-index c.names.members.items c.names-test.false c.names.invariant
