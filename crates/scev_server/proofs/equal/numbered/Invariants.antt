use Rattle.std.proofs.Common.{map, take}
use Rattle.scev_server.specs.Members.{member_of}
use Rattle.scev_server.specs.Shown.{named_of}
use Rattle.scev_server.proofs.Numbering.{AreMembers}
use Rattle.scev_server.proofs.equal.numbered.Given as goal

abbrev pub invariant-names : goal.invariant-names
invariant-names l = AreMembers (map named_of l.held) (map named_of (take l.named-index l.held)) (map member_of l.members.items)
