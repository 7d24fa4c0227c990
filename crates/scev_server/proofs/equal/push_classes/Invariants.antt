use Rattle.std.proofs.Common.{◌≡◌, ◌++◌, [], drop, map, string_bytes, take}
use Rattle.scev_server.specs.Equal.{class_lines}
use Rattle.scev_server.specs.Members.{member_of}
use Rattle.scev_server.proofs.equal.push_classes.Given as goal

abbrev pub invariant-members : goal.invariant-members
invariant-members l =
    string_bytes l.out ++ class_lines (map member_of (take l.place l.members)) (map member_of (drop l.place l.members))
    ≡ string_bytes l.fn.out ++ class_lines [] (map member_of l.members)
