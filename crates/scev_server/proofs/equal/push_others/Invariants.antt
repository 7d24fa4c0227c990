use Rattle.std.proofs.Common.{◌≡◌, ◌++◌, drop, map, string_bytes}
use Rattle.std.specs.List.{filter}
use Rattle.scev_server.specs.Equal.{behind_blanks, is_one_with}
use Rattle.scev_server.specs.Members.{member_of}
use Rattle.scev_server.proofs.equal.push_others.Given as goal

abbrev pub invariant-others : goal.invariant-others
invariant-others l =
    string_bytes l.out ++ behind_blanks (filter (is_one_with (member_of l.member)) (map member_of (drop l.other-index l.behind)))
    ≡ string_bytes l.fn.out ++ behind_blanks (filter (is_one_with (member_of l.member)) (map member_of l.behind))
