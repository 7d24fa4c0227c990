use Rattle.std.proofs.Common.{◌≡◌, ◌++◌, ◌∷◌, [], false, map, rules, string_bytes, true, arith}
use Rattle.std.proofs.lemmas.Grind.{common_steps}
use Rattle.std.specs.List.{filter}
use Rattle.scev_server.specs.Equal.{behind_blanks, is_one_with, member_text}
use Rattle.scev_server.specs.Members.{member_of}
use Rattle.scev_server.proofs.ClassLines.{is_first, line_added, none_added}
use Rattle.scev_server.proofs.equal.push_class.Goals as goal

pub returns-then-not-begins_class : goal.returns-then-not-begins_class
returns-then-not-begins_class c =
    let no : is_first c.args.before.now c.args.member.now c.args.behind.now ≡ false = search rules in
    none_added c.args.before.now c.args.behind.now c.args.member.now (string_bytes c.args.out.now) no

pub returns : goal.returns
returns c =
    let m = member_of c.args.member.now in
    let first : is_first c.args.before.now c.args.member.now c.args.behind.now ≡ true = search rules in
    let begun : string_bytes c.write.new.self ≡ string_bytes c.args.out.now ++ member_text m = grind (arith, common_steps) in
    let others : string_bytes c.push_others.new.out ≡ string_bytes c.write.new.self ++ behind_blanks (filter (is_one_with m) (map member_of c.args.behind.now)) = search rules in
    let ended : string_bytes c.writeln.new.self ≡ string_bytes c.push_others.new.out ++ 10 ∷ [] = search rules in
    line_added c.args.before.now c.args.behind.now c.args.member.now (string_bytes c.args.out.now) (string_bytes c.write.new.self) (string_bytes c.push_others.new.out) (string_bytes c.writeln.new.self)
    first begun others ended
