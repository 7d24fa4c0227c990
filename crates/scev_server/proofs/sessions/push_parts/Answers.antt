use Rattle.std.proofs.lemmas.Grind.{common_steps}
use Rattle.std.proofs.Common.{arith, ◌≡◌, ◌++◌, ◌∷◌, [], ◌∙◌, codes, refl, string_bytes, subst, take}
use Rattle.scev_server.specs.Shown.{IsSession}
use Rattle.scev_server.proofs.Parts.{sessions_more}
use Rattle.scev_server.proofs.Walks.{taken_more}
use Rattle.scev_server.proofs.sessions.push_parts.Goals as goal

pub sessions-preserved : goal.sessions-preserved
sessions-preserved g c =
    let script = c.index-sessions-place.result in
    let scripts = c.args.sessions.now in
    let same = c.sessions.invariant.same in
    let head = string_bytes c.writeln.new.self in
    let behind = string_bytes c.push_walk.new.out in
    let header : head ≡ string_bytes c.sessions.out ++ codes "== session " ++ script.name ++ 10 ∷ [] = grind (arith, common_steps) in
    record {
      same = c.push_walk.ensures.same ∙ same;
      parts = sessions_more c.args.queries.now (take c.sessions.place scripts) _ script (string_bytes c.args.out.now) (string_bytes c.sessions.out) head behind
          c.sessions.named.items c.push_named.new.named.items c.in_ok-held.held.items c.sessions.invariant.parts header
          (subst (λ f. IsSession f script head behind c.in_ok-held.held.items) same c.in_ok-held.ensures.walk) c.in_ok-push_named.ensures
          (taken_more scripts scripts c.sessions.place script refl c.sessions-test.true c.index-sessions-place.is);
    }
