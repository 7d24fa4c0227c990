-- The parts of sessions grow by one.
use Rattle.std.proofs.Common.{◌≡◌, ℕ, ◌+◌, List, [], ◌∷◌, ◌++◌, ◌∙◌, map, codes, length, ap, sym, subst, refl, arith, append_assoc, length-append}
use Rattle.std.proofs.lemmas.List.{append-nil}
use Rattle.mlir_ir.specs.declared.types.Func.{Func}
use Rattle.scev_script.specs.declared.script.Script.{Script}
use Rattle.scev_server.specs.Output.{End, HaveRun, parts_text, all_held, named_in}
use Rattle.scev_server.specs.Shown.{IsSession, AreSessions, held_of, named_of}
use Rattle.scev_server.specs.Walk.{start, IsWalk}
use Rattle.scev_server.specs.declared.equal.Named.{Named}
use Rattle.scev_server.specs.declared.state.Held.{Held}
use Rattle.scev_server.proofs.Pairs.{both_more}

part_more : (mark name lines parts more : List ℕ) → (mark ++ name ++ 10 ∷ lines ++ parts) ++ more ≡ mark ++ name ++ 10 ∷ lines ++ (parts ++ more)
part_more mark name lines parts more = simp append_assoc

parts_more : (scripts : List Script) (ends : List End) (s : Script) (e : End) → length ends ≡ length scripts
    → parts_text (scripts ++ s ∷ []) (ends ++ e ∷ []) ≡ parts_text scripts ends ++ (codes "== session " ++ s.name ++ 10 ∷ e.lines)
parts_more [] [] s e same = simp (append-nil, append_assoc)
parts_more [] (x ∷ xs) s e same = absurd (omega (arith, same))
parts_more (x ∷ xs) [] s e same = absurd (omega (arith, same))
parts_more (t ∷ scripts) (x ∷ ends) s e same =
    let rest = parts_more scripts ends s e (omega (arith, same)) in
    ap (λ r. codes "== session " ++ t.name ++ 10 ∷ x.lines ++ r) rest
    ∙ sym (part_more (codes "== session ") t.name x.lines (parts_text scripts ends) (codes "== session " ++ s.name ++ 10 ∷ e.lines))

held_more : (scripts : List Script) (ends : List End) (s : Script) (e : End) → length ends ≡ length scripts
    → all_held (scripts ++ s ∷ []) (ends ++ e ∷ []) ≡ all_held scripts ends ++ named_in s.name e.state.held
held_more [] [] s e same = append-nil (named_in s.name e.state.held)
held_more [] (x ∷ xs) s e same = absurd (omega (arith, same))
held_more (x ∷ xs) [] s e same = absurd (omega (arith, same))
held_more (t ∷ scripts) (x ∷ ends) s e same =
    let rest = held_more scripts ends s e (omega (arith, same)) in
    ap (λ r. named_in t.name x.state.held ++ r) rest ∙ sym (append_assoc (named_in t.name x.state.held) (all_held scripts ends) (named_in s.name e.state.held))

text_more : (before parts name lines : List ℕ) → ((before ++ parts) ++ codes "== session " ++ name ++ 10 ∷ []) ++ lines ≡ before ++ (parts ++ (codes "== session " ++ name ++ 10 ∷ lines))
text_more before parts name lines = simp append_assoc

run_more : (funcs : List Func) (scripts : List Script) (ends : List End) (s : Script) (e : End) → HaveRun funcs scripts ends
    → IsWalk funcs start s.commands e.lines e.state → HaveRun funcs (scripts ++ s ∷ []) (ends ++ e ∷ [])
run_more funcs scripts ends s e run walk = record {
  each = length-append ends (e ∷ []) ∙ ap (λ n. n + 1) run.each ∙ sym (length-append scripts (s ∷ []));
  walks = both_more (λ script x. IsWalk funcs start script.commands x.lines x.state) scripts ends s e run.each run.walks walk;
}

pub no_sessions : (funcs : List Func) (before : List ℕ) → AreSessions funcs [] before before []
no_sessions funcs before = ([], record { each = refl; walks = λ i script e h k. absurd (cc) }, refl, sym (append-nil before))

pub sessions_more : (funcs : List Func) (scripts all : List Script) (s : Script) (before mid head behind : List ℕ) (named more : List Named) (held : List Held)
    → AreSessions funcs scripts before mid named → head ≡ mid ++ codes "== session " ++ s.name ++ 10 ∷ []
    → IsSession funcs s head behind held → map named_of more ≡ map named_of named ++ named_in s.name (map held_of held)
    → all ≡ scripts ++ s ∷ [] → AreSessions funcs all before behind more
sessions_more funcs scripts all s before mid head behind named more held so_far header session more_is all_is =
    let ends = so_far.0 in
    let run = so_far.1 in
    let e = session.0 in
    let result : AreSessions funcs (scripts ++ s ∷ []) before behind more = (
      ends ++ e ∷ [],
      run_more funcs scripts ends s e run session.1,
      more_is ∙ ap (λ x. x ++ named_in s.name (map held_of held)) so_far.2 ∙ ap (λ x. all_held scripts ends ++ named_in s.name x) session.2 ∙ sym (held_more scripts ends s e run.each),
      session.3 ∙ ap (λ x. x ++ e.lines) header ∙ ap (λ x. (x ++ codes "== session " ++ s.name ++ 10 ∷ []) ++ e.lines) so_far.3
          ∙ text_more before (parts_text scripts ends) s.name e.lines ∙ ap (λ x. before ++ x) (sym (parts_more scripts ends s e run.each)),
    ) in
    subst (λ x. AreSessions funcs x before behind more) (sym all_is) result
