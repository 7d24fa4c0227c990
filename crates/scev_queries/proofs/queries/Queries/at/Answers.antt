use Rattle.std.proofs.Common.{◌≡◌, IfOk, ap, length, refl, sym, ◌∙◌, subst}
use Rattle.std.proofs.lemmas.List.{take_at}
use Rattle.scev_queries.specs.Answers.{IsAsOf}
use Rattle.scev_queries.specs.Shown.{shown}
use Rattle.scev_queries.proofs.KeptFunctions.{told, untold}
use Rattle.scev_queries.proofs.queries.Queries.at.Goals as goal
use Rattle.scev_queries.proofs.queries.Queries.at.Goals.{in-Some+in_ok-at-in-Some, in-None}

pub returns-clause-answer : goal.returns-clause-answer
returns-clause-answer c =
    let self = c.args.self.now in
    let funcs = c.as_slice-funcs.result.now in
    let kept = c.prepared.new.kept in
    let place = c.in_ok-at.field-0 in
    let same = c.as_slice-funcs.ensures ∙ c.self.view_is in
    let long : length kept ≡ c.self.inside.kept.len =
    c.in_ok-at.ensures.kept.many ∙ ap length c.as_slice-funcs.ensures ∙ sym c.self.invariant.1.many ∙ sym (ap length c.as_mut_slice.ensures.value) ∙ c.as_mut_slice.ensures.len in
    let as_before = take_at kept _ c.self.inside.kept.len long in
    elim c.match-branch-2.branch [
      | in-Some+in_ok-at-in-Some w ↦ subst (λ r. IfOk r (λ x. IsAsOf self c.args.name.now c.args.value.now c.args.number c.args.n (shown x))) (sym w.result-is)
          (told self funcs c.args.name.now kept w.deref.result.now place w.in-Some.at w.kept_at.result.now _ _ same c.in_ok-at.ensures.found w.in-Some.is (w.deref.ensures.value ∙ as_before) w.kept_at.ensures w.in_ok-at-in-Some.ensures)
      | in-None w ↦ subst (λ r. IfOk r (λ x. IsAsOf self c.args.name.now c.args.value.now c.args.number c.args.n (shown x))) (sym w.result-is)
          (untold self funcs c.args.name.now kept place _ _ same c.in_ok-at.ensures.found w.in-None.is refl)
    ]
