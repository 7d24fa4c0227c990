use Rattle.std.proofs.Common.{ap, ◌∙◌, sym, subst}
use Rattle.fresh_scev.specs.Answers.{facts_shown}
use Rattle.pass_copy.specs.Places.{operation_in}
use Rattle.pass_copy.specs.Replaced.{StandsAt}
use Rattle.pass_indvar.specs.Entries.{entries}
use Rattle.pass_indvar.specs.Exits.{HasExitValues, HasNoExitValues, DoExitsHold}
use Rattle.pass_indvar.proofs.StandingLoops.{loop_there}
use Rattle.pass_chain.proofs.GivenExits.{given_exits}
use Rattle.pass_chain.proofs.exits.exited.Goals as goal

pub returns-in_default-clause-unmade : goal.returns-in_default-clause-unmade
returns-in_default-clause-unmade c o s = (rw c.in_default.is at c.in_ok-op.ensures) o (loop_there c.args.f.now c.args.target.0 o s) s

pub exit_values-requires-clause-stands : goal.exit_values-requires-clause-stands
exit_values-requires-clause-stands c = (operation_in c.in-Some.op.now, (rw c.in-Some.is at c.in_ok-op.ensures).1)

pub returns-in-NothingToDo-clause-unmade : goal.returns-in-NothingToDo-clause-unmade
returns-in-NothingToDo-clause-unmade c =
    let f = c.args.f.now in
    let t = c.args.target.0 in
    let o = operation_in c.in-Some.op.now in
    let stands : StandsAt f t o = (rw c.in-Some.is at c.in_ok-op.ensures).1 in
    let given = ap entries c.as_slice.ensures.value ∙ c.in_ok-exprs.ensures in
    record { o = o; stands = stands; none = subst (HasNoExitValues f t) given (rw c.in-NothingToDo.is at c.in_ok-exit_values.ensures.child) }

pub returns-in-TooManyLabels-clause-unmade : goal.returns-in-TooManyLabels-clause-unmade
returns-in-TooManyLabels-clause-unmade c =
    let f = c.args.f.now in
    let t = c.args.target.0 in
    let o = operation_in c.in-Some.op.now in
    let stands : StandsAt f t o = (rw c.in-Some.is at c.in_ok-op.ensures).1 in
    let given = ap entries c.as_slice.ensures.value ∙ c.in_ok-exprs.ensures in
    let large = (rw c.in-TooManyLabels.is at c.in_ok-exit_values.ensures.child) in
    record { o = o; stands = stands; large = λ child is. large child (subst (λ exprs. HasExitValues f t exprs child) (sym given) is) }

pub returns-clause-child : goal.returns-clause-child
returns-clause-child c =
    let f = c.args.f.now in
    let t = c.args.target.0 in
    let o = operation_in c.in-Some.op.now in
    let stands : StandsAt f t o = (rw c.in-Some.is at c.in_ok-op.ensures).1 in
    let given = ap entries c.as_slice.ensures.value ∙ c.in_ok-exprs.ensures in
    let made = (rw c.in-Child.is at c.in_ok-exit_values.ensures.child) in
    record { o = o; stands = stands; is = subst (λ exprs. HasExitValues f t exprs c.in-Child.child) given made.0; fits = made.1 }

pub returns-clause-meaning : goal.returns-clause-meaning
returns-clause-meaning c =
    let f = c.args.f.now in
    let t = c.args.target.0 in
    let o = operation_in c.in-Some.op.now in
    let F = facts_shown c.args.facts.now in
    let stands : StandsAt f t o = (rw c.in-Some.is at c.in_ok-op.ensures).1 in
    let given = ap entries c.as_slice.ensures.value ∙ c.in_ok-exprs.ensures in
    (rw c.in-Child.is at c.in_ok-exit_values.ensures.meaning)
    (subst (DoExitsHold f t) (sym given) (given_exits f F t o c.requires.formed c.requires.bits c.requires.facts stands))
