use Rattle.std.proofs.Common.{◌≡◌, refl, ap, ◌∙◌, sym, subst}
use Rattle.fresh_scev.specs.Answers.{facts_shown}
use Rattle.pass_copy.specs.Places.{operation_in}
use Rattle.pass_indvar.specs.Entries.{entries}
use Rattle.pass_indvar.specs.Reductions.{IsReduced, HasNoProgression, DoesProgressionHold}
use Rattle.pass_unroll.specs.Copies.{operation_of}
use Rattle.pass_chain.proofs.ForLoops.{for_loop, loop_stands, given_there}
use Rattle.pass_chain.proofs.GivenProducts.{given_progressions}
use Rattle.pass_chain.proofs.reductions.reduced.Goals as goal

pub returns-in_default-clause-unmade : goal.returns-in_default-clause-unmade
returns-in_default-clause-unmade c o s = (rw c.in_default.is at c.in_ok-op.ensures) (operation_of o) refl s

pub reduce-requires-clause-stands : goal.reduce-requires-clause-stands
reduce-requires-clause-stands c =
    let found = (rw c.in-Some.is at c.in_ok-op.ensures) in
    let l = for_loop (operation_in c.in-Some.op.now) found.0 in
    (l.o, loop_stands c.args.f.now c.args.target.0 (operation_in c.in-Some.op.now) l found.1)

pub returns-in-NothingToDo-clause-unmade : goal.returns-in-NothingToDo-clause-unmade
returns-in-NothingToDo-clause-unmade c =
    let f = c.args.f.now in
    let t = c.args.target.0 in
    let q = operation_in c.in-Some.op.now in
    let found = (rw c.in-Some.is at c.in_ok-op.ensures) in
    let l = for_loop q found.0 in
    let given = ap entries c.as_slice.ensures.value ∙ c.in_ok-exprs.ensures ∙ given_there (facts_shown c.args.facts.now) t q l in
    record { o = l.o; stands = loop_stands f t q l found.1; none = subst (HasNoProgression f t) given (rw c.in-NothingToDo.is at c.in_ok-reduce.ensures.child) }

pub returns-in-TooManyLabels-clause-unmade : goal.returns-in-TooManyLabels-clause-unmade
returns-in-TooManyLabels-clause-unmade c =
    let f = c.args.f.now in
    let t = c.args.target.0 in
    let q = operation_in c.in-Some.op.now in
    let found = (rw c.in-Some.is at c.in_ok-op.ensures) in
    let l = for_loop q found.0 in
    let given = ap entries c.as_slice.ensures.value ∙ c.in_ok-exprs.ensures ∙ given_there (facts_shown c.args.facts.now) t q l in
    let large = (rw c.in-TooManyLabels.is at c.in_ok-reduce.ensures.child) in
    record { o = l.o; stands = loop_stands f t q l found.1; large = λ child is. large child (subst (λ exprs. IsReduced f t exprs child) (sym given) is) }

pub returns-clause-child : goal.returns-clause-child
returns-clause-child c =
    let f = c.args.f.now in
    let t = c.args.target.0 in
    let q = operation_in c.in-Some.op.now in
    let found = (rw c.in-Some.is at c.in_ok-op.ensures) in
    let l = for_loop q found.0 in
    let given = ap entries c.as_slice.ensures.value ∙ c.in_ok-exprs.ensures ∙ given_there (facts_shown c.args.facts.now) t q l in
    let made = (rw c.in-Child.is at c.in_ok-reduce.ensures.child) in
    record { o = l.o; stands = loop_stands f t q l found.1; is = subst (λ exprs. IsReduced f t exprs c.in-Child.child) given made.0; fits = made.1 }

pub returns-clause-meaning : goal.returns-clause-meaning
returns-clause-meaning c =
    let f = c.args.f.now in
    let t = c.args.target.0 in
    let q = operation_in c.in-Some.op.now in
    let F = facts_shown c.args.facts.now in
    let found = (rw c.in-Some.is at c.in_ok-op.ensures) in
    let l = for_loop q found.0 in
    let given = ap entries c.as_slice.ensures.value ∙ c.in_ok-exprs.ensures ∙ given_there F t q l in
    (rw c.in-Child.is at c.in_ok-reduce.ensures.meaning)
    (subst (DoesProgressionHold f t) (sym given) (given_progressions f F t l.o c.requires.formed c.requires.bits c.requires.facts (loop_stands f t q l found.1)))
