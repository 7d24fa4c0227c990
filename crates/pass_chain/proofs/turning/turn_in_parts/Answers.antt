-- The two headers turn as they should.
use Rattle.std.proofs.Common.{ap, ◌∙◌, ◌+◌, ◌%◌, ◌^◌, subst, sym}
use Rattle.std.proofs.lemmas.Bool.{both_ways}
use Rattle.pass_chain.specs.Parts.{TurnInParts}
use Rattle.pass_chain.proofs.ExactTurns.{parts_turn, main_turns, rest_turns}
use Rattle.pass_chain.proofs.turning.turn_in_parts.Goals as goal

-- src/turning.rt:26:1
pub returns-then-turns_exactly : goal.returns-then-turns_exactly
returns-then-turns_exactly c =
    let plan = c.args.plan.now in
    let M = 2 ^ c.args.w in
    let behind_is = c.add-behind.ensures ∙ ap (λ v. (plan.lower + v) % M) c.mul.ensures in (
      λ i. subst (λ k. TurnInParts c.args.w plan k) c.from-factor.ensures
          (parts_turn c.args.w plan c.from-factor.result c.add-behind.result c.mul-2.result c.requires.bound behind_is
          c.mul-2.ensures (c.turns_exactly.ensures.0 c.if-turns_exactly.true)
          (c.turns_exactly-then-turns_exactly.ensures.0 i)),
      λ t. c.turns_exactly-then-turns_exactly.ensures.1
          (rest_turns c.args.w plan c.from-factor.result c.add-behind.result c.mul-2.result c.requires.bound behind_is
          c.mul-2.ensures (subst (λ k. TurnInParts c.args.w plan k) (sym c.from-factor.ensures) t)),
    )

-- src/turning.rt:26:1
pub returns-else-turns_exactly : goal.returns-else-turns_exactly
returns-else-turns_exactly c =
    let plan = c.args.plan.now in
    let M = 2 ^ c.args.w in
    let behind_is = c.add-behind.ensures ∙ ap (λ v. (plan.lower + v) % M) c.mul.ensures in (
      λ i. absurd (both_ways c.turns_exactly.result c.if-turns_exactly.false i),
      λ t. c.turns_exactly.ensures.1
          (main_turns c.args.w plan c.from-factor.result c.add-behind.result c.mul-2.result c.requires.bound behind_is
          c.mul-2.ensures (subst (λ k. TurnInParts c.args.w plan k) (sym c.from-factor.ensures) t)),
    )
