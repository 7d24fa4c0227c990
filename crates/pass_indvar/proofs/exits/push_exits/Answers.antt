use Rattle.std.proofs.Common.{◌+◌, drop, subst, arith}
use Rattle.std.proofs.lemmas.List.{at_drop_all}
use Rattle.pass_indvar.specs.Built.{exit_of, exits_in}
use Rattle.pass_indvar.proofs.PushedExits.{IsPushed, pushed_next, pushed_built, pushed_links, first_left}
use Rattle.pass_indvar.proofs.exits.push_exits.Goals as goal

pub loop-one-preserved : goal.loop-one-preserved
loop-one-preserved c =
    let found = c.args.found.now in
    let one = c.one-item.result in
    let now = c.loop-one in
    pushed_next c.args.out.now now.out (exits_in found) c.args.spans.now.items now.spans.items c.expand.new.out (exit_of one) (exits_in (drop (now.one-index + 1) found))
    c.in_ok-value.value.0 c.push.new.self.items
    (subst (λ rest. IsPushed c.args.out.now now.out (exits_in found) rest c.args.spans.now.items now.spans.items) (first_left found now.one-index one (omega arith) c.one-item.is) now.invariant)
    c.in_ok-value.ensures.built c.in_ok-value.ensures.label c.in_ok-push.ensures.items

pub returns-clause-built : goal.returns-clause-built
returns-clause-built c =
    let found = c.args.found.now in
    let now = c.loop-one in
    pushed_built c.args.out.now now.out (exits_in found) c.args.spans.now.items now.spans.items
    (subst (λ rest. IsPushed c.args.out.now now.out (exits_in found) rest c.args.spans.now.items now.spans.items) (at_drop_all exits_in found now.one-index (omega arith)) now.invariant)

pub returns-clause-links : goal.returns-clause-links
returns-clause-links c =
    let found = c.args.found.now in
    let now = c.loop-one in
    pushed_links c.args.out.now now.out (exits_in found) c.args.spans.now.items now.spans.items
    (subst (λ rest. IsPushed c.args.out.now now.out (exits_in found) rest c.args.spans.now.items now.spans.items) (at_drop_all exits_in found now.one-index (omega arith)) now.invariant)
