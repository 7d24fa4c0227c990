use Rattle.std.proofs.Common.{rules, ◌≡◌, ◌+◌, ◌⊎◌, inl, inr, length}
use Rattle.std.proofs.lemmas.Result.{IfOk-weaker}
use Rattle.fresh_scev.specs.NextArguments.{AddsNext}
use Rattle.fresh_scev.specs.Table.{facts_of}
use Rattle.fresh_scev.proofs.AddedArguments.{solved_added, own_added}
use Rattle.fresh_scev.proofs.next.+add_next.Goals as goal
use Rattle.fresh_scev.proofs.next.+add_next.Goals.{in_default-2-via-in-Some+in_default, in_default-2-via-in_default}

pub returns-then-changed : goal.returns-then-changed
returns-then-changed t c =
    let counter = c.args.h.counter.0 in
    let first = c.args.h.first.0 in
    let one = c.in_ok-expr-in-Some-Some.field-0 in
    solved_added counter (facts_of c.args.t.now) first c.width.result c.args.types.now c.in-Some.rest.now c.in-Some.ty.now c.args.inits.now c.in-Some-Some.inits.now
    c.args.ends.now c.in-Some-Some.ends.now c.in-Some-Some.init.now c.in-Some-Some.end.now c.args.out.now.items c.push.new.self.items c.add_next.new.out.items one.expr
    c.in_ok-others-in-Some-Some.others one.changed
    (search rules) (search rules) (search rules) c.width.ensures (search rules) (search rules) (search rules) (search rules) c.in_ok-others-in-Some-Some.ensures

pub returns-in_ok-push-in_default-2 : goal.returns-in_ok-push-in_default-2
returns-in_ok-push-in_default-2 t c =
    let counter = c.args.h.counter.0 in
    let first = c.args.h.first.0 in
    let F = facts_of c.args.t.now in
    let inits = c.args.inits.now in
    let ends = c.args.ends.now in
    let items = c.add_next-in_default-2.new.out.items in
    let pushed = c.push-in_default-2.new.self.items in
    let rest = c.in-Some.rest.now in
    let ended : (length inits ≡ 0) ⊎ (length ends ≡ 0) = elim c.in_default-2.branch [
      | in_default-2-via-in-Some+in_default w ↦ inr (search rules)
      | in_default-2-via-in_default w ↦ inl (search rules)
    ] in
    IfOk-weaker c.add_next-in_default-2.result (λ changed. AddsNext counter F (first + 1) rest inits ends pushed items changed)
    (λ changed. AddsNext counter F first c.args.types.now inits ends c.args.out.now.items items changed)
    (λ changed more. own_added counter F first c.width.result c.args.types.now rest c.in-Some.ty.now inits ends c.args.out.now.items pushed items
    c.in_ok-own_symbol-in_default-2.field-0 changed (search rules) ended c.width.ensures c.in_ok-own_symbol-in_default-2.ensures.own
    c.in_ok-own_symbol-in_default-2.ensures.before (search rules) more)
    c.add_next-in_default-2.ensures
