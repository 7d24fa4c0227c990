use Rattle.std.proofs.Common.{◌≡◌, ◌-◌, ◌+◌, ℕ, List, suc, subst, arith, ap, ◌∙◌}
use Rattle.arith_word.specs.declared.label.Label.{Label}
use Rattle.pass_unroll.specs.Built.{loop_of}
use Rattle.pass_copy.specs.Built.{IsBehind, fresh_at}
use Rattle.pass_unroll.specs.Copies.{copy, copy_ends}
use Rattle.pass_copy.proofs.BuiltBehind.{behind_none}
use Rattle.pass_unroll.proofs.CopiesBehind.{copied_at}
use Rattle.pass_unroll.proofs.FullCopies.{one_full, full_left}
use Rattle.pass_unroll.proofs.full.push_full.Goals as goal

pub loop-turn-preserved : goal.loop-turn-preserved
loop-turn-preserved c =
    let t = c.args.source.now.start.0 in
    let o = loop_of c.args.source.now in
    let step = c.args.plan.now.step in
    let n = c.args.plan.now.count - c.loop-turn._turn in
    let m = c.args.plan.now.count - (c.loop-turn._turn + 1) in
    let below = c.loop-turn-test.true in
    let count : n ≡ suc m = omega arith in
    let out1 = c.constant.new.self in
    let out2 = c.push_copy.new.out in
    let first = c.in_ok-variable.ensures.built in
    let variable = c.in_ok-variable.variable in
    let args : c.as_slice-in-loop-turn.result.now ≡ c.loop-turn.args = c.as_slice-in-loop-turn.ensures in
    let second = subst (λ (z : List Label). IsBehind out1 (copy (fresh_at out1) t o out1.fresh.given variable z out1.at) out2) args c.in_ok-args-2.ensures.built in
    let ends = λ (fresh : ℕ → List ℕ). c.in_ok-args-2.ensures.ends fresh ∙ ap (λ (z : List Label). copy_ends fresh t o variable z out1.at) args in
    let v : c.loop-turn.v + c.from-v-in-loop-turn.result ≡ c.loop-turn.v + step = ap (λ (x : ℕ). c.loop-turn.v + x) c.from-v-in-loop-turn.ensures in
    record {
      behind = λ new rest.
          c.loop-turn.invariant.behind new
          (one_full (fresh_at c.args.out.now) t o step n m c.loop-turn.v (c.loop-turn.v + c.from-v-in-loop-turn.result) c.loop-turn.out out1 out2 new variable c.loop-turn.args c.in_ok-args-2.args
          count v c.loop-turn.invariant.same first c.in_ok-variable.ensures.label second (ends (fresh_at c.args.out.now)) rest);
      ends = λ fresh.
          full_left t o n m c.loop-turn.out.at out1.at out2.at fresh variable c.loop-turn.args c.in_ok-args-2.args _ count first.at c.in_ok-variable.ensures.label
          (copied_at out1 out2 t o variable c.loop-turn.args second) (ends fresh) (c.loop-turn.invariant.ends fresh);
      same = second.names.same ∙ first.names.same ∙ c.loop-turn.invariant.same;
      anew = second.names.kept ∙ first.names.kept ∙ c.loop-turn.invariant.anew;
      room = omega arith;
    }

pub returns-clause-ends : goal.returns-clause-ends
returns-clause-ends c fresh =
    let none : c.args.plan.now.count - c.loop-turn._turn ≡ 0 = omega arith in
    rw none at (c.loop-turn.invariant.ends fresh)

pub returns-clause-built : goal.returns-clause-built
returns-clause-built c =
    let none : c.args.plan.now.count - c.loop-turn._turn ≡ 0 = omega arith in
    (rw none at (c.loop-turn.invariant.behind c.loop-turn.out)) (behind_none c.loop-turn.out)
