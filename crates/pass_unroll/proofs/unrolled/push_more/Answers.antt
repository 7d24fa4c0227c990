use Rattle.std.proofs.Common.{◌≡◌, ◌-◌, ◌+◌, ◌*◌, ℕ, List, subst, suc, refl, arith, ap, ◌∙◌}
use Rattle.arith_word.specs.declared.label.Label.{Label}
use Rattle.mlir_ir.specs.Operations.{nil}
use Rattle.pass_unroll.specs.Built.{loop_of}
use Rattle.pass_copy.specs.Built.{IsBehind, fresh_at, constant}
use Rattle.pass_unroll.specs.Copies.{copy, copy_ends}
use Rattle.pass_copy.proofs.BuiltBehind.{behind_none}
use Rattle.pass_unroll.proofs.CopiesBehind.{one_more, more_given, copied_at}
use Rattle.pass_unroll.proofs.unrolled.push_more.Goals as goal

pub loop-j-init : goal.loop-j-init
loop-j-init c = record { behind = λ new b. b; ends = λ fresh. refl; same = refl; anew = c.requires.anew }

pub loop-j-preserved : goal.loop-j-preserved
loop-j-preserved c =
    let t = c.args.source.now.start.0 in
    let o = loop_of c.args.source.now in
    let step = c.args.by.now.plan.now.step in
    let m = c.args.by.now.factor - (c.loop-j.j + 1) in
    let below = c.loop-j-test.true in
    let count : c.args.by.now.factor - c.loop-j.j ≡ suc m = omega arith in
    let out1 = c.constant.new.self in
    let out2 = c.sum.new.self in
    let product : c.from.result * c.from-in-loop-j.result ≡ c.loop-j.j * step = (λ i. c.from.ensures i * c.from-in-loop-j.ensures i) in
    let first = subst (λ (v : ℕ). IsBehind c.loop-j.out (constant (fresh_at c.loop-j.out c.loop-j.out.fresh.given) o.iv.ty v nil) out1) product c.in_ok-steps.ensures.built in
    let second = c.in_ok-value.ensures.built in
    let args : c.as_slice.result.now ≡ c.loop-j.args = c.as_slice.ensures in
    let third = subst (λ (z : List Label). IsBehind out2 (copy (fresh_at out2) t o out2.fresh.given c.in_ok-value.value z out2.at) c.push_copy.new.out) args c.in_ok-args.ensures.built in
    let ends = λ (fresh : ℕ → List ℕ). c.in_ok-args.ensures.ends fresh ∙ ap (λ (z : List Label). copy_ends fresh t o c.in_ok-value.value z out2.at) args in
    let value : c.in_ok-value.value.0 ≡ c.loop-j.out.at + 1 = c.in_ok-value.ensures.label ∙ first.at in
    let at : c.sum.new.self.at ≡ c.loop-j.out.at + 2 = let x = second.at in let y = first.at in omega arith in
    record {
      behind = λ new rest.
          c.loop-j.invariant.behind new
          (one_more (fresh_at c.args.out.now) t o step c.args.variable (c.args.by.now.factor - c.loop-j.j) m c.loop-j.j c.loop-j.out _ _ _ new c.in_ok-steps.steps c.in_ok-value.value
          c.loop-j.args c.in_ok-args.args count c.loop-j.invariant.same first c.in_ok-steps.ensures.label second c.in_ok-value.ensures.label
          third (ends (fresh_at c.args.out.now)) rest);
      ends = λ fresh.
          more_given t o (c.args.by.now.factor - c.loop-j.j) m c.loop-j.out c.loop-j.out c.sum.new.self c.push_copy.new.out fresh c.in_ok-value.value c.loop-j.args c.in_ok-args.args _ count
          at value (copied_at c.sum.new.self c.push_copy.new.out t o c.in_ok-value.value c.loop-j.args third) (ends fresh) (c.loop-j.invariant.ends fresh);
      same = third.names.same ∙ second.names.same ∙ first.names.same ∙ c.loop-j.invariant.same;
      anew = third.names.kept ∙ second.names.kept ∙ first.names.kept ∙ c.loop-j.invariant.anew;
    }

pub returns-clause-ends : goal.returns-clause-ends
returns-clause-ends c fresh =
    let none : c.args.by.now.factor - c.loop-j.j ≡ 0 = omega arith in
    rw none at (c.loop-j.invariant.ends fresh)

pub returns-clause-built : goal.returns-clause-built
returns-clause-built c =
    let none : c.args.by.now.factor - c.loop-j.j ≡ 0 = omega arith in
    (rw none at (c.loop-j.invariant.behind c.loop-j.out)) (behind_none c.loop-j.out)
