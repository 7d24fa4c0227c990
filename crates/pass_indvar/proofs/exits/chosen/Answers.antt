use Rattle.std.proofs.Common.{◌+◌, ap, ◌∙◌, sym, subst, arith, length, get_or}
use Rattle.pass_copy.specs.Places.{operation_in}
use Rattle.scev_tree.specs.Tree.{polynomial_of}
use Rattle.pass_indvar.proofs.EntryLists.{AreChosenSoFar, none_next, left_out, taken, exit_is}
use Rattle.pass_indvar.proofs.exits.chosen.Goals.{in-Some+in_ok-fits+then-branch+in_ok-copy+in_ok-push, in-Some+in_ok-fits+else-branch, in_default}
use Rattle.pass_indvar.proofs.exits.chosen.Goals as goal

pub loop-i-preserved : goal.loop-i-preserved
loop-i-preserved c =
    let f = c.args.f.now in
    let t = c.args.target.0 in
    let o = operation_in c.args.op.now in
    let exprs = c.args.exprs.now in
    let now = c.loop-i in
    let n = ap length c.as_slice-ty-items.ensures in
    let is = c.ty-item.is ∙ ap (λ tys. get_or tys now.i c.ty-item.result) c.as_slice-ty-items.ensures in
    elim c.match-entry.branch [
      | in-Some+in_ok-fits+then-branch+in_ok-copy+in_ok-push w ↦
          subst (λ more. AreChosenSoFar f t o exprs more c.advance.new.at (now.i + 1)) (ap (λ v. v.items) (sym w.found-is))
          (taken f t o exprs now.found.items now.at now.i c.ty-item.result (omega (arith, n)) is now.invariant (polynomial_of w.in-Some.expr.now.tree) w.in-Some.ensures w.in_ok-fits.field-0
          w.in_ok-fits.ensures _ w.push.new.self.items c.advance.new.at c.in_ok-advance.ensures w.if-branch.true w.in_ok-push.ensures.items (exit_is now.at c.ty-item.result w.in_ok-copy.field-0 _ w.in_ok-copy.ensures.same))
      | in-Some+in_ok-fits+else-branch w ↦
          subst (λ more. AreChosenSoFar f t o exprs more c.advance.new.at (now.i + 1)) (ap (λ v. v.items) (sym w.found-is))
          (left_out f t o exprs now.found.items now.at now.i c.ty-item.result (omega (arith, n)) is now.invariant (polynomial_of w.in-Some.expr.now.tree) w.in-Some.ensures w.in_ok-fits.field-0
          w.in_ok-fits.ensures c.advance.new.at c.in_ok-advance.ensures w.if-branch.false)
      | in_default w ↦
          subst (λ more. AreChosenSoFar f t o exprs more c.advance.new.at (now.i + 1)) (ap (λ v. v.items) (sym w.found-is))
          (none_next f t o exprs now.found.items now.at now.i c.ty-item.result (omega (arith, n)) is now.invariant c.advance.new.at c.in_ok-advance.ensures w.in_default.ensures)
    ]
