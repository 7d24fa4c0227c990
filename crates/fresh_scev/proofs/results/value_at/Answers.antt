use Rattle.std.proofs.Common.{◌^◌, subst}
use Rattle.std.proofs.lemmas.Nat.{pow_pos}
use Rattle.chrec_algebra.specs.Product.{IsProduct}
use Rattle.scev_tree.specs.Tree.{polynomial_of}
use Rattle.scev_tree.proofs.GrowingLists.{from_false}
use Rattle.fresh_scev.specs.Expressions.{counter}
use Rattle.fresh_scev.proofs.ExitValues.{found_line, not_moved}
use Rattle.fresh_scev.proofs.FewerMonomials.{truncated_within, slope_within}
use Rattle.fresh_scev.proofs.results.value_at.Goals as goal

pub mul-requires-clause-left : goal.mul-requires-clause-left
mul-requires-clause-left c =
    let a = c.args.a.now in
    let l = found_line a.w (counter c.args.counter.0) (polynomial_of a.tree) _ c.in-Some.line c.in-Some.is c.in_ok-line.ensures in
    slope_within (counter c.args.counter.0) (2 ^ a.w) (polynomial_of c.in-Some.line.slope.tree) (polynomial_of a.tree) l.2.slope a.canonical c.requires

pub mul-requires-clause-right : goal.mul-requires-clause-right
mul-requires-clause-right c =
    let w = c.args.a.now.w in
    let e = c.args.e.now in
    truncated_within (2 ^ w) (2 ^ e.w) (polynomial_of c.in_ok-turns.turns.tree) (polynomial_of e.tree) (pow_pos w) e.canonical c.in_ok-turns.ensures.truncation
    (c.is_within.ensures.0 c.if-not-is_within.false)

pub returns-then-not-is_within-2 : goal.returns-then-not-is_within-2
returns-then-not-is_within-2 c =
    let a = c.args.a.now in
    let line = c.in-Some.line in
    let turns = polynomial_of c.in_ok-turns.turns.tree in
    let moved = polynomial_of c.in_ok-moved.moved.tree in
    let l = found_line a.w (counter c.args.counter.0) (polynomial_of a.tree) _ line c.in-Some.is c.in_ok-line.ensures in
    let p = subst (λ n. IsProduct (2 ^ n) moved (polynomial_of line.slope.tree) turns) l.1 c.in_ok-moved.ensures.product in
    not_moved a.w c.args.counter.0 c.args.e.now (polynomial_of a.tree) (polynomial_of line.base.tree) (polynomial_of line.slope.tree) turns moved l.2
    c.in_ok-turns.ensures.truncation p (from_false _ _ c.is_within-2.ensures c.if-not-is_within-2.true)
