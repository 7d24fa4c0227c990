use Rattle.std.proofs.Common.{◌≤◌, ◌⊎◌, List, length, subst}
use Rattle.scev_tree.specs.declared.tree.Tree.{Tree}
use Rattle.scev_tree.specs.Tree.{polynomials, EndsZero}
use Rattle.scev_tree.proofs.GrowingLists.{build_none, trim_first, from_true, from_false}
use Rattle.chrec_algebra.proofs.InPlace.{without_zero, alone, together}
use Rattle.chrec_algebra.proofs.onto.+rebuild.Goals as goal

pub returns-then-are_tidy : goal.returns-then-are_tidy
returns-then-are_tidy t c = λ M some all. together M c.args.x.counter c.args.x.label c.as_slice.result.now c.args.ops c.as_slice.ensures (c.are_tidy.ensures.tidy c.if-are_tidy.true) all

pub returns-in-None : goal.returns-in-None
returns-in-None t c = λ M some all. build_none M _ _ c.args.ops some c.in-None.ensures.0 (trim_first _)

pub returns-then-is_empty : goal.returns-then-is_empty
returns-then-is_empty t c = λ M some all. alone M _ c.args.ops c.pop.new.self c.in-Some.last c.in-Some.ensures (from_true _ _ c.is_empty.ensures c.if-is_empty.true) all

pub returns-else-is_empty : goal.returns-else-is_empty
returns-else-is_empty t c = λ M some all.
    let h : (length c.args.ops ≤ 1) ⊎ EndsZero (polynomials c.args.ops) = subst (λ (ts : List Tree). (length ts ≤ 1) ⊎ EndsZero (polynomials ts)) c.as_slice.ensures (c.are_tidy.ensures.not c.if-are_tidy.false) in
    without_zero M _ c.args.ops c.pop.new.self c.in-Some.last _ c.in-Some.ensures (from_false _ _ c.is_empty.ensures c.if-is_empty.false) h (λ d. c.rebuild.ensures M some d) all
