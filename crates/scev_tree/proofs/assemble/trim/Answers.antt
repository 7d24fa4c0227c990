use Rattle.std.proofs.Common.{arith, ◌≡◌, ◌-◌, ap, ◌∙◌, length, take}
use Rattle.scev_tree.proofs.GrowingLists.{trim_to}
use Rattle.scev_tree.specs.Tree.{EndsZero, polynomials}
use Rattle.scev_tree.proofs.assemble.trim.Goals as goal

pub loop-places-preserved : goal.loop-places-preserved
loop-places-preserved c = let z : EndsZero (polynomials c.loop-places.places.items) = rw c.as_slice.ensures.value at (c.ends_in_zero.ensures.zero c.loop-places-test.true) in trim_to _ c.loop-places.places.items c.truncate.new.self.items c.loop-places.invariant z (c.truncate.ensures.items ∙ ap (λ n. take n c.loop-places.places.items) (let e : c.len-kept.result - 1 ≡ length c.loop-places.places.items - 1 = omega arith in e))
