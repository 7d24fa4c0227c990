use Rattle.std.proofs.Common.{arith, refl, ◌^◌}
use Rattle.std.proofs.lemmas.Nat.{pow_pos}
use Rattle.scev_tree.specs.Tree.{polynomial_of}
use Rattle.scev_tree.proofs.GrowingLists.{push_after}
use Rattle.phi_solve.proofs.StepTrees.{chain_built}
use Rattle.phi_solve.proofs.solve.sum_over_turns.Goals as goal

pub loop-t-preserved : goal.loop-t-preserved
loop-t-preserved c = push_after (polynomial_of c.args.init.now) c.loop-t.out.items c.push-in-loop-t.new.self.items c.places_of-t-items.result.now c.loop-t.t-index c.in_ok-copy_tree-2.field-0 c.t-item.result c.loop-t.invariant (omega arith) c.t-item.is c.in_ok-copy_tree-2.ensures c.in_ok-push-2.ensures.items

pub returns : goal.returns
returns c = chain_built (2 ^ c.args.w) _ _ _ _ _ c.loop-t.out.items c.places_of-t-items.result.now c.loop-t.t-index (pow_pos c.args.w) (omega arith) refl c.loop-t.invariant c.requires.left c.requires.below c.requires.right c.places_of-t-items.ensures (λ h. c.build.ensures (2 ^ c.args.w) (pow_pos c.args.w) h)
