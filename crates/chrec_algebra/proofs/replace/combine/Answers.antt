use Rattle.std.proofs.Common.{◌^◌, true, ap, ◌%◌, ◌∙◌}
use Rattle.std.proofs.Math.Nat.{mod-mod}
use Rattle.scev_tree.specs.Polynomial.{variable_of}
use Rattle.scev_tree.proofs.TreePlaces.{canon_of}
use Rattle.std.proofs.lemmas.Nat.{pow_pos}
use Rattle.chrec_algebra.proofs.Replacements.{combined_first, combined_step}
use Rattle.chrec_algebra.proofs.replace.combine.Goals as goal

pub loop-k-init : goal.loop-k-init
loop-k-init c = combined_first (2 ^ c.args.w) _ c.args.n _ (pow_pos c.args.w)

pub add_onto-requires-clause-tree : goal.add_onto-requires-clause-tree
add_onto-requires-clause-tree c = canon_of _ (variable_of true c.args.place.0) c.args.ts.now c.loop-k.k c.index-ts-k.result c.index-ts-k.is c.requires.canon c.loop-k-test.true

pub loop-k-preserved : goal.loop-k-preserved
loop-k-preserved c = combined_step (2 ^ c.args.w) _ c.args.n c.loop-k.k c.choose-c.result _ _ c.index-ts-k.result c.args.ts.now c.loop-k-test.true c.index-ts-k.is c.requires.canon (ap (λ z. z % 2 ^ c.args.w) c.choose-c.ensures ∙ mod-mod _ (2 ^ c.args.w)) c.loop-k.invariant c.in_ok-sum.ensures
