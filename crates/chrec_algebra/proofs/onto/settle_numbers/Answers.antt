use Rattle.std.proofs.Common.{◌^◌}
use Rattle.scev_tree.specs.Variable.{rank_of}
use Rattle.std.proofs.lemmas.Nat.{pow_pos}
use Rattle.chrec_algebra.proofs.InPlace.{settled_numbers}
use Rattle.chrec_algebra.proofs.onto.settle_numbers.Goals as goal

pub returns : goal.returns
returns c = settled_numbers _ c.args.by.now.c c.args.count (rank_of c.args.by.now.x) _ _ _ _ _ c.requires.rest c.in_ok-places.ensures (c.build-chain.ensures (2 ^ c.args.by.now.w) (pow_pos c.args.by.now.w) (c.in_ok-places.ensures.canon _ _ c.requires.numbers)) c.in_ok-settle.ensures
