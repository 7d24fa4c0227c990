use Rattle.std.proofs.Common.{arith, refl, ◌^◌, true}
use Rattle.std.proofs.lemmas.Nat.{pow_pos}
use Rattle.scev_tree.specs.Polynomial.{variable_of}
use Rattle.scev_tree.proofs.Residual.{chain_first, chain_push, chain_built}
use Rattle.scev_tree.proofs.chains.chain.Goals as goal

pub loop-v-init : goal.loop-v-init
loop-v-init c = chain_first (2 ^ c.args.w) _ c.args.places.now c.in_ok-out.ensures.items

pub loop-v-preserved : goal.loop-v-preserved
loop-v-preserved c = chain_push c.args.w c.mask.result c.loop-v.v-index _ c.loop-v.out.items _ c.args.places.now c.mask.ensures.value (omega arith) c.loop-v.invariant c.in_ok-push.ensures.items

pub invariant_of-result : goal.invariant_of-result
invariant_of-result c = record { canonical = (chain_built (2 ^ c.args.w) (variable_of true c.args.counter.0) _ c.loop-v.v-index _ c.loop-v.out.items c.args.places.now (pow_pos c.args.w) (omega arith) refl c.loop-v.invariant (λ h. c.build-tree.ensures (2 ^ c.args.w) (pow_pos c.args.w) h)).canon }

pub returns-clause-chain : goal.returns-clause-chain
returns-clause-chain c = chain_built (2 ^ c.args.w) (variable_of true c.args.counter.0) _ c.loop-v.v-index _ c.loop-v.out.items c.args.places.now (pow_pos c.args.w) (omega arith) refl c.loop-v.invariant (λ h. c.build-tree.ensures (2 ^ c.args.w) (pow_pos c.args.w) h)
