use Rattle.std.proofs.Common.{arith, ◌^◌}
use Rattle.std.proofs.lemmas.Nat.{pow_pos}
use Rattle.phi_solve.proofs.TestedPlaces.{around_canonical, low_of}
use Rattle.phi_solve.proofs.tests.around.Goals as goal

pub invariant_of-result : goal.invariant_of-result
invariant_of-result c = record { canonical = (c.build-tree.ensures (2 ^ c.args.p.w) (pow_pos c.args.p.w) (around_canonical c.args.p.w 19 c.mask.result c.mask-2.result c.args.first c.args.second c.args.p.tree _ _ _ _ c.mask.ensures.value c.mask-2.ensures.value c.in_ok-places.ensures.items c.in_ok-push.ensures.items c.in_ok-push-2.ensures.items c.in_ok-push-3.ensures.items (low_of _ _ _ 19 c.is_low.ensures c.if-not-is_low.false (omega arith)) c.args.p.canonical)).canon }
