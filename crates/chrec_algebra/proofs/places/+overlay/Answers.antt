use Rattle.std.proofs.Common.{arith, refl}
use Rattle.chrec_algebra.proofs.Opening.{overlaid_step, fewer, set_length}
use Rattle.chrec_algebra.proofs.places.+overlay.Goals as goal

pub overlay-requires : goal.overlay-requires
overlay-requires t c = let e = fewer c.args.ops c.pop.new.self c.in-Some.last c.in-Some.ensures in (omega (arith, e), omega (arith, e, c.requires, set_length c.args.out.items c.len.result c.in-Some.last))

pub returns-in-Some-clause-places : goal.returns-in-Some-clause-places
returns-in-Some-clause-places t c = overlaid_step c.args.ops c.pop.new.self c.args.out.items _ c.in-Some.last _ c.in-Some.ensures c.requires (rw c.len.ensures refl) c.overlay.ensures.places
