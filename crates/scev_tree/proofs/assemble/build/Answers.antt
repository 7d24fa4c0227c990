use Rattle.std.proofs.Common.{arith}
use Rattle.scev_tree.proofs.GrowingLists.{build_from, build_one, build_none, only_is, none_is}
use Rattle.scev_tree.proofs.assemble.build.Goals as goal

pub returns-then-len-gt1 : goal.returns-then-len-gt1
returns-then-len-gt1 c = λ M some all. build_from M c.args.x.counter c.args.x.label _ c.from_vec.result _ c.from_vec.ensures (omega arith) c.trim.ensures.same c.trim.ensures.tidy all

pub returns-in-Some : goal.returns-in-Some
returns-in-Some c = λ M some all. build_one M _ _ c.trim.new.places.items c.in-Some.only (only_is _ c.pop.new.self.items c.in-Some.only c.in-Some.ensures.items (omega arith)) c.trim.ensures.same all

pub returns : goal.returns
returns c = λ M some all. build_none M _ _ c.trim.new.places.items some (none_is _ c.pop.new.self.items c.in-None.ensures.items (omega (arith, c.in-None.ensures.cases.0))) c.trim.ensures.same
