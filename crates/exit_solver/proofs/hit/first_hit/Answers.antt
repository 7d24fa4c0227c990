use Rattle.std.proofs.Common.{refl, arith, ◌+◌, ◌-◌, Some, None}
use Rattle.exit_solver.proofs.Arcs.{first_at}
use Rattle.exit_solver.proofs.hit.first_hit.Goals as goal

pub returns-in-Some : goal.returns-in-Some
returns-in-Some c =
    let m = c.count-modulus.result in
    let f = c.from-start.result in
    first_at c.args.w c.args.a c.args.b c.args.len m c.from.result f (m - f) (m - f + c.args.len - 1) (Some c.in-Some.n) c.count-modulus.ensures.value c.from.ensures c.from-start.ensures refl refl (omega arith) (omega arith) c.requires.start c.in-Some.ensures.first

pub returns-in-None : goal.returns-in-None
returns-in-None c =
    let m = c.count-modulus.result in
    let f = c.from-start.result in
    first_at c.args.w c.args.a c.args.b c.args.len m c.from.result f (m - f) (m - f + c.args.len - 1) None c.count-modulus.ensures.value c.from.ensures c.from-start.ensures refl refl (omega arith) (omega arith) c.requires.start c.in-None.ensures.first
