use Rattle.std.proofs.Common.{length, refl, arith, ap}
use Rattle.std.proofs.lemmas.Result.{on_ok_weaker}
use Rattle.pass_indvar.proofs.PushedLoops.{loop_pushed}
use Rattle.pass_indvar.proofs.exits.push_loop.Goals as goal

pub returns : goal.returns
returns c =
    on_ok_weaker c.advance.result
    (λ at. record {
      ops = loop_pushed c.args.out.now.ops.items c.push.new.self.items c.args.op.now c.in_ok-copied.copied c.kept.result c.new.result.items _ _ c.kept.ensures.kept c.new.ensures.items
          c.in_ok-push.ensures.items c.in_ok-copied.ensures.packs c.in_ok-copied.ensures.results c.in_ok-copied.ensures.kind;
      at = let k = c.in_ok-pass_kind.ensures in let n = ap length c.as_slice.ensures in omega (arith, at, k, n);
      names = refl;
    })
    c.advance.ensures
