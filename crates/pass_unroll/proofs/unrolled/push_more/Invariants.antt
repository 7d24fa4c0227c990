use Rattle.std.proofs.Common.{◌≡◌, ℕ, ◌-◌, List, false}
use Rattle.pass_unroll.specs.Built.{loop_of}
use Rattle.pass_copy.specs.Built.{IsBehind, fresh_at}
use Rattle.pass_unroll.specs.Copies.{more_copies, more_ends}
use Rattle.pass_copy.specs.declared.building.Out.{Out}
use Rattle.pass_unroll.proofs.unrolled.push_more.Given as goal

abbrev pub invariant-loop-j : goal.invariant-loop-j
invariant-loop-j l =
    let t = l.source.start.0 in
    let o = loop_of l.source in
    record {
      behind : (new : Out) → IsBehind l.out (more_copies (fresh_at l.fn.out) t o l.by.plan.now.step l.variable (l.by.factor - l.j) l.j l.out.fresh.given l.out.at l.args) new
          → IsBehind l.fn.out (more_copies (fresh_at l.fn.out) t o l.by.plan.now.step l.variable (l.by.factor - 1) 1 l.fn.out.fresh.given l.fn.out.at l.fn.first) new;
      ends : (fresh : ℕ → List ℕ) → more_ends fresh t o (l.by.factor - l.j) l.out.at l.args ≡ more_ends fresh t o (l.by.factor - 1) l.fn.out.at l.fn.first;
      same : fresh_at l.out ≡ fresh_at l.fn.out;
      anew : l.out.fresh.kept ≡ false;
    }
