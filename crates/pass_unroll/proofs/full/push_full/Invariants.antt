use Rattle.std.proofs.Common.{◌≡◌, ℕ, ◌+◌, ◌*◌, ◌^◌, ◌-◌, ◌≤◌, List, false}
use Rattle.pass_unroll.specs.Built.{loop_of}
use Rattle.pass_copy.specs.Built.{IsBehind, fresh_at}
use Rattle.pass_unroll.specs.Copies.{full_copies, full_ends}
use Rattle.pass_copy.specs.declared.building.Out.{Out}
use Rattle.pass_unroll.proofs.full.push_full.Given as goal

abbrev pub invariant-loop-turn : goal.invariant-loop-turn
invariant-loop-turn l =
    let t = l.source.start.0 in
    let o = loop_of l.source in
    record {
      behind : (new : Out) → IsBehind l.out (full_copies (fresh_at l.fn.out) t o l.plan.step (l.plan.count - l._turn) l.out.fresh.given l.out.at l.v l.args) new
          → IsBehind l.fn.out (full_copies (fresh_at l.fn.out) t o l.plan.step l.plan.count l.fn.out.fresh.given l.fn.out.at l.plan.lower o.inits) new;
      ends : (fresh : ℕ → List ℕ) → full_ends fresh t o (l.plan.count - l._turn) l.out.at l.args ≡ full_ends fresh t o l.plan.count l.fn.out.at o.inits;
      same : fresh_at l.out ≡ fresh_at l.fn.out;
      anew : l.out.fresh.kept ≡ false;
      room : l.v ≤ 2 ^ 64 + l._turn * 2 ^ 64;
    }
