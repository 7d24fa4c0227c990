use Rattle.std.proofs.Common.{◌≡◌, ◌+◌, ◌-◌, false, reverse, take, length}
use Rattle.pass_copy.specs.declared.building.Out.{Out}
use Rattle.pass_expand.specs.Added.{Adds}
use Rattle.pass_expand.specs.Expanded.{products}
use Rattle.pass_expand.proofs.term.push_products.Given as goal

abbrev pub invariant-loop-done : goal.invariant-loop-done
invariant-loop-done l = record {
  behind : (new : Out) → Adds l.out l.ty (products l.value.0 (reverse (take (length l.symbols - l.done) l.symbols))) new
      → Adds l.fn.out l.ty (products l.fn.value.0 (reverse l.symbols)) new;
  anew : l.out.fresh.kept ≡ false;
  at : l.value.0 + 1 ≡ l.out.at;
  value : l.value.0 ≡ l.fn.value.0 + l.done;
}
