use Rattle.std.proofs.Common.{◌≡◌, ◌≤◌, take, drop, vec_len, vec_capacity}
use Rattle.std.specs.Mem.Slots.{slots_items}
use Rattle.shared_table.proofs.closing.copied.Given as goal

abbrev pub invariant-loop-i : goal.invariant-loop-i
invariant-loop-i l = record {
  room : (l.count ≤ vec_capacity l.words) × (vec_len l.words ≡ l.i);
  items : l.words.items ≡ take l.i (drop l.from (slots_items l.closed.words));
}
