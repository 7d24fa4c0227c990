use Rattle.std.proofs.Common.{rules, arith, ◌∙◌}
use Rattle.std.specs.Mem.Slots.{slots_items}
use Rattle.shared_table.proofs.Taken.{taken}
use Rattle.shared_table.proofs.closing.copied.Goals as goal

pub loop-i-preserved : goal.loop-i-preserved
loop-i-preserved c = record {
  room = search rules;
  items = c.push_reserved.ensures.items ∙ taken c.args.from (slots_items c.args.closed.now.words) c.loop-i.words.items c.loop-i.i c.word.result c.word.ensures c.loop-i.invariant.items;
}

pub push_reserved-requires : goal.push_reserved-requires
push_reserved-requires c = let a = c.loop-i.invariant.room.0 in let b = c.loop-i.invariant.room.1 in omega arith
