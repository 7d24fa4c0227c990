use Rattle.item_uses.specs.Uses.{func_items}
use Rattle.item_uses.proofs.UsedChains.{marked_depended, depended_marked, none_used, length_used, step}
use Rattle.item_uses.proofs.UsesGoBack.{uses_back}
use Rattle.item_uses.proofs.laws.used_items_are_depended_on.Goals as goal

pub returns : goal.returns
returns c = record {
  entries = λ f item. length_used item 1 (func_items f);
  depend = λ f item n well some within pos. (marked_depended (func_items f) item n pos, depended_marked (func_items f) item (uses_back f well) n some within pos);
  closed = λ f item well n m marked some used. step (func_items f) item (uses_back f well) m n some marked used;
  arguments = λ f n. none_used (func_items f) n;
}
