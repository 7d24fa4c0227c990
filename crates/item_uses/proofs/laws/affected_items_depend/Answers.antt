use Rattle.std.proofs.Common.{[], arith}
use Rattle.item_uses.specs.Uses.{func_items}
use Rattle.item_uses.proofs.AffectedChains.{marked_depends, dependent_marked, none_affected, length_affected}
use Rattle.item_uses.proofs.UsesGoBack.{uses_back}
use Rattle.item_uses.proofs.laws.affected_items_depend.Goals as goal

pub returns : goal.returns
returns c = record {
  entries = λ f item. (let e = length_affected item [] (func_items f) in omega (arith, e));
  depend = λ f item n well some within. (marked_depends (func_items f) item n, dependent_marked (func_items f) item (uses_back f well) some within n);
  arguments = λ f n. none_affected (func_items f) n;
}
