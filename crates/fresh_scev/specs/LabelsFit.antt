-- What the labels of a function keep, for all of them to be told apart.
use Rattle.std.specs.Prelude.{◌≤◌, length}
use Rattle.mlir_ir.specs.declared.types.Func.{Func}
use Rattle.mlir_ir.specs.Limits.{arg_limit, item_limit}
use Rattle.mlir_ir.specs.Places.{DoLabelsFit}
use Rattle.mlir_ir.specs.Sized.{SizedItems}
use Rattle.fresh_scev.specs.Facts.{items_in}
use Rattle.fresh_scev.specs.UsesBelow.{DoItemsUseBelow}

pub record FitsLabels (f : Func) : Type 0 where
  pub few_args : length f.args ≤ arg_limit
  pub few_items : length (items_in f.body) ≤ item_limit
  pub few_labels : DoLabelsFit f
  pub sized : SizedItems (items_in f.body)
  pub uses : DoItemsUseBelow f.index 1 (items_in f.body)
