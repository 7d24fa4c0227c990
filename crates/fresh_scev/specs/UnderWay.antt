-- The analysis of a function, under way.
use Rattle.std.specs.Prelude.{◌≡◌, List, []}
use Rattle.mlir_ir.specs.declared.types.Func.{Func}
use Rattle.mlir_ir.specs.declared.types.Item.{Item}
use Rattle.mlir_ir.specs.Rules.{arg_types}
use Rattle.fresh_scev.specs.Sealed.{HasItems}
use Rattle.fresh_scev.specs.declared.table.Table.{Table}

-- the table has the facts of the function's arguments and of its first items, and the next item begins
pub record HasFirstItems (f : Func) (t : Table) (items : List Item) : Type 0 where
  pub has : HasItems t (arg_types f.args) items
  pub func : t.func ≡ f.index
  pub conditions : t.conditions.items ≡ []
