-- Tables between the items of a function.
use Rattle.std.specs.Prelude.{◌≡◌, ◌+◌, List, [], ◌∷◌, ◌++◌, length}
use Rattle.arith_word.specs.Labels.{label_at}
use Rattle.mlir_ir.specs.declared.types.IrType.{IrType}
use Rattle.mlir_ir.specs.declared.types.Item.{Item}
use Rattle.mlir_ir.specs.View.{view_items}
use Rattle.fresh_scev.specs.Facts.{AreOwn, IsItems}
use Rattle.fresh_scev.specs.Table.{facts_of, AreKnown}
use Rattle.fresh_scev.specs.declared.table.Table.{Table}

-- the item under way is done, and the next one begins
pub record Seals (s t : Table) : Type 0 where
  pub func : t.func ≡ s.func
  pub items : t.items ≡ s.items ++ s.here.items ∷ []
  pub here : t.here.items ≡ []
  pub conditions : t.conditions.items ≡ s.conditions.items

-- a table of a function's arguments, which have these types, and of its first items
pub record HasItems (t : Table) (args : List IrType) (items : List Item) : Type 0 where
  pub many : length t.items ≡ 1 + length items
  pub begins : t.here.items ≡ []
  pub known : AreKnown (facts_of t)
  pub arguments : AreOwn (facts_of t) (label_at t.func 0 0) args
  pub facts : IsItems t.func 1 (view_items items) (facts_of t)
