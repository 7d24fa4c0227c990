-- The program's operations as plain data.
use Rattle.std.specs.Prelude.{List, [], ◌∷◌, true, false}
use Rattle.arith_word.specs.declared.label.Label.{Label}
use Rattle.mlir_ir.specs.declared.types.Region.{Region, Region', Row_of-Op, end_of-Op, more_of-Op}
use Rattle.mlir_ir.specs.declared.types.Item.{Item}
use Rattle.mlir_ir.specs.declared.types.Op.{Op}
use Rattle.mlir_ir.specs.declared.types.Kind.{Kind, Const, Bin, Cast, Cmp, Select, Call, If', For, While, Held-Kind-If-2, None', Some'}
use Rattle.mlir_ir.specs.declared.types.ForParts.{ForParts, ForParts'}
use Rattle.mlir_ir.specs.declared.types.WhileParts.{WhileParts, WhileParts'}
use Rattle.mlir_ir.specs.Operations as plain

abbrev mutual
  pub view_row : {m : _} → Row_of-Op m → plain.OpList
  view_row end_of-Op = plain.nil
  view_row (more_of-Op packs results kind rest) = plain.next packs results (view_kind kind) (view_row rest)

  pub view_kind : Kind → plain.OpKind
  view_kind (Const v) = plain.Simple (plain.Const v)
  view_kind (Bin op flags a b) = plain.Simple (plain.Bin op flags a b)
  view_kind (Cast op flags a) = plain.Simple (plain.Cast op flags a)
  view_kind (Cmp pred a b) = plain.Simple (plain.Cmp pred a b)
  view_kind (Select c a b) = plain.Simple (plain.Select c a b)
  view_kind (Call func uses) = plain.Simple (plain.Call func uses)
  view_kind (If' c (Region' shape row ends) other) = view_else c (view_row row) ends other
  view_kind (For parts) = view_for parts
  view_kind (While parts) = view_while parts

  pub view_else : Label → plain.OpList → List Label → Held-Kind-If-2 → plain.OpKind
  view_else c first firsts None' = plain.If c first firsts false plain.nil []
  view_else c first firsts (Some' (Region' shape row ends)) = plain.If c first firsts true (view_row row) ends

  pub view_for : ForParts → plain.OpKind
  view_for (ForParts' lower upper step iv args inits (Region' shape row ends)) = plain.For lower upper step iv args inits (view_row row) ends

  pub view_while : WhileParts → plain.OpKind
  view_while (WhileParts' args inits (Region' shape row passed) cond after_args (Region' shape2 after ends)) =
      plain.While args inits (view_row row) passed cond after_args (view_row after) ends

abbrev pub view_ops : List Op → plain.OpList
view_ops [] = plain.nil
view_ops (op ∷ ops) = plain.next op.packs op.results (view_kind op.kind) (view_ops ops)

-- a region's operations, and the values that it gives on
abbrev pub rows_of : Region → plain.OpList
rows_of (Region' shape row ends) = view_row row

abbrev pub ends_of : Region → List Label
ends_of (Region' shape row ends) = ends

abbrev pub view_items : List Item → List plain.OpList
view_items [] = []
view_items (item ∷ items) = view_ops item.ops ∷ view_items items
