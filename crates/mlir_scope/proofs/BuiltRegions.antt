-- An `scf.if` that is built, as plain data.
use Rattle.std.proofs.Common.{◌≡◌, Option, Some, None, refl}
use Rattle.std.specs.Option.{is_some}
use Rattle.arith_word.specs.declared.label.Label.{Label}
use Rattle.mlir_ir.specs.declared.types.Region.{Region, Region'}
use Rattle.mlir_ir.specs.declared.types.Kind.{If', back-Kind-If-2}
use Rattle.mlir_ir.specs.Operations as plain
use Rattle.mlir_ir.specs.View.{view_kind, rows_of, ends_of}
use Rattle.mlir_scope.specs.Built.{other_rows, other_ends}

-- with or without the region of `else`
pub if_parts : (c : Label) (first : Region) (other : Option Region)
    → view_kind (If' c first (back-Kind-If-2 other)) ≡ plain.If c (rows_of first) (ends_of first) (is_some other) (other_rows other) (other_ends other)
if_parts c (Region' shape row ends) None = refl
if_parts c (Region' shape row ends) (Some (Region' shape2 row2 ends2)) = refl
