-- How many labels the parts of a function take. Labels are given in the order of the text. A loop takes
-- one for its counter before its variables, and results come after the regions of their operation.
use Rattle.std.specs.Prelude.{ℕ, ◌+◌, List, [], ◌∷◌, length}
use Rattle.mlir_ir.specs.declared.types.Region.{Region, Region', Row_of-Op, end_of-Op, more_of-Op}
use Rattle.mlir_ir.specs.declared.types.Op.{Op}
use Rattle.mlir_ir.specs.declared.types.Kind.{Kind, If', For, While, Held-Kind-If-2, None', Some'}
use Rattle.mlir_ir.specs.declared.types.ForParts.{ForParts, ForParts'}
use Rattle.mlir_ir.specs.declared.types.WhileParts.{WhileParts, WhileParts'}

-- how many labels are taken
abbrev mutual
  pub region_labels : Region → ℕ
  region_labels (Region' shape row ends) = row_labels row

  pub row_labels : {m : _} → Row_of-Op m → ℕ
  row_labels end_of-Op = 0
  row_labels (more_of-Op packs results kind rest) = kind_labels kind + length results + row_labels rest

  -- by an operation besides its results
  pub kind_labels : Kind → ℕ
  kind_labels (If' c first other) = region_labels first + else_labels other
  kind_labels (For parts) = for_labels parts
  kind_labels (While parts) = while_labels parts
  kind_labels _ = 0

  pub else_labels : Held-Kind-If-2 → ℕ
  else_labels None' = 0
  else_labels (Some' region) = region_labels region

  pub for_labels : ForParts → ℕ
  for_labels (ForParts' lower upper step iv args inits body) = 2 + length args + region_labels body

  pub while_labels : WhileParts → ℕ
  while_labels (WhileParts' args inits before cond after_args after) = 1 + length args + region_labels before + length after_args + region_labels after

abbrev pub op_labels : Op → ℕ
op_labels op = kind_labels op.kind + length op.results

abbrev pub ops_labels : List Op → ℕ
ops_labels [] = 0
ops_labels (op ∷ ops) = op_labels op + ops_labels ops
