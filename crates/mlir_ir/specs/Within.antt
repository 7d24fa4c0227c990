-- Labels of operations within the regions that may be open, which bounds how deep they are counted. Where no region is nested deeper, these are all labels.
use Rattle.std.specs.Prelude.{ℕ, ◌+◌, ◌-◌, ◌==◌, List, [], ◌∷◌, length, if◌then◌else◌}
use Rattle.mlir_ir.specs.declared.types.Region.{Region, Region', Row_of-Op, end_of-Op, more_of-Op}
use Rattle.mlir_ir.specs.declared.types.Op.{Op}
use Rattle.mlir_ir.specs.declared.types.Kind.{Kind, If', For, While, Held-Kind-If-2, None', Some'}
use Rattle.mlir_ir.specs.declared.types.ForParts.{ForParts, ForParts'}
use Rattle.mlir_ir.specs.declared.types.WhileParts.{WhileParts, WhileParts'}

-- an operation whose regions may not be opened is counted by its results alone
abbrev pub within : ℕ → ℕ → ℕ
within room labels = if room == 0 then 0 else labels

-- `room` is how many regions may still be opened, one in another
abbrev mutual
  pub region_labels_within : ℕ → Region → ℕ
  region_labels_within room (Region' shape row ends) = row_labels_within room row

  pub row_labels_within : {m : _} → ℕ → Row_of-Op m → ℕ
  row_labels_within room end_of-Op = 0
  row_labels_within room (more_of-Op packs results kind rest) = within room (opened_labels (room - 1) kind) + length results + row_labels_within room rest

  -- inside an operation whose regions may be opened, and so many more in them
  pub opened_labels : ℕ → Kind → ℕ
  opened_labels room (If' c first other) = region_labels_within room first + else_labels_within room other
  opened_labels room (For parts) = for_labels_within room parts
  opened_labels room (While parts) = while_labels_within room parts
  opened_labels room _ = 0

  pub else_labels_within : ℕ → Held-Kind-If-2 → ℕ
  else_labels_within room None' = 0
  else_labels_within room (Some' region) = region_labels_within room region

  pub for_labels_within : ℕ → ForParts → ℕ
  for_labels_within room (ForParts' lower upper step iv args inits body) = 2 + length args + region_labels_within room body

  pub while_labels_within : ℕ → WhileParts → ℕ
  while_labels_within room (WhileParts' args inits before cond after_args after) =
      1 + length args + region_labels_within room before + length after_args + region_labels_within room after

abbrev pub kind_labels_within : ℕ → Kind → ℕ
kind_labels_within room kind = within room (opened_labels (room - 1) kind)

abbrev pub op_labels_within : ℕ → Op → ℕ
op_labels_within room op = kind_labels_within room op.kind + length op.results

abbrev pub ops_labels_within : ℕ → List Op → ℕ
ops_labels_within room [] = 0
ops_labels_within room (op ∷ ops) = op_labels_within room op + ops_labels_within room ops
