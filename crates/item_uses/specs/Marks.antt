-- What the walks over a function's items read and write: a region's operands, and marks on items.
use Rattle.std.specs.Prelude.{ℕ, zero, suc, ◌+◌, ◌||◌, Bool, true, false, List, [], ◌∷◌, ◌++◌, take, drop, slice_index_or, slice_set, if◌then◌else◌}
use Rattle.arith_word.specs.Labels.{item_of}
use Rattle.arith_word.specs.declared.label.Label.{Label}
use Rattle.mlir_ir.specs.Operations.{OpList}
use Rattle.mlir_ir.specs.View.{view_row}
use Rattle.mlir_ir.specs.declared.types.Region.{Region, Region'}
use Rattle.item_uses.specs.Uses.{ops_uses}

-- the operands in a region, with the values that its terminator takes
abbrev pub region_uses : Region → List Label
region_uses (Region' shape row ends) = ops_uses (view_row row) ++ ends

-- a mark on item number n, where it has a place in the list
abbrev pub with_mark : List Bool → ℕ → List Bool
with_mark marks zero = marks
with_mark marks (suc place) = slice_set marks place true

-- a mark on the item of each label
abbrev pub with_marks : List Bool → List Label → List Bool
with_marks marks [] = marks
with_marks marks (label ∷ labels) = with_marks (with_mark marks (item_of label.0)) labels

-- the marks once item number place + 1 is settled by those behind it: where it is used, so is what it uses
abbrev pub settled : List Bool → ℕ → Bool → OpList → List Bool
settled marks place is_given ops =
    let mark = is_given || slice_index_or marks place false in
    let before = take place marks in
    (if mark then with_marks before (ops_uses ops) else before) ++ mark ∷ drop (place + 1) marks
