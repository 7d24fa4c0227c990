-- A function with some of its items alone, which are wanted.
use Rattle.std.specs.Prelude.{Bool, List, [], ◌∷◌, if◌then◌else◌}
use Rattle.std.specs.Option.{option_map}
use Rattle.mlir_ir.specs.declared.types.Body.{Body}
use Rattle.mlir_ir.specs.declared.types.Func.{Func}
use Rattle.mlir_ir.specs.declared.types.Item.{Item}

-- the items that have their marks, and items without operations for the others
abbrev pub only_marked : List Bool → List Item → List Item
only_marked marks [] = []
only_marked [] (item ∷ items) = record { ops = [] } ∷ only_marked [] items
only_marked (mark ∷ marks) (item ∷ items) = (if mark then item else record { ops = [] }) ∷ only_marked marks items

abbrev pub marked_body : List Bool → Body → Body
marked_body marks body = record { items = only_marked marks body.items; ret = [] }

-- the function that has these items alone, and returns nothing
abbrev pub with_items : List Bool → Func → Func
with_items marks f = record f { results = []; body = option_map (marked_body marks) f.body }
