-- What one operation breaks and defines, and how many steps a walk over operations takes.
use Rattle.std.specs.Prelude.{ℕ, ◌+◌, List}
use Rattle.mlir_ir.specs.Phrases.{Phrase, Line}
use Rattle.mlir_ir.specs.Resolved.{packs_of, tys}
use Rattle.mlir_ir.specs.ScopeFaults.{Break, kind_breaks, block_breaks}
use Rattle.mlir_ir.specs.Source.{Block, none, op, Packed, head, op_types, region, region_behind}
use Rattle.mlir_ir.specs.Values.{Value, result_values}

-- the breaks of a kind with its regions
abbrev pub breaks_of_kind : List Line → ℕ → List Value → Phrase → List Break
breaks_of_kind funcs loops scope kind =
    kind_breaks funcs loops scope (head kind) kind (region kind) (region_behind kind) (block_breaks funcs (region kind)) (block_breaks funcs (region_behind kind))

abbrev pub values_of_operation : List Packed → Phrase → List Value
values_of_operation packs kind = result_values 0 (packs_of packs) (tys (op_types (head kind) kind))

-- more than the steps of a walk over operations and their regions
abbrev pub steps : Block → ℕ
steps none = 0
steps (op at packs kind first second rest) = 10 + steps first + steps second + steps rest

-- more than the steps of a walk over the regions of one operation
abbrev pub inner_steps : Phrase → ℕ
inner_steps kind = steps (region kind) + steps (region_behind kind)
