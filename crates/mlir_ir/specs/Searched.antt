-- What a search for a label among values finds.
use Rattle.std.specs.Prelude.{ℕ, ◌-◌, List, nat_lt, if◌then◌else◌}
use Rattle.mlir_ir.specs.declared.type_search.Search.{Search}
use Rattle.mlir_ir.specs.declared.type_search.Search.TheVariants.{Within, Behind}
use Rattle.mlir_ir.specs.Values.{Value, type_at}

-- for values that take `count` labels, of which the first comes `left` labels before the one that is sought
abbrev pub searched : List Value → ℕ → ℕ → ℕ → Search
searched values count left label = if nat_lt left count then Within (type_at values label) else Behind (left - count)
