-- The limits of a text that well-formed functions may pass: those of the module, and the items of a function, where each operation outside regions is one.
use Rattle.std.specs.Prelude.{ℕ, ◌≤◌, List, length, map, sum}
use Rattle.std.specs.Option.{option_map_or}
use Rattle.mlir_ir.specs.Limits.{func_limit, module_op_limit, item_limit}
use Rattle.mlir_ir.specs.Resolved.{PlainBody, PlainFunc}
use Rattle.mlir_ir.specs.Sized.{items_count}
use Rattle.round_trip.specs.Sound.{Each}

-- the operations of a function, those in regions too
abbrev pub func_ops : PlainFunc → ℕ
func_ops f = option_map_or (λ (body : PlainBody). items_count body.items) f.body 0

abbrev pub func_items : PlainFunc → ℕ
func_items f = option_map_or (λ (body : PlainBody). length body.items) f.body 0

pub record KeepsLimits (fs : List PlainFunc) : Type 0 where
  pub funcs : length fs ≤ func_limit
  pub ops : sum (map func_ops fs) ≤ module_op_limit
  pub items : Each (λ (f : PlainFunc). func_items f ≤ item_limit) fs
