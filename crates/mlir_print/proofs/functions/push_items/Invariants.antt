use Rattle.std.proofs.Common.{◌≡◌, ◌++◌, drop, string_bytes}
use Rattle.mlir_ir.specs.Canonical.{items_text}
use Rattle.mlir_print.proofs.functions.push_items.Given as goal

abbrev pub invariant-loop-item : goal.invariant-loop-item
invariant-loop-item l = string_bytes l.out ++ items_text l.names (drop l.item-index l.items) ≡ string_bytes l.fn.out ++ items_text l.names l.items
