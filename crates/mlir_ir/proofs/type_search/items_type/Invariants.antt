use Rattle.std.proofs.Common.{◌≡◌, ◌+◌, drop}
use Rattle.arith_word.specs.Labels.{label_at}
use Rattle.mlir_ir.specs.Values.{items_values, type_at}
use Rattle.mlir_ir.proofs.type_search.items_type.Given as goal

abbrev pub invariant-loop-item : goal.invariant-loop-item
invariant-loop-item l = record {
  place : l.left + label_at l.func l.item-index 0 ≡ l.label;
  rest : type_at (items_values l.func (l.item-index + 1) (drop l.item-index l.items)) l.label ≡ type_at (items_values l.func 1 l.items) l.label;
}
