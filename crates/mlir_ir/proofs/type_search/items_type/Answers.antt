use Rattle.std.proofs.Common.{arith, sym, ◌∙◌, ◌+◌, drop}
use Rattle.mlir_ir.proofs.TypeSearches.{items_before}
use Rattle.mlir_ir.proofs.type_search.items_type.Goals as goal

pub returns-then-label-begin : goal.returns-then-label-begin
returns-then-label-begin c = sym (items_before c.args.func 1 c.args.items.now c.args.label (omega (arith, c.new-begin.ensures, c.if-label-begin.true)))

pub returns-then-left-lt-INDEX_COUNT : goal.returns-then-left-lt-INDEX_COUNT
returns-then-left-lt-INDEX_COUNT c =
    sym (items_before c.args.func (c.loop-item.item-index + 1) (drop c.loop-item.item-index c.args.items.now) c.args.label (omega (arith, c.loop-item.invariant.place, c.if-left-lt-INDEX_COUNT.true)))
    ∙ c.loop-item.invariant.rest
