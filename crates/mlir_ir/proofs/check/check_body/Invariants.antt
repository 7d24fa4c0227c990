use Rattle.std.proofs.Common.{◌≡◌, ◌+◌, ◌++◌, take, drop}
use Rattle.mlir_ir.specs.Check.{first, items_breaks, past_items, items_results}
use Rattle.arith_word.specs.Labels.{label_at}
use Rattle.mlir_ir.specs.Values.{arg_values}
use Rattle.mlir_ir.proofs.TypeAtTop.{KeepFrom}
use Rattle.mlir_ir.proofs.check.check_body.Given as goal

abbrev pub invariant-loop-k : goal.invariant-loop-k
invariant-loop-k l = record {
  kept : KeepFrom 1 (take l.k l.items);
  rest :
      first (items_breaks l.func.index (l.k + 1) (arg_values (label_at l.func.index 0 0) l.args ++ items_results l.func.index 1 (take l.k l.items)) l.behind (drop l.k l.items))
      ≡ first (items_breaks l.func.index 1 (arg_values (label_at l.func.index 0 0) l.args) l.fn.at l.items);
  last : (past_items l.func.index (l.k + 1) (drop l.k l.items) l.behind).last ≡ (past_items l.func.index 1 l.items l.fn.at).last;
}
