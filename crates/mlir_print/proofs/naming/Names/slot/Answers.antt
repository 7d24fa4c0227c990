use Rattle.mlir_print.proofs.Items.{other_func, no_item, no_slot, slot_found}
use Rattle.std.proofs.Common.{arith}
use Rattle.mlir_print.proofs.naming.Names.slot.Goals as goal

pub returns-then-func-self : goal.returns-then-func-self
returns-then-func-self c = other_func _ _ _ _ c.self.view_is c.self.invariant _ _ c.func.ensures c.if-func-self.true

pub returns-then-number-len : goal.returns-then-number-len
returns-then-number-len c = no_item _ _ _ _ c.self.view_is c.self.invariant _ _ c.func.ensures c.if-func-self.false _ c.item-number.ensures c.len.result (omega (arith, c.len.ensures, c.self.inside.rows.ok.0)) c.if-number-len.true

pub returns-then-index-row : goal.returns-then-index-row
returns-then-index-row c =
    slot_found _ _ _ _ c.self.view_is c.self.invariant _ _ c.func.ensures c.if-func-self.false _ c.item-number.ensures c.len.result (omega (arith, c.len.ensures, c.self.inside.rows.ok.0)) c.if-number-len.false c.index.result.now c.index.ensures _ c.as_slice-row.ensures _ c.index-index.ensures c.index-row-index.result c.if-index-row.true c.index-row-index.is

pub returns-else-index-row : goal.returns-else-index-row
returns-else-index-row c =
    no_slot _ _ _ _ c.self.view_is c.self.invariant _ _ c.func.ensures c.if-func-self.false _ c.item-number.ensures c.len.result (omega (arith, c.len.ensures, c.self.inside.rows.ok.0)) c.if-number-len.false c.index.result.now c.index.ensures _ c.as_slice-row.ensures _ c.index-index.ensures c.if-index-row.false
