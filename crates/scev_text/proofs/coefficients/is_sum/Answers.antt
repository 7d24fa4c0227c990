use Rattle.std.proofs.Common.{◌∙◌}
use Rattle.std.proofs.lemmas.Bool.{not_from_true}
use Rattle.scev_text.proofs.Sums.{sum_number, sum_counter, sum_symbol}
use Rattle.scev_text.proofs.coefficients.is_sum.Goals as goal

pub returns-in-Num : goal.returns-in-Num
returns-in-Num c = sum_number c.args.t.now c.in-Num.field-0 c.in-Num.is

pub returns-then-not-counter : goal.returns-then-not-counter
returns-then-not-counter c =
    sum_symbol c.args.t.now c.in-Ext.counter c.in-Ext.var c.in-Ext.ops c.as_slice.result.now c.has_several_terms.result c.in-Ext.is c.if-not-counter.true c.as_slice.ensures c.has_several_terms.ensures

pub returns-else-not-counter : goal.returns-else-not-counter
returns-else-not-counter c = not_from_true _ c.if-not-counter.false ∙ sum_counter c.args.t.now c.in-Ext.counter c.in-Ext.var c.in-Ext.ops c.in-Ext.is c.if-not-counter.false
