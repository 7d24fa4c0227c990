use Rattle.scev_text.proofs.Sums.{one_number, one_ext}
use Rattle.scev_text.proofs.coefficients.is_one.Goals as goal

pub returns-in-Num : goal.returns-in-Num
returns-in-Num c = one_number c.args.t.now c.in-Num.v c.in-Num.is

pub returns-in-Ext : goal.returns-in-Ext
returns-in-Ext c = one_ext c.args.t.now c.in-Ext.counter c.in-Ext.var c.in-Ext.ops c.in-Ext.is
