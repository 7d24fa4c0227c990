use Rattle.scev_tree.proofs.TreePlaces.{main_number, main_nested}
use Rattle.scev_tree.proofs.tree.main_var.Goals as goal

pub returns-in-Num : goal.returns-in-Num
returns-in-Num c = main_number c.args.t.now c.in-Num.field-0 c.in-Num.is

pub returns-in-Ext : goal.returns-in-Ext
returns-in-Ext c = main_nested c.args.t.now c.in-Ext.counter c.in-Ext.var c.in-Ext.ops c.in-Ext.is
