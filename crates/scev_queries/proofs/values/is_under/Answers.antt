use Rattle.std.proofs.Common.{◌+◌, ◌*◌, ◌∙◌, ap}
use Rattle.scev_queries.proofs.LoopVariables.{under_num, under_ext, not_under}
use Rattle.scev_queries.proofs.values.is_under.Goals as goal

pub returns-in-Num-clause-yes : goal.returns-in-Num-clause-yes
returns-in-Num-clause-yes c = λ h. under_num c.args.tree.now c.in-Num.field-0 (2 * c.args.loop_counter.0 + 1) c.in-Num.is

pub returns-in-Ext-clause-yes : goal.returns-in-Ext-clause-yes
returns-in-Ext-clause-yes c = λ h.
    under_ext c.args.tree.now c.in-Ext.counter c.in-Ext.var c.in-Ext.ops c.rank.result c.rank-in-Ext.result (2 * c.args.loop_counter.0 + 1)
    c.in-Ext.is c.rank.ensures (ap (λ n. n + 1) (c.rank-in-Ext.ensures ∙ c.counter_of.ensures)) h

pub returns-in-Ext-clause-no : goal.returns-in-Ext-clause-no
returns-in-Ext-clause-no c = λ h under.
    not_under c.args.tree.now c.in-Ext.counter c.in-Ext.var c.in-Ext.ops c.rank.result c.rank-in-Ext.result (2 * c.args.loop_counter.0 + 1)
    c.in-Ext.is c.rank.ensures (ap (λ n. n + 1) (c.rank-in-Ext.ensures ∙ c.counter_of.ensures)) h under
