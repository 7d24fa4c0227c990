use Rattle.std.proofs.Common.{arith, ap, ◌∙◌, sym}
use Rattle.pass_indvar.specs.Entries.{entry}
use Rattle.pass_indvar.proofs.EntryLists.{entry_there, entry_missing}
use Rattle.pass_indvar.proofs.exits.entry.Goals as goal

pub returns-then-exprs-i : goal.returns-then-exprs-i
returns-then-exprs-i c = entry_missing c.args.exprs.now c.args.i c.if-exprs-i.true

pub returns-in-None : goal.returns-in-None
returns-in-None c = ap entry (sym c.in-None.is) ∙ entry_there c.args.exprs.now c.args.i c.index-exprs-i.result (omega arith) c.index-exprs-i.is

pub returns-in-Some : goal.returns-in-Some
returns-in-Some c = ap entry (sym c.in-Some.is) ∙ entry_there c.args.exprs.now c.args.i c.index-exprs-i.result (omega arith) c.index-exprs-i.is
