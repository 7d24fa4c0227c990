use Rattle.std.proofs.Common.{◌∙◌}
use Rattle.uniquing.specs.Nodes.{part_of}
use Rattle.uniquing.proofs.Filling.{seen_for}
use Rattle.uniquing.proofs.Telling.{ok_parts, ok_history, err_history}
use Rattle.uniquing.proofs.interning.intern.Goals as goal

pub returns-in_err-root-clause-history : goal.returns-in_err-root-clause-history
returns-in_err-root-clause-history g c =
    let w = c.intern_root-root.new.p.view in
    let seen = seen_for w c.intern_root-root.new.p.sizes c.args.s.now.sizes (c.intern_root-root.ensures.same.2 ∙ c.requires.table.1) c.facts.ensures in
    err_history g.M.MemoMeaning.meaning c.args.s.now.sizes c.args.p.now.view w (part_of c.args.e.now) seen _ c.from_residual.result c.from_residual.ensures.0 c.in_err-root.ensures.interned

pub returns-clause-parts : goal.returns-clause-parts
returns-clause-parts g c =
    let w = c.intern_root-root.new.p.view in
    let seen = seen_for w c.intern_root-root.new.p.sizes c.args.s.now.sizes (c.intern_root-root.ensures.same.2 ∙ c.requires.table.1) c.facts.ensures in
    ok_parts g.M.MemoMeaning.meaning c.args.s.now.sizes c.args.p.now.view w (part_of c.args.e.now) seen c.in_ok-root.field-0 c.in_ok-root.ensures.interned

pub returns-clause-history : goal.returns-clause-history
returns-clause-history g c =
    let w = c.intern_root-root.new.p.view in
    let seen = seen_for w c.intern_root-root.new.p.sizes c.args.s.now.sizes (c.intern_root-root.ensures.same.2 ∙ c.requires.table.1) c.facts.ensures in
    ok_history g.M.MemoMeaning.meaning c.args.s.now.sizes c.args.p.now.view w (part_of c.args.e.now) seen (record { 0 = c.in_ok-root.field-0 }) c.in_ok-root.ensures.interned
