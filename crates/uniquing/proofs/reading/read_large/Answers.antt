use Rattle.std.proofs.Common.{◌≡◌, arith}
use Rattle.cell_code.specs.declared.form.CellForm.TheVariants.{Small}
use Rattle.uniquing.proofs.Forms.{half_is}
use Rattle.uniquing.proofs.reading.read_large.Goals as goal

pub overflow_add-result : goal.overflow_add-result
overflow_add-result g c =
    let h = c.requires.low in
    let e : c.in-Small.n ≡ h.0 = half_is c.args.p.now.view c.args.low c.in-Small.n h.0 c.load_form.result c.load_form.ensures.form c.in-Small.is h.1 in
    omega (arith, h.1.0, c.from.ensures)

pub unreachable-requires : goal.unreachable-requires
unreachable-requires g c = let h = c.requires.low in c.in_default.not-Small h.0 (c.load_form.ensures.form (Small h.0) h.1.1)

pub returns-clause-value : goal.returns-clause-value
returns-clause-value g c = λ n h.
    let e : c.in-Small.n ≡ n = half_is c.args.p.now.view c.args.low c.in-Small.n n c.load_form.result c.load_form.ensures.form c.in-Small.is h in
    omega (arith, c.from.ensures)
