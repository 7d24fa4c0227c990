use Rattle.std.proofs.Common.{arith, sym, ◌∙◌}
use Rattle.scev_text.proofs.KeptDefinitions.{label_fits}
use Rattle.scev_text.proofs.naming.ValueNames.value.Goals as goal

pub overflow_add-result : goal.overflow_add-result
overflow_add-result c =
    let s = c.self.invariant in
    let fits =
    label_fits c.self.inside.definitions s.behind c.self.inside.names.values c.args.name.now c.args.nth c.in_ok-definition.definition c.args.place s.kept s.fit
    (sym c.get.ensures ∙ c.in_ok-definition.was) (omega (arith, c.from.ensures, c.if-place-from.true)) in
    omega (arith, fits)
