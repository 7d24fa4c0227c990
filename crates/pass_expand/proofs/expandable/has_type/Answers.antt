use Rattle.std.proofs.Common.{false, ap, sym, ◌∙◌}
use Rattle.std.specs.Option.{option_map_or}
use Rattle.mlir_ir.specs.Rules.{same_type}
use Rattle.pass_expand.proofs.ScopedTrees.{found_there}
use Rattle.pass_expand.proofs.expandable.has_type.Goals as goal

pub returns-in-None : goal.returns-in-None
returns-in-None c =
    let place = c.args.place.now in
    found_there place.f.now place.target.0 c.args.x.0 place.ty c.scope_of.result false c.requires.stands.0 c.requires.formed c.requires.stands.1 c.scope_of.ensures
    (ap (λ found. option_map_or (same_type place.ty) found false) (sym c.in-None.is))

pub returns-in-Some : goal.returns-in-Some
returns-in-Some c =
    let place = c.args.place.now in
    found_there place.f.now place.target.0 c.args.x.0 place.ty c.scope_of.result c.same_type.result c.requires.stands.0 c.requires.formed c.requires.stands.1 c.scope_of.ensures
    (c.same_type.ensures ∙ ap (λ found. option_map_or (same_type place.ty) found false) (sym c.in-Some.is))
