use Rattle.std.proofs.Common.{◌≡◌, subst, sym}
use Rattle.pass_copy.specs.InScope.{InScope}
use Rattle.pass_expand.specs.Expandable.{is_symbol}
use Rattle.scev_tree.specs.Polynomial.{variable_of}
use Rattle.pass_expand.proofs.ScopedTrees.{symbol_there}
use Rattle.pass_expand.proofs.expandable.is_symbol.Goals as goal

pub returns-then-not-counter : goal.returns-then-not-counter
returns-then-not-counter c =
    let place = c.args.place.now in
    subst (λ counter. InScope place.f.now place.target.0 (λ T. c.has_type.result ≡ is_symbol T place.ty (variable_of counter c.args.x.0))) (sym c.if-not-counter.true)
    (symbol_there place.f.now place.target.0 place.ty c.has_type.result c.args.x.0 c.has_type.ensures)
