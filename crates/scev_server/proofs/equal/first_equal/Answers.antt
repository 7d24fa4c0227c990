use Rattle.std.proofs.Common.{rules}
use Rattle.fresh_scev.specs.Expressions.{expression_of}
use Rattle.scev_server.proofs.Numbering.{others_more, none_equal}
use Rattle.scev_server.proofs.equal.first_equal.Goals as goal

pub places-preserved : goal.places-preserved
places-preserved c =
    others_more c.args.held.now (expression_of c.args.expr.now) c.places.place c.index-held-place.result c.places-test.true c.index-held-place.is c.places.invariant (search rules)

pub returns : goal.returns
returns c = none_equal c.args.held.now (expression_of c.args.expr.now) c.places.place c.places-test.false c.places.invariant
