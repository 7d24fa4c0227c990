use Rattle.fresh_scev.proofs.Before.{equal_expressions, equal_polynomials}
use Rattle.scev_server.proofs.equal.are_equal.Goals as goal

pub returns : goal.returns
returns c = (
  λ t. equal_expressions c.args.a.now c.args.b.now (c.same.ensures.0 t),
  λ e. c.same.ensures.1 (equal_polynomials c.args.a.now c.args.b.now e),
)
