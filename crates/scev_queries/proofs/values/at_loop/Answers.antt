use Rattle.std.proofs.Common.{refl}
use Rattle.fresh_scev.specs.Expressions.{expression_of}
use Rattle.scev_queries.proofs.AtIterations.{inside, outside}
use Rattle.scev_queries.proofs.values.at_loop.Goals as goal

pub returns-then-not-varies_in : goal.returns-then-not-varies_in
returns-then-not-varies_in c =
    let found = c.args.found.now in
    outside c.args.known.now.func.now found.label.0 c.args.n c.args.labels (expression_of found.expr.now) c.requires.expr (c.if-not-varies_in.ensures.no refl)

pub returns : goal.returns
returns c =
    let found = c.args.found.now in
    let told = c.in_ok-reply.ensures in
    inside c.args.known.now.func.now found.label.0 c.args.n c.args.labels (expression_of found.expr.now) (expression_of c.in_ok-e.e) c.args.known.now.names c.in_ok-reply.reply
    c.requires.expr (c.if-not-varies_in.ensures.yes refl) (record { width = c.in_ok-e.ensures.width; at = c.in_ok-e.ensures.replaced }) c.requires.known.names told
