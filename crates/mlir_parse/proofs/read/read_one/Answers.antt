use Rattle.std.proofs.Common.{sym, ◌∙◌}
use Rattle.mlir_parse.proofs.read.read_one.Goals as goal
use Rattle.mlir_parse.proofs.Gives.{gives_one}
use Rattle.mlir_parse.proofs.Grows.{grows_one}

pub returns-in_ok-push-clause-grows : goal.returns-in_ok-push-clause-grows
returns-in_ok-push-clause-grows c =
    grows_one
    c.args.tokens.now
    c.args.depth
    c.args.terminal
    c.args.at
    _
    _
    c.leaf.result
    c.in_ok-push.ensures.items
    c.leaf.ensures
    (sym c.next_is.ensures ∙ c.if-next_is.true)

pub returns-in_ok-push-clause-gives : goal.returns-in_ok-push-clause-gives
returns-in_ok-push-clause-gives c = gives_one c.args.depth c.args.terminal c.args.tokens.now c.args.at (sym c.next_is.ensures ∙ c.if-next_is.true)
