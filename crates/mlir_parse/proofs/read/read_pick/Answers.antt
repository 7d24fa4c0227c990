-- An optional pick is one token or none.
use Rattle.std.proofs.Common.{sym, ◌∙◌, drop, Ok}
use Rattle.std.proofs.lemmas.Result.{IfOk-weaker}
use Rattle.mlir_ir.specs.Grammar.{one, nothing}
use Rattle.mlir_ir.specs.declared.terminal.Terminal.TheVariants.{Pick}
use Rattle.mlir_parse.proofs.Gives.{gives_nothing, gives_right}
use Rattle.mlir_parse.proofs.Grows.{grows_nothing, grows_left, grows_right}
use Rattle.mlir_parse.proofs.Places.{starts_one}
use Rattle.mlir_parse.proofs.read.read_pick.Goals as goal

pub returns-then-next_is-clause-grows : goal.returns-then-next_is-clause-grows
returns-then-next_is-clause-grows c =
    IfOk-weaker c.read_one.result _ _ (λ next h. grows_left c.args.tokens.now c.args.depth (one Pick) nothing c.args.at next _ _ h) c.read_one.ensures.grows

pub returns-else-next_is-clause-gives : goal.returns-else-next_is-clause-gives
returns-else-next_is-clause-gives c =
    gives_right
    c.args.depth
    (one Pick)
    nothing
    c.args.tokens.now
    c.args.at
    (Ok c.args.at)
    (starts_one Pick (drop c.args.at c.args.tokens.now) ∙ sym c.next_is.ensures ∙ c.if-next_is.false)
    (gives_nothing c.args.depth c.args.tokens.now c.args.at c.requires.within)

pub returns-else-next_is-clause-grows : goal.returns-else-next_is-clause-grows
returns-else-next_is-clause-grows c =
    grows_right c.args.tokens.now c.args.depth (one Pick) nothing c.args.at c.args.at _ _ (grows_nothing c.args.tokens.now c.args.depth c.args.at _)
