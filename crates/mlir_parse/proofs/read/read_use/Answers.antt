-- A use is a value and an optional pick.
use Rattle.std.proofs.Common.{Ok, Err, refl}
use Rattle.mlir_ir.specs.Grammar.{body, one, maybe}
use Rattle.mlir_ir.specs.declared.syntax.Form.TheVariants.{Use}
use Rattle.mlir_ir.specs.declared.terminal.Terminal.TheVariants.{Value, Pick}
use Rattle.mlir_parse.proofs.Gives.{gives_line, gives_both, gives_both_fails}
use Rattle.mlir_parse.proofs.Grows.{grows_parts, grows_both}
use Rattle.mlir_parse.proofs.read.read_use.Goals as goal

pub returns-in-Err-clause-gives : goal.returns-in-Err-clause-gives
returns-in-Err-clause-gives c =
    gives_line
    c.args.depth
    Use
    (body Use)
    c.args.tokens.now
    c.args.at
    (Err c.in-Err.fault)
    refl
    (gives_both_fails c.args.depth (one Value) (maybe (one Pick)) c.args.tokens.now c.args.at c.in-Err.fault c.in-Err.ensures.gives)

pub returns-in-Err-read_pick-clause-gives : goal.returns-in-Err-read_pick-clause-gives
returns-in-Err-read_pick-clause-gives c =
    gives_line
    c.args.depth
    Use
    (body Use)
    c.args.tokens.now
    c.args.at
    (Err c.in-Err-read_pick.fault)
    refl
    (gives_both
    c.args.depth
    (one Value)
    (maybe (one Pick))
    c.args.tokens.now
    c.args.at
    c.in-Ok.mid
    (Err c.in-Err-read_pick.fault)
    c.in-Ok.ensures.gives
    c.in-Err-read_pick.ensures.gives)

pub returns-in_ok-push-in-Ok-read_pick-clause-gives : goal.returns-in_ok-push-in-Ok-read_pick-clause-gives
returns-in_ok-push-in-Ok-read_pick-clause-gives c =
    gives_line
    c.args.depth
    Use
    (body Use)
    c.args.tokens.now
    c.args.at
    (Ok c.in-Ok-read_pick.next)
    refl
    (gives_both
    c.args.depth
    (one Value)
    (maybe (one Pick))
    c.args.tokens.now
    c.args.at
    c.in-Ok.mid
    (Ok c.in-Ok-read_pick.next)
    c.in-Ok.ensures.gives
    c.in-Ok-read_pick.ensures.gives)

pub returns-in_ok-push-in-Ok-read_pick-clause-grows : goal.returns-in_ok-push-in-Ok-read_pick-clause-grows
returns-in_ok-push-in-Ok-read_pick-clause-grows c =
    grows_parts
    c.args.tokens.now
    c.args.depth
    Use
    c.args.at
    c.in-Ok-read_pick.next
    _
    _
    _
    c.line.result
    c.in_ok-push-in-Ok-read_pick.ensures.items
    c.line.ensures
    (grows_both
    c.args.tokens.now
    c.args.depth
    (one Value)
    (maybe (one Pick))
    c.args.at
    c.in-Ok.mid
    c.in-Ok-read_pick.next
    _
    _
    _
    (rw c.in_ok-parts.ensures.items at c.in-Ok.ensures.grows)
    c.in-Ok-read_pick.ensures.grows)
