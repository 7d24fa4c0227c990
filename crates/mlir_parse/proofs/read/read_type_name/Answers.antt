-- A type is one token.
use Rattle.std.proofs.Common.{Ok, Err, refl}
use Rattle.mlir_ir.specs.Grammar.{body}
use Rattle.mlir_ir.specs.declared.syntax.Form.TheVariants.{TypeName}
use Rattle.mlir_parse.proofs.Gives.{gives_line}
use Rattle.mlir_parse.proofs.Grows.{grows_parts}
use Rattle.mlir_parse.proofs.read.read_type_name.Goals as goal

pub returns-in-Err-clause-gives : goal.returns-in-Err-clause-gives
returns-in-Err-clause-gives c =
    gives_line c.args.depth TypeName (body TypeName) c.args.tokens.now c.args.at (Err c.in-Err.fault) refl c.in-Err.ensures.gives

pub returns-in_ok-push-in-Ok-clause-gives : goal.returns-in_ok-push-in-Ok-clause-gives
returns-in_ok-push-in-Ok-clause-gives c =
    gives_line c.args.depth TypeName (body TypeName) c.args.tokens.now c.args.at (Ok c.in-Ok.next) refl c.in-Ok.ensures.gives

pub returns-in_ok-push-in-Ok-clause-grows : goal.returns-in_ok-push-in-Ok-clause-grows
returns-in_ok-push-in-Ok-clause-grows c =
    grows_parts
    c.args.tokens.now
    c.args.depth
    TypeName
    c.args.at
    c.in-Ok.next
    _
    _
    _
    c.line.result
    c.in_ok-push-in-Ok.ensures.items
    c.line.ensures
    (rw c.in_ok-parts.ensures.items at c.in-Ok.ensures.grows)
