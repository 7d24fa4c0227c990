-- The bytes of a token are UTF-8.
use Rattle.mlir_lex.proofs.Ascii.{token_utf8}
use Rattle.mlir_lex.proofs.lexer.token_here.Goals as goal

pub from_front-requires-clause-utf8 : goal.from_front-requires-clause-utf8
from_front-requires-clause-utf8 c = token_utf8 c.in-Some.kind c.args.here.now c.in-Some.len c.in-Some.ensures
