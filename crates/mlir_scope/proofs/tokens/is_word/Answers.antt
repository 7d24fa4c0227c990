use Rattle.std.proofs.Common.{arith}
use Rattle.mlir_scope.proofs.TokenTerminals.{token_is_else, token_is_do, token_is_early}
use Rattle.mlir_scope.proofs.tokens.is_word.Goals as goal

pub returns-in-Else : goal.returns-in-Else
returns-in-Else c =
    let h = token_is_else c.args.token.now.kind c.args.token.now.text c.as_str.result.now c.args.terminal c.requires c.in-Else.is c.as_str.ensures in
    cc (h, c.eq.ensures)

pub returns-in-Do : goal.returns-in-Do
returns-in-Do c =
    let h = token_is_do c.args.token.now.kind c.args.token.now.text c.as_str-in-Do.result.now c.args.terminal c.requires c.in-Do.is c.as_str-in-Do.ensures in
    cc (h, c.eq-in-Do.ensures)

pub returns-else-terminal_number-le-LAST_WORD : goal.returns-else-terminal_number-le-LAST_WORD
returns-else-terminal_number-le-LAST_WORD c =
    token_is_early c.args.token.now.kind c.args.token.now.text c.args.terminal c.terminal_number.result c.requires c.terminal_number.ensures.number (omega arith)
