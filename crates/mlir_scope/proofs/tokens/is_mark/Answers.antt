use Rattle.std.proofs.Common.{arith}
use Rattle.mlir_scope.proofs.TokenTerminals.{token_is_late}
use Rattle.mlir_scope.proofs.tokens.is_mark.Goals as goal

pub returns-else-terminal_number-ge-FIRST_MARK : goal.returns-else-terminal_number-ge-FIRST_MARK
returns-else-terminal_number-ge-FIRST_MARK c =
    token_is_late c.args.token.now.kind c.args.token.now.text c.args.terminal c.terminal_number.result c.requires c.terminal_number.ensures.number (omega arith)
