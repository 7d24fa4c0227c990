use Rattle.std.proofs.Common.{◌≤◌, ◌-◌, length}
use Rattle.mlir_ir.specs.Tokens.{Lexes}
use Rattle.mlir_lex.proofs.lexer.tokens.Given as goal

abbrev pub invariant-pieces : goal.invariant-pieces
invariant-pieces l = (length l.rest ≤ length l.bytes) × Lexes 0 l.bytes l.found.items (length l.bytes - length l.rest) l.rest

abbrev pub decreases-pieces : goal.decreases-pieces
decreases-pieces l = length l.rest
