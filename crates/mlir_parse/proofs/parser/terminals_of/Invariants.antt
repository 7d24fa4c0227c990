use Rattle.std.proofs.Common.{◌≡◌, map, take}
use Rattle.mlir_ir.specs.Terminals.{terminal_of}
use Rattle.mlir_parse.proofs.parser.terminals_of.Given as goal

abbrev pub invariant-loop-token : goal.invariant-loop-token
invariant-loop-token l = l.made.items ≡ map terminal_of (take l.token-index l.tokens)
