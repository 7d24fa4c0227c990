-- Why a text has no tokens.
use Rattle.std.specs.Prelude.{ℕ, List}
use Rattle.mlir_ir.specs.Tokens.{IsLexFault}
use Rattle.mlir_lex.specs.declared.error.LexError.{LexError}
use Rattle.mlir_lex.specs.declared.error.LexError.TheVariants.{NoMemory, Fault}

-- allocation failed, or the lexical error is that of the text
abbrev pub IsRefused : List ℕ → LexError → Type 0
IsRefused text NoMemory = Unit {0}
IsRefused text (Fault fault) = IsLexFault text fault.at
