-- Why a text has no syntax.
use Rattle.std.specs.Prelude.{ℕ, ◌≡◌, List, map, length}
use Rattle.mlir_ir.specs.Tokens.{AreTokens, IsLexFault}
use Rattle.mlir_ir.specs.Terminals.{terminal_of}
use Rattle.mlir_ir.specs.Texts.{IsNotHere, IsOtherFault, IsTooDeep}
use Rattle.mlir_ir.specs.Syntaxes.{place_of}
use Rattle.mlir_ir.specs.declared.token.Token.{Token}
use Rattle.mlir_ir.specs.declared.terminal.Terminal.{Terminal}
use Rattle.mlir_lex.specs.declared.error.LexError.{LexError}
use Rattle.mlir_lex.specs.declared.error.LexError.TheVariants as lexing
use Rattle.mlir_parse.specs.declared.parser.ParseFault.{ParseFault}
use Rattle.mlir_parse.specs.declared.parser.ParseFault.TheVariants.{NoMemory, Lex, Syntax, NotHere, TooDeep}

-- the tokens of the text have the syntax error at a token whose byte offset is this one; the end has the text's length
pub record IsFaultAt (IsFault : List Terminal → ℕ → Type 0) (text : List ℕ) (byte : ℕ) : Type 0 where
  pub tokens : List Token
  pub token : ℕ
  pub lexed : AreTokens text tokens
  pub fault : IsFault (map terminal_of tokens) token
  pub here : byte ≡ place_of tokens (length text) token

-- the fault of a text that has no tokens
abbrev pub fault_of : LexError → ParseFault
fault_of lexing.NoMemory = NoMemory
fault_of (lexing.Fault fault) = Lex fault.at

-- allocation failed, or the fault is that of the text
abbrev pub IsRefused : List ℕ → ParseFault → Type 0
IsRefused text NoMemory = Unit {0}
IsRefused text (Lex byte) = IsLexFault text byte
IsRefused text (Syntax byte) = IsFaultAt IsOtherFault text byte
IsRefused text (NotHere byte) = IsFaultAt IsNotHere text byte
IsRefused text (TooDeep byte) = IsFaultAt IsTooDeep text byte
