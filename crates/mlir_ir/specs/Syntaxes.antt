-- The syntax of a text: its tokens and their tree.
use Rattle.std.specs.Prelude.{ℕ, ◌≡◌, List, map, length, slice_get}
use Rattle.std.specs.Option.{option_map_or}
use Rattle.mlir_ir.specs.Tokens.{AreTokens}
use Rattle.mlir_ir.specs.Trees.{IsTreeOf, put, none}
use Rattle.mlir_ir.specs.Terminals.{terminal_of}
use Rattle.mlir_ir.specs.declared.token.Token.{Token}
use Rattle.mlir_ir.specs.declared.syntax.Syntax.{Syntax}

-- the byte offset of a token by its index; the text's length for the end of the text
abbrev pub place_of : List Token → ℕ → ℕ → ℕ
place_of tokens len k = option_map_or (λ token. token.from) (slice_get tokens k) len

-- the syntax has these tokens, they are those of some text of its length, and its tree derives them
pub record StandsFor (syntax : Syntax) (tokens : List Token) : Type 0 where
  pub same : syntax.tokens ≡ tokens
  pub text : List ℕ
  pub length_is : syntax.length ≡ length text
  pub lexed : AreTokens text tokens
  pub tree : IsTreeOf (map terminal_of tokens) (put syntax.root none)

-- the syntax is that of the text
pub record IsSyntaxOf (text : List ℕ) (syntax : Syntax) : Type 0 where
  pub lexed : AreTokens text syntax.tokens
  pub length_is : syntax.length ≡ length text
  pub stands : StandsFor syntax syntax.tokens
