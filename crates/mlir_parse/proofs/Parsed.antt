-- The syntax or the syntax error of a text, from the results of the lexer and the reader.
use Rattle.std.proofs.Common.{◌≡◌, ℕ, ◌<◌, ◌≤◌, List, length, map, refl, ap, ◌∙◌, sym, subst, arith}
use Rattle.std.proofs.lemmas.List.{length-map}
use Rattle.mlir_ir.specs.Tokens.{AreTokens}
use Rattle.mlir_ir.specs.Terminals.{terminal_of}
use Rattle.mlir_ir.specs.Trees.{IsTreeOf, put, none}
use Rattle.mlir_ir.specs.Syntaxes.{IsSyntaxOf, place_of}
use Rattle.mlir_ir.specs.declared.token.Token.{Token}
use Rattle.mlir_ir.specs.declared.syntax.Syntax.{Syntax}
use Rattle.mlir_ir.specs.declared.terminal.Terminal.{Terminal}
use Rattle.mlir_ir.proofs.TokenLaws.{token_count}
use Rattle.mlir_lex.specs.Refused as lexing
use Rattle.mlir_lex.specs.declared.error.LexError.{LexError}
use Rattle.mlir_lex.specs.declared.error.LexError.TheVariants.{NoMemory, Fault}
use Rattle.mlir_parse.specs.Refused.{IsFaultAt, IsRefused, fault_of}
use Rattle.mlir_parse.specs.declared.parser.ParseFault.{ParseFault}

-- a text of fewer than 2^32 bytes has fewer than 2^32 tokens
pub few_terminals : (text : List ℕ) (tokens : List Token) (terminals : List Terminal) (bound : ℕ)
    → AreTokens text tokens → terminals ≡ map terminal_of tokens → length text < bound → length terminals < bound
few_terminals text tokens terminals bound lexed are few =
    let count : length tokens ≤ length text = token_count text tokens lexed in
    let same : length terminals ≡ length tokens = ap length are ∙ length-map tokens terminal_of in
    omega (arith, count, same, few)

-- the tokens and their tree are the syntax of the text
pub syntax_is : (text : List ℕ) (syntax : Syntax) (terminals : List Terminal)
    → AreTokens text syntax.tokens → syntax.length ≡ length text → terminals ≡ map terminal_of syntax.tokens → IsTreeOf terminals (put syntax.root none) → IsSyntaxOf text syntax
syntax_is text syntax terminals lexed long are tree =
    record {
      lexed = lexed;
      length_is = long;
      stands = record { same = refl; text = text; length_is = long; lexed = lexed; tree = subst (λ (ts : List Terminal). IsTreeOf ts (put syntax.root none)) are tree };
    }

-- a syntax error by the byte offset of its token
pub fault_at : (IsFault : List Terminal → ℕ → Type 0) (text : List ℕ) (tokens : List Token) (terminals : List Terminal) (token byte : ℕ)
    → AreTokens text tokens → terminals ≡ map terminal_of tokens → IsFault terminals token → byte ≡ place_of tokens (length text) token → IsFaultAt IsFault text byte
fault_at IsFault text tokens terminals token byte lexed are fault here =
    record { tokens = tokens; token = token; lexed = lexed; fault = subst (λ (ts : List Terminal). IsFault ts token) are fault; here = here }

-- a text without tokens has no syntax
pub refused_as : (text : List ℕ) (lexed : LexError) (e : ParseFault) → lexing.IsRefused text lexed → e ≡ fault_of lexed → IsRefused text e
refused_as text lexed e refused is = subst (IsRefused text) (sym is) (of_lexed lexed refused)
  where
    of_lexed : (lexed : LexError) → lexing.IsRefused text lexed → IsRefused text (fault_of lexed)
    of_lexed NoMemory refused = refused
    of_lexed (Fault fault) refused = refused
