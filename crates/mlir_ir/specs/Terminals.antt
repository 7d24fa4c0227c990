-- The terminal of the grammar for each token.
use Rattle.std.specs.Prelude.{ℕ, ◌||◌, ◌&&◌, ◌==◌, nat_le, Bool, false, List, [], ◌∷◌, drop, codes, if◌then◌else◌}
use Rattle.std.specs.Str.{bytes_eq}
use Rattle.mlir_ir.specs.Tokens.{is_led, is_next}
use Rattle.mlir_ir.specs.declared.token.Token.{Token}
use Rattle.mlir_ir.specs.declared.token.TokenKind.{TokenKind}
use Rattle.mlir_ir.specs.declared.token.TokenKind.TheVariants as kinds
use Rattle.mlir_ir.specs.declared.terminal.Terminal.{Terminal}
use Rattle.mlir_ir.specs.declared.terminal.Terminal.TheVariants.{Module, Function, Private, TypeWord, Return, Constant, Truth, Binary, FlaggedBinary, Cast, FlaggedCast, Compare, Predicate, Select, Call, If, Else, For, To, Step, IterArgs, While, Condition, Do, Yield, Overflow, Nsw, Nuw, OtherWord, Value, Symbol, Caret, Pick, Decimal, Hexadecimal, LeftParen, RightParen, LeftBrace, RightBrace, Less, Greater, Comma, Colon, Equals, Arrow, Minus}

-- a width from 1 to 64
abbrev pub is_width : List ℕ → Bool
is_width [] = false
is_width (d ∷ []) = nat_le 49 d && nat_le d 57
is_width (d ∷ e ∷ []) = (nat_le 49 d && nat_le d 53 && nat_le 48 e && nat_le e 57) || (d == 54 && nat_le 48 e && nat_le e 52)
is_width (d ∷ e ∷ f ∷ rest) = false

-- `i1` to `i64`
abbrev pub is_integer : List ℕ → Bool
is_integer word = is_led 105 is_width word

-- `index`, or `i1` to `i64`
abbrev pub is_type_word : List ℕ → Bool
is_type_word word = bytes_eq word (codes "index") || is_integer word

-- binary operations that take overflow flags
abbrev pub is_flagged_binary : List ℕ → Bool
is_flagged_binary word =
    bytes_eq word (codes "arith.addi") || bytes_eq word (codes "arith.subi") || bytes_eq word (codes "arith.muli") || bytes_eq word (codes "arith.shli")

-- binary operations that take no overflow flags
abbrev pub is_binary : List ℕ → Bool
is_binary word =
    bytes_eq word (codes "arith.andi") || bytes_eq word (codes "arith.ori") || bytes_eq word (codes "arith.xori") || bytes_eq word (codes "arith.minsi") || bytes_eq word (codes "arith.maxsi") || bytes_eq word (codes "arith.minui") || bytes_eq word (codes "arith.maxui") || bytes_eq word (codes "arith.shrui") || bytes_eq word (codes "arith.shrsi") || bytes_eq word (codes "arith.divui") || bytes_eq word (codes "arith.remui") || bytes_eq word (codes "arith.divsi") || bytes_eq word (codes "arith.remsi")

-- casts that take no overflow flags
abbrev pub is_cast : List ℕ → Bool
is_cast word =
    bytes_eq word (codes "arith.extsi") || bytes_eq word (codes "arith.extui") || bytes_eq word (codes "arith.index_cast") || bytes_eq word (codes "arith.index_castui")

abbrev pub is_predicate : List ℕ → Bool
is_predicate word =
    bytes_eq word (codes "eq") || bytes_eq word (codes "ne") || bytes_eq word (codes "slt") || bytes_eq word (codes "sle") || bytes_eq word (codes "sgt") || bytes_eq word (codes "sge") || bytes_eq word (codes "ult") || bytes_eq word (codes "ule") || bytes_eq word (codes "ugt") || bytes_eq word (codes "uge")

abbrev pub is_return : List ℕ → Bool
is_return word =
    bytes_eq word (codes "return") || bytes_eq word (codes "func.return")

abbrev pub is_call : List ℕ → Bool
is_call word =
    bytes_eq word (codes "call") || bytes_eq word (codes "func.call")

abbrev pub is_truth : List ℕ → Bool
is_truth word =
    bytes_eq word (codes "true") || bytes_eq word (codes "false")

-- the operations of the `arith` dialect
abbrev pub arith_terminal : List ℕ → Terminal
arith_terminal word =
    if is_flagged_binary word then FlaggedBinary
    else (if is_binary word then Binary
    else (if bytes_eq word (codes "arith.constant") then Constant
    else (if bytes_eq word (codes "arith.cmpi") then Compare
    else (if bytes_eq word (codes "arith.select") then Select
    else (if bytes_eq word (codes "arith.trunci") then FlaggedCast
    else (if is_cast word then Cast else OtherWord))))))

-- the operations of the `scf` dialect
abbrev pub scf_terminal : List ℕ → Terminal
scf_terminal word =
    if bytes_eq word (codes "scf.yield") then Yield
    else (if bytes_eq word (codes "scf.for") then For
    else (if bytes_eq word (codes "scf.if") then If
    else (if bytes_eq word (codes "scf.while") then While
    else (if bytes_eq word (codes "scf.condition") then Condition else OtherWord))))

-- the words of the `func` dialect and of modules
abbrev pub func_terminal : List ℕ → Terminal
func_terminal word =
    if is_return word then Return
    else (if is_call word then Call
    else (if bytes_eq word (codes "func.func") then Function
    else (if bytes_eq word (codes "private") then Private
    else (if bytes_eq word (codes "module") then Module else OtherWord))))

-- the words of overflow flags, and the predicates of `arith.cmpi`
abbrev pub flag_terminal : List ℕ → Terminal
flag_terminal word =
    if bytes_eq word (codes "overflow") then Overflow
    else (if bytes_eq word (codes "nsw") then Nsw
    else (if bytes_eq word (codes "nuw") then Nuw
    else (if is_predicate word then Predicate else OtherWord)))

-- the words inside operations
abbrev pub inner_terminal : List ℕ → Terminal
inner_terminal word =
    if bytes_eq word (codes "to") then To
    else (if bytes_eq word (codes "step") then Step
    else (if bytes_eq word (codes "iter_args") then IterArgs
    else (if bytes_eq word (codes "else") then Else
    else (if bytes_eq word (codes "do") then Do
    else (if is_truth word then Truth else flag_terminal word)))))

-- the first of the two terminals, unless it is `OtherWord`
abbrev pub or_else : Terminal → Terminal → Terminal
or_else OtherWord second = second
or_else first second = first

-- the terminal of a bare word
abbrev pub word_terminal : List ℕ → Terminal
word_terminal word =
    if is_type_word word then TypeWord
    else or_else (arith_terminal word) (or_else (scf_terminal word) (or_else (func_terminal word) (inner_terminal word)))

-- the terminal of a number: hexadecimal with `0x`, else decimal
abbrev pub number_terminal : List ℕ → Terminal
number_terminal text = if is_next 120 (drop 1 text) then Hexadecimal else Decimal

-- the terminal of a punctuation token
abbrev pub mark_terminal : List ℕ → Terminal
mark_terminal mark =
    if bytes_eq mark (codes "(") then LeftParen
    else (if bytes_eq mark (codes ")") then RightParen
    else (if bytes_eq mark (codes "{") then LeftBrace
    else (if bytes_eq mark (codes "}") then RightBrace
    else (if bytes_eq mark (codes ",") then Comma
    else (if bytes_eq mark (codes ":") then Colon
    else (if bytes_eq mark (codes "=") then Equals
    else (if bytes_eq mark (codes "->") then Arrow
    else (if bytes_eq mark (codes "<") then Less
    else (if bytes_eq mark (codes ">") then Greater else Minus)))))))))

abbrev pub kind_terminal : TokenKind → List ℕ → Terminal
kind_terminal kinds.Word text = word_terminal text
kind_terminal kinds.Value text = Value
kind_terminal kinds.Symbol text = Symbol
kind_terminal kinds.Caret text = Caret
kind_terminal kinds.Pick text = Pick
kind_terminal kinds.Number text = number_terminal text
kind_terminal kinds.Mark text = mark_terminal text

-- the terminal of a token
abbrev pub terminal_of : Token → Terminal
terminal_of token = kind_terminal token.kind token.text
