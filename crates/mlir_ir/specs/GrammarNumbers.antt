-- The numbers of terminals and of the lines of the grammar, by which they are compared.
use Rattle.std.specs.Prelude.{ℕ, ◌==◌, Bool}
use Rattle.mlir_ir.specs.declared.terminal.Terminal.{Terminal}
use Rattle.mlir_ir.specs.declared.terminal.Terminal.TheVariants.{Module, Function, Private, TypeWord, Return, Constant, Truth, Binary, FlaggedBinary, Cast, FlaggedCast, Compare, Predicate, Select, Call, If, Else, For, To, Step, IterArgs, While, Condition, Do, Yield, Overflow, Nsw, Nuw, OtherWord, Value, Symbol, Caret, Pick, Decimal, Hexadecimal, LeftParen, RightParen, LeftBrace, RightBrace, Less, Greater, Comma, Colon, Equals, Arrow, Minus}
use Rattle.mlir_ir.specs.declared.syntax.Form.{Form}
use Rattle.mlir_ir.specs.declared.syntax.Form.TheVariants.{Leaf, Whole, Func, Params, Types, Results, TypeName, Body, Ends, Uses, Use, Op, Pack, Kind, Inits, Region, Flags}

-- the number of a terminal
abbrev pub number : Terminal → ℕ
number Module = 0
number Function = 1
number Private = 2
number TypeWord = 3
number Return = 4
number Constant = 5
number Truth = 6
number Binary = 7
number FlaggedBinary = 8
number Cast = 9
number FlaggedCast = 10
number Compare = 11
number Predicate = 12
number Select = 13
number Call = 14
number If = 15
number Else = 16
number For = 17
number To = 18
number Step = 19
number IterArgs = 20
number While = 21
number Condition = 22
number Do = 23
number Yield = 24
number Overflow = 25
number Nsw = 26
number Nuw = 27
number OtherWord = 28
number Value = 29
number Symbol = 30
number Caret = 31
number Pick = 32
number Decimal = 33
number Hexadecimal = 34
number LeftParen = 35
number RightParen = 36
number LeftBrace = 37
number RightBrace = 38
number Less = 39
number Greater = 40
number Comma = 41
number Colon = 42
number Equals = 43
number Arrow = 44
number Minus = 45

-- whether two terminals are the same
abbrev pub same : Terminal → Terminal → Bool
same a b = number a == number b

-- the place of a form among the lines
abbrev pub form_at : Form → ℕ
form_at Leaf = 0
form_at Whole = 1
form_at Func = 2
form_at Params = 3
form_at Types = 4
form_at Results = 5
form_at TypeName = 6
form_at Body = 7
form_at Ends = 8
form_at Uses = 9
form_at Use = 10
form_at Op = 11
form_at Pack = 12
form_at Kind = 13
form_at Inits = 14
form_at Region = 15
form_at Flags = 16

abbrev pub same_form : Form → Form → Bool
same_form a b = form_at a == form_at b
