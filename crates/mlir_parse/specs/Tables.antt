-- The first and follow sets of the grammar, and the test that one token of lookahead decides at each choice.
use Rattle.std.specs.Prelude.{ℕ, ◌+◌, ◌^◌, ◌==◌, max, Bool, true, false, ◌||◌, ◌&&◌, not, if◌then◌else◌, List, [], ◌∷◌}
use Rattle.std.specs.Int.{bit_at}
use Rattle.std.specs.Int.Bits.{bit_or}
use Rattle.std.specs.List.{list_all}
use Rattle.mlir_ir.specs.GrammarNumbers.{number, same, form_at}
use Rattle.mlir_ir.specs.Grammar.{Pattern, nothing, one, line, both, either, many, region}
use Rattle.mlir_ir.specs.declared.terminal.Terminal.{Terminal}
use Rattle.mlir_ir.specs.declared.terminal.Terminal.TheVariants.{Module, Function, Private, TypeWord, Return, Constant, Truth, Binary, FlaggedBinary, Cast, FlaggedCast, Compare, Predicate, Select, Call, If, Else, For, To, Step, IterArgs, While, Condition, Do, Yield, Overflow, Nsw, Nuw, OtherWord, Value, Symbol, Caret, Pick, Decimal, Hexadecimal, LeftParen, RightParen, LeftBrace, RightBrace, Less, Greater, Comma, Colon, Equals, Arrow, Minus}
use Rattle.mlir_ir.specs.declared.syntax.Form.{Form}
use Rattle.mlir_ir.specs.declared.syntax.Form.TheVariants.{Leaf, Whole, Func, Params, Types, Results, TypeName, Body, Ends, Uses, Use, Op, Pack, Kind, Inits, Region, Flags}

-- all terminals
abbrev pub terminals : List Terminal
terminals = Module ∷ Function ∷ Private ∷ TypeWord ∷ Return ∷ Constant ∷ Truth ∷ Binary ∷ FlaggedBinary ∷ Cast ∷ FlaggedCast ∷ Compare ∷ Predicate ∷ Select ∷ Call ∷ If ∷ Else ∷ For ∷ To ∷ Step ∷ IterArgs ∷ While ∷ Condition ∷ Do ∷ Yield ∷ Overflow ∷ Nsw ∷ Nuw ∷ OtherWord ∷ Value ∷ Symbol ∷ Caret ∷ Pick ∷ Decimal ∷ Hexadecimal ∷ LeftParen ∷ RightParen ∷ LeftBrace ∷ RightBrace ∷ Less ∷ Greater ∷ Comma ∷ Colon ∷ Equals ∷ Arrow ∷ Minus ∷ []

-- all forms
abbrev pub forms : List Form
forms = Leaf ∷ Whole ∷ Func ∷ Params ∷ Types ∷ Results ∷ TypeName ∷ Body ∷ Ends ∷ Uses ∷ Use ∷ Op ∷ Pack ∷ Kind ∷ Inits ∷ Region ∷ Flags ∷ []

-- whether the nonterminal may have no tokens
abbrev pub empty_line : Form → Bool
empty_line Leaf = true
empty_line Whole = true
empty_line _ = false

-- whether the terminal is in the list
abbrev pub among : List Terminal → Terminal → Bool
among [] c = false
among (d ∷ []) c = same d c
among (d ∷ e ∷ ds) c = same d c || among (e ∷ ds) c

-- the terminals that the nonterminal may begin with
abbrev pub line_firsts : Form → List Terminal
line_firsts Leaf = []
line_firsts Whole = Module ∷ Function ∷ []
line_firsts Func = Function ∷ []
line_firsts Params = Value ∷ []
line_firsts Types = TypeWord ∷ []
line_firsts Results = TypeWord ∷ LeftParen ∷ []
line_firsts TypeName = TypeWord ∷ []
line_firsts Body = LeftBrace ∷ []
line_firsts Ends = Value ∷ []
line_firsts Uses = Value ∷ []
line_firsts Use = Value ∷ []
line_firsts Op = Constant ∷ Binary ∷ FlaggedBinary ∷ Cast ∷ FlaggedCast ∷ Compare ∷ Select ∷ Call ∷ If ∷ For ∷ While ∷ Value ∷ []
line_firsts Pack = Value ∷ []
line_firsts Kind = Constant ∷ Binary ∷ FlaggedBinary ∷ Cast ∷ FlaggedCast ∷ Compare ∷ Select ∷ Call ∷ If ∷ For ∷ While ∷ []
line_firsts Inits = Value ∷ []
line_firsts Region = LeftBrace ∷ []
line_firsts Flags = Overflow ∷ []

-- whether the nonterminal may begin with the terminal
abbrev pub first_line : Form → Terminal → Bool
first_line f c = among (line_firsts f) c

-- whether a match of the pattern may have no tokens
abbrev pub empty : Pattern → Bool
empty nothing = true
empty (one d) = false
empty (line f) = empty_line f
empty (both a b) = empty a && empty b
empty (either a b) = empty a || empty b
empty (many a) = true
empty (region a) = false

-- whether a match of the pattern may begin with the terminal
abbrev pub first : Pattern → Terminal → Bool
first nothing c = false
first (one d) c = same d c
first (line f) c = first_line f c
first (both a b) c = first a c || (empty a && first b c)
first (either a b) c = first a c || first b c
first (many a) c = first a c
first (region a) c = same LeftBrace c

-- a set of terminals is a bit mask; `mark` has one terminal, `marks` those of a list
abbrev pub mark : Terminal → ℕ
mark c = 2 ^ number c

abbrev pub marks : List Terminal → ℕ
marks [] = 0
marks (c ∷ cs) = bit_or (mark c) (marks cs)

-- whether the set has the terminal
abbrev pub has : ℕ → Terminal → Bool
has set c = bit_at set (number c) == 1

-- the set of terminals that a match of the pattern may begin with
abbrev pub first_set : Pattern → ℕ
first_set nothing = 0
first_set (one d) = mark d
first_set (line f) = marks (line_firsts f)
first_set (both a b) = if empty a then bit_or (first_set a) (first_set b) else first_set a
first_set (either a b) = bit_or (first_set a) (first_set b)
first_set (many a) = first_set a
first_set (region a) = mark LeftBrace

-- whether the terminal may follow the nonterminal
abbrev pub follow : Form → Terminal → Bool
follow Leaf c = false
follow Whole c = among [] c
follow Func c = among (Function ∷ RightBrace ∷ []) c
follow Params c = among (RightParen ∷ []) c
follow Types c = among (RightParen ∷ RightBrace ∷ []) c
follow Results c = among (Function ∷ Return ∷ Constant ∷ Binary ∷ FlaggedBinary ∷ Cast ∷ FlaggedCast ∷ Compare ∷ Select ∷ Call ∷ If ∷ For ∷ While ∷ Condition ∷ Yield ∷ Value ∷ LeftBrace ∷ RightBrace ∷ Colon ∷ []) c
follow TypeName c = among (Function ∷ Return ∷ Constant ∷ Binary ∷ FlaggedBinary ∷ Cast ∷ FlaggedCast ∷ Compare ∷ Select ∷ Call ∷ If ∷ For ∷ To ∷ While ∷ Condition ∷ Yield ∷ Value ∷ RightParen ∷ LeftBrace ∷ RightBrace ∷ Comma ∷ Colon ∷ []) c
follow Body c = among (Function ∷ RightBrace ∷ []) c
follow Ends c = among (RightBrace ∷ []) c
follow Uses c = among (RightParen ∷ Colon ∷ []) c
follow Use c = among (To ∷ Step ∷ IterArgs ∷ Overflow ∷ RightParen ∷ LeftBrace ∷ Comma ∷ Colon ∷ Arrow ∷ []) c
follow Op c = among (Return ∷ Constant ∷ Binary ∷ FlaggedBinary ∷ Cast ∷ FlaggedCast ∷ Compare ∷ Select ∷ Call ∷ If ∷ For ∷ While ∷ Condition ∷ Yield ∷ Value ∷ RightBrace ∷ []) c
follow Pack c = among (Comma ∷ Equals ∷ []) c
follow Kind c = among (Return ∷ Constant ∷ Binary ∷ FlaggedBinary ∷ Cast ∷ FlaggedCast ∷ Compare ∷ Select ∷ Call ∷ If ∷ For ∷ While ∷ Condition ∷ Yield ∷ Value ∷ RightBrace ∷ []) c
follow Inits c = among (RightParen ∷ []) c
follow Region c = among (Return ∷ Constant ∷ Binary ∷ FlaggedBinary ∷ Cast ∷ FlaggedCast ∷ Compare ∷ Select ∷ Call ∷ If ∷ Else ∷ For ∷ While ∷ Condition ∷ Yield ∷ Value ∷ RightBrace ∷ []) c
follow Flags c = among (Colon ∷ []) c

-- one token of lookahead decides at each choice of the pattern, where these terminals may follow it
abbrev pub decides : Pattern → (Terminal → Bool) → Bool
decides nothing after = true
decides (one d) after = true
decides (line f) after = list_all (λ c. not (after c) || follow f c) terminals
decides (both a b) after = decides a (λ c. first b c || (empty b && after c)) && decides b after
decides (either a b) after =
    not (empty a) && list_all (λ c. not (first a c && (first b c || (empty b && after c)))) terminals && decides a after && decides b after
decides (many a) after = not (empty a) && list_all (λ c. not (first a c && after c)) terminals && decides a (λ c. first a c || after c)
decides (region a) after = decides a (same RightBrace)

-- a bound on the depth of the productions that the nonterminal leads to without entering a region
abbrev pub rank_line : Form → ℕ
rank_line Leaf = 1
rank_line Whole = 25
rank_line Func = 18
rank_line Params = 7
rank_line Types = 6
rank_line Results = 11
rank_line TypeName = 1
rank_line Body = 1
rank_line Ends = 11
rank_line Uses = 8
rank_line Use = 3
rank_line Op = 34
rank_line Pack = 4
rank_line Kind = 32
rank_line Inits = 8
rank_line Region = 1
rank_line Flags = 7

-- the depth of the pattern without entering a region
abbrev pub rank : Pattern → ℕ
rank nothing = 1
rank (one c) = 1
rank (line f) = 1 + rank_line f
rank (both a b) = 1 + max (rank a) (rank b)
rank (either a b) = 1 + max (rank a) (rank b)
rank (many a) = 2 + rank a
rank (region a) = 1

-- the depth of the pattern with its regions
abbrev pub weight : Pattern → ℕ
weight nothing = 1
weight (one c) = 1
weight (line f) = 1 + rank_line f
weight (both a b) = 1 + max (weight a) (weight b)
weight (either a b) = 1 + max (weight a) (weight b)
weight (many a) = 2 + weight a
weight (region a) = 1 + weight a
