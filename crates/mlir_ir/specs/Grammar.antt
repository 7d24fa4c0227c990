-- The grammar of modules, one production for each form: `~` is sequence, `maybe` an optional part, `many` repetition.
use Rattle.mlir_ir.specs.declared.terminal.Terminal.{Terminal}
use Rattle.mlir_ir.specs.declared.terminal.Terminal.TheVariants.{Module, Function, Private, TypeWord, Return, Constant, Truth, Binary, FlaggedBinary, Cast, FlaggedCast, Compare, Predicate, Select, Call, If, Else, For, To, Step, IterArgs, While, Condition, Do, Yield, Overflow, Nsw, Nuw, Value, Symbol, Caret, Pick, Decimal, Hexadecimal, LeftParen, RightParen, LeftBrace, RightBrace, Less, Greater, Comma, Colon, Equals, Arrow, Minus}
use Rattle.mlir_ir.specs.declared.syntax.Form.{Form}
use Rattle.mlir_ir.specs.declared.syntax.Form.TheVariants.{Leaf, Whole, Func, Params, Types, Results, TypeName, Body, Ends, Uses, Use, Op, Pack, Kind, Inits, Region, Flags}

-- the right-hand side of a production
pub data Pattern : Type 0 where
  nothing : Pattern
  one : Terminal → Pattern
  line : Form → Pattern
  both : Pattern → Pattern → Pattern
  either : Pattern → Pattern → Pattern
  many : Pattern → Pattern
  -- a region, by what is inside its braces
  region : Pattern → Pattern

infixl 5 ◌~◌
-- the first pattern, then the second
abbrev pub ◌~◌ : Pattern → Pattern → Pattern
first ~ second = both first second

-- the pattern, or no tokens
abbrev pub maybe : Pattern → Pattern
maybe pattern = either pattern nothing

-- "arith.constant" (["-"] Number ":" type | "true" | "false")
abbrev pub constant_kind : Pattern
constant_kind = one Constant ~ either (maybe (one Minus) ~ either (one Decimal) (one Hexadecimal) ~ one Colon ~ line TypeName) (one Truth)

-- a binary operation without overflow flags: BINARY use "," use ":" type
abbrev pub binary_kind : Pattern
binary_kind = one Binary ~ line Use ~ one Comma ~ line Use ~ one Colon ~ line TypeName

-- a binary operation that takes overflow flags: BINARY use "," use [flags] ":" type
abbrev pub flagged_binary_kind : Pattern
flagged_binary_kind = one FlaggedBinary ~ line Use ~ one Comma ~ line Use ~ maybe (line Flags) ~ one Colon ~ line TypeName

-- a cast without overflow flags: CAST use ":" type "to" type
abbrev pub cast_kind : Pattern
cast_kind = one Cast ~ line Use ~ one Colon ~ line TypeName ~ one To ~ line TypeName

-- a cast that takes overflow flags: CAST use [flags] ":" type "to" type
abbrev pub flagged_cast_kind : Pattern
flagged_cast_kind = one FlaggedCast ~ line Use ~ maybe (line Flags) ~ one Colon ~ line TypeName ~ one To ~ line TypeName

-- "arith.cmpi" PRED "," use "," use ":" type
abbrev pub compare_kind : Pattern
compare_kind = one Compare ~ one Predicate ~ one Comma ~ line Use ~ one Comma ~ line Use ~ one Colon ~ line TypeName

-- "arith.select" use "," use "," use ":" type
abbrev pub select_kind : Pattern
select_kind = one Select ~ line Use ~ one Comma ~ line Use ~ one Comma ~ line Use ~ one Colon ~ line TypeName

-- ("call" | "func.call") Symbol "(" [uses] ")" ":" "(" [types] ")" "->" results
abbrev pub call_kind : Pattern
call_kind = one Call ~ one Symbol ~ one LeftParen ~ maybe (line Uses) ~ one RightParen ~ one Colon ~ one LeftParen ~ maybe (line Types) ~ one RightParen ~ one Arrow ~ line Results

-- "scf.if" use ["->" results] region ["else" region]
abbrev pub if_kind : Pattern
if_kind = one If ~ line Use ~ maybe (one Arrow ~ line Results) ~ line Region ~ maybe (one Else ~ line Region)

-- "scf.for" Value "=" use "to" use "step" use ["iter_args" "(" inits ")" "->" results] [":" type] region
abbrev pub for_kind : Pattern
for_kind = one For ~ one Value ~ one Equals ~ line Use ~ one To ~ line Use ~ one Step ~ line Use ~ maybe (one IterArgs ~ one LeftParen ~ line Inits ~ one RightParen ~ one Arrow ~ line Results) ~ maybe (one Colon ~ line TypeName) ~ line Region

-- "{" {op} "scf.condition" "(" use ")" [ends] "}"
abbrev pub before_region : Pattern
before_region = region (many (line Op) ~ one Condition ~ one LeftParen ~ line Use ~ one RightParen ~ maybe (line Ends))

-- "{" [Caret ["(" params ")"] ":"] {op} "scf.yield" [ends] "}"
abbrev pub after_region : Pattern
after_region = region (maybe (one Caret ~ maybe (one LeftParen ~ line Params ~ one RightParen) ~ one Colon) ~ many (line Op) ~ one Yield ~ maybe (line Ends))

-- "scf.while" ["(" inits ")"] ":" "(" [types] ")" "->" results before_region "do" after_region
abbrev pub while_kind : Pattern
while_kind = one While ~ maybe (one LeftParen ~ line Inits ~ one RightParen) ~ one Colon ~ one LeftParen ~ maybe (line Types) ~ one RightParen ~ one Arrow ~ line Results ~ before_region ~ one Do ~ after_region

-- the production of each form; those of "func" and "flags" are left-factored
abbrev pub body : Form → Pattern
-- a leaf is a token and has no production
body Leaf = nothing
-- text = func {func} | "module" [Symbol] "{" {func} "}" | (nothing)
body Whole = maybe (either (line Func ~ many (line Func)) (one Module ~ maybe (one Symbol) ~ one LeftBrace ~ many (line Func) ~ one RightBrace))
-- func = "func.func" ["private"] Symbol "(" then types ")" ["->" results] or [params] ")" ["->" results] [body]
body Func = one Function ~ maybe (one Private) ~ one Symbol ~ one LeftParen ~ either (line Types ~ one RightParen ~ maybe (one Arrow ~ line Results)) (maybe (line Params) ~ one RightParen ~ maybe (one Arrow ~ line Results) ~ maybe (line Body))
-- params = Value ":" type {"," Value ":" type}
body Params = one Value ~ one Colon ~ line TypeName ~ many (one Comma ~ one Value ~ one Colon ~ line TypeName)
-- types = type {"," type}
body Types = line TypeName ~ many (one Comma ~ line TypeName)
-- results = type | "(" [types] ")"
body Results = either (line TypeName) (one LeftParen ~ maybe (line Types) ~ one RightParen)
-- type = "index" | "i1" to "i64"
body TypeName = one TypeWord
-- body = "{" {op} ("return" | "func.return") [ends] "}"
body Body = region (many (line Op) ~ one Return ~ maybe (line Ends))
-- ends = uses ":" types
body Ends = line Uses ~ one Colon ~ line Types
-- uses = use {"," use}
body Uses = line Use ~ many (one Comma ~ line Use)
-- use = Value [Pick]
body Use = one Value ~ maybe (one Pick)
-- op = [pack {"," pack} "="] kind
body Op = maybe (line Pack ~ many (one Comma ~ line Pack) ~ one Equals) ~ line Kind
-- pack = Value [":" Number], where the number is decimal
body Pack = one Value ~ maybe (one Colon ~ one Decimal)
-- kind = constant_kind | binary_kind | .. | while_kind
body Kind = either constant_kind (either binary_kind (either flagged_binary_kind (either cast_kind (either flagged_cast_kind (either compare_kind (either select_kind (either call_kind (either if_kind (either for_kind while_kind)))))))))
-- inits = Value "=" use {"," Value "=" use}
body Inits = one Value ~ one Equals ~ line Use ~ many (one Comma ~ one Value ~ one Equals ~ line Use)
-- region = "{" {op} ["scf.yield" [ends]] "}"
body Region = region (many (line Op) ~ maybe (one Yield ~ maybe (line Ends)))
-- flags = "overflow" "<" ("nsw" ["," "nuw"] | "nuw" ["," "nsw"]) ">"
body Flags = one Overflow ~ one Less ~ either (one Nsw ~ maybe (one Comma ~ one Nuw)) (one Nuw ~ maybe (one Comma ~ one Nsw)) ~ one Greater
