-- The line that tells a fault.
use Rattle.std.specs.Prelude.{ℕ, List, [], ◌∷◌, ◌++◌, codes}
use Rattle.std.specs.Fmt.{decimal}
use Rattle.scev_input.specs.declared.fault.Fault.{Fault}
use Rattle.scev_input.specs.declared.fault.FaultKind.{FaultKind}
use Rattle.scev_input.specs.declared.fault.FaultKind.TheVariants.{Utf8, Lex, Syntax, NotHere, TooDeep, Unknown, Twice, WrongType, Arity, Limit, Script}

abbrev pub kind_text : FaultKind → List ℕ
kind_text Utf8 = codes "utf8"
kind_text Lex = codes "lex"
kind_text Syntax = codes "syntax"
kind_text NotHere = codes "not here"
kind_text TooDeep = codes "too deep"
kind_text Unknown = codes "unknown"
kind_text Twice = codes "twice"
kind_text WrongType = codes "wrong type"
kind_text Arity = codes "arity"
kind_text Limit = codes "limit"
kind_text Script = codes "script"

-- the line with its LF
abbrev pub fault_line : Fault → List ℕ
fault_line fault = codes "bad input: " ++ kind_text fault.kind ++ codes " at " ++ decimal fault.at ++ 10 ∷ []
