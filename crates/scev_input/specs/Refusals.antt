-- Why the text of a module has no syntax, as a fault of the input.
use Rattle.mlir_parse.specs.declared.parser.ParseFault.{ParseFault}
use Rattle.mlir_parse.specs.declared.parser.ParseFault.TheVariants as parsing
use Rattle.scev_input.specs.declared.fault.FaultKind.TheVariants as kinds
use Rattle.scev_input.specs.declared.fault.Refused.{Refused}
use Rattle.scev_input.specs.declared.fault.Refused.TheVariants.{NoMemory, Fault}

abbrev pub refusal_of : ParseFault → Refused
refusal_of parsing.NoMemory = NoMemory
refusal_of (parsing.Lex at) = Fault (record { kind = kinds.Lex; at = at })
refusal_of (parsing.Syntax at) = Fault (record { kind = kinds.Syntax; at = at })
refusal_of (parsing.NotHere at) = Fault (record { kind = kinds.NotHere; at = at })
refusal_of (parsing.TooDeep at) = Fault (record { kind = kinds.TooDeep; at = at })
