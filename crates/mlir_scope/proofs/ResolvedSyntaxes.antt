-- The fault of a syntax by the break that was noted, and the functions of one of which no break was noted.
use Rattle.std.proofs.Common.{◌≡◌, List, [], map, ap, ◌∙◌, sym, Option, Some, None}
use Rattle.mlir_ir.specs.Reads.{IsScopeFault, phrase_in, plain_func}
use Rattle.mlir_ir.specs.Resolved.{funcs_of}
use Rattle.mlir_ir.specs.ScopeFaults.{text_breaks}
use Rattle.mlir_ir.specs.Syntaxes.{StandsFor}
use Rattle.mlir_ir.specs.declared.syntax.Syntax.{Syntax}
use Rattle.mlir_ir.specs.declared.types.Func.{Func}
use Rattle.mlir_scope.specs.Noted.{noted}
use Rattle.mlir_scope.specs.StandingFunctions.{AreDerivedFunctions}
use Rattle.mlir_scope.specs.declared.first.ScopeFault.{ScopeFault}
use Rattle.mlir_scope.proofs.FirstBreak.{first_noted, none_noted}

-- a syntax of which no break was noted breaks no rule
pub keeps_rules : (s : Syntax) (best : Option ScopeFault) → best ≡ noted None (text_breaks s.tokens (phrase_in s)) → best ≡ None
    → text_breaks s.tokens (phrase_in s) ≡ []
keeps_rules s best is none = none_noted (text_breaks s.tokens (phrase_in s)) (sym is ∙ none)

-- the break that was noted is the fault
pub fault_counts : (s : Syntax) (best : Option ScopeFault) (f : ScopeFault) → best ≡ noted None (text_breaks s.tokens (phrase_in s)) → best ≡ Some f
    → IsScopeFault s f.token f.kind
fault_counts s best f is some = first_noted (text_breaks s.tokens (phrase_in s)) f (sym is ∙ some)

-- the functions of a syntax of which no break was noted
pub stand : (s : Syntax) (best : Option ScopeFault) (items funcs : List Func) → StandsFor s s.tokens
    → best ≡ noted None (text_breaks s.tokens (phrase_in s)) → best ≡ None
    → map plain_func items ≡ funcs_of (phrase_in s) → funcs ≡ items → AreDerivedFunctions s funcs
stand s best items funcs stands is none same listed =
    record { stands = stands; functions = record { keeps = keeps_rules s best is none; same = ap (map plain_func) listed ∙ same } }
