-- Inputs, which are a module and then scripts of sessions, and the first fault of bytes that are none.
use Rattle.std.specs.Prelude.{ℕ, ◌≡◌, List, Ok, Err, take, if◌then◌else◌}
use Rattle.std.specs.Str.{IsUtf8, IsValidUpTo}
use Rattle.mlir_ir.specs.Reads.{IsScopeFault, Reads}
use Rattle.mlir_ir.specs.Syntaxes.{IsSyntaxOf, place_of}
use Rattle.mlir_ir.specs.Texts.{IsNotHere, IsOtherFault, IsTooDeep}
use Rattle.mlir_ir.specs.Tokens.{IsLexFault}
use Rattle.mlir_ir.specs.declared.module.Module.{Module}
use Rattle.mlir_ir.specs.declared.scope_kind.ScopeKind.{ScopeKind}
use Rattle.mlir_ir.specs.declared.scope_kind.ScopeKind.TheVariants as scopes
use Rattle.mlir_ir.specs.declared.syntax.Syntax.{Syntax}
use Rattle.mlir_parse.specs.Refused.{IsFaultAt}
use Rattle.scev_script.specs.Scripts.{module_end_in, scripts_behind}
use Rattle.scev_script.specs.declared.error.InputFault.{InputFault}
use Rattle.scev_script.specs.declared.script.Script.{Script}
use Rattle.scev_input.specs.declared.fault.Fault.{Fault}
use Rattle.scev_input.specs.declared.fault.FaultKind.{FaultKind}
use Rattle.scev_input.specs.declared.fault.FaultKind.TheVariants as kinds
use Rattle.scev_input.specs.declared.fault.Refused.{Refused}
use Rattle.scev_input.specs.declared.fault.Refused.TheVariants as refused

-- the text of the module
abbrev pub module_bytes : List ℕ → List ℕ
module_bytes bytes = take (module_end_in bytes) bytes

-- the text of the module reads as the module, and the lines behind it say the scripts of these sessions
pub record IsInput (bytes : List ℕ) (m : Module) (sessions : List Script) : Type 0 where
  pub utf8 : IsUtf8 bytes
  pub reads : Reads (module_bytes bytes) m
  pub scripts : scripts_behind (module_end_in bytes) bytes ≡ Ok sessions

-- the tokens of the text have a syntax error of that kind, at that byte
abbrev pub IsGrammarFault : List ℕ → FaultKind → ℕ → Type 0
IsGrammarFault text kinds.Syntax at = IsFaultAt IsOtherFault text at
IsGrammarFault text kinds.NotHere at = IsFaultAt IsNotHere text at
IsGrammarFault text kinds.TooDeep at = IsFaultAt IsTooDeep text at
IsGrammarFault text _ at = ⊥

abbrev pub kind_of_scope : ScopeKind → FaultKind
kind_of_scope scopes.Limit = kinds.Limit
kind_of_scope scopes.Twice = kinds.Twice
kind_of_scope scopes.Unknown = kinds.Unknown
kind_of_scope scopes.Arity = kinds.Arity
kind_of_scope scopes.WrongType = kinds.WrongType

-- the fault of a line of the scripts
abbrev pub line_fault : InputFault → Fault
line_fault fault = record { kind = if fault.limit then kinds.Limit else kinds.Script; at = fault.at }

-- the first fault: of the bytes, of the module's tokens, grammar and scopes, or of the scripts. Each is of bytes without those before
pub data IsFault (bytes : List ℕ) : Fault → Type 0 where
  utf8 : {at : ℕ} → IsValidUpTo bytes at → IsFault bytes (record { kind = kinds.Utf8; at = at })
  lex : {at : ℕ} → IsUtf8 bytes → IsLexFault (module_bytes bytes) at → IsFault bytes (record { kind = kinds.Lex; at = at })
  grammar : {kind : FaultKind} {at : ℕ} → IsUtf8 bytes → IsGrammarFault (module_bytes bytes) kind at → IsFault bytes (record { kind = kind; at = at })
  scope : {syntax : Syntax} {token : ℕ} {kind : ScopeKind} → IsUtf8 bytes → IsSyntaxOf (module_bytes bytes) syntax → IsScopeFault syntax token kind
      → IsFault bytes (record { kind = kind_of_scope kind; at = place_of syntax.tokens syntax.length token })
  script : {m : Module} {fault : InputFault} → IsUtf8 bytes → Reads (module_bytes bytes) m → scripts_behind (module_end_in bytes) bytes ≡ Err fault
      → IsFault bytes (line_fault fault)

-- memory was refused, or the fault is the first of the bytes
abbrev pub IsRefused : List ℕ → Refused → Type 0
IsRefused bytes refused.NoMemory = Unit {0}
IsRefused bytes (refused.Fault fault) = IsFault bytes fault
