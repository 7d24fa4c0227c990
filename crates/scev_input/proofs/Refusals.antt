-- Faults of the module's text as those of the input; and the functions of a module that was read.
use Rattle.std.proofs.Common.{◌≡◌, ℕ, List, Err, All, IsUtf8, take, ap, ◌∙◌, sym, subst, get_or}
use Rattle.std.proofs.lemmas.Option.{slice_get-get_or}
use Rattle.mlir_ir.specs.Check.{IsWellFormed}
use Rattle.mlir_ir.specs.Reads.{IsModuleOf, IsScopeFault, Reads}
use Rattle.mlir_ir.specs.Syntaxes.{IsSyntaxOf, place_of}
use Rattle.mlir_ir.specs.declared.module.Module.{Module}
use Rattle.mlir_ir.specs.declared.scope_kind.ScopeKind.{ScopeKind}
use Rattle.mlir_ir.specs.declared.syntax.Syntax.{Syntax}
use Rattle.mlir_ir.specs.declared.types.Func.{Func}
use Rattle.mlir_parse.specs.Refused as parsing
use Rattle.mlir_parse.specs.declared.parser.ParseFault.{ParseFault}
use Rattle.mlir_parse.specs.declared.parser.ParseFault.TheVariants as faults
use Rattle.mlir_scope.specs.StandingFunctions.{AreChecked}
use Rattle.scev_script.specs.Scripts.{input_of, module_end_in}
use Rattle.scev_script.specs.declared.error.InputFault.{InputFault}
use Rattle.scev_input.specs.Inputs.{IsFault, IsRefused, kind_of_scope, line_fault, module_bytes, lex, grammar, scope, script}
use Rattle.scev_input.specs.Refusals.{refusal_of}
use Rattle.scev_input.specs.declared.fault.FaultKind.{FaultKind}
use Rattle.scev_input.specs.declared.fault.FaultKind.TheVariants as kinds
use Rattle.scev_input.specs.declared.fault.Refused.{Refused}
use Rattle.scev_input.specs.declared.fault.Refused.TheVariants as refusals
use Rattle.scev_input.proofs.ModuleEnds.{fault_of_scripts}

-- why the module's text has no syntax is why the bytes are no input
refused_whole : (bytes : List ℕ) (e : ParseFault) → IsUtf8 bytes → parsing.IsRefused (module_bytes bytes) e → IsRefused bytes (refusal_of e)
refused_whole bytes faults.NoMemory u h = tt
refused_whole bytes (faults.Lex at) u h = lex u h
refused_whole bytes (faults.Syntax at) u h = grammar {kind = kinds.Syntax} u h
refused_whole bytes (faults.NotHere at) u h = grammar {kind = kinds.NotHere} u h
refused_whole bytes (faults.TooDeep at) u h = grammar {kind = kinds.TooDeep} u h

-- of a text whose module ends there, and of that front of it
module _ (text front : List ℕ) (end : ℕ) (ends : end ≡ module_end_in text) (is : front ≡ take end text) where
  front_is : front ≡ module_bytes text
  front_is = is ∙ ap (λ n. take n text) ends

  pub refused_as : (e : ParseFault) (r : Refused) → r ≡ refusal_of e → IsUtf8 text → parsing.IsRefused front e → IsRefused text r
  refused_as e r same u h = subst (IsRefused text) (sym same) (refused_whole text e u (subst (λ bytes. parsing.IsRefused bytes e) front_is h))

  pub scope_at : (syntax : Syntax) (token : ℕ) (kind : ScopeKind) (k : FaultKind) (at : ℕ) → IsUtf8 text → IsSyntaxOf front syntax → IsScopeFault syntax token kind
      → k ≡ kind_of_scope kind → at ≡ place_of syntax.tokens syntax.length token → IsFault text (record { kind = k; at = at })
  scope_at syntax token kind k at u parsed fault same there =
      rw (same, there) (scope {syntax = syntax} {token = token} {kind = kind} u (subst (λ bytes. IsSyntaxOf bytes syntax) front_is parsed) fault)

  pub reads_as : (syntax : Syntax) (m : Module) → IsSyntaxOf front syntax → IsModuleOf syntax m → Reads (module_bytes text) m
  reads_as syntax m parsed resolved = record { syntax = syntax; parsed = subst (λ bytes. IsSyntaxOf bytes syntax) front_is parsed; resolved = resolved }

-- the fault of the scripts, where the module reads
pub script_refused : (text : List ℕ) (m : Module) (fault : InputFault) (r : Refused) → IsUtf8 text → Reads (module_bytes text) m → input_of text ≡ Err fault
    → r ≡ refusals.Fault (line_fault fault) → IsRefused text r
script_refused text m fault r u reads is same =
    subst (IsRefused text) (sym same) (script {m = m} {fault = fault} u reads (fault_of_scripts text fault is))

-- each of the functions
pub all_formed : (funcs : List Func) → AreChecked funcs → All IsWellFormed funcs
all_formed funcs are k d within = are k (get_or funcs k d) (slice_get-get_or funcs k d within)
