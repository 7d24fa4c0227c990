-- Which replies answer bytes, and which statuses they call for.
use Rattle.std.proofs.Common.{◌≡◌, ℕ, ◌≤◌, List, [], ◌++◌, length, refl, ap, ◌∙◌, sym, subst, Bool, true, false, Option, Some, None, IfSome, string_bytes}
use Rattle.std.proofs.lemmas.List.{append-nil}
use Rattle.mlir_ir.specs.declared.module.Module.{Module}
use Rattle.scev_io.specs.Bytes.{before_giving, IsSpent}
use Rattle.scev_input.proofs.OneInput.{not_both}
use Rattle.scev_input.specs.FaultLines.{fault_line}
use Rattle.scev_input.specs.Inputs.{IsInput, IsFault}
use Rattle.scev_input.specs.declared.fault.Fault.{Fault}
use Rattle.scev_script.specs.declared.script.Script.{Script}
use Rattle.scev_server.specs.Output.{IsOutput}
use Rattle.scev_server.specs.Reply.{input_limit, IsAnswer, IsRefusal, IsReply}
use Rattle.scev_server.specs.Serving.{CallsFor}
use Rattle.scev_server.specs.declared.status.Status.{Status}
use Rattle.scev_server.specs.declared.status.Status.TheVariants.{Done, BadInput}

pub answered : (bytes text : List ℕ) (base : Module) (scripts : List Script) → IsInput bytes base scripts → IsOutput base.funcs scripts text
    → IsAnswer bytes text
answered bytes text base scripts input output = record { base = base; scripts = scripts; input = input; output = output }

pub refused : (bytes text : List ℕ) (fault : Fault) → IsFault bytes fault → text ≡ fault_line fault → IsRefusal bytes text
refused bytes text fault first is = record {
  none = λ base scripts input. not_both bytes base scripts fault input first;
  fault = fault;
  first = first;
  text_is = is;
}

-- bytes that were read to the end are all that the source told
pub told : (P : List ℕ → Type 0) (start left : Option (List ℕ)) (bytes : List ℕ) → start ≡ before_giving bytes left → IsSpent left → P bytes
    → IfSome start P
told P start None bytes e spent p = subst (λ o. IfSome o P) (sym e) tt
told P start (Some left) bytes e spent p =
    let all : start ≡ Some bytes = e ∙ ap (λ l. Some (bytes ++ l)) spent ∙ ap (λ l. Some l) (append-nil bytes) in
    subst (λ o. IfSome o P) (sym all) p

pub calls_for_done : (bytes text : List ℕ) (accepted : Bool) → length bytes ≤ input_limit → accepted ≡ true → IsReply accepted bytes text
    → CallsFor bytes Done
calls_for_done bytes text true short e r = (short, r.base, r.scripts, r.input)
calls_for_done bytes text false short e r = absurd (cc)

pub calls_for_bad_input : (bytes text : List ℕ) (accepted : Bool) → length bytes ≤ input_limit → accepted ≡ false → IsReply accepted bytes text
    → CallsFor bytes BadInput
calls_for_bad_input bytes text true short e r = absurd (cc)
calls_for_bad_input bytes text false short e r = (short, r.none)
