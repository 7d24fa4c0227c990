-- What is answered to which bytes.
use Rattle.std.specs.Prelude.{ℕ, ◌≡◌, List, Bool, cond}
use Rattle.mlir_ir.specs.declared.module.Module.{Module}
use Rattle.scev_input.specs.FaultLines.{fault_line}
use Rattle.scev_input.specs.Inputs.{IsInput, IsFault}
use Rattle.scev_input.specs.declared.fault.Fault.{Fault}
use Rattle.scev_script.specs.declared.script.Script.{Script}
use Rattle.scev_server.specs.Output.{IsOutput}

-- the most bytes of an input
abbrev pub input_limit : ℕ
input_limit = 4194304

-- the bytes are an input, and the text is its output
pub record IsAnswer (bytes text : List ℕ) : Type 0 where
  pub base : Module
  pub scripts : List Script
  pub input : IsInput bytes base scripts
  pub output : IsOutput base.funcs scripts text

-- the bytes are no input
abbrev pub IsNoInput : List ℕ → Type 0
IsNoInput bytes = (base : Module) (scripts : List Script) → IsInput bytes base scripts → ⊥

-- the bytes are no input, and the text is the line that says their first fault
pub record IsRefusal (bytes text : List ℕ) : Type 0 where
  pub none : IsNoInput bytes
  pub fault : Fault
  pub first : IsFault bytes fault
  pub text_is : text ≡ fault_line fault

-- the text answers the bytes, where they are accepted, and else refuses them
abbrev pub IsReply : Bool → List ℕ → List ℕ → Type 0
IsReply accepted bytes text = cond accepted (IsAnswer bytes text) (IsRefusal bytes text)
