-- The functions of the code's text, and the types of one that is called.
use Rattle.std.specs.Prelude.{◌≡◌, List, Option}
use Rattle.std.specs.Borrow.{Bor}
use Rattle.std.specs.Option.{option_map}
use Rattle.mlir_ir.specs.Phrases.{Line}
use Rattle.mlir_scope.specs.Functions.{called, signature_said, lines_said}
use Rattle.mlir_scope.specs.declared.signatures.Signature.{Signature}
use Rattle.mlir_scope.specs.declared.text.Text.{Text}

abbrev pub funcs_in : Text → List Line
funcs_in text = lines_said text.tokens.now text.funcs.now

-- a signature of that function, and none where there is none
abbrev pub has_signature : Option Line → Option (Bor Signature) → Type 0
has_signature f s = option_map (λ (b : Bor Signature). signature_said b.now) s ≡ option_map called f
