use Rattle.std.proofs.Common.{◌≡◌, ℕ, ◌<◌, ◌++◌, ◌∷◌, [], Some, slice_get}
use Rattle.mlir_ir.specs.Texts.{BeginsText}
use Rattle.mlir_ir.specs.declared.terminal.Terminal.{Terminal}
use Rattle.mlir_parse.proofs.Hopes.{probes}
use Rattle.mlir_parse.proofs.hope.name_could_stand.Given as goal

abbrev pub invariant-probes : goal.invariant-probes
invariant-probes l = (i : ℕ) → i < l.probe-index → (t : Terminal) → slice_get probes i ≡ Some t → BeginsText (l.tokens ++ t ∷ []) → ⊥
