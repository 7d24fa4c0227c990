-- How many labels operations take, cut at a limit.
use Rattle.std.proofs.Common.{◌≡◌, refl}
use Rattle.mlir_ir.specs.Phrases.{Phrase}
use Rattle.mlir_ir.specs.ScopeFaults.{header_labels}
use Rattle.mlir_ir.specs.declared.terminal.Terminal.{Terminal}
use Rattle.mlir_ir.specs.declared.terminal.Terminal.TheVariants.{For, While}

-- operations other than loops have no header
pub no_header : (c : Terminal) (kind : Phrase) → (c ≡ For → ⊥) → (c ≡ While → ⊥) → header_labels c kind ≡ 0
no_header For kind a b = absurd (a refl)
no_header While kind a b = absurd (b refl)
no_header _ kind a b = refl
