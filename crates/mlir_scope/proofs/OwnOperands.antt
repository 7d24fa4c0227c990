-- Operations that use what stands directly behind their words.
use Rattle.std.proofs.Common.{◌≡◌, refl}
use Rattle.mlir_ir.specs.Phrases.{Phrase}
use Rattle.mlir_ir.specs.ScopeFaults.{operands}
use Rattle.mlir_ir.specs.Source.{uses_in}
use Rattle.mlir_ir.specs.declared.terminal.Terminal.{Terminal}
use Rattle.mlir_ir.specs.declared.terminal.Terminal.TheVariants.{Call, For, While}

pub own_operands : (c : Terminal) (kind : Phrase) → (c ≡ Call → ⊥) → (c ≡ For → ⊥) → (c ≡ While → ⊥) → operands c kind ≡ uses_in kind
own_operands Call kind a b d = absurd (a refl)
own_operands For kind a b d = absurd (b refl)
own_operands While kind a b d = absurd (d refl)
own_operands _ kind a b d = refl
