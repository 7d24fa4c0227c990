-- Operations without regions, by their words.
use Rattle.std.proofs.Common.{◌≡◌, List, ℕ, refl}
use Rattle.mlir_ir.specs.Phrases.{Phrase}
use Rattle.mlir_ir.specs.Resolved.{simple_kind}
use Rattle.mlir_ir.specs.Values.{Value}
use Rattle.mlir_ir.specs.declared.terminal.Terminal.{Terminal}
use Rattle.mlir_ir.specs.declared.terminal.Terminal.TheVariants.{Constant, Compare, Binary, FlaggedBinary, Select, Cast, FlaggedCast, Call}

-- operations with no other word are calls
pub other_kind : (c : Terminal) (funcs : List (List ℕ)) (scope : List Value) (kind : Phrase)
    → (c ≡ Constant → ⊥) → (c ≡ Binary → ⊥) → (c ≡ FlaggedBinary → ⊥) → (c ≡ Cast → ⊥) → (c ≡ FlaggedCast → ⊥) → (c ≡ Compare → ⊥) → (c ≡ Select → ⊥)
    → simple_kind funcs scope c kind ≡ simple_kind funcs scope Call kind
other_kind Constant funcs scope kind a b d e f g h = absurd (a refl)
other_kind Binary funcs scope kind a b d e f g h = absurd (b refl)
other_kind FlaggedBinary funcs scope kind a b d e f g h = absurd (d refl)
other_kind Cast funcs scope kind a b d e f g h = absurd (e refl)
other_kind FlaggedCast funcs scope kind a b d e f g h = absurd (f refl)
other_kind Compare funcs scope kind a b d e f g h = absurd (g refl)
other_kind Select funcs scope kind a b d e f g h = absurd (h refl)
other_kind _ funcs scope kind a b d e f g h = refl
