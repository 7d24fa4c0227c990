-- A use that reads back: the text of a label's value is, in scope, another label.
use Rattle.std.specs.Prelude.{◌≡◌, ◌^◌, ◌<◌, List, false, nat_lt, Some}
use Rattle.arith_word.specs.declared.label.Label.{Label}
use Rattle.mlir_ir.specs.Canonical.{Naming}
use Rattle.mlir_ir.specs.Resolved.{label, used}
use Rattle.mlir_ir.specs.Values.{Value, value_at}

-- with these values in scope, the text of the first label names the second, whose value has the same type
pub record ReadsAs (naming : Naming) (scope : List Value) (written read : Label) : Type 0 where
  pub value : Value
  pub found : value_at naming.values written.0 ≡ Some value
  pub place : value.place < 2 ^ 64
  pub alone : nat_lt 1 value.count ≡ false → value.place ≡ 0
  pub names : label scope (record { at = 0; name = value.name; pick = value.place }) ≡ read
  pub seen : Value
  pub sees : used scope (record { at = 0; name = value.name; pick = value.place }) ≡ Some seen
  pub same : seen.ty ≡ value.ty
