-- The values that the code's names in scope stand for, and the table by which they are found.
use Rattle.std.specs.Prelude.{ℕ, ◌≡◌, ◌==◌, ◌&&◌, Bool, List, map}
use Rattle.std.specs.Borrow.{Bor}
use Rattle.std.specs.HashMap.{HashMap, get_by}
use Rattle.std.specs.List.{position_from}
use Rattle.std.specs.Str.{bytes_eq}
use Rattle.std.specs.Str.Parse.{digits_value}
use Rattle.mlir_ir.specs.Resolved.{is_of}
use Rattle.mlir_ir.specs.Values.{Value}
use Rattle.mlir_scope.specs.Reading.{type_said}
use Rattle.mlir_scope.specs.declared.scope_names.Named.{Named}

abbrev pub value_of : Named → Value
value_of v = record { label = v.label; name = v.name.now; count = digits_value 10 v.count.now; place = v.place; ty = type_said v.ty }

-- whether a value has that name and place
abbrev pub is_named : List ℕ → ℕ → Value → Bool
is_named name place v = is_of (record { at = 0; name = name; pick = place }) v

-- the table has for each name and place the index of the first value that has them
abbrev pub AreFirst : {S : Type 0} → HashMap (Bor (List ℕ) × ℕ) ℕ S → List Named → Type 0
AreFirst first values =
    (name : List ℕ) (place : ℕ) →
    get_by (λ key. bytes_eq name key.0.now && (place == key.1)) first ≡ position_from (is_named name place) 0 (map value_of values)
