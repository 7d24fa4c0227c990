-- The values that the code's known names stand for, and the table by which they are found.
use Rattle.std.specs.Prelude.{ℕ, ◌≡◌, ◌==◌, ◌&&◌, List, map}
use Rattle.std.specs.Borrow.{Bor}
use Rattle.std.specs.HashMap.{HashMap, get_by}
use Rattle.std.specs.List.{position_from}
use Rattle.std.specs.Str.{bytes_eq}
use Rattle.std.specs.Str.Parse.{digits_value}
use Rattle.mlir_ir.specs.Values.{Value}
use Rattle.mlir_scope.specs.InScope.{is_named}
use Rattle.mlir_scope.specs.Reading.{type_said}
use Rattle.mlir_scope.specs.declared.scope.Known.{Known}

abbrev pub known_said : Known → Value
known_said v = record { label = v.label; name = v.name.now; count = digits_value 10 v.count.now; place = v.place; ty = type_said v.ty }

-- a value as it is found by its name alone
abbrev pub at_name : Value → Value
at_name v = record { label = v.label; name = v.name; count = v.count; place = 0; ty = v.ty }

-- the table has for each name and place the index of the first value that has them
abbrev pub HasFirst : {S : Type 0} → HashMap (Bor (List ℕ) × ℕ) ℕ S → List Known → Type 0
HasFirst first values =
    (name : List ℕ) (place : ℕ) →
    get_by (λ key. bytes_eq name key.0.now && (place == key.1)) first ≡ position_from (is_named name place) 0 (map known_said values)
