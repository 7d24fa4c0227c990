-- The values that the code's scopes stand for.
use Rattle.std.specs.Prelude.{ℕ, List, map, find, Option}
use Rattle.std.specs.Option.{option_map}
use Rattle.std.specs.Str.{bytes_eq}
use Rattle.mlir_ir.specs.Values.{Value}
pub use Rattle.mlir_scope.specs.Knowns.{known_said}
use Rattle.mlir_scope.specs.declared.scope.Scope.{Scope}

abbrev pub scope_said : Scope → List Value
scope_said scope = map known_said scope.places.values.items

-- the label of the first value that has the name
abbrev pub label_named : List ℕ → List Value → Option ℕ
label_named name values = option_map (λ (v : Value). v.label) (find (λ (v : Value). bytes_eq v.name name) values)
