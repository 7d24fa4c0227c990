-- How commands and answers name values and loops: `%x`, `%x!2` from the second definition of the name on, `%x#1` in a pack; `#L`.
use Rattle.std.specs.Prelude.{ℕ, ◌+◌, ◌-◌, ◌==◌, ◌&&◌, List, [], ◌++◌, Option, Some, None, codes, count_by, filter, slice_get, nat_le, nat_lt, if◌then◌else◌}
use Rattle.std.specs.List.{position_from}
use Rattle.std.specs.Option.{option_map_or, option_and_then}
use Rattle.std.specs.Fmt.{decimal}
use Rattle.std.specs.Str.{bytes_eq}
use Rattle.mlir_ir.specs.Loops.{func_loops}
use Rattle.mlir_ir.specs.Values.{Value, func_values, value_at}
use Rattle.mlir_ir.specs.declared.loop_labels.LoopLabels.{LoopLabels}
use Rattle.mlir_ir.specs.declared.types.Func.{Func}

-- what the variables of a function's expressions are named by
pub record Naming : Type 0 where
  pub values : List Value
  pub loops : List LoopLabels

abbrev pub naming_of : Func → Naming
naming_of f = record { values = func_values f; loops = func_loops f }

-- the definitions of a name, in the order of their labels
abbrev pub definitions_of : List Value → List ℕ → List Value
definitions_of values name = filter (λ v. bytes_eq v.name name && v.place == 0) values

-- the label of a result of a pack
abbrev pub label_of_result : ℕ → Value → Option ℕ
label_of_result place v = if nat_lt place v.count then Some (v.label + place) else None

-- the label of result `place`, from 0, of definition `nth`, from 1, of a name
abbrev pub label_named : List Value → List ℕ → ℕ → ℕ → Option ℕ
label_named values name nth place =
    if nth == 0 then None else option_and_then (label_of_result place) (slice_get (definitions_of values name) (nth - 1))

-- which definition of its name a value is, from 1
abbrev pub nth_of : List Value → Value → ℕ
nth_of values value = count_by (λ v. bytes_eq v.name value.name && (v.place == 0 && nat_le v.label value.label)) values

abbrev pub value_text : List Value → Value → List ℕ
value_text values value =
    codes "%"
    ++ value.name
    ++ (if nat_lt 1 (nth_of values value) then codes "!" ++ decimal (nth_of values value) else [])
    ++ (if nat_lt 1 value.count then codes "#" ++ decimal value.place else [])

-- the name of the value with that label, nothing where there is none
abbrev pub symbol_text : List Value → ℕ → List ℕ
symbol_text values label = option_map_or (value_text values) (value_at values label) []

-- the number of the loop whose counter has that label
abbrev pub loop_number : List LoopLabels → ℕ → Option ℕ
loop_number loops label = position_from (λ l. l.counter.0 == label) 0 loops

-- the loop whose counter has that label, nothing behind the mark where there is none
abbrev pub loop_text : List LoopLabels → ℕ → List ℕ
loop_text loops label = codes "#" ++ option_map_or decimal (loop_number loops label) []
