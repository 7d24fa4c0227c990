-- What the tables of a function's names have of its values and its loops.
use Rattle.std.specs.Prelude.{ℕ, ◌≡◌, ◌+◌, ◌-◌, ◌^◌, ◌<◌, ◌≤◌, ◌==◌, ◌&&◌, List, [], ◌∷◌, length, slice_get, Option, None, All, if◌then◌else◌}
use Rattle.std.specs.HashMap.{get_by}
use Rattle.std.specs.Option.{option_map, option_map_or, unwrap_or}
use Rattle.std.specs.Str.{bytes_eq}
use Rattle.mlir_ir.specs.Values.{Value, value_at}
use Rattle.mlir_ir.specs.declared.loop_labels.LoopLabels.{LoopLabels}
use Rattle.mlir_ir.specs.declared.types.IrType.{IrType}
use Rattle.mlir_print.specs.Slots.{slot_value}
use Rattle.mlir_print.specs.declared.naming.Slot.{Slot}
use Rattle.scev_text.specs.Naming.{definitions_of, nth_of, loop_number}
use Rattle.scev_text.specs.declared.definitions.PackValue.{PackValue}
use Rattle.scev_text.specs.declared.definitions.Definitions.{Definitions}
use Rattle.scev_text.specs.declared.loop_numbers.LoopNumbers.{LoopNumbers}

-- how many definitions a name has
abbrev pub count_in : Definitions → List ℕ → ℕ
count_in known name = unwrap_or (get_by (λ k. bytes_eq name k.now) known.counts) 0

-- the first result of definition `nth` of a name
abbrev pub definition_in : Definitions → List ℕ → ℕ → Option PackValue
definition_in known name nth = get_by (λ k. bytes_eq name k.0.now && nth == k.1) known.firsts

-- which definition of its name the value with that label is, 0 where there is none
abbrev pub number_in : Definitions → ℕ → ℕ
number_in known label = unwrap_or (get_by (λ k. label == k) known.numbers) 0

abbrev pub pack_value : Value → PackValue
pack_value v = record { label = record { 0 = v.label }; count = v.count }

-- the value with that name, place and type
abbrev pub value_of : List ℕ → PackValue → ℕ → IrType → Value
value_of name value place ty = record { label = value.label.0; name = name; count = value.count; place = place; ty = ty }

-- definition `nth`, from 1, of a name
abbrev pub definition_of : List Value → List ℕ → ℕ → Option Value
definition_of values name nth = if nth == 0 then None else slice_get (definitions_of values name) (nth - 1)

-- the tables have these values, whose labels come before `behind`
pub record AreKept (known : Definitions) (behind : ℕ) (values : List Value) : Type 0 where
  pub below : All (λ v. v.label < behind) values
  pub few : length values ≤ behind
  pub counts : (name : List ℕ) → count_in known name ≡ length (definitions_of values name)
  pub firsts : (name : List ℕ) (nth : ℕ) → definition_in known name nth ≡ option_map pack_value (definition_of values name nth)
  pub numbers : (label : ℕ) → number_in known label ≡ option_map_or (nth_of values) (value_at values label) 0

-- no value, or the one in the slot with that label
abbrev pub values_in : ℕ → Slot → List Value
values_in label slot = option_map_or (λ v. v ∷ []) (slot_value label slot) []

-- the labels of the results that are named with a value fit
abbrev pub DoesFit : Value → Type 0
DoesFit v = v.label + v.count ≤ 2 ^ 32 + v.place

-- the number of the loop whose counter has that label
abbrev pub loop_in : LoopNumbers → ℕ → Option ℕ
loop_in known label = get_by (λ k. label == k) known.numbers

-- the tables have the values and the loops of a function
pub record AreNamed (known : Definitions) (values : List Value) (numbers : LoopNumbers) (loops : List LoopLabels) : Type 0 where
  pub behind : ℕ
  pub kept : AreKept known behind values
  pub fit : All DoesFit values
  pub numbered : (label : ℕ) → loop_in numbers label ≡ loop_number loops label
