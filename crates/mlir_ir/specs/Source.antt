-- The parts of a syntax as names, numbers and types: operations with their regions, uses, written types, definitions.
use Rattle.std.specs.Prelude.{ℕ, ◌||◌, Bool, List, [], ◌∷◌, ◌++◌, codes, drop, map, if◌then◌else◌}
use Rattle.std.specs.Str.Parse.{digits_value}
use Rattle.std.specs.List.{zip}
use Rattle.std.specs.Str.{bytes_eq}
use Rattle.mlir_ir.specs.Phrases.{Phrase, done, token, line, Spot, Line, spots, lines, inside, has, until, behind, first_spot}
use Rattle.mlir_ir.specs.GrammarNumbers.{same, same_form}
use Rattle.mlir_ir.specs.declared.terminal.Terminal.{Terminal}
use Rattle.mlir_ir.specs.declared.terminal.Terminal.TheVariants as terminals
use Rattle.mlir_ir.specs.declared.syntax.Form.TheVariants as forms
use Rattle.mlir_ir.specs.declared.types.IrType.{IrType}
use Rattle.mlir_ir.specs.declared.types.IrType.TheVariants.{Int, Index}

-- a name that is defined, at its token
pub record Defined : Type 0 where
  pub at : ℕ
  pub name : List ℕ

-- the names of results that are defined together
pub record Packed : Type 0 where
  pub at : ℕ
  pub name : List ℕ
  pub count : ℕ

-- a use of a value; without a pick it is of result 0
pub record Use : Type 0 where
  pub at : ℕ
  pub name : List ℕ
  pub pick : ℕ

-- a written type
pub record Written : Type 0 where
  pub at : ℕ
  pub ty : IrType

-- the operands of a terminator with their types, and the number of the word that names it
pub record Ending : Type 0 where
  pub word : ℕ
  pub uses : List Use
  pub types : List Written

-- operations beside one another: where each begins, the packs of its results, what stands behind them, and the operations of its
-- regions; of `scf.while` these are the regions before and behind `do`
pub data Block : Type 0 where
  none : Block
  op : (at : ℕ) (packs : List Packed) (kind : Phrase) (first second rest : Block) → Block

-- a name without the sign before it
abbrev pub unsigned : List ℕ → List ℕ
unsigned text = drop 1 text

abbrev pub defined : Spot → Defined
defined spot = record { at = spot.at; name = unsigned spot.text }

-- the number of decimal tokens such as picks, and 0 where none stands
abbrev pub first_number : List (List ℕ) → ℕ → ℕ
first_number [] other = other
first_number (digits ∷ rest) other = digits_value 10 digits

abbrev pub use_of : Line → Use
use_of l = record {
  at = l.at;
  name = unsigned (first_spot (spots terminals.Value l.parts)).text;
  pick = first_number (map (λ (spot : Spot). unsigned spot.text) (spots terminals.Pick l.parts)) 0;
}

abbrev pub packed : Line → Packed
packed l = record {
  at = l.at;
  name = unsigned (first_spot (spots terminals.Value l.parts)).text;
  count = first_number (map (λ (spot : Spot). spot.text) (spots terminals.Decimal l.parts)) 1;
}

abbrev pub type_named : List ℕ → IrType
type_named text = if bytes_eq text (codes "index") then Index else Int (digits_value 10 (drop 1 text))

abbrev pub written : Line → Written
written l = record { at = l.at; ty = type_named (first_spot (spots terminals.TypeWord l.parts)).text }

-- the uses, and the types, that stand directly in a phrase
abbrev pub uses_in : Phrase → List Use
uses_in parts = map use_of (lines forms.Use parts)

abbrev pub types_in : Phrase → List Written
types_in parts = map written (lines forms.TypeName parts)

-- those of its list, where it has one
abbrev pub listed_uses : Phrase → List Use
listed_uses parts = uses_in (inside forms.Uses parts)

abbrev pub listed_types : Phrase → List Written
listed_types parts = types_in (inside forms.Types parts)

-- result types: one bare type, or those of a list
abbrev pub result_types : Phrase → List Written
result_types parts = types_in (inside forms.Results parts) ++ listed_types (inside forms.Results parts)

abbrev pub names_in : Phrase → List Defined
names_in parts = map defined (spots terminals.Value parts)

-- parameters: names with their types
abbrev pub params_in : Phrase → List (Defined × Written)
params_in parts = zip (names_in parts) (types_in parts)

-- loop-carried values with their first values
abbrev pub inits_of : Phrase → List (Defined × Use)
inits_of parts = zip (names_in (inside forms.Inits parts)) (uses_in (inside forms.Inits parts))

-- the terminator of that name in a phrase
abbrev pub ending : Terminal → Phrase → Ending
ending c parts = record {
  word = (first_spot (spots c parts)).at;
  uses = listed_uses (inside forms.Ends parts);
  types = listed_types (inside forms.Ends parts);
}

-- behind these words another region of an operation begins
abbrev pub parts_regions : Terminal → Bool
parts_regions c = same terminals.Else c || same terminals.Do c

-- the operations that stand directly in a body or a region
abbrev mutual
  pub block : Phrase → Block
  block done = none
  block (token at c text rest) = block rest
  block (line form at parts rest) =
      if same_form forms.Op form
      then op at (map packed (lines forms.Pack parts)) (inside forms.Kind parts) (first_of parts) (second_of parts) (block rest)
      else block rest

  -- those of the first region of an operation with its results, and of the second one
  pub first_of : Phrase → Block
  first_of done = none
  first_of (token at c text rest) = first_of rest
  first_of (line form at parts rest) = if same_form forms.Kind form then region parts else first_of rest

  pub second_of : Phrase → Block
  second_of done = none
  second_of (token at c text rest) = second_of rest
  second_of (line form at parts rest) = if same_form forms.Kind form then region_behind parts else second_of rest

  -- those of the region that comes next behind an operation's name, up to the word that parts it from another
  pub region : Phrase → Block
  region done = none
  region (token at c text rest) = if parts_regions c then none else region rest
  region (line form at parts rest) =
      if same_form forms.Region form
      then block parts
      else (if same_form forms.Op form
      then op at (map packed (lines forms.Pack parts)) (inside forms.Kind parts) (first_of parts) (second_of parts) (region rest)
      else region rest)

  pub region_behind : Phrase → Block
  region_behind done = none
  region_behind (token at c text rest) = if parts_regions c then region rest else region_behind rest
  region_behind (line form at parts rest) = region_behind rest

-- the word that names an operation
abbrev pub head : Phrase → Terminal
head done = terminals.OtherWord
head (token at c text rest) = c
head (line form at parts rest) = terminals.OtherWord

abbrev pub word : Phrase → Spot
word done = record { at = 0; text = [] }
word (token at c text rest) = record { at = at; text = text }
word (line form at parts rest) = record { at = at; text = [] }

-- the region of an `scf.if` or `scf.for`, and that of `else`
abbrev pub region_parts : Phrase → Phrase
region_parts kind = inside forms.Region kind

abbrev pub else_parts : Phrase → Phrase
else_parts kind = inside forms.Region (behind terminals.Else kind)

-- the two regions of an `scf.while`
abbrev pub before_parts : Phrase → Phrase
before_parts kind = until terminals.Do kind

abbrev pub after_parts : Phrase → Phrase
after_parts kind = behind terminals.Do kind

-- the parameters of the region behind `do`
abbrev pub after_params : Phrase → List (Defined × Written)
after_params kind = params_in (inside forms.Params (after_parts kind))

-- the types of an operation's results, as written; those that aren't written stand at the operation's name
abbrev pub implied : Phrase → IrType → List Written
implied kind ty = record { at = (word kind).at; ty = ty } ∷ []

abbrev pub op_types : Terminal → Phrase → List Written
op_types terminals.Constant kind = if has terminals.Truth kind then implied kind (Int 1) else types_in kind
op_types terminals.Binary kind = types_in kind
op_types terminals.FlaggedBinary kind = types_in kind
op_types terminals.Cast kind = drop 1 (types_in kind)
op_types terminals.FlaggedCast kind = drop 1 (types_in kind)
op_types terminals.Compare kind = implied kind (Int 1)
op_types terminals.Select kind = types_in kind
op_types _ kind = result_types kind
