-- The productions as the code represents them.
use Rattle.std.specs.Prelude.{ℕ, ◌≡◌, ◌<◌, ◌≤◌, ◌++◌, List, length, drop, slice_index_or, Result, Ok, Err}
use Rattle.mlir_ir.specs.Grammar.{Pattern, nothing, one, line, both, either, many, region, body}
use Rattle.mlir_ir.specs.GrammarNumbers.{form_at}
use Rattle.mlir_parse.specs.Tables.{first_set}
use Rattle.mlir_parse.specs.Runs.{Runs, Done, Stop, Deep}
use Rattle.mlir_ir.specs.Texts.{IsSyntaxFault, IsTooDeep}
use Rattle.mlir_ir.specs.Trees.{forest, Derives}
use Rattle.mlir_ir.specs.declared.terminal.Terminal.{Terminal}
use Rattle.mlir_ir.specs.declared.syntax.Branch.{Branch}
use Rattle.mlir_ir.specs.declared.syntax.Form.{Form}
use Rattle.mlir_parse.specs.declared.fault.Fault.{Fault}
use Rattle.mlir_parse.specs.declared.fault.Fault.TheVariants.{NoMemory, Syntax, TooDeep}
use Rattle.mlir_parse.specs.declared.rule.Rule.{Rule}
use Rattle.mlir_parse.specs.declared.rule.Rule.TheVariants.{Nothing, One, Line, Both', Either', Many', Region'}

-- the pattern that a rule of the code represents
abbrev pub seen : Rule → Pattern
seen Nothing = nothing
seen (One c) = one c
seen (Line f) = line f
seen (Both' p a q b) = both (seen a) (seen b)
seen (Either' m p a q b) = either (seen a) (seen b)
seen (Many' m p a) = many (seen a)
seen (Region' p a) = region (seen a)

-- the set at each choice is the first set of its first alternative
abbrev pub IsMarked : Rule → Type 0
IsMarked Nothing = Unit {0}
IsMarked (One c) = Unit {0}
IsMarked (Line f) = Unit {0}
IsMarked (Both' p a q b) = IsMarked a × IsMarked b
IsMarked (Either' m p a q b) = (m ≡ first_set (seen a)) × IsMarked a × IsMarked b
IsMarked (Many' m p a) = (m ≡ first_set (seen a)) × IsMarked a
IsMarked (Region' p a) = IsMarked a

-- the rule represents the pattern, and its sets are right
abbrev pub Stands : Rule → Pattern → Type 0
Stands rule r = (seen rule ≡ r) × IsMarked rule

-- the right-hand sides of all productions, in the order of their forms
abbrev pub AreLines : List Rule → Type 0
AreLines rules = (f : Form) → (form_at f < length rules) × ((d : Rule) → Stands (slice_index_or rules (form_at f) d) (body f))

-- inside `n` regions, the run of the pattern from the token index `at` on has this result
abbrev pub Gives : ℕ → Pattern → List Terminal → ℕ → Result ℕ Fault → Type 0
Gives n r ts at (Ok next) = (at ≤ next) × (next ≤ length ts) × Runs n r (drop at ts) (Done (drop next ts))
Gives n r ts at (Err (Syntax k)) = (k ≤ length ts) × Runs n r (drop at ts) (Stop (drop k ts))
Gives n r ts at (Err (TooDeep k)) = (k ≤ length ts) × Runs n r (drop at ts) (Deep (drop k ts))
Gives n r ts at (Err NoMemory) = Unit {0}

-- the reader's fault is the syntax error of the tokens, or allocation failed
abbrev pub IsFault : List Terminal → Fault → Type 0
IsFault ts (Syntax k) = IsSyntaxFault ts k
IsFault ts (TooDeep k) = IsTooDeep ts k
IsFault ts NoMemory = Unit {0}

-- the branches appended to the old ones derive the tokens from index `at` up to index `next`
pub record Grows (ts : List Terminal) (n : ℕ) (r : Pattern) (at : ℕ) (old new : List Branch) (next : ℕ) : Type 0 where
  pub row : List Branch
  pub grown : new ≡ old ++ row
  pub derived : Derives ts n r at (forest row) next
