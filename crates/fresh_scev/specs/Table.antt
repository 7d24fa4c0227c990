-- The facts that the program's tables of facts stand for.
use Rattle.std.specs.Prelude.{ℕ, ◌≡◌, ◌+◌, ◌<◌, ◌==◌, List, [], ◌∷◌, ◌++◌, length, slice_get, slice_index_or, Option, Some, None, if◌then◌else◌}
use Rattle.arith_word.specs.Labels.{label_at, func_of, item_of, index_of, item_count, index_count}
use Rattle.trip_count.specs.declared.answer.Turns.{Turns}
use Rattle.trip_count.specs.declared.answer.Turns.TheVariants.{Unknown}
use Rattle.trip_count.specs.declared.answer.Why.TheVariants.{NotACompare}
use Rattle.fresh_scev.specs.Expressions.{Expression, expression_of, number, IsBefore}
use Rattle.fresh_scev.specs.Facts.{Facts, Role, unnamed, counts, untested, tested}
use Rattle.fresh_scev.specs.SameFacts.{SameFacts, IsTestBelow}
use Rattle.fresh_scev.specs.declared.fact.Comparison.{Comparison}
use Rattle.fresh_scev.specs.declared.fact.Fact.{Fact}
use Rattle.fresh_scev.specs.declared.fact.Fact.TheVariants.{Value, Loop}
use Rattle.fresh_scev.specs.declared.table.Table.{Table}

-- the fact of a label, by the item and the index that it names
abbrev pub fact_at : ℕ → List (List Fact) → ℕ → Option Fact
fact_at func items label =
    if func_of label == func then slice_get (slice_index_or items (item_of label) []) (index_of label) else None

-- a label without a value has the number 0
abbrev pub expr_in : Option Fact → Expression
expr_in (Some (Value e test)) = expression_of e
expr_in _ = number 1 0

-- the role of a value that has this comparison
abbrev pub role_by : Option Comparison → Role
role_by (Some c) = tested (record { pred = c.pred; left = c.left.0; right = c.right.0 })
role_by None = untested

abbrev pub role_in : Option Fact → Role
role_in (Some (Value e test)) = role_by test
role_in (Some (Loop t)) = counts
role_in None = unnamed

abbrev pub turns_in : Option Fact → Turns
turns_in (Some (Loop t)) = t
turns_in _ = Unknown NotACompare

-- the role as far as it is that of a value
abbrev pub as_value : Role → Role
as_value (tested test) = tested test
as_value _ = untested

abbrev pub facts_in : ℕ → List (List Fact) → Facts
facts_in func items = record {
  expr = λ label. expr_in (fact_at func items label);
  role = λ label. role_in (fact_at func items label);
  turns = λ label. turns_in (fact_at func items label);
}

-- the facts so far, those of the item under way last
abbrev pub facts_of : Table → Facts
facts_of t = facts_in t.func (t.items ++ t.here.items ∷ [])

-- the label of the next fact
abbrev pub next_label : Table → ℕ
next_label t = label_at t.func (length t.items) (length t.here.items)

-- there are labels for so many further facts of the item under way, and one more
pub record HasRoom (t : Table) (n : ℕ) : Type 0 where
  pub item : length t.items < item_count
  pub indices : length t.here.items + n < index_count

-- each expression is within the limits and has variables of its own label and those below alone, and each comparison is of values
-- before it
pub record AreKnown (F : Facts) : Type 0 where
  pub exprs : (label : ℕ) → IsBefore (label + 1) (F.expr label)
  pub roles : (label : ℕ) → IsTestBelow (F.role label) label

-- the same but for the facts of the item under way
pub record IsSameTable (s t : Table) : Type 0 where
  pub func : t.func ≡ s.func
  pub items : t.items ≡ s.items
  pub conditions : t.conditions.items ≡ s.conditions.items

-- n further facts
pub record Grows (s t : Table) (n : ℕ) : Type 0 where
  pub same : IsSameTable s t
  pub longer : length t.here.items ≡ length s.here.items + n
  pub stay : SameFacts (facts_of s) (facts_of t) 0 (next_label s)
  pub known : AreKnown (facts_of t)

-- one further fact, of a value
pub record Defines (s t : Table) (e : Expression) (role : Role) : Type 0 where
  pub grows : Grows s t 1
  pub expr : (facts_of t).expr (next_label s) ≡ e
  pub role_is : (facts_of t).role (next_label s) ≡ role
