-- What the finished facts of a function answer.
use Rattle.std.specs.Prelude.{ℕ, Option, Some, None}
use Rattle.scev_tree.specs.declared.expr.Expr.{Expr}
use Rattle.trip_count.specs.declared.answer.Turns.{Turns}
use Rattle.fresh_scev.specs.Facts as plain
use Rattle.fresh_scev.specs.Table.{fact_at, facts_in}
use Rattle.fresh_scev.specs.declared.fact.Fact.{Fact}
use Rattle.fresh_scev.specs.declared.fact.Fact.TheVariants.{Value, Loop}
use Rattle.fresh_scev.specs.declared.facts.Facts.{Facts}

-- what they stand for
abbrev pub facts_shown : Facts → plain.Facts
facts_shown facts = facts_in facts.func facts.items

abbrev pub value_in : Option Fact → Option Expr
value_in (Some (Value e test)) = Some e
value_in _ = None

abbrev pub count_in : Option Fact → Option Turns
count_in (Some (Loop t)) = Some t
count_in _ = None

-- the expression of a label that names a value, and the trip count of one that names a loop
abbrev pub value_at : Facts → ℕ → Option Expr
value_at facts label = value_in (fact_at facts.func facts.items label)

abbrev pub count_at : Facts → ℕ → Option Turns
count_at facts label = count_in (fact_at facts.func facts.items label)
