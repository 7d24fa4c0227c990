-- A table in which the trip count of one loop has been settled.
use Rattle.std.specs.Prelude.{◌≡◌, ℕ, ◌+◌, ◌<◌, length}
use Rattle.trip_count.specs.declared.answer.Turns.{Turns}
use Rattle.fresh_scev.specs.SameFacts.{SameFacts}
use Rattle.fresh_scev.specs.Table.{facts_of, next_label, AreKnown, IsSameTable}
use Rattle.fresh_scev.specs.declared.table.Table.{Table}

-- t is u, besides the trip count of the loop with that counter
pub record Settles (u t : Table) (counter : ℕ) (turns : Turns) : Type 0 where
  pub same : IsSameTable u t
  pub as_long : length t.here.items ≡ length u.here.items
  pub stay : SameFacts (facts_of u) (facts_of t) (counter + 1) (next_label u)
  pub before : (l : ℕ) → l < counter → (facts_of u).turns l ≡ (facts_of t).turns l
  pub settled : (facts_of t).turns counter ≡ turns
  pub known : AreKnown (facts_of t)
