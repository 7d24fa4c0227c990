-- A loop begins: its counter, and its arguments.
use Rattle.std.proofs.Common.{◌≡◌, ℕ, ◌+◌, List, [], ◌∷◌, ◌++◌, length, map, refl, ap, subst}
use Rattle.scev_tree.specs.declared.expr.Expr.{Expr}
use Rattle.trip_count.specs.declared.answer.Turns.TheVariants.{Unknown}
use Rattle.trip_count.specs.declared.answer.Why.TheVariants.{NotACompare}
use Rattle.fresh_scev.specs.declared.fact.Fact.{Fact}
use Rattle.fresh_scev.specs.declared.fact.Fact.TheVariants.{Loop}
use Rattle.fresh_scev.specs.declared.table.Table.{Table}
use Rattle.fresh_scev.specs.Expressions.{expression_of, number}
use Rattle.fresh_scev.specs.Heads.{IsCounter}
use Rattle.fresh_scev.specs.NextArguments.{AreGiven}
use Rattle.fresh_scev.specs.Table.{facts_of, expr_in, role_in, next_label, HasRoom, AreKnown, IsSameTable, Grows}
use Rattle.fresh_scev.specs.Walked.{Says}
use Rattle.fresh_scev.proofs.Before.{number_before}
use Rattle.fresh_scev.proofs.TableGrowth.{push_grows, push_here}

abbrev pub opened : Fact
opened = Loop (Unknown NotACompare)

pub open_grows : (s t : Table) → IsSameTable s t → t.here.items ≡ s.here.items ++ Loop (Unknown NotACompare) ∷ [] → HasRoom s 1 → AreKnown (facts_of s) → Grows s t 1
open_grows s t same pushed room known = push_grows s t opened same pushed room known (number_before 1 0 (next_label s + 1) (number 1 0) refl) tt

pub open_counter : (s t : Table) → IsSameTable s t → t.here.items ≡ s.here.items ++ Loop (Unknown NotACompare) ∷ [] → HasRoom s 1 → IsCounter (facts_of t) (next_label s)
open_counter s t same pushed room = let e = push_here s t opened same pushed room in (ap expr_in e, ap role_in e)

pub given_arguments : (s t : Table) (exprs : List Expr) (n : ℕ) → length exprs ≡ n → Says s t (length exprs) (λ F. AreGiven F (next_label s) (map expression_of exprs))
    → Says s t n (λ F. AreGiven F (next_label s) (map expression_of exprs))
given_arguments s t exprs n e says = subst (λ k. Says s t k (λ F. AreGiven F (next_label s) (map expression_of exprs))) e says
