-- An induction variable that was defined, as the table then says it.
use Rattle.std.proofs.Common.{◌≡◌, ℕ, ◌<◌, sym, subst, arith}
use Rattle.fresh_scev.specs.declared.table.Table.{Table}
use Rattle.fresh_scev.specs.Expressions.{Expression, IsBefore}
use Rattle.fresh_scev.specs.Facts.{Facts, untested}
use Rattle.fresh_scev.specs.Loops.{IsVariable}
use Rattle.fresh_scev.specs.Table.{facts_of, next_label, AreKnown, Defines}
use Rattle.fresh_scev.specs.Walked.{Says}
use Rattle.fresh_scev.proofs.OperandBounds.{operand}

pub bound : (F : Facts) (a counter : ℕ) (e : Expression) → AreKnown F → a < counter → e ≡ F.expr a → IsBefore counter e
bound F a counter e known lt is = operand F a counter e known lt is

pub variable_said : (s t : Table) (counter w label lower step : ℕ) (from by e : Expression) → label ≡ next_label s → counter < next_label s → lower < counter → step < counter
    → from ≡ (facts_of s).expr lower → by ≡ (facts_of s).expr step → IsVariable counter w label from by e → Defines s t e untested
    → Says s t 1 (λ F. IsVariable counter w (next_label s) (F.expr lower) (F.expr step) (F.expr (next_label s)) × (F.role (next_label s) ≡ untested))
variable_said s t counter w label lower step from by e at order low_from low_by is_from is_by is d =
    let stay = d.grows.stay.exprs in
    let F = facts_of t in
    let n = next_label s in
    let at_next : IsVariable counter w n from by e = subst (λ l. IsVariable counter w l from by e) at is in
    let by_lower : IsVariable counter w n ((facts_of s).expr lower) by e = subst (λ x. IsVariable counter w n x by e) is_from at_next in
    let by_step : IsVariable counter w n ((facts_of s).expr lower) ((facts_of s).expr step) e = subst (λ x. IsVariable counter w n ((facts_of s).expr lower) x e) is_by by_lower in
    let later_lower : IsVariable counter w n (F.expr lower) ((facts_of s).expr step) e =
    subst (λ x. IsVariable counter w n x ((facts_of s).expr step) e) (stay lower (omega (arith, low_from, order))) by_step in
    let later : IsVariable counter w n (F.expr lower) (F.expr step) e = subst (λ x. IsVariable counter w n (F.expr lower) x e) (stay step (omega (arith, low_by, order))) later_lower in
    record { grows = d.grows; facts = (subst (λ x. IsVariable counter w n (F.expr lower) (F.expr step) x) (sym d.expr) later, d.role_is) }
