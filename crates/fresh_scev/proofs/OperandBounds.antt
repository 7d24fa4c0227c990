-- The expressions of operands are within the limits and have variables of labels before alone.
use Rattle.std.proofs.Common.{◌≡◌, ℕ, ◌+◌, ◌*◌, ◌<◌, ◌≤◌, sym, subst, arith}
use Rattle.fresh_scev.specs.Expressions.{Expression, counter, IsBefore}
use Rattle.fresh_scev.specs.Facts.{Facts}
use Rattle.fresh_scev.specs.Table.{AreKnown}
use Rattle.fresh_scev.proofs.Before.{under_later}

pub before_more : (a b : ℕ) (e : Expression) → a ≤ b → IsBefore a e → IsBefore b e
before_more a b e le i =
    let more : 2 * a ≤ 2 * b = omega (arith, le) in
    record { within = i.within; under = under_later e.p (counter a) (counter b) i.under more }

pub operand : (F : Facts) (a label : ℕ) (e : Expression) → AreKnown F → a < label → e ≡ F.expr a → IsBefore label e
operand F a label e known lt is = subst (λ x. IsBefore label x) (sym is) (before_more (a + 1) label (F.expr a) (omega (arith, lt)) (known.exprs a))
