-- A result of a loop, by the facts of its counter and of the value that is carried to it.
use Rattle.std.specs.Prelude.{ℕ, List}
use Rattle.arith_word.specs.declared.label.Label.{Label}
use Rattle.fresh_scev.specs.Expressions.{Expression}
use Rattle.fresh_scev.specs.Facts.{Facts, IsProved}
use Rattle.fresh_scev.specs.Loops.{IsResult}

-- a result e with that width and label, to which the value of label `from` is carried
abbrev pub IsCarried : Facts → List Label → ℕ → ℕ → ℕ → ℕ → Expression → Type 0
IsCarried F conditions loop w label from e =
    IsResult (IsProved F conditions (F.turns loop)) w loop label (F.turns loop) (F.expr from) e
