-- What a source has left and what a sink was given, where they tell it.
use Rattle.std.specs.Prelude.{◌≡◌, ℕ, List, [], ◌++◌, Option, Some, None, IfSome}

-- what was left, where `given` was given since and `left` is left now
abbrev pub before_giving : List ℕ → Option (List ℕ) → Option (List ℕ)
before_giving given None = None
before_giving given (Some left) = Some (given ++ left)

-- what is written, where `written` was and then `more` was put
abbrev pub after_putting : Option (List ℕ) → List ℕ → Option (List ℕ)
after_putting None more = None
after_putting (Some written) more = Some (written ++ more)

-- nothing is left of a source that tells
abbrev pub IsSpent : Option (List ℕ) → Type 0
IsSpent left = IfSome left (λ bytes. bytes ≡ [])
