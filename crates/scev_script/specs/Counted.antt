-- The counts of a session's commands, which the limits on a session are about.
use Rattle.std.specs.Prelude.{ℕ, ◌≡◌, ◌+◌, ◌&&◌, nat_le, Bool, true, List}
use Rattle.std.specs.List.{count_by, sum_by}
use Rattle.scev_script.specs.declared.script.Command.{Command}
use Rattle.scev_script.specs.Limits.{command_limit, held_limit, print_limit, budget_limit}
use Rattle.scev_script.specs.Scripts.{is_hold, is_print, budget_of, within_limits}

-- the commands pass no limit, and these are their numbers of held names and of `print` commands and the sum of their budgets
pub record AreCounted (commands : List Command) (held prints budget : ℕ) : Type 0 where
  pub held_is : held ≡ count_by is_hold commands
  pub prints_is : prints ≡ count_by is_print commands
  pub budget_is : budget ≡ sum_by budget_of commands
  pub within : within_limits commands ≡ true

-- the limits allow one more command, with which these are the counts
abbrev pub are_few : ℕ → ℕ → ℕ → ℕ → Bool
are_few commands held prints budget =
    nat_le (commands + 1) command_limit && nat_le held held_limit && nat_le prints print_limit && nat_le budget budget_limit
