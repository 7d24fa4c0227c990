-- The limits of inputs, of commands and of their numbers.
use Rattle.std.specs.Prelude.{ℕ}

-- sessions of an input
abbrev pub session_limit : ℕ
session_limit = 16

-- commands of a session
abbrev pub command_limit : ℕ
command_limit = 1024

-- names that a session holds
abbrev pub held_limit : ℕ
held_limit = 16

-- `print` commands of a session
abbrev pub print_limit : ℕ
print_limit = 4

-- the budget of a run, and the sum of the budgets of a session
abbrev pub budget_limit : ℕ
budget_limit = 65536

-- digits of a number
abbrev pub digit_limit : ℕ
digit_limit = 20

-- bytes of the name of a session, or of a name that a session holds
abbrev pub session_name_limit : ℕ
session_name_limit = 32

-- the number of a version and of a loop
abbrev pub index_limit : ℕ
index_limit = 65535

-- the place of a definition and of a result; a greater one is kept as this one
abbrev pub place_limit : ℕ
place_limit = 4294967295

-- the number of an argument or a reply of a run, and the number of an iteration
abbrev pub value_limit : ℕ
value_limit = 18446744073709551615

-- how far below zero an argument or a reply of a run may be
abbrev pub below_limit : ℕ
below_limit = 9223372036854775808
