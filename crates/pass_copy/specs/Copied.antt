-- Which names copies get, and how many were given.
use Rattle.std.specs.Prelude.{ℕ, ◌≡◌, ◌+◌, List, if◌then◌else◌}
use Rattle.pass_copy.specs.Fresh.{free_number, numbered_name}
use Rattle.pass_copy.specs.Listed.{texts}
use Rattle.pass_copy.specs.Renamed.{Naming, keep, anew}
use Rattle.pass_copy.specs.declared.names.Names.{Names}

-- fresh name number k of the function whose names are taken
abbrev pub fresh_by : Names → ℕ → List ℕ
fresh_by names k = numbered_name (free_number (texts names.taken.names.items) k)

-- the name that is given for a name
abbrev pub naming : Names → Naming
naming names = if names.kept then keep else anew (fresh_by names)

-- so many names more were given
pub record HaveGiven (old : Names) (n : ℕ) (new : Names) : Type 0 where
  pub kept : new.kept ≡ old.kept
  pub same : fresh_by new ≡ fresh_by old
  pub count : new.given ≡ old.given + n
