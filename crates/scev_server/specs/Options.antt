-- What the words of the command line ask for.
use Rattle.std.specs.Prelude.{ℕ, Bool, false, List, [], ◌∷◌, Option, Some, None}

-- how many cells and memos the table has, how many functions are generated in place of an input, and whether figures are shown
pub record Options : Type 0 where
  pub cells : ℕ
  pub memo : ℕ
  pub generate : Option ℕ
  pub stats : Bool

abbrev pub default_cells : ℕ
default_cells = 65536

abbrev pub default_memo : ℕ
default_memo = 16384

abbrev pub defaults : Options
defaults = record { cells = default_cells; memo = default_memo; generate = None; stats = false }

-- no words ask for the defaults; others aren't taken
abbrev pub options_of : List (List ℕ) → Option Options
options_of [] = Some defaults
options_of (word ∷ words) = None
