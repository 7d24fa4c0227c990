-- Views that begin, are split and are joined.
use Rattle.std.specs.Prelude.{ℕ, zero, suc, List, [], ◌∷◌, ◌++◌, length, true, false, if◌then◌else◌, nat_lt}
use Rattle.step_core.specs.declared.view.View.{View}
use Rattle.step_core.specs.declared.view.Old.{Old}
use Rattle.step_core.specs.declared.view.Access.TheVariants.{Noted, Met}

-- the numbers from a on, n of them
abbrev pub counting : ℕ → ℕ → List ℕ
counting a zero = []
counting a (suc n) = a ∷ counting (suc a) n

-- the view with which a table is opened: it has all authors
abbrev pub first_view : List ℕ → ℕ → View
first_view base count = record { spent = false; base = base; count = count; log = []; keys = []; cells = []; olds = []; authors = counting 0 count; events = [] }

abbrev pub first_alone : List ℕ → List ℕ
first_alone [] = []
first_alone (x ∷ xs) = x ∷ []

abbrev pub all_but_first : List ℕ → List ℕ
all_but_first [] = []
all_but_first (x ∷ xs) = xs

-- one author goes to a new view with the same base and nothing else
abbrev pub dealt : View → View
dealt v = record v { log = []; keys = []; cells = []; olds = []; authors = first_alone v.authors; events = [] }

abbrev pub dealer : View → View
dealer v = record v { authors = all_but_first v.authors }

-- a fork: the view, and its child
abbrev pub noting : View → View
noting v = record v { events = v.events ++ Noted ∷ [] }

abbrev pub noted : View → View
noted v = record v { olds = []; authors = []; events = [] }

abbrev pub longer : List ℕ → List ℕ → List ℕ
longer xs ys = if nat_lt (length xs) (length ys) then ys else xs

abbrev pub old_of : View → Old
old_of v = record { log = v.log; keys = v.keys; cells = v.cells }

-- a join: the view that has seen what both had, and the one that is spent
abbrev pub met : View → View → View
met v w = record v {
  log = longer v.log w.log;
  keys = v.keys ++ w.keys;
  cells = v.cells ++ w.cells;
  olds = old_of v ∷ old_of w ∷ [];
  authors = v.authors ++ w.authors;
  events = v.events ++ (w.events ++ Met ∷ []);
}

abbrev pub spent_view : View
spent_view = record { spent = true; base = []; count = 0; log = []; keys = []; cells = []; olds = []; authors = []; events = [] }
