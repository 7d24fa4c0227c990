-- The words of the table, and the rule: the state is good.
use Rattle.std.specs.Prelude.{◌≡◌, ℕ, ◌+◌, List, length, map, take, drop}
use Rattle.atomic_table.specs.Table.{State}
use Rattle.step_core.specs.declared.view.View.{View}
use Rattle.step_core.specs.declared.words.Words.{Words}
use Rattle.step_core.specs.declared.words.Place.{Place}
use Rattle.step_core.specs.declared.words.Place.TheVariants.{Log, Key, Id, Cell}
use Rattle.step_core.specs.declared.limits.TheConstants.{MOST_PUBLICATIONS}
use Rattle.step_core.specs.Meaning.{Meaning}
use Rattle.step_core.specs.Good.{Good}
use Rattle.step_core.specs.Views.{first_view, dealer, dealt, noting, noted, met, spent_view}
use Rattle.shared_table.specs.declared.sizes.Sizes.{Sizes}
use Rattle.shared_table.specs.declared.sizes.SizedView.{SizedView}
use Rattle.shared_table.specs.declared.rule.About.{About}

-- the number of the first key's word, behind word 0, which belongs to no place, and the log
abbrev pub first_key : ℕ
first_key = 4096

-- n words from the number `from` on
abbrev pub block : ℕ → ℕ → List ℕ → List ℕ
block from n ws = take n (drop from ws)

-- the log, the keys, the ids and the cells lie behind each other
abbrev pub words_of : Sizes → List ℕ → Words
words_of z ws = record {
  log = block 1 MOST_PUBLICATIONS ws;
  keys = block first_key z.memo ws;
  ids = block (first_key + z.memo) z.memo ws;
  cells = block (first_key + (z.memo + z.memo)) z.cells ws;
}

abbrev pub word_count : Sizes → ℕ
word_count z = first_key + (z.memo + z.memo) + z.cells

-- the number of a place's word
abbrev pub index : Sizes → Place → ℕ
index z (Log k) = k
index z (Key k) = first_key + k
index z (Id k) = (first_key + z.memo) + k
index z (Cell k) = (first_key + (z.memo + z.memo)) + k

abbrev pub viewed : SizedView → View
viewed z = z.view

pub record Held (m : Meaning) (about : About) (s : State ℕ SizedView) : Type 0 where
  pub long : length s.words ≡ word_count about.sizes
  pub good : Good m about.base.items about.authors (words_of about.sizes s.words) (map viewed s.views)

abbrev pub first : About → SizedView
first about = record { view = first_view about.base.items about.authors; sizes = about.sizes }

-- one author goes to a new view of the same table
abbrev pub sized_dealer : SizedView → SizedView
sized_dealer z = record { view = dealer z.view; sizes = z.sizes }

abbrev pub sized_dealt : SizedView → SizedView
sized_dealt z = record { view = dealt z.view; sizes = z.sizes }

-- a fork and a join of views of the same table
abbrev pub sized_noting : SizedView → SizedView
sized_noting z = record { view = noting z.view; sizes = z.sizes }

abbrev pub sized_noted : SizedView → SizedView
sized_noted z = record { view = noted z.view; sizes = z.sizes }

abbrev pub sized_met : SizedView → SizedView → SizedView
sized_met y z = record { view = met y.view z.view; sizes = y.sizes }

abbrev pub sized_spent : SizedView
sized_spent = record { view = spent_view; sizes = record { cells = 0; memo = 0 } }
