-- Trees that are read from cells.
use Rattle.std.specs.Prelude.{◌≡◌, ℕ, ◌^◌, ◌<◌, ◌≤◌, List, length, Result, IfOk, OnOk}
use Rattle.cell_code.specs.declared.form.CellForm.{CellForm}
use Rattle.cell_code.specs.declared.form.CellForm.TheVariants.{Small}
use Rattle.cell_code.specs.Count.{cells_in}
use Rattle.cell_code.specs.Forms.{IsWithinBits, word_of}
use Rattle.scev_tree.specs.declared.tree.Tree.{Tree}
use Rattle.scev_tree.specs.Polynomial.{Polynomial, Polynomials, none, more, Under, IsCanonical, AreCanonical}
use Rattle.scev_tree.specs.Tree.{polynomial_of, polynomials, len}
use Rattle.step_core.specs.declared.view.View.{View}
use Rattle.step_core.specs.declared.view.Access.{Access}
use Rattle.step_core.specs.declared.view.Access.TheVariants.{Loaded}
use Rattle.step_core.specs.declared.words.Place.TheVariants.{Cell}
use Rattle.step_core.specs.Cells.{Stands}
use Rattle.step_core.specs.Maps.{AllOf, Has}
use Rattle.step_core.specs.Meaning.{Meaning}
use Rattle.step_core.specs.Parts.{tree_part, places_part, height}
use Rattle.shared_table.specs.Made.{MakesAll}

pub data IsCellLoad : Access → Type 0 where
  loads : (at n : ℕ) → IsCellLoad (Loaded (Cell at) n)

-- the events are loads of cells, and of their number this is so
abbrev pub Reads : Meaning → View → (ℕ → Type 0) → View → Type 0
Reads m v P w = (es : List Access) × MakesAll m v es w × AllOf IsCellLoad es × P (length es)

-- the cell of the view has the word of this form
abbrev pub HasCell : View → ℕ → CellForm → Type 0
HasCell v id form = IsWithinBits form × Has v.cells id (word_of form)

-- the cell has the low half of a large number
abbrev pub IsLowHalf : View → ℕ → ℕ → Type 0
IsLowHalf v id n = (n < 2 ^ 32) × HasCell v id (Small n)

-- the cell stands for a canonical tree in numbers of at most 64 bits and labels of 32 bits, and is no
-- higher than this
pub record IsTreeAt (v : View) (id depth : ℕ) (q : Polynomial) : Type 0 where
  pub modulus : ℕ
  pub most : modulus ≤ 2 ^ 64
  pub canonical : IsCanonical modulus q
  pub labels : Under q (2 ^ 33)
  pub stands : Stands v.cells id (tree_part q)
  pub low : height (tree_part q) ≤ depth

-- the same of a list of places
pub record ArePlacesAt (v : View) (id depth : ℕ) (qs : Polynomials) : Type 0 where
  pub modulus : ℕ
  pub most : modulus ≤ 2 ^ 64
  pub top : ℕ
  pub labels : top ≤ 2 ^ 33
  pub canonical : AreCanonical modulus qs top
  pub some : 1 ≤ len qs
  pub stands : Stands v.cells id (places_part qs)
  pub low : height (places_part qs) ≤ depth

-- one list of places behind another
abbrev pub with_places : Polynomials → Polynomials → Polynomials
with_places none qs = qs
with_places (more p ps) qs = more p (with_places ps qs)

-- the tree that the cell stands for was read, by a load for each of its cells
abbrev pub TreeRead : {E : Type 0} → Meaning → View → ℕ → ℕ → Result Tree E → View → Type 0
TreeRead m v id depth result w = Reads m v (λ n. IfOk result (λ t. (q : Polynomial) → IsTreeAt v id depth q → (polynomial_of t ≡ q) × (n ≡ cells_in (tree_part q)))) w

-- and the places were added to those that were there
abbrev pub PlacesRead : {A E : Type 0} → Meaning → View → ℕ → ℕ → List Tree → Result A E → List Tree → View → Type 0
PlacesRead m v id depth old result new w = Reads m v (λ n. OnOk result ((qs : Polynomials) → ArePlacesAt v id depth qs → (polynomials new ≡ with_places (polynomials old) qs) × (n ≡ cells_in (places_part qs)))) w
