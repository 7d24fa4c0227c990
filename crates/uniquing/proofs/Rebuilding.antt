-- Trees and places that are read from cells.
use Rattle.std.proofs.Common.{◌≡◌, ℕ, ◌+◌, ◌-◌, ◌*◌, ◌≤◌, Bool, true≢false, List, [], ◌∷◌, ◌++◌, refl, sym, ap, ◌∙◌, arith, Result, Ok, Err, IsErr, IfOk, OnOk}
use Rattle.arith_word.specs.declared.label.Label.{Label}
use Rattle.cell_code.specs.Count.{cells_in}
use Rattle.cell_code.specs.declared.form.CellForm.{CellForm}
use Rattle.cell_code.specs.declared.form.CellForm.TheVariants.{Small, Large, More, Last, Ext, Root}
use Rattle.scev_tree.specs.declared.tree.Tree.{Tree, Num}
use Rattle.scev_tree.specs.Polynomial.{Polynomial, Polynomials, num, ext, none, more, variable_of}
use Rattle.scev_tree.specs.Tree.{polynomial_of, polynomials}
use Rattle.scev_tree.proofs.ListedTrees.{polynomial_of_num}
use Rattle.step_core.specs.declared.view.View.{View}
use Rattle.step_core.specs.Meaning.{Meaning}
use Rattle.step_core.specs.Parts.{tree_part, places_part}
use Rattle.shared_table.specs.CellPuts.{GainsCells}
use Rattle.uniquing.specs.Reads.{Reads, HasCell, IsLowHalf, IsTreeAt, ArePlacesAt, TreeRead, PlacesRead, with_places}
use Rattle.uniquing.proofs.Forms.{FormOfTree, FormOfPlaces, tree_is, places_are, tree_later, places_later}
use Rattle.uniquing.proofs.Looking.{reads_gain, reads_as, reads_more}

-- loads of cells, however many
abbrev pub any_number : ℕ → Type 0
any_number k = Unit {0}

pub if_err : {A E : Type 0} (r : Result A E) (P : A → Type 0) → IsErr r → IfOk r P
if_err (Ok a) P e = absurd (true≢false (sym e))
if_err (Err f) P e = tt

on_err : {A E : Type 0} (r : Result A E) (P : Type 0) → IsErr r → OnOk r P
on_err (Ok a) P e = absurd (true≢false (sym e))
on_err (Err f) P e = tt

on_ok_map : {A E : Type 0} (r : Result A E) (P Q : Type 0) → (P → Q) → OnOk r P → OnOk r Q
on_ok_map (Ok a) P Q f h = f h
on_ok_map (Err e) P Q f h = h

with_two : (old : Polynomials) (r : Polynomial) (ps : Polynomials) → with_places (with_places old (more r none)) ps ≡ with_places old (more r ps)
with_two none r ps = refl
with_two (more p old) r ps = ap (more p) (with_two old r ps)

with_push : (us : List Tree) (t : Tree) → polynomials (us ++ t ∷ []) ≡ with_places (polynomials us) (more (polynomial_of t) none)
with_push [] t = refl
with_push (u ∷ us) t = ap (more (polynomial_of u)) (with_push us t)

pushed : (us vs : List Tree) (t : Tree) → vs ≡ us ++ t ∷ [] → polynomials vs ≡ with_places (polynomials us) (more (polynomial_of t) none)
pushed us vs t e = ap (λ (ts : List Tree). polynomials ts) e ∙ with_push us t

-- the form is none of a tree, or of places
pub no_tree : (v : View) (depth : ℕ) (r : CellForm) (q : Polynomial) → FormOfTree v depth r q → ((n : ℕ) → r ≡ Small n → ⊥) → ((low high : ℕ) → r ≡ Large low high → ⊥) → ((list : ℕ) (var : Label) (counter : Bool) → r ≡ Ext list var counter → ⊥) → ⊥
no_tree v depth (Small n) q f small large nested = small n refl
no_tree v depth (Large low high) q f small large nested = large low high refl
no_tree v depth (More head rest) q f small large nested = f
no_tree v depth (Last head) q f small large nested = f
no_tree v depth (Ext list var counter) q f small large nested = nested list var counter refl
no_tree v depth (Root width tree) q f small large nested = f

pub no_places : (v : View) (depth : ℕ) (r : CellForm) (qs : Polynomials) → FormOfPlaces v depth r qs → ((head rest : ℕ) → r ≡ More head rest → ⊥) → ((head : ℕ) → r ≡ Last head → ⊥) → ⊥
no_places v depth (Small n) qs f further last = f
no_places v depth (Large low high) qs f further last = f
no_places v depth (More head rest) qs f further last = further head rest refl
no_places v depth (Last head) qs f further last = last head refl
no_places v depth (Ext list var counter) qs f further last = f
no_places v depth (Root width tree) qs f further last = f

pub half_later : (v w : View) (id n : ℕ) → GainsCells v w → IsLowHalf v id n → IsLowHalf w id n
half_later v w id n g h = (h.0, (h.1.0, g.cells id _ h.1.1))

module _ (m : Meaning) (v u : View) (id depth : ℕ) (r : CellForm) (each : (form : CellForm) → HasCell v id form → r ≡ form) (load : Reads m v (λ k. k ≡ 1) u) where
  pub gain : GainsCells v u
  gain = reads_gain m v u (λ k. k ≡ 1) load

  -- ---- what is asked of the calls

  pub half_there : (low high : ℕ) → r ≡ Large low high → (q : Polynomial) → IsTreeAt v id depth q → (n : ℕ) × IsLowHalf u low n
  half_there low high is q t = let f = tree_is v id depth r each (Large low high) is q t in (f.0, half_later v u low f.0 gain f.2)

  pub list_there : (list : ℕ) (var : Label) (counter : Bool) → r ≡ Ext list var counter → (q : Polynomial) → IsTreeAt v id depth q → (1 ≤ depth) × ((qs : Polynomials) × ArePlacesAt u list (depth - 1) qs)
  list_there list var counter is q t = let f = tree_is v id depth r each (Ext list var counter) is q t in (f.3, (f.0, places_later v u list (depth - 1) f.0 gain f.2))

  pub last_there : (head : ℕ) → r ≡ Last head → (qs : Polynomials) → ArePlacesAt v id depth qs → (1 ≤ depth) × ((q : Polynomial) × IsTreeAt u head (depth - 1) q)
  last_there head is qs t = let f = places_are v id depth r each (Last head) is qs t in (f.3, (f.0, tree_later v u head (depth - 1) f.0 gain f.2))

  pub first_there : (head rest : ℕ) → r ≡ More head rest → (qs : Polynomials) → ArePlacesAt v id depth qs → (1 ≤ depth) × ((q : Polynomial) × IsTreeAt u head (depth - 1) q)
  first_there head rest is qs t = let f = places_are v id depth r each (More head rest) is qs t in (f.5, (f.0, tree_later v u head (depth - 1) f.0 gain f.3))

  pub rest_there : (head rest : ℕ) → r ≡ More head rest → (w : View) → GainsCells u w → (qs : Polynomials) → ArePlacesAt v id depth qs → (ps : Polynomials) × ArePlacesAt w rest (depth - 1) ps
  rest_there head rest is w g qs t = let f = places_are v id depth r each (More head rest) is qs t in (f.1, places_later u w rest (depth - 1) f.1 g (places_later v u rest (depth - 1) f.1 gain f.4))

  -- ---- a tree

  pub small_read : (E : Type 0) (n : ℕ) → r ≡ Small n → TreeRead {E = E} m v id depth (Ok (Num n)) u
  small_read E n is = reads_as m v u (λ k. k ≡ 1) (λ k. (q : Polynomial) → IsTreeAt v id depth q → (polynomial_of (Num n) ≡ q) × (k ≡ cells_in (tree_part q))) load
      (λ k one q t. let f = tree_is v id depth r each (Small n) is q t in (polynomial_of_num n ∙ sym f.0, one ∙ sym f.1))

  pub large_read : (E : Type 0) (low high x : ℕ) (w : View) → r ≡ Large low high → Reads m u (λ k. k ≡ 1) w → ((n : ℕ) → IsLowHalf u low n → x ≡ high * 4294967296 + n) → TreeRead {E = E} m v id depth (Ok (Num x)) w
  large_read E low high x w is half value = reads_more m v u w (λ k. k ≡ 1) (λ k. k ≡ 1) (λ k. (q : Polynomial) → IsTreeAt v id depth q → (polynomial_of (Num x) ≡ q) × (k ≡ cells_in (tree_part q))) load half
      (λ j k one two q t.
      let f = tree_is v id depth r each (Large low high) is q t in
      let c = f.3 in
      (polynomial_of_num x ∙ (ap num (value f.0 (half_later v u low f.0 gain f.2)) ∙ sym f.1), omega arith))

  pub nested_read : {A : Type 0} (E F : Type 0) (list : ℕ) (var : Label) (counter : Bool) (ok : A) (old ts : List Tree) (tree : Tree) (w : View) → r ≡ Ext list var counter → PlacesRead {A = A} {E = F} m u list (depth - 1) old (Ok ok) ts w → old ≡ []
      → polynomial_of tree ≡ ext (variable_of counter var.0) (polynomials ts) → TreeRead {E = E} m v id depth (Ok tree) w
  nested_read E F list var counter ok old ts tree w is places empty e =
      reads_more m v u w (λ k. k ≡ 1) (λ k. (qs : Polynomials) → ArePlacesAt u list (depth - 1) qs → (polynomials ts ≡ with_places (polynomials old) qs) × (k ≡ cells_in (places_part qs)))
      (λ k. (q : Polynomial) → IsTreeAt v id depth q → (polynomial_of tree ≡ q) × (k ≡ cells_in (tree_part q))) load places
      (λ j k one p q t.
      let f = tree_is v id depth r each (Ext list var counter) is q t in
      let s = p f.0 (places_later v u list (depth - 1) f.0 gain f.2) in
      let c = f.4 in
      let d = s.1 in
      let read : polynomials ts ≡ f.0 = s.0 ∙ ap (λ (l : List Tree). with_places (polynomials l) f.0) empty in
      (e ∙ (ap (λ (qs : Polynomials). ext (variable_of counter var.0) qs) read ∙ sym f.1), omega arith))

  pub tree_failed : {E : Type 0} (w : View) (e : Result Tree E) → Reads m u any_number w → IsErr e → TreeRead {E = E} m v id depth e w
  tree_failed w e others is = reads_more m v u w (λ k. k ≡ 1) any_number (λ k. IfOk e (λ t. (q : Polynomial) → IsTreeAt v id depth q → (polynomial_of t ≡ q) × (k ≡ cells_in (tree_part q)))) load others (λ j k one p. if_err e _ is)

  -- ---- places

  pub last_read : {A : Type 0} (E F : Type 0) (head : ℕ) (ok : A) (old new : List Tree) (tree : Tree) (w : View) → r ≡ Last head → TreeRead {E = F} m u head (depth - 1) (Ok tree) w → new ≡ old ++ tree ∷ [] → PlacesRead {A = A} {E = E} m v id depth old (Ok ok) new w
  last_read E F head ok old new tree w is first e =
      reads_more m v u w (λ k. k ≡ 1) (λ k. (q : Polynomial) → IsTreeAt u head (depth - 1) q → (polynomial_of tree ≡ q) × (k ≡ cells_in (tree_part q)))
      (λ k. (qs : Polynomials) → ArePlacesAt v id depth qs → (polynomials new ≡ with_places (polynomials old) qs) × (k ≡ cells_in (places_part qs))) load first
      (λ j k one p qs t.
      let f = places_are v id depth r each (Last head) is qs t in
      let s = p f.0 (tree_later v u head (depth - 1) f.0 gain f.2) in
      let c = f.4 in
      let d = s.1 in
      (pushed old new tree e ∙ ap (with_places (polynomials old)) (ap (λ (x : Polynomial). more x none) s.0 ∙ sym f.1), omega arith))

  pub further_read : {A E : Type 0} (F : Type 0) (head rest : ℕ) (result : Result A E) (old mid new : List Tree) (tree : Tree) (x w : View) → r ≡ More head rest → TreeRead {E = F} m u head (depth - 1) (Ok tree) x → mid ≡ old ++ tree ∷ []
      → PlacesRead {A = A} {E = E} m x rest (depth - 1) mid result new w → PlacesRead {A = A} {E = E} m v id depth old result new w
  further_read F head rest result old mid new tree x w is first e others =
      let P : ℕ → Type 0 = λ k. (q : Polynomial) → IsTreeAt u head (depth - 1) q → (polynomial_of tree ≡ q) × (k ≡ cells_in (tree_part q)) in
      let Q : ℕ → Type 0 = λ k. (ps : Polynomials) → ArePlacesAt x rest (depth - 1) ps → (polynomials new ≡ with_places (polynomials mid) ps) × (k ≡ cells_in (places_part ps)) in
      let R : ℕ → Type 0 = λ k. (qs : Polynomials) → ArePlacesAt v id depth qs → (polynomials new ≡ with_places (polynomials old) qs) × (k ≡ cells_in (places_part qs)) in
      let g : GainsCells u x = reads_gain m u x P first in
      let made : Reads m v (λ k. (a : ℕ) × (b : ℕ) × (k ≡ 1 + a) × P a) x = reads_more m v u x (λ k. k ≡ 1) P (λ k. (a : ℕ) × (b : ℕ) × (k ≡ 1 + a) × P a) load first (λ j k one p. (k, 0, ap (λ (i : ℕ). i + k) one, p)) in
      reads_more m v x w (λ k. (a : ℕ) × (b : ℕ) × (k ≡ 1 + a) × P a) (λ k. OnOk result (Q k)) (λ k. OnOk result (R k)) made others
      (λ j k p o. on_ok_map result (Q k) (R (j + k))
      (λ l qs t.
      let f = places_are v id depth r each (More head rest) is qs t in
      let s = p.3 f.0 (tree_later v u head (depth - 1) f.0 gain f.3) in
      let y = l f.1 (places_later u x rest (depth - 1) f.1 g (places_later v u rest (depth - 1) f.1 gain f.4)) in
      let c = f.6 in
      let d = s.1 in
      let d' = y.1 in
      let up = p.2 in
      let front : with_places (polynomials mid) f.1 ≡ with_places (polynomials old) (more (polynomial_of tree) f.1) = ap (λ (z : Polynomials). with_places z f.1) (pushed old mid tree e) ∙ with_two (polynomials old) (polynomial_of tree) f.1 in
      (y.0 ∙ (front ∙ ap (with_places (polynomials old)) (ap (λ (z : Polynomial). more z f.1) s.0 ∙ sym f.2)), omega arith))
      o)

  pub places_failed : {A E : Type 0} (w : View) (e : Result A E) (old new : List Tree) → Reads m u any_number w → IsErr e → PlacesRead {A = A} {E = E} m v id depth old e new w
  places_failed w e old new others is = reads_more m v u w (λ k. k ≡ 1) any_number (λ k. OnOk e ((qs : Polynomials) → ArePlacesAt v id depth qs → (polynomials new ≡ with_places (polynomials old) qs) × (k ≡ cells_in (places_part qs)))) load others (λ j k one p. on_err e _ is)
