-- The forms of the cells of trees and lists of places.
use Rattle.std.proofs.Common.{◌≡◌, ℕ, ◌+◌, ◌-◌, ◌*◌, ◌/◌, ◌%◌, ◌^◌, ◌<◌, ◌≤◌, true, false, refl, sym, ap, ◌∙◌, subst, ⊎_elim, arith}
use Rattle.std.proofs.lemmas.Bool.{cases_lt}
use Rattle.std.proofs.Math.Pow.{pow_mono}
use Rattle.cell_code.specs.Count.{cells_in}
use Rattle.cell_code.specs.declared.form.CellForm.{CellForm}
use Rattle.cell_code.specs.declared.form.CellForm.TheVariants.{Small, Large, More, Last, Ext, Root}
use Rattle.scev_tree.specs.Polynomial.{Polynomial, Polynomials, num, ext, none, more, variable_of, Under}
use Rattle.step_core.specs.declared.view.View.{View}
use Rattle.step_core.specs.Maps.{Has}
use Rattle.step_core.specs.Parts.{ext_tag, one_word, variable_tag, tree_part, places_part}
use Rattle.step_core.specs.Cells.{Stands}
use Rattle.step_core.proofs.Injective.{small_number, large_number}
use Rattle.step_core.proofs.Standing.{stands_more}
use Rattle.shared_table.specs.CellPuts.{GainsCells}
use Rattle.shared_table.specs.declared.answers.Node.{Node}
use Rattle.shared_table.specs.declared.sizes.SizedView.{SizedView}
use Rattle.shared_table.specs.Known.{IsSeen}
use Rattle.uniquing.specs.Nodes.{IsNodeOf}
use Rattle.uniquing.specs.Reads.{HasCell, IsLowHalf, IsTreeAt, ArePlacesAt}
use Rattle.uniquing.proofs.Seeing.{root_width, seen_low}

-- what the form of a tree's cell tells of the tree
abbrev pub FormOfTree : View → ℕ → CellForm → Polynomial → Type 0
FormOfTree v depth (Small n) q = (q ≡ num n) × (cells_in (tree_part q) ≡ 1)
FormOfTree v depth (Large low high) q = (n : ℕ) × (q ≡ num (high * 4294967296 + n)) × IsLowHalf v low n × (cells_in (tree_part q) ≡ 2)
FormOfTree v depth (Ext list var counter) q =
    (ps : Polynomials) × (q ≡ ext (variable_of counter var.0) ps) × ArePlacesAt v list (depth - 1) ps × (1 ≤ depth) × (cells_in (tree_part q) ≡ 1 + cells_in (places_part ps))
FormOfTree v depth form q = ⊥

-- and of a list of places
abbrev pub FormOfPlaces : View → ℕ → CellForm → Polynomials → Type 0
FormOfPlaces v depth (Last head) qs = (p : Polynomial) × (qs ≡ more p none) × IsTreeAt v head (depth - 1) p × (1 ≤ depth) × (cells_in (places_part qs) ≡ 1 + cells_in (tree_part p))
FormOfPlaces v depth (More head rest) qs =
    (p : Polynomial) × (ps : Polynomials) × (qs ≡ more p ps) × IsTreeAt v head (depth - 1) p × ArePlacesAt v rest (depth - 1) ps × (1 ≤ depth) × (cells_in (places_part qs) ≡ 1 + (cells_in (tree_part p) + cells_in (places_part ps)))
FormOfPlaces v depth form qs = ⊥

-- and of an expression
abbrev pub FormOfNode : View → ℕ → CellForm → ℕ → Polynomial → Type 0
FormOfNode v depth (Root width tree) w q = (width ≡ w) × IsTreeAt v tree depth q
FormOfNode v depth form w q = ⊥

under_more : (p : Polynomial) (x y : ℕ) → Under p x → x ≤ y → Under p y
under_more (num n) x y u le = tt
under_more (ext z ps) x y u le = omega arith

module _ (v : View) (id depth : ℕ) where
  abbrev OfTree : Polynomial → Type 0
  OfTree q = (form : CellForm) × HasCell v id form × FormOfTree v depth form q

  of_number : (n : ℕ) → n < 18446744073709551616 → Stands v.cells id (tree_part (num n)) → OfTree (num n)
  of_number n b s = ⊎_elim
      (λ (lt : n < 72057594037927936).
      let t = subst (Stands v.cells id) (sym (small_number n lt)) s in
      (Small n, (lt, t.0), (refl, ap cells_in (sym (small_number n lt)))))
      (λ (le : 72057594037927936 ≤ n).
      let t = subst (Stands v.cells id) (sym (large_number n le)) s in
      let is : n ≡ n / 4294967296 * 4294967296 + n % 4294967296 = omega arith in
      (Large t.0 (n / 4294967296), ((t.2, omega arith), t.1), (n % 4294967296, ap num is, (omega arith, (t.4.1, t.4.0)), ap cells_in (sym (large_number n le)))))
      (cases_lt n 72057594037927936)

  of_nested : (x : ℕ) (ps : Polynomials) (i : ℕ) → x < 8589934592 → i < 1048576 → Has v.cells id (one_word (variable_tag x) i) → ArePlacesAt v i (depth - 1) ps → 1 ≤ depth → OfTree (ext x ps)
  of_nested x ps i b lt has at some = ⊎_elim
      (λ (even : x % 2 < 1).
      let tag : variable_tag x ≡ ext_tag (x / 2) 1 = omega arith in
      let var : x ≡ 2 * (x / 2) = omega arith in (
        Ext i (record { 0 = x / 2 }) true,
        ((lt, omega arith), subst (λ (t : ℕ). Has v.cells id (one_word t i)) tag has),
        (ps, ap (λ (y : ℕ). ext y ps) var, at, some, refl),
      ))
      (λ (odd : 1 ≤ x % 2).
      let tag : variable_tag x ≡ ext_tag (x / 2) 0 = omega arith in
      let var : x ≡ 2 * (x / 2) + 1 = omega arith in (
        Ext i (record { 0 = x / 2 }) false,
        ((lt, omega arith), subst (λ (t : ℕ). Has v.cells id (one_word t i)) tag has),
        (ps, ap (λ (y : ℕ). ext y ps) var, at, some, refl),
      ))
      (cases_lt (x % 2) 1)

  tree_form : (q : Polynomial) → IsTreeAt v id depth q → OfTree q
  tree_form (num n) t = let most = t.most in let c = t.canonical in of_number n (omega arith) t.stands
  tree_form (ext x none) t = absurd t.canonical
  tree_form (ext x (more p ps)) t =
      let s = t.stands in
      let c = t.canonical in
      let l = t.low in
      let b = t.labels in
      of_nested x (more p ps) s.0 b s.2 s.1
      (record { modulus = t.modulus; most = t.most; top = x; labels = omega arith; canonical = (c.0, c.1, c.2); some = omega arith; stands = s.4; low = omega arith })
      (omega arith)

  pub tree_is : (r : CellForm) → ((form : CellForm) → HasCell v id form → r ≡ form) → (g : CellForm) → r ≡ g → (q : Polynomial) → IsTreeAt v id depth q → FormOfTree v depth g q
  tree_is r each g is q t = let f = tree_form q t in subst (λ (form : CellForm). FormOfTree v depth form q) (sym (each f.0 f.1) ∙ is) f.2

  pub tree_has : (q : Polynomial) → IsTreeAt v id depth q → (form : CellForm) × HasCell v id form
  tree_has q t = let f = tree_form q t in (f.0, f.1)

  places_form : (qs : Polynomials) → ArePlacesAt v id depth qs → (form : CellForm) × HasCell v id form × FormOfPlaces v depth form qs
  places_form none t = let some = t.some in absurd (omega arith)
  places_form (more p none) t =
      let s = t.stands in
      let c = t.canonical in
      let l = t.low in (
        Last s.0,
        (s.2, s.1),
        (p, refl, record { modulus = t.modulus; most = t.most; canonical = c.1; labels = under_more p t.top 8589934592 c.0 t.labels; stands = s.4; low = omega arith }, omega arith, refl),
      )
  places_form (more p (more q qs)) t =
      let s = t.stands in
      let c = t.canonical in
      let l = t.low in (
        More s.0 s.1,
        ((s.3, s.4), s.2),
        (
          p,
          more q qs,
          refl,
          record { modulus = t.modulus; most = t.most; canonical = c.1; labels = under_more p t.top 8589934592 c.0 t.labels; stands = s.7; low = omega arith },
          record { modulus = t.modulus; most = t.most; top = t.top; labels = t.labels; canonical = c.2; some = omega arith; stands = s.8; low = omega arith },
          omega arith,
          omega arith,
        ),
      )

  pub places_are : (r : CellForm) → ((form : CellForm) → HasCell v id form → r ≡ form) → (g : CellForm) → r ≡ g → (qs : Polynomials) → ArePlacesAt v id depth qs → FormOfPlaces v depth g qs
  places_are r each g is qs t = let f = places_form qs t in subst (λ (form : CellForm). FormOfPlaces v depth form qs) (sym (each f.0 f.1) ∙ is) f.2

  pub places_have : (qs : Polynomials) → ArePlacesAt v id depth qs → (form : CellForm) × HasCell v id form
  places_have qs t = let f = places_form qs t in (f.0, f.1)

-- what stands, stands later
pub tree_later : (v w : View) (id depth : ℕ) (q : Polynomial) → GainsCells v w → IsTreeAt v id depth q → IsTreeAt w id depth q
tree_later v w id depth q g t = record { modulus = t.modulus; most = t.most; canonical = t.canonical; labels = t.labels; stands = stands_more v.cells w.cells g.cells id (tree_part q) t.stands; low = t.low }

pub places_later : (v w : View) (id depth : ℕ) (qs : Polynomials) → GainsCells v w → ArePlacesAt v id depth qs → ArePlacesAt w id depth qs
places_later v w id depth qs g t = record { modulus = t.modulus; most = t.most; top = t.top; labels = t.labels; canonical = t.canonical; some = t.some; stands = stands_more v.cells w.cells g.cells id (places_part qs) t.stands; low = t.low }

module _ (z : SizedView) (s : IsSeen z) (n : Node) where
  node_form : (w : ℕ) (q : Polynomial) → IsNodeOf z.view n w q → (form : CellForm) × HasCell z.view n.0 form × FormOfNode z.view z.sizes.cells form w q
  node_form w q t =
      let st = t.stands in
      let b = root_width w (tree_part q) st.3 in
      let h = seen_low z s st.0 (tree_part q) st.4 in (
        Root w st.0,
        ((b.0, b.1, st.2), st.1),
        (refl, record { modulus = 2 ^ w; most = pow_mono {i = w} {j = 64} b.1; canonical = t.canonical; labels = t.labels; stands = st.4; low = h }),
      )

  pub node_is : (r : CellForm) → ((form : CellForm) → HasCell z.view n.0 form → r ≡ form) → (g : CellForm) → r ≡ g → (w : ℕ) (q : Polynomial) → IsNodeOf z.view n w q → FormOfNode z.view z.sizes.cells g w q
  node_is r each g is w q t = let f = node_form w q t in subst (λ (form : CellForm). FormOfNode z.view z.sizes.cells form w q) (sym (each f.0 f.1) ∙ is) f.2

  pub node_has : (w : ℕ) (q : Polynomial) → IsNodeOf z.view n w q → (form : CellForm) × HasCell z.view n.0 form
  node_has w q t = let f = node_form w q t in (f.0, f.1)

-- the low half of a large number
small_is : (k n : ℕ) → Small k ≡ Small n → k ≡ n
small_is k n e = cc

pub half_is : (v : View) (id k n : ℕ) (r : CellForm) → ((form : CellForm) → HasCell v id form → r ≡ form) → r ≡ Small k → IsLowHalf v id n → k ≡ n
half_is v id k n r each is h = small_is k n (sym is ∙ each (Small n) h.1)
