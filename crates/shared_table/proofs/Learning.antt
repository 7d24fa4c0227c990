-- The cells that a view learns by a word that it finds.
use Rattle.std.proofs.Common.{◌≡◌, ℕ, List, get_or, refl, ⊎_elim}
use Rattle.std.proofs.lemmas.Bool.{cases_eq}
use Rattle.step_core.specs.declared.words.Words.{Words}
use Rattle.step_core.specs.declared.view.View.{View}
use Rattle.step_core.specs.Words.{id_of}
use Rattle.step_core.specs.Maps.{Map, Has, full_places}
use Rattle.step_core.specs.Cells.{Learns}
use Rattle.step_core.specs.Meaning.{Meaning, Laws}
use Rattle.step_core.specs.Good.{Good, Fits}
use Rattle.step_core.specs.Events.{FindsId}
use Rattle.step_core.proofs.Fullness.{full_entry}
use Rattle.step_core.proofs.Standing.{can_learn}

module _ (m : Meaning) (laws : Laws m) (base : List ℕ) (count : ℕ) (words : Words) (views : List View) (g : Good m base count words views) (v : View) (f : Fits base count g.log words v) where
  learns : (id w : ℕ) → Has (full_places words.cells) id w → (now : Map) × Learns (full_places words.cells) v.cells id now
  learns id w h =
      let p = g.are_cells.parts id w h in
      can_learn (full_places words.cells) v.cells id p.0 f.cells f.closed p.1

  pub finds_id : (k : ℕ) → (now : Map) × FindsId (full_places words.cells) v.cells (get_or words.ids k 0) now
  finds_id k = ⊎_elim
      (λ (z : get_or words.ids k 0 ≡ 0). (v.cells, (λ _. refl, λ ne. absurd (ne z))))
      (λ (ne : get_or words.ids k 0 ≡ 0 → ⊥).
      let full = laws.names base g.log (full_places words.cells) (get_or words.keys k 0) (id_of (get_or words.ids k 0)) (g.memos.ids k ne).together in
      let l = learns (id_of (get_or words.ids k 0)) full.0 full.1 in
      (l.0, (λ z. absurd (ne z), λ _. l.1)))
      (cases_eq (get_or words.ids k 0) 0)

  -- where the cell is empty the view has then the cells `empty`
  pub finds_cell : (k : ℕ) (empty : Map) → (now : Map) × (get_or words.cells k 0 ≡ 0 → now ≡ empty) × ((get_or words.cells k 0 ≡ 0 → ⊥) → Learns (full_places words.cells) v.cells k now)
  finds_cell k empty = ⊎_elim
      (λ (z : get_or words.cells k 0 ≡ 0). (empty, λ _. refl, λ ne. absurd (ne z)))
      (λ (ne : get_or words.cells k 0 ≡ 0 → ⊥).
      let l = learns k (get_or words.cells k 0) (full_entry words.cells k (get_or words.cells k 0) refl ne) in
      (l.0, λ z. absurd (ne z), λ _. l.1))
      (cases_eq (get_or words.cells k 0) 0)
