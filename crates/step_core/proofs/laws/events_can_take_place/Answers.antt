use Rattle.std.proofs.Common.{◌≡◌, ℕ, List, [], ◌∷◌, get_or, refl, ⊎_elim}
use Rattle.std.proofs.lemmas.Bool.{cases_eq}
use Rattle.step_core.specs.declared.event.Event.{Event}
use Rattle.step_core.specs.declared.event.Event.TheVariants.{Load, PutLog, PutCell, PutKey, PutId, ClearId, Note, Meet}
use Rattle.step_core.specs.declared.words.Words.{Words}
use Rattle.step_core.specs.declared.words.Place.TheVariants.{Log, Key, Id, Cell}
use Rattle.step_core.specs.declared.view.View.{View}
use Rattle.step_core.specs.Words.{id_of}
use Rattle.step_core.specs.Maps.{Map, Has, full_places}
use Rattle.step_core.specs.Cells.{Learns}
use Rattle.step_core.specs.Meaning.{Meaning, Laws}
use Rattle.step_core.specs.Good.{Good}
use Rattle.step_core.specs.Events.{IsLive, LearnsCells, FindsId}
use Rattle.step_core.proofs.Fullness.{full_entry}
use Rattle.step_core.proofs.Standing.{can_learn}
use Rattle.step_core.proofs.laws.events_can_take_place.Goals as goal

module _ (m : Meaning) (laws : Laws m) (base : List ℕ) (count : ℕ) (words : Words) (views : List View) (g : Good m base count words views) (seat : ℕ) (v : View) (live : IsLive views seat v) where
  learns : (id w : ℕ) → Has (full_places words.cells) id w → (now : Map) × Learns (full_places words.cells) v.cells id now
  learns id w h =
      let f = g.fits seat v live.at live.unspent in
      let p = g.are_cells.parts id w h in
      can_learn (full_places words.cells) v.cells id p.0 f.cells f.closed p.1

  finds_id : (k : ℕ) → (now : Map) × FindsId (full_places words.cells) v.cells (get_or words.ids k 0) now
  finds_id k = ⊎_elim
      (λ (z : get_or words.ids k 0 ≡ 0). (v.cells, (λ _. refl, λ ne. absurd (ne z))))
      (λ (ne : get_or words.ids k 0 ≡ 0 → ⊥).
      let full = laws.names base g.log (full_places words.cells) (get_or words.keys k 0) (id_of (get_or words.ids k 0)) (g.memos.ids k ne).together in
      let l = learns (id_of (get_or words.ids k 0)) full.0 full.1 in
      (l.0, (λ z. absurd (ne z), λ _. l.1)))
      (cases_eq (get_or words.ids k 0) 0)

  finds_cell : (k : ℕ) (empty : Map) → (now : Map) × (get_or words.cells k 0 ≡ 0 → now ≡ empty) × ((get_or words.cells k 0 ≡ 0 → ⊥) → Learns (full_places words.cells) v.cells k now)
  finds_cell k empty = ⊎_elim
      (λ (z : get_or words.cells k 0 ≡ 0). (empty, λ _. refl, λ ne. absurd (ne z)))
      (λ (ne : get_or words.cells k 0 ≡ 0 → ⊥).
      let l = learns k (get_or words.cells k 0) (full_entry words.cells k (get_or words.cells k 0) refl ne) in
      (l.0, λ z. absurd (ne z), λ _. l.1))
      (cases_eq (get_or words.cells k 0) 0)

  clears : (k old : ℕ) → (now : Map) × (get_or words.ids k 0 ≡ old → now ≡ v.cells) × ((get_or words.ids k 0 ≡ old → ⊥) → FindsId (full_places words.cells) v.cells (get_or words.ids k 0) now)
  clears k old = ⊎_elim
      (λ (e : get_or words.ids k 0 ≡ old). (v.cells, λ _. refl, λ ne. absurd (ne e)))
      (λ (ne : get_or words.ids k 0 ≡ old → ⊥). let l = finds_id k in (l.0, λ e. absurd (ne e), λ _. l.1))
      (cases_eq (get_or words.ids k 0) old)

  event : (e : Event) → (now : Map) × LearnsCells words v e now
  event (Load s (Log k)) = ([], tt)
  event (Load s (Key k)) = ([], tt)
  event (Load s (Id k)) = finds_id k
  event (Load s (Cell k)) = let l = finds_cell k v.cells in (l.0, (l.1, l.2))
  event (PutLog s at word) = ([], tt)
  event (PutCell s at word) = let l = finds_cell at ((at, word) ∷ v.cells) in (l.0, (l.1, l.2))
  event (PutKey s at word) = ([], tt)
  event (PutId s at word) = finds_id at
  event (ClearId s at old) = let l = clears at old in (l.0, (l.1, l.2))
  event (Note s child) = ([], tt)
  event (Meet s other) = ([], tt)

pub returns : goal.returns
returns g c = λ base count s e good a. event g.M.MemoMeaning.meaning g.M.MemoMeaning.laws base count s.words s.views good _ a.view a.live e
