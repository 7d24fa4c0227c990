use Rattle.std.proofs.Common.{◌≡◌, ◌⊎◌, inl, inr, ℕ, ◌-◌, ◌==◌, List, get_or, set, sym, refl, ap, ◌∙◌, ⊎_elim, ne_eqb}
use Rattle.std.proofs.lemmas.Bool.{cases_eq, cond-false}
use Rattle.step_core.specs.declared.event.Event.{Event}
use Rattle.step_core.specs.declared.event.Event.TheVariants.{PutLog, PutCell, PutKey, PutId, ClearId}
use Rattle.step_core.specs.declared.words.Words.{Words}
use Rattle.step_core.specs.Answers.{words_after, clear_found}
use Rattle.step_core.specs.Events.{Clears}
use Rattle.step_core.proofs.Slots.{put_leaves, at_written}
use Rattle.step_core.proofs.laws.full_places_stay.Goals as goal

of_log : (w : Words) (e : Event) (k : ℕ) → (get_or w.log (k - 1) 0 ≡ 0 → ⊥) → get_or (words_after w e).log (k - 1) 0 ≡ get_or w.log (k - 1) 0
of_log w (PutLog seat at word) k full = put_leaves w.log (k - 1) (at - 1) word (get_or w.log (k - 1) 0) refl full
of_log w e k full = refl

of_keys : (w : Words) (e : Event) (k : ℕ) → (get_or w.keys k 0 ≡ 0 → ⊥) → get_or (words_after w e).keys k 0 ≡ get_or w.keys k 0
of_keys w (PutKey seat at word) k full = put_leaves w.keys k at word (get_or w.keys k 0) refl full
of_keys w e k full = refl

of_cells : (w : Words) (e : Event) (k : ℕ) → (get_or w.cells k 0 ≡ 0 → ⊥) → get_or (words_after w e).cells k 0 ≡ get_or w.cells k 0
of_cells w (PutCell seat at word) k full = put_leaves w.cells k at word (get_or w.cells k 0) refl full
of_cells w e k full = refl

cleared : (ws : List ℕ) (k at old : ℕ) → (get_or (set ws at (clear_found (get_or ws at 0) old)) k 0 ≡ get_or ws k 0) ⊎ ((k ≡ at) × (get_or ws k 0 ≡ old))
cleared ws k at old =
    let n : ℕ = get_or ws at 0 in
    ⊎_elim (λ (t : get_or (set ws at (clear_found n old)) k 0 ≡ get_or ws k 0). inl t)
    (λ (t : (k ≡ at) × (get_or (set ws at (clear_found n old)) k 0 ≡ clear_found n old)).
    let same : get_or ws k 0 ≡ n = ap (λ (z : ℕ). get_or ws z 0) t.0 in
    ⊎_elim
    (λ (e : n ≡ old). inr (t.0, same ∙ e))
    (λ (ne : n ≡ old → ⊥). inl (t.1 ∙ (cond-false {A = ℕ} (n == old) 0 n (ne_eqb n old ne) ∙ sym same)))
    (cases_eq n old))
    (at_written ws k at (clear_found n old))

of_ids : (w : Words) (e : Event) (k : ℕ) → (get_or w.ids k 0 ≡ 0 → ⊥) → (get_or (words_after w e).ids k 0 ≡ get_or w.ids k 0) ⊎ Clears w e k
of_ids w (PutId seat at word) k full = inl (put_leaves w.ids k at word (get_or w.ids k 0) refl full)
of_ids w (ClearId seat at old) k full = cleared w.ids k at old
of_ids w e k full = inl refl

pub returns-clause-log : goal.returns-clause-log
returns-clause-log g c = λ s e k a full. of_log s.words e k full

pub returns-clause-keys : goal.returns-clause-keys
returns-clause-keys g c = λ s e k a full. of_keys s.words e k full

pub returns-clause-cells : goal.returns-clause-cells
returns-clause-cells g c = λ s e k a full. of_cells s.words e k full

pub returns-clause-ids : goal.returns-clause-ids
returns-clause-ids g c = λ s e k a full. of_ids s.words e k full
