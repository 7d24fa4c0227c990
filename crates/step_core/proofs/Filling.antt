-- A cell is put: the cells stay parts, each once, behind full places of its path.
use Rattle.std.proofs.Common.{◌≡◌, ◌≢◌, ℕ, ◌<◌, List, ◌∷◌, length, get_or, set, length-set, get_or-set_same, get_or-set_other, sym, ap, ◌∙◌, subst, inr, ⊎_elim}
use Rattle.std.proofs.lemmas.Bool.{cases_eq, cases_order}
use Rattle.step_core.specs.Words.{IsSize}
use Rattle.step_core.specs.Maps.{Map, Has, Within, full_places}
use Rattle.step_core.specs.Parts.{Part}
use Rattle.step_core.specs.Cells.{Stands, WordStands, IsIdIn, IsClosed}
use Rattle.step_core.specs.Paths.{distance}
use Rattle.step_core.specs.Good.{AreCells}
use Rattle.step_core.proofs.Hashing.{distance_apart}
use Rattle.step_core.proofs.Fullness.{has_full, full_entry, full_inside}
use Rattle.step_core.proofs.Standing.{stands_more, word_more, word_at, word_full, ids_known}

-- the places before on the path of the word are known, full and different
abbrev pub Passed : ℕ → Map → ℕ → ℕ → Type 0
Passed size had at word = (j : ℕ) → j < size → distance size word j < distance size word at → (w : ℕ) × Has had j w × (w ≢ word)

module _ (cells : List ℕ) (had : Map) (at word : ℕ) (good : AreCells cells) (size : IsSize (length cells)) (room : at < length cells) (known : Within had (full_places cells))
    (p : Part) (stands : WordStands had word p) (passed : Passed (length cells) had at word) (none : get_or cells at 0 ≡ 0) where
  real : word ≡ 0 → ⊥
  real = word_full had word p stands

  stay : Within (full_places cells) (full_places (set cells at word))
  stay i x h =
      let c = has_full cells i x h in
      full_entry (set cells at word) i x (get_or-set_other cells at i word 0 (λ e. c.1 (sym c.0 ∙ (ap (λ (z : ℕ). get_or cells z 0) e ∙ none))) ∙ c.0) c.1

  here : Has (full_places (set cells at word)) at word
  here = full_entry (set cells at word) at word (get_or-set_same cells at word 0 room) real

  old : (i x : ℕ) → Has (full_places (set cells at word)) i x → (i ≡ at → ⊥) → Has (full_places cells) i x
  old i x h ne = let c = has_full (set cells at word) i x h in full_entry cells i x (sym (get_or-set_other cells at i word 0 ne) ∙ c.0) c.1

  mine : (i x : ℕ) → Has (full_places (set cells at word)) i x → i ≡ at → x ≡ word
  mine i x h e = sym (has_full (set cells at word) i x h).0 ∙ (ap (λ (z : ℕ). get_or (set cells at word) z 0) e ∙ get_or-set_same cells at word 0 room)

  -- no other cell has the word
  alone : (i : ℕ) → Has (full_places cells) i word → ⊥
  alone i h =
      let c = has_full cells i word h in
      let inside : i < length cells = full_inside cells i word c.0 c.1 in
      ⊎_elim
      (λ (equal : distance (length cells) word i ≡ distance (length cells) word at). let e = distance_apart (length cells) word i at size inside room equal in c.1 (sym c.0 ∙ (ap (λ (z : ℕ). get_or cells z 0) e ∙ none)))
      (⊎_elim
      (λ (nearer : distance (length cells) word i < distance (length cells) word at). let s = passed i inside nearer in s.2 (sym (has_full cells i s.0 (known i s.0 s.1)).0 ∙ c.0))
      (λ (further : distance (length cells) word at < distance (length cells) word i). good.before i at word h room further none))
      (cases_order (distance (length cells) word i) (distance (length cells) word at))

  parts : (i x : ℕ) → Has (full_places (set cells at word)) i x → (q : Part) × Stands (full_places (set cells at word)) i q
  parts i x h = ⊎_elim
      (λ (e : i ≡ at). (p, subst (λ (z : ℕ). Stands (full_places (set cells at word)) z p) (sym e) (word_at (full_places (set cells at word)) at word p here (word_more had (full_places (set cells at word)) (λ j y k. stay j y (known j y k)) word p stands))))
      (λ (ne : i ≡ at → ⊥). let q = good.parts i x (old i x h ne) in (q.0, stands_more (full_places cells) (full_places (set cells at word)) stay i q.0 q.1))
      (cases_eq i at)

  once : (i j x : ℕ) → Has (full_places (set cells at word)) i x → Has (full_places (set cells at word)) j x → i ≡ j
  once i j x h k = ⊎_elim
      (λ (e : i ≡ at). ⊎_elim
      (λ (e' : j ≡ at). e ∙ sym e')
      (λ (ne' : j ≡ at → ⊥). absurd (alone j (subst (λ (z : ℕ). Has (full_places cells) j z) (mine i x h e) (old j x k ne'))))
      (cases_eq j at))
      (λ (ne : i ≡ at → ⊥). ⊎_elim
      (λ (e' : j ≡ at). absurd (alone i (subst (λ (z : ℕ). Has (full_places cells) i z) (mine j x k e') (old i x h ne))))
      (λ (ne' : j ≡ at → ⊥). good.once i j x (old i x h ne) (old j x k ne'))
      (cases_eq j at))
      (cases_eq i at)

  before : (i j x : ℕ) → Has (full_places (set cells at word)) i x → j < length cells → distance (length cells) x j < distance (length cells) x i → get_or (set cells at word) j 0 ≡ 0 → ⊥
  before i j x h lt near z = ⊎_elim
      (λ (j' : j ≡ at). real (sym (get_or-set_same cells at word 0 room) ∙ (ap (λ (y : ℕ). get_or (set cells at word) y 0) (sym j') ∙ z)))
      (λ (nj : j ≡ at → ⊥). ⊎_elim
      (λ (e : i ≡ at).
      let x' = mine i x h e in
      let near' : distance (length cells) word j < distance (length cells) word at = subst (λ (y : ℕ × ℕ). distance (length cells) y.0 j < distance (length cells) y.0 y.1) (λ q. (x' q, e q)) near in
      let s = passed j lt near' in
      let c = has_full cells j s.0 (known j s.0 s.1) in
      c.1 (sym c.0 ∙ (sym (get_or-set_other cells at j word 0 nj) ∙ z)))
      (λ (ne : i ≡ at → ⊥). good.before i j x (old i x h ne) lt near (sym (get_or-set_other cells at j word 0 nj) ∙ z))
      (cases_eq i at))
      (cases_eq j at)

  pub filled : AreCells (set cells at word)
  filled = record {
    parts = parts;
    once = once;
    before = λ i j x h. subst (λ (n : ℕ). j < n → distance n x j < distance n x i → get_or (set cells at word) j 0 ≢ 0) (sym (length-set cells at word)) (before i j x h);
  }

  -- what the view knows afterwards
  pub learned : Within had ((at, word) ∷ had) × Within ((at, word) ∷ had) (full_places (set cells at word)) × (IsClosed had → IsClosed ((at, word) ∷ had))
  learned = (
    λ i x h. inr h,
    λ i x h. ⊎_elim
        (λ (t : (at ≡ i) × (word ≡ x)). subst (λ (z : ℕ × ℕ). Has (full_places (set cells at word)) z.0 z.1) (λ q. (t.0 q, t.1 q)) here)
        (λ (t : Has had i x). stay i x (known i x t)) h,
    λ closed i x id h is_in. ⊎_elim
        (λ (t : (at ≡ i) × (word ≡ x)). let r = ids_known had word p id stands (subst (λ (z : ℕ). IsIdIn id z) (sym t.1) is_in) in (r.0, inr r.1))
        (λ (t : Has had i x). let r = closed i x id t is_in in (r.0, inr r.1)) h,
  )

  pub filled_stay : Within (full_places cells) (full_places (set cells at word))
  filled_stay = stay

  pub filled_real : word ≡ 0 → ⊥
  filled_real = real
