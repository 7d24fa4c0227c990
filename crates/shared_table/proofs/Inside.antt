-- What is true inside a pass, after an event.
use Rattle.std.proofs.Common.{◌≡◌, ℕ, ◌+◌, ◌-◌, ◌<◌, ◌≤◌, ◌==◌, ◌&&◌, Bool, not, if◌then◌else◌, List, [], ◌∷◌, ◌++◌, length, ⊎_elim, eqb-true, ne_eqb, Option, Some, None, sym, refl, ap, ◌∙◌, subst, arith, eq-eqb}
use Rattle.std.proofs.lemmas.Bool.{cond-true, cond-false, cond_both, and_parts, cases_eq}
use Rattle.std.proofs.lemmas.List.{length_push}
use Rattle.atomic_table.specs.Table.{Me}
use Rattle.step_core.specs.declared.view.View.{View}
use Rattle.step_core.specs.Maps.{times}
use Rattle.step_core.specs.Events.{grown}
use Rattle.step_core.specs.Meaning.{Meaning}
use Rattle.shared_table.specs.declared.sizes.SizedView.{SizedView}
use Rattle.shared_table.specs.Known.{IsSeen, IsInside}
use Rattle.shared_table.specs.Rule.{sized_dealer, sized_dealt}
use Rattle.shared_table.specs.Steps.{LearnsId, LearnsCell, StandsHere}
use Rattle.shared_table.specs.Plays.{Moved}
use Rattle.shared_table.proofs.Held.{seen_short}
use Rattle.shared_table.proofs.Ends.{dealer_seen, dealt_seen}

-- an event that tells nothing of the log
pub as_before : (me me' : Me ℕ SizedView) (seen : ℕ) (author : Option ℕ) → IsInside me seen author → Moved me me' → me'.0.view.log ≡ me.0.view.log → me'.0.view.authors ≡ me.0.view.authors → IsInside me' seen author
as_before me me' seen author i moved log authors = (
  moved.0 ∙ i.0,
  moved.2,
  i.2 ∙ ap length (sym log),
  i.3,
  λ a e. subst (λ (l : List ℕ). 0 < times a l) (sym authors) (i.4 a e),
)

pub own_times : (a : ℕ) → 0 < times a (a ∷ [])
own_times a = let one = cond-true {A = ℕ} (a == a) 1 0 (eq-eqb a a refl) in omega arith

pub dealer_inside : (me : Me ℕ SizedView) (seen : ℕ) (author : Option ℕ) → IsInside me seen author → me.0.view.events ≡ [] → author ≡ None → IsInside (sized_dealer me.0, me.1) seen author
dealer_inside me seen author i fresh nobody = (i.0, dealer_seen me.0 i.1 fresh, i.2, i.3, λ a e. absurd (cc (sym nobody ∙ e)))

pub dealt_inside : (me : Me ℕ SizedView) (seen : ℕ) (author : Option ℕ) (own : ℕ) → IsInside me seen author → me.0.view.events ≡ [] → (sized_dealt me.0).view.authors ≡ own ∷ [] → IsInside (sized_dealt me.0, []) 0 (Some own)
dealt_inside me seen author own i fresh one = (
  refl,
  dealt_seen me.0 i.1 fresh,
  refl,
  omega arith,
  λ a e. let same : own ≡ a = cc e in subst (λ (l : List ℕ). 0 < times a l) (sym one) (subst (λ (x : ℕ). 0 < times a (x ∷ [])) (sym same) (own_times a)),
)

pub first_inside : (z : SizedView) → IsSeen z → z.view.log ≡ [] → IsInside (z, []) 0 None
first_inside z s log = (refl, s, sym (ap length log), omega arith, λ a e. absurd (cc e))

-- what was learned from a view
pub learns_id_of : (v v' w : View) (n : ℕ) → v ≡ v' → LearnsId v n w → LearnsId v' n w
learns_id_of v v' w n e t = subst (λ (z : View). LearnsId z n w) e t

pub learns_cell_of : (v v' w : View) (at n : ℕ) → v ≡ v' → LearnsCell v at n w → LearnsCell v' at n w
learns_cell_of v v' w at n e t = subst (λ (z : View). LearnsCell z at n w) e t

pub stands_of : (m : Meaning) (v v' w : View) (at n : ℕ) → v ≡ v' → StandsHere m v at n w → StandsHere m v' at n w
stands_of m v v' w at n e t = subst (λ (z : View). StandsHere m z at n w) e t

pub grown_length : (log : List ℕ) (k n seen : ℕ) → 1 ≤ k → seen ≡ length log → length (grown log (k - 1) n) ≡ (if (k == seen + 1) && not (n == 0) then k else seen)
grown_length log k n seen low e =
    let same : (k - 1 == length log) ≡ (k == seen + 1) = ⊎_elim
    (λ (t : k ≡ seen + 1). let here : k - 1 ≡ length log = omega arith in eq-eqb (k - 1) (length log) here ∙ sym (eq-eqb k (seen + 1) t))
    (λ (ne : k ≡ seen + 1 → ⊥). ne_eqb (k - 1) (length log) (λ (q : k - 1 ≡ length log). ne (omega arith)) ∙ sym (ne_eqb k (seen + 1) ne))
    (cases_eq k (seen + 1)) in
    let c : Bool = (k - 1 == length log) && not (n == 0) in
    cond_both c (log ++ n ∷ []) log (λ (l : List ℕ). length l ≡ (if c then k else seen))
    (λ t. let here : k - 1 ≡ length log = eqb-true (k - 1) (length log) (and_parts (k - 1 == length log) (not (n == 0)) t).0 in
    let long : length (log ++ n ∷ []) ≡ k = omega (arith, length_push log n) in
    long ∙ sym (cond-true {A = ℕ} c k seen t))
    (λ f. sym e ∙ sym (cond-false {A = ℕ} c k seen f))
    ∙ ap (λ (z : Bool). if z && not (n == 0) then k else seen) same

-- an event that found the word n at the log place k
pub log_inside : (me me' : Me ℕ SizedView) (seen seen' : ℕ) (author : Option ℕ) (k n : ℕ) → 1 ≤ k → IsInside me seen author → Moved me me' → me'.0.view.log ≡ grown me.0.view.log (k - 1) n → me'.0.view.authors ≡ me.0.view.authors
    → seen' ≡ (if (k == seen + 1) && not (n == 0) then k else seen) → IsInside me' seen' author
log_inside me me' seen seen' author k n low i moved log authors is =
    let front : seen' ≡ length me'.0.view.log = is ∙ (sym (grown_length me.0.view.log k n seen low i.2) ∙ ap length (sym log)) in
    let short = seen_short me'.0 moved.2 in (
      moved.0 ∙ i.0,
      moved.2,
      front,
      omega arith,
      λ a e. subst (λ (l : List ℕ). 0 < times a l) (sym authors) (i.4 a e),
    )
