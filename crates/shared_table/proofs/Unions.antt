-- A fork and a join keep the rule.
use Rattle.std.proofs.Common.{◌≡◌, ℕ, ◌+◌, ◌-◌, ◌<◌, ◌≤◌, ◌==◌, ◌&&◌, not, nat_lt, if◌then◌else◌, false, List, [], ◌∷◌, ◌++◌, map, length, set, Option, None, sym, refl, ap, ◌∙◌, subst, ⊎_elim, arith}
use Rattle.std.proofs.lemmas.Bool.{cond_both, cond-true, cond-false}
use Rattle.std.proofs.lemmas.List.{map-set, map-append}
use mathlib.Core.Option.{some}
use lib.ListN.{get_elem?}
use Rattle.atomic_table.specs.Table.{Me, Splits, Joins}
use Rattle.atomic_table.proofs.Lists.{at_set, at_map, at_longer, at_last}
use Rattle.step_core.specs.declared.view.View.{View}
use Rattle.step_core.specs.Maps.{times}
use Rattle.step_core.specs.Meaning.{Meaning}
use Rattle.step_core.specs.Events.{grown}
use Rattle.step_core.specs.Views.{noting, noted, longer, met, spent_view}
use Rattle.step_core.specs.Good.{Good}
use Rattle.step_core.proofs.Splitting.{note_keeps, meet_keeps}
use Rattle.shared_table.specs.declared.rule.About.{About}
use Rattle.shared_table.specs.declared.sizes.SizedView.{SizedView}
use Rattle.shared_table.specs.Known.{any, IsInside}
use Rattle.shared_table.specs.Rule.{words_of, viewed, Held, sized_noting, sized_noted, sized_met, sized_spent}
use Rattle.shared_table.specs.Plays.{Moved}
use Rattle.shared_table.proofs.Held.{set_here, seen_short}
use Rattle.shared_table.proofs.Inside.{grown_length}

module _ (m : Meaning) where
  pub notes : (about : About) (id : ℕ) (z : SizedView) → z.view.spent ≡ false → Splits (Held m about) id z (sized_noting z) (sized_noted z)
  notes about id z live s h at =
      let vs : List View = map viewed s.views in
      let e : map viewed (set s.views id (sized_noting z) ++ sized_noted z ∷ []) ≡ set vs id (noting z.view) ++ noted z.view ∷ [] =
      map-append viewed (set s.views id (sized_noting z)) (sized_noted z ∷ []) ∙ ap (λ (l : List View). l ++ noted z.view ∷ []) (map-set viewed s.views id (sized_noting z)) in
      let g = note_keeps m about.base.items about.authors (words_of about.sizes s.words) vs id z.view h.good (at_map viewed s.views id z at) live in
      record { long = h.long; good = subst (λ (l : List View). Good m about.base.items about.authors (words_of about.sizes s.words) l) (sym e) g }

  pub meets : (about : About) (id : ℕ) (z : SizedView) (other : ℕ) (y : SizedView) → z.view.spent ≡ false → y.view.spent ≡ false → Joins (Held m about) id z other y (sized_met z y) sized_spent
  meets about id z other y live live' s h at apart there =
      let vs : List View = map viewed s.views in
      let was : get_elem? s.views other ≡ some y = ⊎_elim (λ (t : (other ≡ id) × (sized_met z y ≡ y)). absurd (apart t.0)) (λ (t : (other ≡ id → ⊥) × (get_elem? s.views other ≡ some y)). t.1) (at_set s.views id other (sized_met z y) y there) in
      let e : map viewed (set (set s.views id (sized_met z y)) other sized_spent) ≡ set (set vs id (met z.view y.view)) other spent_view =
      map-set viewed (set s.views id (sized_met z y)) other sized_spent ∙ ap (λ (l : List View). set l other spent_view) (map-set viewed s.views id (sized_met z y)) in
      let g = meet_keeps m about.base.items about.authors (words_of about.sizes s.words) vs id z.view other y.view h.good (at_map viewed s.views id z at) live apart (at_map viewed s.views other y was) live' in
      record { long = h.long; good = subst (λ (l : List View). Good m about.base.items about.authors (words_of about.sizes s.words) l) (sym e) g }

-- both passes after a fork
pub noting_inside : (me : Me ℕ SizedView) (seen : ℕ) (author : Option ℕ) → IsInside me seen author → IsInside (sized_noting me.0, me.1) seen author
noting_inside me seen author i =
    let s = i.1 in
    let vs : List View = set s.views s.seat (noting me.0.view) in (
      i.0,
      record {
        words = s.words;
        views = vs ++ noted me.0.view ∷ [];
        seat = s.seat;
        good = note_keeps any me.0.view.base me.0.view.count s.words s.views s.seat me.0.view s.good s.live.at s.live.unspent;
        live = record { at = at_longer vs (noted me.0.view ∷ []) s.seat (noting me.0.view) (set_here s.views s.seat me.0.view (noting me.0.view) s.live.at); unspent = s.live.unspent };
        sized = s.sized;
      },
      i.2,
      i.3,
      i.4,
    )

pub noted_inside : (me : Me ℕ SizedView) (seen : ℕ) (author : Option ℕ) → IsInside me seen author → IsInside (sized_noted me.0, []) seen None
noted_inside me seen author i =
    let s = i.1 in
    let vs : List View = set s.views s.seat (noting me.0.view) in (
      refl,
      record {
        words = s.words;
        views = vs ++ noted me.0.view ∷ [];
        seat = length vs;
        good = note_keeps any me.0.view.base me.0.view.count s.words s.views s.seat me.0.view s.good s.live.at s.live.unspent;
        live = record { at = at_last vs (noted me.0.view) (length vs) refl; unspent = s.live.unspent };
        sized = s.sized;
      },
      i.2,
      i.3,
      λ a e. absurd (cc e),
    )

later_length : (xs ys : List ℕ) (a b : ℕ) → a ≡ length xs → b ≡ length ys → (if nat_lt a b then b else a) ≡ length (longer xs ys)
later_length xs ys a b p q =
    ap (λ (z : ℕ × ℕ). if nat_lt z.0 z.1 then z.1 else z.0) (λ i. (p i, q i))
    ∙ cond_both (nat_lt (length xs) (length ys)) ys xs (λ (l : List ℕ). (if nat_lt (length xs) (length ys) then length ys else length xs) ≡ length l)
    (λ t. cond-true {A = ℕ} (nat_lt (length xs) (length ys)) (length ys) (length xs) t)
    (λ f. cond-false {A = ℕ} (nat_lt (length xs) (length ys)) (length ys) (length xs) f)

times_left : (a : ℕ) (xs ys : List ℕ) → times a xs ≤ times a (xs ++ ys)
times_left a [] ys = omega arith
times_left a (x ∷ xs) ys = let s = times_left a xs ys in omega arith

-- the pass after a join, and a load that found n
pub met_inside : (me : Me ℕ SizedView) (seen : ℕ) (author : Option ℕ) (other : Me ℕ SizedView) (seen' : ℕ) (author' : Option ℕ) (both after : Me ℕ SizedView) (front seen'' n : ℕ)
    → IsInside me seen author → IsInside other seen' author' → both ≡ (sized_met me.0 other.0, me.1) → Moved both after
    → after.0.view.log ≡ grown both.0.view.log (1 - 1) n → after.0.view.authors ≡ both.0.view.authors
    → front ≡ (if nat_lt seen seen' then seen' else seen) → seen'' ≡ (if (1 == front + 1) && not (n == 0) then 1 else front) → IsInside after seen'' author
met_inside me seen author other seen' author' both after front seen'' n i j is moved log authors fronts fronts' =
    let long : front ≡ length both.0.view.log = fronts ∙ (later_length me.0.view.log other.0.view.log seen seen' i.2 j.2 ∙ ap (λ (z : Me ℕ SizedView). length z.0.view.log) (sym is)) in
    let long' : seen'' ≡ length after.0.view.log = fronts' ∙ (sym (grown_length both.0.view.log 1 n front (omega arith) long) ∙ ap length (sym log)) in
    let short = seen_short after.0 moved.2 in (
      moved.0 ∙ (ap (λ (z : Me ℕ SizedView). z.1) is ∙ i.0),
      moved.2,
      long',
      omega arith,
      λ a e. let has = i.4 a e in
          let more = times_left a me.0.view.authors other.0.view.authors in
          let all : after.0.view.authors ≡ me.0.view.authors ++ other.0.view.authors = authors ∙ ap (λ (z : Me ℕ SizedView). z.0.view.authors) is in
          subst (λ (l : List ℕ). 0 < times a l) (sym all) (omega arith),
    )
