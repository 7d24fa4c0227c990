-- The rule after one step of a seat, and after a split or a join of seats.
use Rattle.std.proofs.Common.{◌≡◌, ℕ, zero, suc, ◌≤◌, Bool, true, false, List, [], ◌∷◌, map, length, length-set, get_or, set, sym, refl, ap, ◌∙◌, subst, arith, cond}
use Rattle.std.proofs.lemmas.List.{map-set}
use mathlib.Core.Option.{some, some-ne-none}
use lib.ListN.{get_elem?}
use prog.Atomic.{either}
use Rattle.atomic_table.specs.Table.{Me, keeps, Allows}
use Rattle.atomic_table.proofs.Lists.{at_map}
use Rattle.step_core.specs.declared.view.View.{View}
use Rattle.step_core.specs.declared.words.Words.{Words}
use Rattle.step_core.specs.declared.words.Place.{Place}
use Rattle.step_core.specs.Meaning.{Meaning}
use Rattle.step_core.specs.Answers.{word_at}
use Rattle.step_core.specs.Good.{Good}
use Rattle.step_core.proofs.Lists.{prefix_length}
use Rattle.shared_table.specs.declared.rule.About.{About}
use Rattle.shared_table.specs.declared.sizes.Sizes.{Sizes}
use Rattle.shared_table.specs.declared.sizes.SizedView.{SizedView}
use Rattle.shared_table.specs.Known.{any, IsSeen}
use Rattle.shared_table.specs.Rule.{words_of, index, viewed, Held}
use Rattle.shared_table.specs.Plays.{Moved}
use Rattle.shared_table.proofs.Blocks.{InRange, write, place_read, place_written, sized, write_same}

pub set_here : {A : Type 0} (l : List A) (i : ℕ) (a b : A) → get_elem? l i ≡ some a → get_elem? (set l i b) i ≡ some b
set_here [] i a b e = absurd (some-ne-none a (sym e))
set_here (x ∷ xs) zero a b e = refl
set_here (x ∷ xs) (suc i) a b e = set_here xs i a b e

pub either_is : (b : Bool) (x y : ℕ) → cond b x y ≡ either b x y
either_is true x y = refl
either_is false x y = refl

module _ (m : Meaning) where
  blind : (base : List ℕ) (count : ℕ) (words : Words) (views : List View) → Good m base count words views → Good any base count words views
  blind base count words views g = record {
    sized = g.sized;
    log = g.log;
    is_log = g.is_log;
    are_cells = g.are_cells;
    memos = record {
      keys = λ k full. let a = g.memos.keys k full in record { word = a.word; version = a.version; valid = tt };
      ids = λ k full. let a = g.memos.ids k full in record { is_id = a.is_id; key_full = a.key_full; together = tt };
    };
    fits = g.fits;
    won = g.won;
  }

  -- a live view of a good state
  pub seen_in : (base : List ℕ) (count : ℕ) (words : Words) (views : List View) (id : ℕ) (z : SizedView) → Good m base count words views → get_elem? views id ≡ some z.view → z.view.spent ≡ false
      → (length words.keys ≡ z.sizes.memo) × (length words.cells ≡ z.sizes.cells) → IsSeen z
  seen_in base count words views id z g at live long =
      let f = g.fits id z.view at live in
      let g' = subst (λ (b : List ℕ). Good any b count words views) (sym f.same_base) (blind base count words views g) in record {
        words = words;
        views = views;
        seat = id;
        good = subst (λ (n : ℕ). Good any z.view.base n words views) (sym f.same_count) g';
        live = record { at = at; unspent = live };
        sized = long;
      }

  -- An event at a place, for a seat of the table: whatever the state is, the event finds the place's
  -- word n, writes f n there, and gives a view with which the state is good again
  abbrev pub Event : About → ℕ → View → Place → (ℕ → ℕ) → (ℕ → View → Type 0) → Type 0
  Event about id v p f tells = (words : Words) (views : List View) → Good m about.base.items about.authors words views → get_elem? views id ≡ some v → (length words.keys ≡ about.sizes.memo) × (length words.cells ≡ about.sizes.cells)
      → (w : View) × (w.spent ≡ false) × Good m about.base.items about.authors (write words p (f (word_at words p))) (set views id w) × tells (word_at words p) w

  pub allows : (about : About) (slots id : ℕ) (me : Me ℕ SizedView) (i : ℕ) (p : Place) (f : ℕ → ℕ) (tells : ℕ → View → Type 0)
      → i ≡ index about.sizes p → InRange about.sizes p → me.0.sizes ≡ about.sizes
      → Event about id me.0.view p f tells
      → Allows (Held m about) slots id me i f (λ n me'. Moved me me' × tells n me'.0.view)
  allows about slots id me i p f tells here range same event s h _ at _ =
      let z : Sizes = about.sizes in
      let ws : Words = words_of z s.words in
      let vs : List View = map viewed s.views in
      let n : ℕ = get_or s.words i 0 in
      let reads : word_at ws p ≡ n = place_read z s.words p range ∙ ap (λ (k : ℕ). get_or s.words k 0) (sym here) in
      let there : get_elem? vs id ≡ some me.0.view = at_map viewed s.views id me.0 at in
      let done = event ws vs h.good there (sized z s.words h.long) in
      let w : SizedView = record { view = done.0; sizes = me.0.sizes } in
      let ws' : List ℕ = set s.words i (f n) in
      let long : length ws' ≡ length s.words = length-set s.words i (f n) in
      let wrote : words_of z ws' ≡ write ws p (f (word_at ws p)) = ap (λ (k : ℕ). words_of z (set s.words k (f n))) here ∙ (place_written z s.words (f n) p range ∙ ap (λ (k : ℕ). write ws p (f k)) (sym reads)) in
      let good : Good m about.base.items about.authors (words_of z ws') (set vs id done.0) = subst (λ (l : Words). Good m about.base.items about.authors l (set vs id done.0)) (sym wrote) done.2 in
      let long' = sized z ws' (long ∙ h.long) in (
        w,
        keeps,
        tt,
        record { long = long ∙ h.long; good = subst (λ (l : List View). Good m about.base.items about.authors (words_of z ws') l) (sym (map-set viewed s.views id w)) good },
        (
          (
            refl,
            refl,
            seen_in about.base.items about.authors (words_of z ws') (set vs id done.0) id w good (set_here vs id me.0.view done.0 there) done.1
                (subst (λ (y : Sizes). (length (words_of z ws').keys ≡ y.memo) × (length (words_of z ws').cells ≡ y.cells)) (sym same) long'),
          ),
          subst (λ (k : ℕ). tells k done.0) reads done.3,
        ),
      )

  -- a load
  pub loads : (about : About) (id : ℕ) (v : View) (p : Place) (tells : ℕ → View → Type 0)
      → ((words : Words) (views : List View) → Good m about.base.items about.authors words views → get_elem? views id ≡ some v → (w : View) × (w.spent ≡ false) × Good m about.base.items about.authors words (set views id w) × tells (word_at words p) w)
      → Event about id v p (λ n. n) tells
  loads about id v p tells e words views g at long =
      let d = e words views g at in
      (d.0, d.1, subst (λ (l : Words). Good m about.base.items about.authors l (set views id d.0)) (sym (write_same words p)) d.2, d.3)

-- the log of a view is no longer than there are places
pub seen_short : (z : SizedView) → IsSeen z → length z.view.log ≤ 4095
seen_short z s =
    let f = s.good.fits s.seat z.view s.live.at s.live.unspent in
    let a = prefix_length z.view.log s.good.log f.seen in
    let b = s.good.is_log.short in
    let c = s.good.sized.log in
    omega arith
