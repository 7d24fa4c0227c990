-- The steps that put a word, or clear an id, keep the rule.
use Rattle.std.proofs.Common.{◌≡◌, ℕ, ◌+◌, ◌-◌, ◌<◌, ◌≤◌, eqb, cond, false, List, ◌∷◌, length, get_or, set, sym, refl, ◌∙◌, subst, ⊎_elim, inl, arith}
use Rattle.std.proofs.lemmas.Bool.{cases_eq}
use mathlib.Core.Option.{some}
use lib.ListN.{get_elem?}
use prog.Atomic.{either}
use Rattle.atomic_table.specs.Table.{Me, Allows}
use Rattle.step_core.specs.declared.view.View.{View}
use Rattle.step_core.specs.declared.words.Words.{Words}
use Rattle.step_core.specs.declared.words.Place.{Place}
use Rattle.step_core.specs.declared.words.Place.TheVariants.{Log, Key, Id, Cell}
use Rattle.step_core.specs.Words.{author_of, IsRecordAt}
use Rattle.step_core.specs.Maps.{Map, Has, times, full_places}
use Rattle.step_core.specs.Cells.{Learns}
use Rattle.step_core.specs.Meaning.{Meaning, Laws}
use Rattle.step_core.specs.Answers.{word_at, put_found}
use Rattle.step_core.specs.Good.{Good, IsKeyAt}
use Rattle.step_core.specs.Events.{MayPutLog, MayPutCell, MayPutId, FindsId}
use Rattle.step_core.proofs.Keeping.{put_at_keeps, put_cell_keeps, put_key_keeps, put_id_keeps, clear_id_keeps, found_stands}
use Rattle.step_core.proofs.Fullness.{full_map, full_entry, has_full}
use Rattle.step_core.proofs.Slots.{put_won, put_lost}
use Rattle.shared_table.specs.declared.rule.About.{About}
use Rattle.shared_table.specs.declared.sizes.SizedView.{SizedView}
use Rattle.shared_table.specs.Rule.{index, Held}
use Rattle.shared_table.specs.Steps.{PutsLog, PutsCell, PutsKey, PutsId, ClearsId, tried_log, tried_cell, tried_key, tried_id, tried_clear}
use Rattle.shared_table.specs.Plays.{Moved}
use Rattle.shared_table.proofs.Blocks.{write, same_key, same_id, same_cell}
use Rattle.shared_table.proofs.Held.{either_is, Event, allows}
use Rattle.shared_table.proofs.Learning.{finds_id, finds_cell}
use Rattle.shared_table.proofs.LoadSteps.{told, as_seen}

module _ (m : Meaning) where
  -- an exchange of the word `old`
  exchanges : (about : About) (id : ℕ) (v : View) (p : Place) (old new : ℕ) (tells : ℕ → View → Type 0)
      → ((words : Words) (views : List View) → Good m about.base.items about.authors words views → get_elem? views id ≡ some v → (length words.keys ≡ about.sizes.memo) × (length words.cells ≡ about.sizes.cells) → (w : View) × (w.spent ≡ false) × Good m about.base.items about.authors (write words p (cond (eqb (word_at words p) old) new (word_at words p))) (set views id w) × tells (word_at words p) w)
      → Event m about id v p (λ n. either (eqb n old) new n) tells
  exchanges about id v p old new tells e words views g at long =
      let d = e words views g at long in
      let n : ℕ = word_at words p in
      (d.0, d.1, subst (λ (x : ℕ). Good m about.base.items about.authors (write words p x) (set views id d.0)) (either_is (eqb n old) new n) d.2, d.3)

module _ (m : Meaning) (laws : Laws m) (about : About) (slots id : ℕ) (me : Me ℕ SizedView) (same : me.0.sizes ≡ about.sizes) (live : me.0.view.spent ≡ false) where
  pub puts_log : (k i word : ℕ) → i ≡ k → (1 ≤ k) × (k ≤ 4095) → k ≤ length me.0.view.log + 1 → IsRecordAt k word → 0 < times (author_of word) me.0.view.authors
      → Allows (Held m about) slots id me i (λ n. either (eqb n 0) word n) (λ n me'. Moved me me' × ((a : ℕ) → index me.0.sizes (Log a) ≡ i → PutsLog word me.0.view a n me'.0.view))
  puts_log k i word here range below reads by = allows m about slots id me i (Log k) (λ n. either (eqb n 0) word n) (λ n w. (a : ℕ) → index me.0.sizes (Log a) ≡ i → PutsLog word me.0.view a n w) here range same
      (exchanges m about id me.0.view (Log k) 0 word (λ n w. (a : ℕ) → index me.0.sizes (Log a) ≡ i → PutsLog word me.0.view a n w) (λ words views g at _.
      let n : ℕ = get_or words.log (k - 1) 0 in
      let long = g.sized.log in
      let may : MayPutLog me.0.view k word = record { below = below; reads = reads; by = by } in (
        tried_log me.0.view k word n,
        live,
        put_at_keeps m laws about.base.items about.authors words views id me.0.view k word g at live (omega arith, omega arith) may,
        λ a e. subst (λ (z : ℕ). PutsLog word me.0.view z n (tried_log me.0.view k word n)) (sym (e ∙ here)) (record { event = refl; seen = as_seen m laws about slots id me same live about.base.items about.authors words views k g at range.0 }),
      )))

  pub puts_key : (k i word : ℕ) → i ≡ index about.sizes (Key k) → k < about.sizes.memo → IsKeyAt m me.0.view.base me.0.view.log word
      → Allows (Held m about) slots id me i (λ n. either (eqb n 0) word n) (λ n me'. Moved me me' × ((a : ℕ) → index me.0.sizes (Key a) ≡ i → PutsKey word me.0.view a n me'.0.view))
  puts_key k i word here range key = allows m about slots id me i (Key k) (λ n. either (eqb n 0) word n) (λ n w. (a : ℕ) → index me.0.sizes (Key a) ≡ i → PutsKey word me.0.view a n w) here range same
      (exchanges m about id me.0.view (Key k) 0 word (λ n w. (a : ℕ) → index me.0.sizes (Key a) ≡ i → PutsKey word me.0.view a n w) (λ words views g at long.
      let n : ℕ = get_or words.keys k 0 in
      let inside : k < length words.keys = subst (λ (z : ℕ). k < z) (sym long.0) range in (
        tried_key me.0.view k word n,
        live,
        put_key_keeps m laws about.base.items about.authors words views id me.0.view k word g at live inside key,
        told m laws about slots id me same live Key k i here (λ a. same_key about.sizes a k) (λ a. PutsKey word me.0.view a n (tried_key me.0.view k word n)) (record { event = refl; seen = λ x has. ((g.fits id me.0.view at live).keys k x has).0 }),
      )))

  -- what a view knows of cells after a put at k
  put_cell_tells : (words : Words) (views : List View) (g : Good m about.base.items about.authors words views) → get_elem? views id ≡ some me.0.view → (k word : ℕ) (now : Map)
      → (get_or words.cells k 0 ≡ 0 → now ≡ (k, word) ∷ me.0.view.cells) → ((get_or words.cells k 0 ≡ 0 → ⊥) → Learns (full_places words.cells) me.0.view.cells k now)
      → PutsCell word me.0.view k (get_or words.cells k 0) (tried_cell me.0.view k word (get_or words.cells k 0) now)
  put_cell_tells words views g at k word now won lost =
      let n : ℕ = get_or words.cells k 0 in
      let f = g.fits id me.0.view at live in record {
        event = refl;
        cells = (won, λ ne. (full_places words.cells, full_map words.cells, (λ z. absurd (ne z), λ _. lost ne)));
        seen = λ x has. (has_full words.cells k x (f.cells k x has)).0;
        has = ⊎_elim
            (λ (z : n ≡ 0). subst (λ (e : Map × ℕ). Has e.0 k e.1) (λ i. (sym (won z) i, sym (put_won n word z) i)) (inl (refl, refl)))
            (λ (ne : n ≡ 0 → ⊥).
            let l = lost ne in
            let h = l.has in
            let is : h.0 ≡ put_found n word = full_map words.cells k h.0 n (l.known k h.0 h.1) (full_entry words.cells k n refl ne) ∙ sym (put_lost n word ne) in
            subst (Has now k) is h.1)
            (cases_eq n 0);
      }

  pub puts_cell : (k i word : ℕ) → i ≡ index about.sizes (Cell k) → k < about.sizes.cells → MayPutCell about.sizes.cells me.0.view k word
      → Allows (Held m about) slots id me i (λ n. either (eqb n 0) word n) (λ n me'. Moved me me' × ((a : ℕ) → index me.0.sizes (Cell a) ≡ i → PutsCell word me.0.view a n me'.0.view))
  puts_cell k i word here range may = allows m about slots id me i (Cell k) (λ n. either (eqb n 0) word n) (λ n w. (a : ℕ) → index me.0.sizes (Cell a) ≡ i → PutsCell word me.0.view a n w) here range same
      (exchanges m about id me.0.view (Cell k) 0 word (λ n w. (a : ℕ) → index me.0.sizes (Cell a) ≡ i → PutsCell word me.0.view a n w) (λ words views g at long.
      let n : ℕ = get_or words.cells k 0 in
      let inside : k < length words.cells = subst (λ (z : ℕ). k < z) (sym long.1) range in
      let may' : MayPutCell (length words.cells) me.0.view k word = subst (λ (z : ℕ). MayPutCell z me.0.view k word) (sym long.1) may in
      let now = finds_cell m laws about.base.items about.authors words views g me.0.view (g.fits id me.0.view at live) k ((k, word) ∷ me.0.view.cells) in (
        tried_cell me.0.view k word n now.0,
        live,
        put_cell_keeps m laws about.base.items about.authors words views id me.0.view k word now.0 g at live inside may' now.1 now.2,
        told m laws about slots id me same live Cell k i here (λ a. same_cell about.sizes a k) (λ a. PutsCell word me.0.view a n (tried_cell me.0.view k word n now.0)) (put_cell_tells words views g at k word now.0 now.1 now.2),
      )))

  pub puts_id : (k i word : ℕ) → i ≡ index about.sizes (Id k) → k < about.sizes.memo → MayPutId m me.0.view k word
      → Allows (Held m about) slots id me i (λ n. either (eqb n 0) word n) (λ n me'. Moved me me' × ((a : ℕ) → index me.0.sizes (Id a) ≡ i → PutsId m word me.0.view a n me'.0.view))
  puts_id k i word here range may = allows m about slots id me i (Id k) (λ n. either (eqb n 0) word n) (λ n w. (a : ℕ) → index me.0.sizes (Id a) ≡ i → PutsId m word me.0.view a n w) here range same
      (exchanges m about id me.0.view (Id k) 0 word (λ n w. (a : ℕ) → index me.0.sizes (Id a) ≡ i → PutsId m word me.0.view a n w) (λ words views g at _.
      let n : ℕ = get_or words.ids k 0 in
      let now = finds_id m laws about.base.items about.authors words views g me.0.view (g.fits id me.0.view at live) k in (
        tried_id me.0.view k word n now.0,
        live,
        put_id_keeps m laws about.base.items about.authors words views id me.0.view k word now.0 g at live may now.1,
        told m laws about slots id me same live Id k i here (λ a. same_id about.sizes a k) (λ a. PutsId m word me.0.view a n (tried_id me.0.view k word n now.0)) (record {
          event = refl;
          cells = (full_places words.cells, full_map words.cells, now.1);
          stands = λ full key has version. found_stands m laws about.base.items about.authors words views id me.0.view k key now.0 g at live has version full (now.1.1 full);
        }),
      )))

  -- the cells after a clearing
  clears : (words : Words) (views : List View) (g : Good m about.base.items about.authors words views) → get_elem? views id ≡ some me.0.view → (k old : ℕ)
      → (now : Map) × (get_or words.ids k 0 ≡ old → now ≡ me.0.view.cells) × ((get_or words.ids k 0 ≡ old → ⊥) → FindsId (full_places words.cells) me.0.view.cells (get_or words.ids k 0) now)
  clears words views g at k old = ⊎_elim
      (λ (e : get_or words.ids k 0 ≡ old). (me.0.view.cells, λ _. refl, λ ne. absurd (ne e)))
      (λ (ne : get_or words.ids k 0 ≡ old → ⊥).
      let l = finds_id m laws about.base.items about.authors words views g me.0.view (g.fits id me.0.view at live) k in
      (l.0, λ e. absurd (ne e), λ _. l.1))
      (cases_eq (get_or words.ids k 0) old)

  pub clears_id : (k i old : ℕ) → i ≡ index about.sizes (Id k) → k < about.sizes.memo
      → Allows (Held m about) slots id me i (λ n. either (eqb n old) 0 n) (λ n me'. Moved me me' × ((a : ℕ) → index me.0.sizes (Id a) ≡ i → ClearsId old me.0.view a n me'.0.view))
  clears_id k i old here range = allows m about slots id me i (Id k) (λ n. either (eqb n old) 0 n) (λ n w. (a : ℕ) → index me.0.sizes (Id a) ≡ i → ClearsId old me.0.view a n w) here range same
      (exchanges m about id me.0.view (Id k) old 0 (λ n w. (a : ℕ) → index me.0.sizes (Id a) ≡ i → ClearsId old me.0.view a n w) (λ words views g at _.
      let n : ℕ = get_or words.ids k 0 in
      let now = clears words views g at k old in (
        tried_clear me.0.view k old n now.0,
        live,
        clear_id_keeps m laws about.base.items about.authors words views id me.0.view k old now.0 g at live now.1 now.2,
        told m laws about slots id me same live Id k i here (λ a. same_id about.sizes a k) (λ a. ClearsId old me.0.view a n (tried_clear me.0.view k old n now.0)) (record {
          event = refl;
          cells = (now.1, λ ne. (full_places words.cells, full_map words.cells, now.2 ne));
        }),
      )))
