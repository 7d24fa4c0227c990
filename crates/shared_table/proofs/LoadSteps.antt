-- The steps that load a word keep the rule.
use Rattle.std.proofs.Common.{◌≡◌, ℕ, ◌-◌, ◌<◌, ◌≤◌, false, List, [], length, get_or, sym, refl, ap, ◌∙◌, subst, arith}
use Rattle.std.proofs.lemmas.List.{get_or_append_left}
use mathlib.Core.Option.{some}
use lib.ListN.{get_elem?}
use Rattle.atomic_table.specs.Table.{Me, Allows}
use Rattle.step_core.specs.declared.view.View.{View}
use Rattle.step_core.specs.declared.words.Words.{Words}
use Rattle.step_core.specs.declared.words.Place.{Place}
use Rattle.step_core.specs.declared.words.Place.TheVariants.{Log, Key, Id, Cell}
use Rattle.step_core.specs.Maps.{Map, Has, full_places}
use Rattle.step_core.specs.Meaning.{Meaning, Laws}
use Rattle.step_core.specs.Good.{Good}
use Rattle.step_core.specs.Events.{view_after_load, FindsCell}
use Rattle.step_core.proofs.Keeping.{load_log_keeps, load_key_keeps, load_id_keeps, load_cell_keeps, found_stands}
use Rattle.step_core.proofs.Fullness.{full_map, full_entry, has_full}
use Rattle.shared_table.specs.declared.rule.About.{About}
use Rattle.shared_table.specs.declared.sizes.SizedView.{SizedView}
use Rattle.shared_table.specs.Rule.{index, Held}
use Rattle.shared_table.specs.Steps.{AsSeen, LoadsLog, LoadsKey, LoadsId, LoadsCell}
use Rattle.shared_table.specs.Plays.{Moved}
use Rattle.shared_table.proofs.Blocks.{same_key, same_id, same_cell}
use Rattle.shared_table.proofs.Held.{allows, loads}
use Rattle.shared_table.proofs.Learning.{finds_id, finds_cell}

module _ (m : Meaning) (laws : Laws m) (about : About) (slots id : ℕ) (me : Me ℕ SizedView) (same : me.0.sizes ≡ about.sizes) (live : me.0.view.spent ≡ false) where
  -- what a step tells of its word, it tells of the place that was meant
  pub told : (kind : ℕ → Place) (at i : ℕ) → i ≡ index about.sizes (kind at) → ((a : ℕ) → index about.sizes (kind a) ≡ index about.sizes (kind at) → a ≡ at) → (tells : ℕ → Type 0) → tells at
      → (a : ℕ) → index me.0.sizes (kind a) ≡ i → tells a
  told kind at i here once tells t a e =
      subst tells (sym (once a (ap (λ z. index z (kind a)) (sym same) ∙ (e ∙ here)))) t

  pub as_seen : (base : List ℕ) (count : ℕ) (words : Words) (views : List View) (k : ℕ) → Good m base count words views → get_elem? views id ≡ some me.0.view → 1 ≤ k
      → AsSeen me.0.view k (get_or words.log (k - 1) 0)
  as_seen base count words views k g at low le =
      let p = (g.fits id me.0.view at live).seen in
      let lt : k - 1 < length me.0.view.log = omega arith in
      g.is_log.here (k - 1) ∙ (ap (λ l. get_or l (k - 1) 0) (sym p.1) ∙ get_or_append_left me.0.view.log p.0 0 (k - 1) lt)

  pub loads_log : (k i : ℕ) → i ≡ k → (1 ≤ k) × (k ≤ 4095)
      → Allows (Held m about) slots id me i (λ n. n) (λ n me'. Moved me me' × ((a : ℕ) → index me.0.sizes (Log a) ≡ i → LoadsLog me.0.view a n me'.0.view))
  loads_log k i here range = allows m about slots id me i (Log k) (λ n. n) (λ n w. (a : ℕ) → index me.0.sizes (Log a) ≡ i → LoadsLog me.0.view a n w) here range same
      (loads m about id me.0.view (Log k) (λ n w. (a : ℕ) → index me.0.sizes (Log a) ≡ i → LoadsLog me.0.view a n w) (λ words views g at.
      let n : ℕ = get_or words.log (k - 1) 0 in (
        view_after_load me.0.view (Log k) n [],
        live,
        load_log_keeps m laws about.base.items about.authors words views id me.0.view k g at live,
        λ a e. subst (λ (z : ℕ). LoadsLog me.0.view z n (view_after_load me.0.view (Log k) n [])) (sym (e ∙ here)) (record { event = refl; seen = as_seen about.base.items about.authors words views k g at range.0 }),
      )))

  pub loads_key : (k i : ℕ) → i ≡ index about.sizes (Key k) → k < about.sizes.memo
      → Allows (Held m about) slots id me i (λ n. n) (λ n me'. Moved me me' × ((a : ℕ) → index me.0.sizes (Key a) ≡ i → LoadsKey me.0.view a n me'.0.view))
  loads_key k i here range = allows m about slots id me i (Key k) (λ n. n) (λ n w. (a : ℕ) → index me.0.sizes (Key a) ≡ i → LoadsKey me.0.view a n w) here range same
      (loads m about id me.0.view (Key k) (λ n w. (a : ℕ) → index me.0.sizes (Key a) ≡ i → LoadsKey me.0.view a n w) (λ words views g at.
      let n : ℕ = get_or words.keys k 0 in (
        view_after_load me.0.view (Key k) n [],
        live,
        load_key_keeps m laws about.base.items about.authors words views id me.0.view k g at live,
        told Key k i here (λ a. same_key about.sizes a k) (λ a. LoadsKey me.0.view a n (view_after_load me.0.view (Key k) n [])) (record { event = refl; seen = λ word has. ((g.fits id me.0.view at live).keys k word has).0 }),
      )))

  pub loads_id : (k i : ℕ) → i ≡ index about.sizes (Id k) → k < about.sizes.memo
      → Allows (Held m about) slots id me i (λ n. n) (λ n me'. Moved me me' × ((a : ℕ) → index me.0.sizes (Id a) ≡ i → LoadsId m me.0.view a n me'.0.view))
  loads_id k i here range = allows m about slots id me i (Id k) (λ n. n) (λ n w. (a : ℕ) → index me.0.sizes (Id a) ≡ i → LoadsId m me.0.view a n w) here range same
      (loads m about id me.0.view (Id k) (λ n w. (a : ℕ) → index me.0.sizes (Id a) ≡ i → LoadsId m me.0.view a n w) (λ words views g at.
      let n : ℕ = get_or words.ids k 0 in
      let now = finds_id m laws about.base.items about.authors words views g me.0.view (g.fits id me.0.view at live) k in (
        view_after_load me.0.view (Id k) n now.0,
        live,
        load_id_keeps m laws about.base.items about.authors words views id me.0.view k now.0 g at live now.1,
        told Id k i here (λ a. same_id about.sizes a k) (λ a. LoadsId m me.0.view a n (view_after_load me.0.view (Id k) n now.0)) (record {
          event = refl;
          cells = (full_places words.cells, full_map words.cells, now.1);
          stands = λ full key has version. found_stands m laws about.base.items about.authors words views id me.0.view k key now.0 g at live has version full (now.1.1 full);
          is_id = λ full. (g.memos.ids k full).is_id;
        }),
      )))

  found_cell : (words : Words) (views : List View) (g : Good m about.base.items about.authors words views) → get_elem? views id ≡ some me.0.view → (k : ℕ) (now : Map) → FindsCell (full_places words.cells) me.0.view.cells k (get_or words.cells k 0) now
      → LoadsCell me.0.view k (get_or words.cells k 0) (view_after_load me.0.view (Cell k) (get_or words.cells k 0) now)
  found_cell words views g at k now finds =
      let n : ℕ = get_or words.cells k 0 in
      let f = g.fits id me.0.view at live in record {
        event = refl;
        cells = (full_places words.cells, full_map words.cells, finds);
        seen = λ word has. (has_full words.cells k word (f.cells k word has)).0;
        has = λ full. let l = finds.1 full in let h = l.has in subst (Has now k) (full_map words.cells k h.0 n (l.known k h.0 h.1) (full_entry words.cells k n refl full)) h.1;
      }

  pub loads_cell : (k i : ℕ) → i ≡ index about.sizes (Cell k) → k < about.sizes.cells
      → Allows (Held m about) slots id me i (λ n. n) (λ n me'. Moved me me' × ((a : ℕ) → index me.0.sizes (Cell a) ≡ i → LoadsCell me.0.view a n me'.0.view))
  loads_cell k i here range = allows m about slots id me i (Cell k) (λ n. n) (λ n w. (a : ℕ) → index me.0.sizes (Cell a) ≡ i → LoadsCell me.0.view a n w) here range same
      (loads m about id me.0.view (Cell k) (λ n w. (a : ℕ) → index me.0.sizes (Cell a) ≡ i → LoadsCell me.0.view a n w) (λ words views g at.
      let n : ℕ = get_or words.cells k 0 in
      let now = finds_cell m laws about.base.items about.authors words views g me.0.view (g.fits id me.0.view at live) k me.0.view.cells in (
        view_after_load me.0.view (Cell k) n now.0,
        live,
        load_cell_keeps m laws about.base.items about.authors words views id me.0.view k now.0 g at live (now.1, now.2),
        told Cell k i here (λ a. same_cell about.sizes a k) (λ a. LoadsCell me.0.view a n (view_after_load me.0.view (Cell k) n now.0)) (found_cell words views g at k now.0 (now.1, now.2)),
      )))
