-- Views are split and joined, and the state stays good.
use Rattle.std.proofs.Common.{◌≡◌, ℕ, ◌+◌, ◌<◌, ◌≤◌, nat_lt, true, false, List, [], ◌∷◌, ◌++◌, length, length-append, set, sym, refl, ap, ◌∙◌, subst, ⊎_elim, arith, true≢false, ltb-true, ltb-false, append-nil}
use Rattle.std.proofs.lemmas.Bool.{cond_both, cases_lt}
use mathlib.Core.Option.{some}
use mathlib.Core.List.{IsPrefix}
use lib.ListN.{get_elem?}
use Rattle.step_core.specs.declared.words.Words.{Words}
use Rattle.step_core.specs.declared.view.View.{View}
use Rattle.step_core.specs.declared.view.Access.{Access}
use Rattle.step_core.specs.declared.view.Access.TheVariants.{Noted, Met}
use Rattle.step_core.specs.Words.{author_of}
use Rattle.step_core.specs.Maps.{Map, Has, times, total, AllOf}
use Rattle.step_core.specs.Meaning.{Meaning}
use Rattle.step_core.specs.Accesses.{won_record, won_cell, gathered, won_records, won_cells, only_by, entries}
use Rattle.step_core.specs.Good.{IsOldOf, Fits, Owns, Good}
use Rattle.step_core.specs.Views.{first_alone, all_but_first, dealt, dealer, noting, noted, old_of, met, spent_view}
use Rattle.step_core.proofs.Lists.{total_set, total-append, prefix_self, prefix_both}
use Rattle.step_core.proofs.Positions.{at_set, at_snoc, at_other}
use Rattle.step_core.proofs.Slots.{has_either, has_left, has_right, closed_both}
use Rattle.step_core.proofs.Wins.{gathered-append, gathered_same, only_by-append, entries-append, only_none}
use Rattle.step_core.proofs.Keeping.{olds_grow, not_both}

module _ (m : Meaning) where
  -- what the state says of one view
  abbrev IsFine : List ℕ → ℕ → List ℕ → Words → View → Type 0
  IsFine base count log words v = (v.spent ≡ false → Fits base count log words v) × Owns log v

  fine_of : (base : List ℕ) (count : ℕ) (words : Words) (views : List View) (g : Good m base count words views) (j : ℕ) (v : View) → get_elem? views j ≡ some v → IsFine base count g.log words v
  fine_of base count words views g j v at = (g.fits j v at, g.won.owned j v at)

  -- the same words under other views
  reviewed : (base : List ℕ) (count : ℕ) (words : Words) (views views' : List View) (g : Good m base count words views)
      → ((j : ℕ) (v : View) → get_elem? views' j ≡ some v → IsFine base count g.log words v)
      → ((at word : ℕ) → total (λ v. entries at word (won_records v.events)) views' ≡ total (λ v. entries at word (won_records v.events)) views)
      → ((at word : ℕ) → total (λ v. entries at word (won_cells v.events)) views' ≡ total (λ v. entries at word (won_cells v.events)) views)
      → ((a : ℕ) → total (λ v. times a v.authors) views' ≡ total (λ v. times a v.authors) views)
      → Good m base count words views'
  reviewed base count words views views' g each records cells authors = record {
    sized = g.sized;
    log = g.log;
    is_log = g.is_log;
    are_cells = g.are_cells;
    memos = g.memos;
    fits = λ j v at. (each j v at).0;
    won = record {
      owned = λ j v at. (each j v at).1;
      records = λ p x. records p x ∙ g.won.records p x;
      cells = λ p x. cells p x ∙ g.won.cells p x;
      authors = λ a. authors a ∙ g.won.authors a;
      few = g.won.few;
    };
  }

  fine_set : (base : List ℕ) (count : ℕ) (log : List ℕ) (words : Words) (views : List View) (i : ℕ) (w : View) → ((j : ℕ) (v : View) → get_elem? views j ≡ some v → IsFine base count log words v) → IsFine base count log words w
      → (j : ℕ) (v : View) → get_elem? (set views i w) j ≡ some v → IsFine base count log words v
  fine_set base count log words views i w each mine j v at = ⊎_elim
      (λ (t : (j ≡ i) × (w ≡ v)). subst (IsFine base count log words) t.1 mine)
      (λ (t : (j ≡ i → ⊥) × (get_elem? views j ≡ some v)). each j v t.1)
      (at_set views i j w v at)

  fine_snoc : (base : List ℕ) (count : ℕ) (log : List ℕ) (words : Words) (views : List View) (w : View) → ((j : ℕ) (v : View) → get_elem? views j ≡ some v → IsFine base count log words v) → IsFine base count log words w
      → (j : ℕ) (v : View) → get_elem? (views ++ w ∷ []) j ≡ some v → IsFine base count log words v
  fine_snoc base count log words views w each mine j v at = ⊎_elim (each j v) (λ (t : w ≡ v). subst (IsFine base count log words) t mine) (at_snoc views w v j at)

  -- one view becomes another, and a third is added
  split_total : (f : View → ℕ) (views : List View) (j : ℕ) (v w u : View) → get_elem? views j ≡ some v → f w + f u ≡ f v → total f (set views j w ++ u ∷ []) ≡ total f views
  split_total f views j v w u at e = let s = total_set f views j v w at in let t = total-append f (set views j w) (u ∷ []) in omega arith

  -- one view takes all of another
  join_total : (f : View → ℕ) (views : List View) (j i : ℕ) (v w u x : View) → get_elem? views j ≡ some v → get_elem? (set views j u) i ≡ some w → f u + f x ≡ f v + f w → total f (set (set views j u) i x) ≡ total f views
  join_total f views j i v w u x at there e = let s = total_set f views j v u at in let t = total_set f (set views j u) i w x there in omega arith

  -- ---- a fork

  owns_note : (log : List ℕ) (v : View) → Owns log v → Owns log (noting v)
  owns_note log v o =
      let records : won_records (v.events ++ Noted ∷ []) ≡ won_records v.events = gathered_same won_record v.events Noted refl in
      let cells : won_cells (v.events ++ Noted ∷ []) ≡ won_cells v.events = gathered_same won_cell v.events Noted refl in
      record {
        records = λ at word h. o.records at word (subst (λ (l : Map). Has l at word) records h);
        cells = λ at word h. o.cells at word (subst (λ (l : Map). Has l at word) cells h);
        order = λ a has. ap (only_by a) records ∙ o.order a has;
      }

  owns_nothing : (log : List ℕ) (v : View) → v.events ≡ [] → v.authors ≡ [] → Owns log v
  owns_nothing log v none nobody = record {
    records = λ at word h. absurd (subst (λ (l : List Access). Has (won_records l) at word) none h);
    cells = λ at word h. absurd (subst (λ (l : List Access). Has (won_cells l) at word) none h);
    order = λ a has. absurd (let z : times a v.authors ≡ 0 = ap (times a) nobody in omega arith);
  }

  pub note_keeps : (base : List ℕ) (count : ℕ) (words : Words) (views : List View) (j : ℕ) (v : View) → Good m base count words views → get_elem? views j ≡ some v → v.spent ≡ false
      → Good m base count words (set views j (noting v) ++ noted v ∷ [])
  note_keeps base count words views j v g at live =
      let f = g.fits j v at live in
      reviewed base count words views (set views j (noting v) ++ noted v ∷ []) g
      (fine_snoc base count g.log words (set views j (noting v)) (noted v)
      (fine_set base count g.log words views j (noting v) (fine_of base count words views g)
      ((λ _. record { same_base = f.same_base; same_count = f.same_count; seen = f.seen; keys = f.keys; cells = f.cells; closed = f.closed; olds = olds_grow v (noting v) (prefix_self v.log) (λ p x h. h) (λ p x h. h) v.olds f.olds }), owns_note g.log v (g.won.owned j v at)))
      ((λ _. record { same_base = f.same_base; same_count = f.same_count; seen = f.seen; keys = f.keys; cells = f.cells; closed = f.closed; olds = tt }), owns_nothing g.log (noted v) refl refl))
      (λ p x. split_total (λ z. entries p x (won_records z.events)) views j v (noting v) (noted v) at (let e = ap (entries p x) (gathered_same won_record v.events Noted refl) in omega arith))
      (λ p x. split_total (λ z. entries p x (won_cells z.events)) views j v (noting v) (noted v) at (let e = ap (entries p x) (gathered_same won_cell v.events Noted refl) in omega arith))
      (λ a. split_total (λ z. times a z.authors) views j v (noting v) (noted v) at (omega arith))

  -- ---- the first author goes

  times_cut : (a : ℕ) (xs : List ℕ) → times a (all_but_first xs) + times a (first_alone xs) ≡ times a xs
  times_cut a [] = refl
  times_cut a (x ∷ xs) = omega arith

  owns_part : (log : List ℕ) (v w : View) → v.events ≡ [] → w.events ≡ [] → ((a : ℕ) → times a w.authors ≤ times a v.authors) → Owns log v → Owns log w
  owns_part log v w none none' fewer o = record {
    records = λ at word h. absurd (subst (λ (l : List Access). Has (won_records l) at word) none' h);
    cells = λ at word h. absurd (subst (λ (l : List Access). Has (won_cells l) at word) none' h);
    order = λ a has. let few = fewer a in ap (λ (l : List Access). only_by a (won_records l)) (none' ∙ sym none) ∙ o.order a (omega arith);
  }

  pub deal_keeps : (base : List ℕ) (count : ℕ) (words : Words) (views : List View) (j : ℕ) (v : View) → Good m base count words views → get_elem? views j ≡ some v → v.spent ≡ false → v.events ≡ []
      → Good m base count words (set views j (dealer v) ++ dealt v ∷ [])
  deal_keeps base count words views j v g at live fresh =
      let f = g.fits j v at live in
      let o = g.won.owned j v at in
      reviewed base count words views (set views j (dealer v) ++ dealt v ∷ []) g
      (fine_snoc base count g.log words (set views j (dealer v)) (dealt v)
      (fine_set base count g.log words views j (dealer v) (fine_of base count words views g)
      ((λ _. record { same_base = f.same_base; same_count = f.same_count; seen = f.seen; keys = f.keys; cells = f.cells; closed = f.closed; olds = olds_grow v (dealer v) (prefix_self v.log) (λ p x h. h) (λ p x h. h) v.olds f.olds }), owns_part g.log v (dealer v) fresh fresh (λ a. let c = times_cut a v.authors in omega arith) o))
      ((λ _. record { same_base = f.same_base; same_count = f.same_count; seen = (g.log, refl); keys = λ k x has. absurd has; cells = λ p x has. absurd has; closed = λ p x id has is_in. absurd has; olds = tt }), owns_part g.log v (dealt v) fresh refl (λ a. let c = times_cut a v.authors in omega arith) o))
      (λ p x. split_total (λ z. entries p x (won_records z.events)) views j v (dealer v) (dealt v) at (omega arith))
      (λ p x. split_total (λ z. entries p x (won_cells z.events)) views j v (dealer v) (dealt v) at (omega arith))
      (λ a. split_total (λ z. times a z.authors) views j v (dealer v) (dealt v) at (times_cut a v.authors))

  -- ---- a join

  times-append : (a : ℕ) (xs ys : List ℕ) → times a (xs ++ ys) ≡ times a xs + times a ys
  times-append a [] ys = omega arith
  times-append a (x ∷ xs) ys = let s = times-append a xs ys in omega arith

  olds_met : (v w : View) (zs : List ℕ) → IsPrefix v.log zs → IsPrefix w.log zs → AllOf (IsOldOf (met v w)) (old_of v ∷ old_of w ∷ [])
  olds_met v w zs p q =
      let logs = cond_both (nat_lt (length v.log) (length w.log)) w.log v.log (λ l. IsPrefix v.log l × IsPrefix w.log l)
      (λ t. let lt = ltb-true (length v.log) (length w.log) t in (prefix_both v.log w.log zs p q (omega arith), prefix_self w.log))
      (λ f. let ge = ltb-false (length v.log) (length w.log) f in (prefix_self v.log, prefix_both w.log v.log zs q p ge)) in
      (record { log = logs.0; keys = has_left v.keys w.keys; cells = has_left v.cells w.cells }, (record { log = logs.1; keys = has_right v.keys w.keys; cells = has_right v.cells w.cells }, tt))

  gathered_met : (won : Access → Map) (xs ys : List Access) → won Met ≡ [] → gathered won (xs ++ (ys ++ Met ∷ [])) ≡ gathered won xs ++ gathered won ys
  gathered_met won xs ys none = gathered-append won xs (ys ++ Met ∷ []) ∙ ap (λ (l : Map). gathered won xs ++ l) (gathered_same won ys Met none)

  owns_met : (log : List ℕ) (v w : View) → ((a : ℕ) → 0 < times a v.authors → times a w.authors ≡ 0) → Owns log v → Owns log w → Owns log (met v w)
  owns_met log v w apart o q =
      let records : won_records (v.events ++ (w.events ++ Met ∷ [])) ≡ won_records v.events ++ won_records w.events = gathered_met won_record v.events w.events refl in
      let cells : won_cells (v.events ++ (w.events ++ Met ∷ [])) ≡ won_cells v.events ++ won_cells w.events = gathered_met won_cell v.events w.events refl in
      record {
        records = λ at word h. let sum = times-append (author_of word) v.authors w.authors in ⊎_elim
            (λ (t : Has (won_records v.events) at word). let p = o.records at word t in omega arith)
            (λ (t : Has (won_records w.events) at word). let p = q.records at word t in omega arith)
            (has_either (won_records v.events) (won_records w.events) at word (subst (λ (l : Map). Has l at word) records h));
        cells = λ at word h. let sum = length-append v.authors w.authors in ⊎_elim
            (λ (t : Has (won_cells v.events) at word). let p = o.cells at word t in omega arith)
            (λ (t : Has (won_cells w.events) at word). let p = q.cells at word t in omega arith)
            (has_either (won_cells v.events) (won_cells w.events) at word (subst (λ (l : Map). Has l at word) cells h));
        order = λ a has.
            let sum = times-append a v.authors w.authors in
            let both = ap (only_by a) records ∙ only_by-append a (won_records v.events) (won_records w.events) in
            both ∙ ⊎_elim
            (λ (mine : 0 < times a v.authors).
            let none = apart a mine in
            let nothing : only_by a (won_records w.events) ≡ [] = only_none a (won_records w.events) (λ at word h e. let p = subst (λ (z : ℕ). 0 < times z w.authors) e (q.records at word h) in omega arith) in
            ap (λ (l : Map). only_by a (won_records v.events) ++ l) nothing ∙ (append-nil (only_by a (won_records v.events)) ∙ o.order a mine))
            (λ (none : times a v.authors ≤ 0).
            let nothing : only_by a (won_records v.events) ≡ [] = only_none a (won_records v.events) (λ at word h e. let p = subst (λ (z : ℕ). 0 < times z v.authors) e (o.records at word h) in omega arith) in
            ap (λ (l : Map). l ++ only_by a (won_records w.events)) nothing ∙ q.order a (omega arith))
            (cases_lt 0 (times a v.authors));
      }

  pub meet_keeps : (base : List ℕ) (count : ℕ) (words : Words) (views : List View) (j : ℕ) (v : View) (i : ℕ) (w : View) → Good m base count words views → get_elem? views j ≡ some v → v.spent ≡ false
      → (i ≡ j → ⊥) → get_elem? views i ≡ some w → w.spent ≡ false → Good m base count words (set (set views j (met v w)) i spent_view)
  meet_keeps base count words views j v i w g at live apart there live' =
      let f = g.fits j v at live in
      let e = g.fits i w there live' in
      let later = at_other views j i (met v w) w apart there in
      reviewed base count words views (set (set views j (met v w)) i spent_view) g
      (fine_set base count g.log words (set views j (met v w)) i spent_view
      (fine_set base count g.log words views j (met v w) (fine_of base count words views g) (
        (λ _. record { same_base = f.same_base; same_count = f.same_count; seen = cond_both (nat_lt (length v.log) (length w.log)) w.log v.log (λ l. IsPrefix l g.log) (λ _. e.seen) (λ _. f.seen); keys = λ k x has. ⊎_elim (f.keys k x) (e.keys k x) (has_either v.keys w.keys k x has); cells = λ p x has. ⊎_elim (f.cells p x) (e.cells p x) (has_either v.cells w.cells p x has); closed = closed_both v.cells w.cells f.closed e.closed; olds = olds_met v w g.log f.seen e.seen }),
        owns_met g.log v w (λ a. not_both count g.log words views j v i w g.won at there apart a) (g.won.owned j v at) (g.won.owned i w there),
      ))
      ((λ (no : true ≡ false). absurd (true≢false no)), owns_nothing g.log spent_view refl refl))
      (λ p x. join_total (λ z. entries p x (won_records z.events)) views j i v w (met v w) spent_view at later
      (let c = ap (entries p x) (gathered_met won_record v.events w.events refl) in let d = entries-append p x (won_records v.events) (won_records w.events) in omega arith))
      (λ p x. join_total (λ z. entries p x (won_cells z.events)) views j i v w (met v w) spent_view at later
      (let c = ap (entries p x) (gathered_met won_cell v.events w.events refl) in let d = entries-append p x (won_cells v.events) (won_cells w.events) in omega arith))
      (λ a. join_total (λ z. times a z.authors) views j i v w (met v w) spent_view at later (let c = times-append a v.authors w.authors in omega arith))
