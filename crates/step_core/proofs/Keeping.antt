-- Loads, puts and clearings keep the state good.
use Rattle.std.proofs.Common.{◌≡◌, ℕ, suc, ◌+◌, ◌-◌, ◌<◌, ◌≤◌, false, List, [], ◌∷◌, ◌++◌, length, get_or, set, length-set, sym, refl, ap, ◌∙◌, subst, ⊎_elim, arith, append-nil, get_or-set_same, nat_lt, if◌then◌else◌}
use Rattle.std.proofs.lemmas.Bool.{cases_eq, cases_lt, cond_both}
use Rattle.std.proofs.lemmas.List.{set-get_or}
use mathlib.Core.Option.{some}
use mathlib.Core.List.{IsPrefix}
use lib.ListN.{get_elem?}
use Rattle.step_core.specs.declared.words.Words.{Words}
use Rattle.step_core.specs.declared.words.Place.TheVariants.{Log, Key, Id, Cell}
use Rattle.step_core.specs.declared.view.View.{View}
use Rattle.step_core.specs.declared.view.Old.{Old}
use Rattle.step_core.specs.declared.view.Access.{Access}
use Rattle.step_core.specs.declared.view.Access.TheVariants.{Loaded, TriedLog, TriedCell, TriedKey, TriedId, TriedClear}
use Rattle.step_core.specs.Words.{author_of, version_of, id_of, IsSize, AreSized}
use Rattle.step_core.specs.Maps.{Map, Has, Within, full_places, times, total, AllOf}
use Rattle.step_core.specs.Cells.{IsClosed, Learns}
use Rattle.step_core.specs.Meaning.{Meaning, Laws}
use Rattle.step_core.specs.Accesses.{won_record, won_cell, won_records, won_cells, placed, only_by, is_entry, entries}
use Rattle.step_core.specs.Good.{IsLog, AreCells, IsKeyAt, IsIdAt, AreMemos, IsOldOf, Fits, Owns, AreWon, Good}
use Rattle.step_core.specs.Answers.{put_found, clear_found}
use Rattle.step_core.specs.Events.{MayPutLog, MayPutCell, MayPutId, FindsId, FindsCell, grown, gained}
use Rattle.step_core.proofs.Lists.{total_set, total_two, all_map, prefix_self, prefix_trans, prefix_length, grown_prefix, log_grows, grown_longer}
use Rattle.step_core.proofs.Positions.{at_set}
use Rattle.step_core.proofs.Slots.{put_won, put_lost, put_leaves, put_stands, gained_has, gained_keeps, has_either}
use Rattle.step_core.proofs.Fullness.{full_map, full_total}
use Rattle.step_core.proofs.Wins.{gathered_push, gathered_same, only_by-append, entries-append, placed_push, only_none, record_won, record_lost, cell_won, cell_lost}
use Rattle.step_core.proofs.Memos.{key_grows, memos_grow, memos_key, memos_id, memos_clear}
use Rattle.step_core.proofs.Filling.{filled, learned, filled_stay, filled_real}

-- full key places keep their words, and full cells stay
pub record Stay (words words' : Words) : Type 0 where
  pub keys : (k word : ℕ) → get_or words.keys k 0 ≡ word → (word ≡ 0 → ⊥) → get_or words'.keys k 0 ≡ word
  pub cells : Within (full_places words.cells) (full_places words'.cells)

pub all_stay : (words : Words) → Stay words words
all_stay words = record { keys = λ k word e full. e; cells = λ at word h. h }

refit : (base : List ℕ) (count : ℕ) (log log' : List ℕ) (words words' : Words) (u : View) → IsPrefix log log' → Stay words words' → Fits base count log words u → Fits base count log' words' u
refit base count log log' words words' u longer stay f = record {
  same_base = f.same_base;
  same_count = f.same_count;
  seen = prefix_trans u.log log log' f.seen longer;
  keys = λ k word has. let t = f.keys k word has in (stay.keys k word t.0 t.1, t.1);
  cells = λ at word h. stay.cells at word (f.cells at word h);
  closed = f.closed;
  olds = f.olds;
}

pub olds_grow : (v w : View) → IsPrefix v.log w.log → Within v.keys w.keys → Within v.cells w.cells → (olds : List Old) → AllOf (IsOldOf v) olds → AllOf (IsOldOf w) olds
olds_grow v w logs keys cells olds all = all_map (IsOldOf v) (IsOldOf w)
    (λ old p. record { log = prefix_trans old.log v.log w.log p.log logs; keys = λ at word h. keys at word (p.keys at word h); cells = λ at word h. cells at word (p.cells at word h) }) olds all

-- ---- what is won

-- one view changes, and log and cells may grow
won_changes : (count : ℕ) (log log' : List ℕ) (words words' : Words) (views : List View) (j : ℕ) (v w : View) → AreWon count log words views → get_elem? views j ≡ some v
    → Owns log' w
    → ((i : ℕ) (u : View) → (i ≡ j → ⊥) → get_elem? views i ≡ some u → Owns log u → Owns log' u)
    → ((at word : ℕ) → entries at word (won_records w.events) + entries at word (placed 1 log) ≡ entries at word (won_records v.events) + entries at word (placed 1 log'))
    → ((at word : ℕ) → entries at word (won_cells w.events) + entries at word (full_places words.cells) ≡ entries at word (won_cells v.events) + entries at word (full_places words'.cells))
    → w.authors ≡ v.authors
    → AreWon count log' words' (set views j w)
won_changes count log log' words words' views j v w g at mine theirs records cells same = record {
  owned = λ i u e. ⊎_elim
      (λ (t : (i ≡ j) × (w ≡ u)). subst (Owns log') t.1 mine)
      (λ (t : (i ≡ j → ⊥) × (get_elem? views i ≡ some u)). theirs i u t.0 t.1 (g.owned i u t.1))
      (at_set views j i w u e);
  records = λ p x. let s = total_set (λ (z : View). entries p x (won_records z.events)) views j v w at in let b = g.records p x in let c = records p x in omega arith;
  cells = λ p x. let s = total_set (λ (z : View). entries p x (won_cells z.events)) views j v w at in let b = g.cells p x in let c = cells p x in omega arith;
  authors = λ a. let s = total_set (λ (z : View). times a z.authors) views j v w at in let b = g.authors a in let c : times a w.authors ≡ times a v.authors = ap (times a) same in
      let d : total (λ (z : View). times a z.authors) (set views j w) ≡ total (λ (z : View). times a z.authors) views = omega arith in d ∙ b;
  few = g.few;
}

-- an access that wins no record
owns_more : (log : List ℕ) (v w : View) (a : Access) → w.events ≡ v.events ++ a ∷ [] → w.authors ≡ v.authors → won_record a ≡ [] → ((at word : ℕ) → Has (won_cell a) at word → 0 < length v.authors) → Owns log v → Owns log w
owns_more log v w a events same nothing by o =
    let records : won_records w.events ≡ won_records v.events = ap won_records events ∙ gathered_same won_record v.events a nothing in
    let cells : won_cells w.events ≡ won_cells v.events ++ won_cell a = ap won_cells events ∙ gathered_push won_cell v.events a in
    record {
      records = λ at word h. subst (λ (l : List ℕ). 0 < times (author_of word) l) (sym same) (o.records at word (subst (λ (l : Map). Has l at word) records h));
      cells = λ at word h. subst (λ (l : List ℕ). 0 < length l) (sym same) (⊎_elim (o.cells at word) (by at word) (has_either (won_cells v.events) (won_cell a) at word (subst (λ (l : Map). Has l at word) cells h)));
      order = λ b has. ap (only_by b) records ∙ o.order b (subst (λ (l : List ℕ). 0 < times b l) same has);
    }

won_quiet : (count : ℕ) (log : List ℕ) (words words' : Words) (views : List View) (j : ℕ) (v w : View) (a : Access) → AreWon count log words views → get_elem? views j ≡ some v → w.events ≡ v.events ++ a ∷ [] → w.authors ≡ v.authors
    → won_record a ≡ []
    → ((at word : ℕ) → Has (won_cell a) at word → 0 < length v.authors)
    → ((at word : ℕ) → entries at word (won_cell a) + entries at word (full_places words.cells) ≡ entries at word (full_places words'.cells))
    → AreWon count log words' (set views j w)
won_quiet count log words words' views j v w a g at events same nothing by cells =
    won_changes count log log words words' views j v w g at (owns_more log v w a events same nothing by (g.owned j v at)) (λ i u ne there o. o)
    (λ p x. let e : entries p x (won_records w.events) ≡ entries p x (won_records v.events) = ap (entries p x) (ap won_records events ∙ gathered_same won_record v.events a nothing) in omega arith)
    (λ p x. let e : entries p x (won_cells w.events) ≡ entries p x (won_cells v.events ++ won_cell a) = ap (entries p x) (ap won_cells events ∙ gathered_push won_cell v.events a) in
    let s = entries-append p x (won_cells v.events) (won_cell a) in let c = cells p x in omega arith)
    same

at_most_one : (a n : ℕ) → (if nat_lt a n then 1 else 0) ≤ 1
at_most_one a n = cond_both (nat_lt a n) 1 0 (λ z. z ≤ 1) (λ _. omega arith) (λ _. omega arith)

-- no author is in two views
pub not_both : (count : ℕ) (log : List ℕ) (words : Words) (views : List View) (j : ℕ) (v : View) (i : ℕ) (u : View) → AreWon count log words views → get_elem? views j ≡ some v → get_elem? views i ≡ some u → (i ≡ j → ⊥)
    → (a : ℕ) → 0 < times a v.authors → times a u.authors ≡ 0
not_both count log words views j v i u g at there ne a has =
    let two = total_two (λ (z : View). times a z.authors) views j i v u at there (λ q. ne (sym q)) in
    let whole = g.authors a in let one = at_most_one a count in omega arith

-- ---- events

module _ (m : Meaning) (laws : Laws m) where
  changes : (base : List ℕ) (count : ℕ) (words words' : Words) (views : List View) (j : ℕ) (w : View) (log' : List ℕ) (g : Good m base count words views)
      → AreSized words' → IsLog words'.log log' → AreCells words'.cells → AreMemos m base log' words' → Stay words words' → IsPrefix g.log log'
      → (w.spent ≡ false → Fits base count log' words' w) → AreWon count log' words' (set views j w)
      → Good m base count words' (set views j w)
  changes base count words words' views j w log' g sized is_log are_cells memos stay longer fits won = record {
    sized = sized;
    log = log';
    is_log = is_log;
    are_cells = are_cells;
    memos = memos;
    fits = λ i u e live. ⊎_elim
        (λ (t : (i ≡ j) × (w ≡ u)). subst (λ (z : View). z.spent ≡ false → Fits base count log' words' z) t.1 fits live)
        (λ (t : (i ≡ j → ⊥) × (get_elem? views i ≡ some u)). refit base count g.log log' words words' u longer stay (g.fits i u t.1 live))
        (at_set views j i w u e);
    won = won;
  }

  pub load_log_keeps : (base : List ℕ) (count : ℕ) (words : Words) (views : List View) (j : ℕ) (v : View) (at : ℕ) → Good m base count words views → get_elem? views j ≡ some v → v.spent ≡ false
      → Good m base count words (set views j (record v { log = grown v.log (at - 1) (get_or words.log (at - 1) 0); events = v.events ++ Loaded (Log at) (get_or words.log (at - 1) 0) ∷ [] }))
  load_log_keeps base count words views j v at g here live =
      let k : ℕ = at - 1 in
      let n : ℕ = get_or words.log k 0 in
      let w : View = record v { log = grown v.log k n; events = v.events ++ Loaded (Log at) n ∷ [] } in
      let f = g.fits j v here live in
      changes base count words words views j w g.log g g.sized g.is_log g.are_cells g.memos (all_stay words) (prefix_self g.log)
      (λ _. record { same_base = f.same_base; same_count = f.same_count; seen = grown_prefix v.log g.log k n f.seen (g.is_log.here k); keys = f.keys; cells = f.cells; closed = f.closed; olds = olds_grow v w (grown_longer v.log k n) (λ p x h. h) (λ p x h. h) v.olds f.olds })
      (won_quiet count g.log words words views j v w (Loaded (Log at) n) g.won here refl refl refl (λ p x h. absurd h) (λ p x. omega arith))

  owns_put : (log : List ℕ) (v w : View) (at word : ℕ) → at ≡ suc (length log) → w.events ≡ v.events ++ TriedLog at word 0 ∷ [] → w.authors ≡ v.authors → 0 < times (author_of word) v.authors → Owns log v → Owns (log ++ word ∷ []) w
  owns_put log v w at word end events same by o =
      let one : Map = (at, word) ∷ [] in
      let records : won_records w.events ≡ won_records v.events ++ one = ap won_records events ∙ (gathered_push won_record v.events (TriedLog at word 0) ∙ ap (λ (l : Map). won_records v.events ++ l) (record_won at word 0 refl)) in
      let cells : won_cells w.events ≡ won_cells v.events = ap won_cells events ∙ gathered_same won_cell v.events (TriedLog at word 0) refl in
      let longer : placed 1 (log ++ word ∷ []) ≡ placed 1 log ++ one = placed_push 1 log word at (omega arith) in
      record {
        records = λ p x h. subst (λ (l : List ℕ). 0 < times (author_of x) l) (sym same) (⊎_elim (o.records p x)
            (λ (t : Has one p x). ⊎_elim (λ (u : (at ≡ p) × (word ≡ x)). subst (λ (z : ℕ). 0 < times (author_of z) v.authors) u.1 by) (λ u. absurd u) t)
            (has_either (won_records v.events) one p x (subst (λ (l : Map). Has l p x) records h)));
        cells = λ p x h. subst (λ (l : List ℕ). 0 < length l) (sym same) (o.cells p x (subst (λ (l : Map). Has l p x) cells h));
        order = λ b has. ap (only_by b) records ∙ (only_by-append b (won_records v.events) one
            ∙ (ap (λ (l : Map). l ++ only_by b one) (o.order b (subst (λ (l : List ℕ). 0 < times b l) same has))
            ∙ (sym (only_by-append b (placed 1 log) one) ∙ ap (only_by b) (sym longer))));
      }

  -- a record of another author
  owns_other : (log : List ℕ) (u : View) (word : ℕ) → times (author_of word) u.authors ≡ 0 → Owns log u → Owns (log ++ word ∷ []) u
  owns_other log u word none o =
      let at : ℕ = suc (length log) in
      let one : Map = (at, word) ∷ [] in
      let longer : placed 1 (log ++ word ∷ []) ≡ placed 1 log ++ one = placed_push 1 log word at (omega arith) in
      record {
        records = o.records;
        cells = o.cells;
        order = λ b has. o.order b has ∙ sym (ap (only_by b) longer ∙ (only_by-append b (placed 1 log) one ∙ (ap (λ (l : Map). only_by b (placed 1 log) ++ l)
            (only_none b one (λ p x h e. ⊎_elim (λ (t : (at ≡ p) × (word ≡ x)). let same : times b u.authors ≡ 0 = ap (λ (z : ℕ). times z u.authors) (sym e ∙ ap author_of (sym t.1)) ∙ none in omega arith) (λ t. absurd t) h))
            ∙ append-nil (only_by b (placed 1 log)))));
      }

  put_log_keeps_won : (base : List ℕ) (count : ℕ) (words : Words) (views : List View) (j : ℕ) (v : View) (k word : ℕ) → (g : Good m base count words views) → get_elem? views j ≡ some v → v.spent ≡ false
      → k < length words.log → MayPutLog v (suc k) word → get_or words.log k 0 ≡ 0
      → Good m base count (record words { log = set words.log k word }) (set views j (record v { log = grown v.log k word; events = v.events ++ TriedLog (suc k) word 0 ∷ [] }))
  put_log_keeps_won base count words views j v k word g at live room may none =
      let f = g.fits j v at live in
      let long = prefix_length v.log g.log f.seen in
      let end : k ≡ length g.log = ⊎_elim
      (λ (lt : k < length g.log). let r = (g.is_log.each k lt).0.marked in let z = g.is_log.here k in absurd (omega arith))
      (λ (ge : length g.log ≤ k). let b = may.below in omega arith)
      (cases_lt k (length g.log)) in
      let log' : List ℕ = g.log ++ word ∷ [] in
      let longer : IsPrefix g.log log' = ((word ∷ []), refl) in
      let words' : Words = record words { log = set words.log k word } in
      let grows = log_grows words.log g.log k word g.is_log end room may.reads in
      let w : View = record v { log = grown v.log k word; events = v.events ++ TriedLog (suc k) word 0 ∷ [] } in
      let at_end : suc k ≡ suc (length g.log) = ap suc end in
      let one : Map = (suc k, word) ∷ [] in
      changes base count words words' views j w log' g
      (record { log = length-set words.log k word ∙ g.sized.log; keys = g.sized.keys; ids = g.sized.ids; cells = g.sized.cells })
      grows g.are_cells
      (memos_grow m laws base g.log log' words words' longer refl refl (λ p x h. h) g.memos)
      (record { keys = λ i x e full. e; cells = λ p x h. h })
      longer
      (λ _. record { same_base = f.same_base; same_count = f.same_count; seen = grown_prefix v.log log' k word (prefix_trans v.log g.log log' f.seen longer) (sym (get_or-set_same words.log k word 0 room) ∙ grows.here k); keys = f.keys; cells = f.cells; closed = f.closed; olds = olds_grow v w (grown_longer v.log k word) (λ p x h. h) (λ p x h. h) v.olds f.olds })
      (won_changes count g.log log' words words' views j v w g.won at
      (owns_put g.log v w (suc k) word at_end refl refl may.by (g.won.owned j v at))
      (λ i u ne there o. owns_other g.log u word (not_both count g.log words views j v i u g.won at there ne (author_of word) may.by) o)
      (λ p x.
      let a : entries p x (won_records w.events) ≡ entries p x (won_records v.events ++ one) = ap (entries p x) (gathered_push won_record v.events (TriedLog (suc k) word 0) ∙ ap (λ (l : Map). won_records v.events ++ l) (record_won (suc k) word 0 refl)) in
      let b = entries-append p x (won_records v.events) one in
      let c : entries p x (placed 1 log') ≡ entries p x (placed 1 g.log ++ one) = ap (entries p x) (placed_push 1 g.log word (suc k) (omega arith)) in
      let d = entries-append p x (placed 1 g.log) one in
      omega arith)
      (λ p x. let a : entries p x (won_cells w.events) ≡ entries p x (won_cells v.events) = ap (entries p x) (gathered_same won_cell v.events (TriedLog (suc k) word 0) refl) in omega arith)
      refl)

  put_log_keeps_lost : (base : List ℕ) (count : ℕ) (words : Words) (views : List View) (j : ℕ) (v : View) (k word n : ℕ) → (g : Good m base count words views) → get_elem? views j ≡ some v → v.spent ≡ false
      → n ≡ get_or words.log k 0 → (n ≡ 0 → ⊥)
      → Good m base count words (set views j (record v { log = grown v.log k n; events = v.events ++ TriedLog (suc k) word n ∷ [] }))
  put_log_keeps_lost base count words views j v k word n g at live is full =
      let f = g.fits j v at live in
      let w : View = record v { log = grown v.log k n; events = v.events ++ TriedLog (suc k) word n ∷ [] } in
      changes base count words words views j w g.log g g.sized g.is_log g.are_cells g.memos (all_stay words) (prefix_self g.log)
      (λ _. record { same_base = f.same_base; same_count = f.same_count; seen = grown_prefix v.log g.log k n f.seen (is ∙ g.is_log.here k); keys = f.keys; cells = f.cells; closed = f.closed; olds = olds_grow v w (grown_longer v.log k n) (λ p x h. h) (λ p x h. h) v.olds f.olds })
      (won_quiet count g.log words words views j v w (TriedLog (suc k) word n) g.won at refl refl (record_lost (suc k) word n full) (λ p x h. absurd h) (λ p x. omega arith))

  put_log_keeps : (base : List ℕ) (count : ℕ) (words : Words) (views : List View) (j : ℕ) (v : View) (k word : ℕ) → Good m base count words views → get_elem? views j ≡ some v → v.spent ≡ false
      → k < length words.log → MayPutLog v (suc k) word
      → Good m base count (record words { log = set words.log k (put_found (get_or words.log k 0) word) })
      (set views j (record v { log = grown v.log k (put_found (get_or words.log k 0) word); events = v.events ++ TriedLog (suc k) word (get_or words.log k 0) ∷ [] }))
  put_log_keeps base count words views j v k word g at live room may =
      let n : ℕ = get_or words.log k 0 in
      ⊎_elim
      (λ (none : n ≡ 0).
      let is = put_won n word none in
      subst (λ (z : ℕ × ℕ). Good m base count (record words { log = set words.log k z.0 }) (set views j (record v { log = grown v.log k z.0; events = v.events ++ TriedLog (suc k) word z.1 ∷ [] }))) (λ i. (sym is i, sym none i))
      (put_log_keeps_won base count words views j v k word g at live room may none))
      (λ (full : n ≡ 0 → ⊥).
      let is = put_lost n word full in
      subst (λ (z : ℕ × List ℕ). Good m base count (record words { log = z.1 }) (set views j (record v { log = grown v.log k z.0; events = v.events ++ TriedLog (suc k) word n ∷ [] }))) (λ i. (sym is i, sym (ap (set words.log k) is ∙ set-get_or words.log k 0) i))
      (put_log_keeps_lost base count words views j v k word n g at live refl full))
      (cases_eq n 0)

  pub put_at_keeps : (base : List ℕ) (count : ℕ) (words : Words) (views : List View) (j : ℕ) (v : View) (at word : ℕ) → Good m base count words views → get_elem? views j ≡ some v → v.spent ≡ false
      → (1 ≤ at) × (at ≤ length words.log) → MayPutLog v at word
      → Good m base count (record words { log = set words.log (at - 1) (put_found (get_or words.log (at - 1) 0) word) })
      (set views j (record v { log = grown v.log (at - 1) (put_found (get_or words.log (at - 1) 0) word); events = v.events ++ TriedLog at word (get_or words.log (at - 1) 0) ∷ [] }))
  put_at_keeps base count words views j v at word g here live room may =
      let k : ℕ = at - 1 in
      let least = room.0 in
      let greatest = room.1 in
      let e : suc k ≡ at = omega arith in
      subst (λ (z : ℕ). Good m base count (record words { log = set words.log k (put_found (get_or words.log k 0) word) }) (set views j (record v { log = grown v.log k (put_found (get_or words.log k 0) word); events = v.events ++ TriedLog z word (get_or words.log k 0) ∷ [] }))) e
      (put_log_keeps base count words views j v k word g here live (omega arith) (subst (λ (z : ℕ). MayPutLog v z word) (sym e) may))

  -- ---- keys, ids and loads of cells

  -- log and cells stay, and nothing is won
  quiet : (base : List ℕ) (count : ℕ) (words words' : Words) (views : List View) (j : ℕ) (v w : View) (a : Access) (g : Good m base count words views) → get_elem? views j ≡ some v
      → words'.log ≡ words.log → words'.cells ≡ words.cells → AreSized words' → AreMemos m base g.log words' → Stay words words'
      → (w.spent ≡ false → Fits base count g.log words' w)
      → w.events ≡ v.events ++ a ∷ [] → w.authors ≡ v.authors → won_record a ≡ [] → won_cell a ≡ []
      → Good m base count words' (set views j w)
  quiet base count words words' views j v w a g at same_log same_cells sized memos stay fits events same no_record no_cell =
      changes base count words words' views j w g.log g sized
      (subst (λ (l : List ℕ). IsLog l g.log) (sym same_log) g.is_log)
      (subst AreCells (sym same_cells) g.are_cells)
      memos stay (prefix_self g.log) fits
      (won_quiet count g.log words words' views j v w a g.won at events same no_record
      (λ p x h. absurd (subst (λ (l : Map). Has l p x) no_cell h))
      (λ p x. let e : entries p x (won_cell a) ≡ entries p x [] = ap (entries p x) no_cell in let c : entries p x (full_places words.cells) ≡ entries p x (full_places words'.cells) = ap (λ (l : List ℕ). entries p x (full_places l)) (sym same_cells) in omega arith))

  -- a view's key is a key of the state
  pub key_now : (base : List ℕ) (count : ℕ) (log : List ℕ) (words : Words) (v : View) (key : ℕ) → Fits base count log words v → IsKeyAt m v.base v.log key → IsKeyAt m base log key
  key_now base count log words v key f is = key_grows m laws base v.log log key f.seen (subst (λ (b : List ℕ). IsKeyAt m b v.log key) f.same_base is)

  -- the keys of a view that found the word x in the key place k
  keys_fit : (base : List ℕ) (count : ℕ) (log : List ℕ) (words : Words) (v : View) (k x : ℕ) (a : Access) → Fits base count log words v → ((x ≡ 0 → ⊥) → get_or words.keys k 0 ≡ x)
      → Fits base count log words (record v { keys = gained v.keys k x; events = v.events ++ a ∷ [] })
  keys_fit base count log words v k x a f here =
      let w : View = record v { keys = gained v.keys k x; events = v.events ++ a ∷ [] } in record {
        same_base = f.same_base;
        same_count = f.same_count;
        seen = f.seen;
        keys = λ i y has. ⊎_elim (f.keys i y)
            (λ (t : (k ≡ i) × (x ≡ y) × (x ≡ 0 → ⊥)). let full = t.2 in (subst (λ (z : ℕ × ℕ). get_or words.keys z.0 0 ≡ z.1) (λ q. (t.0 q, t.1 q)) (here full), λ z. full (t.1 ∙ z)))
            (gained_has v.keys k x i y has);
        cells = f.cells;
        closed = f.closed;
        olds = olds_grow v w (prefix_self v.log) (gained_keeps v.keys k x) (λ p y h. h) v.olds f.olds;
      }

  pub load_key_keeps : (base : List ℕ) (count : ℕ) (words : Words) (views : List View) (j : ℕ) (v : View) (k : ℕ) → Good m base count words views → get_elem? views j ≡ some v → v.spent ≡ false
      → Good m base count words (set views j (record v { keys = gained v.keys k (get_or words.keys k 0); events = v.events ++ Loaded (Key k) (get_or words.keys k 0) ∷ [] }))
  load_key_keeps base count words views j v k g at live =
      let n : ℕ = get_or words.keys k 0 in
      let w : View = record v { keys = gained v.keys k n; events = v.events ++ Loaded (Key k) n ∷ [] } in
      quiet base count words words views j v w (Loaded (Key k) n) g at refl refl g.sized g.memos (all_stay words)
      (λ _. keys_fit base count g.log words v k n (Loaded (Key k) n) (g.fits j v at live) (λ _. refl))
      refl refl refl refl

  pub put_key_keeps : (base : List ℕ) (count : ℕ) (words : Words) (views : List View) (j : ℕ) (v : View) (k word : ℕ) → Good m base count words views → get_elem? views j ≡ some v → v.spent ≡ false
      → k < length words.keys → IsKeyAt m v.base v.log word
      → Good m base count (record words { keys = set words.keys k (put_found (get_or words.keys k 0) word) })
      (set views j (record v { keys = gained v.keys k (put_found (get_or words.keys k 0) word); events = v.events ++ TriedKey k word (get_or words.keys k 0) ∷ [] }))
  put_key_keeps base count words views j v k word g at live room is =
      let n : ℕ = get_or words.keys k 0 in
      let x : ℕ = put_found n word in
      let words' : Words = record words { keys = set words.keys k x } in
      let w : View = record v { keys = gained v.keys k x; events = v.events ++ TriedKey k word n ∷ [] } in
      let f = g.fits j v at live in
      let stay : Stay words words' = record { keys = λ i y e full. put_leaves words.keys i k word y e full; cells = λ p y h. h } in
      let long : length words'.keys ≡ length words.keys = length-set words.keys k x in
      quiet base count words words' views j v w (TriedKey k word n) g at refl refl
      (record { log = g.sized.log; keys = subst IsSize (sym long) g.sized.keys; ids = g.sized.ids ∙ sym long; cells = g.sized.cells })
      (memos_key m laws base g.log words k word (key_now base count g.log words v word f is) g.memos)
      stay
      (λ _. keys_fit base count g.log words' v k x (TriedKey k word n) (refit base count g.log g.log words words' v (prefix_self g.log) stay f) (λ _. put_stands words.keys k word room))
      refl refl refl refl

  -- the cells of a view after an event
  record Better (all had now : Map) : Type 0 where
    keeps : Within had now
    known : Within now all
    closed : IsClosed now

  as_it_was : (all had now : Map) → Within had all → IsClosed had → now ≡ had → Better all had now
  as_it_was all had now known closed e = subst (Better all had) (sym e) (record { keeps = λ p x h. h; known = known; closed = closed })

  found : (all had : Map) (n id : ℕ) (now : Map) → Within had all → IsClosed had → (n ≡ 0 → now ≡ had) → ((n ≡ 0 → ⊥) → Learns all had id now) → Better all had now
  found all had n id now known closed empty full = ⊎_elim
      (λ (z : n ≡ 0). as_it_was all had now known closed (empty z))
      (λ (ne : n ≡ 0 → ⊥). let l = full ne in record { keeps = l.keeps; known = l.known; closed = l.closed })
      (cases_eq n 0)

  cells_fit : (base : List ℕ) (count : ℕ) (log : List ℕ) (words : Words) (v : View) (a : Access) (now : Map) → Fits base count log words v → Better (full_places words.cells) v.cells now
      → Fits base count log words (record v { cells = now; events = v.events ++ a ∷ [] })
  cells_fit base count log words v a now f b =
      let w : View = record v { cells = now; events = v.events ++ a ∷ [] } in record {
        same_base = f.same_base;
        same_count = f.same_count;
        seen = f.seen;
        keys = f.keys;
        cells = b.known;
        closed = b.closed;
        olds = olds_grow v w (prefix_self v.log) (λ p x h. h) b.keeps v.olds f.olds;
      }

  -- the ids may change, and one view's cells grow
  on_ids : (base : List ℕ) (count : ℕ) (words : Words) (ids : List ℕ) (views : List View) (j : ℕ) (v : View) (a : Access) (now : Map) (g : Good m base count words views) → get_elem? views j ≡ some v → v.spent ≡ false
      → length ids ≡ length words.ids → AreMemos m base g.log (record words { ids = ids }) → Better (full_places words.cells) v.cells now → won_record a ≡ [] → won_cell a ≡ []
      → Good m base count (record words { ids = ids }) (set views j (record v { cells = now; events = v.events ++ a ∷ [] }))
  on_ids base count words ids views j v a now g at live long memos b no_record no_cell =
      let words' : Words = record words { ids = ids } in
      let w : View = record v { cells = now; events = v.events ++ a ∷ [] } in
      let stay : Stay words words' = record { keys = λ k x e full. e; cells = λ p x h. h } in
      quiet base count words words' views j v w a g at refl refl
      (record { log = g.sized.log; keys = g.sized.keys; ids = long ∙ g.sized.ids; cells = g.sized.cells })
      memos stay
      (λ _. cells_fit base count g.log words' v a now (refit base count g.log g.log words words' v (prefix_self g.log) stay (g.fits j v at live)) b)
      refl refl no_record no_cell

  pub load_id_keeps : (base : List ℕ) (count : ℕ) (words : Words) (views : List View) (j : ℕ) (v : View) (k : ℕ) (now : Map) → Good m base count words views → get_elem? views j ≡ some v → v.spent ≡ false
      → FindsId (full_places words.cells) v.cells (get_or words.ids k 0) now
      → Good m base count words (set views j (record v { cells = now; events = v.events ++ Loaded (Id k) (get_or words.ids k 0) ∷ [] }))
  load_id_keeps base count words views j v k now g at live finds =
      let f = g.fits j v at live in
      let n : ℕ = get_or words.ids k 0 in
      on_ids base count words words.ids views j v (Loaded (Id k) n) now g at live refl g.memos (found (full_places words.cells) v.cells n (id_of n) now f.cells f.closed finds.0 finds.1) refl refl

  pub load_cell_keeps : (base : List ℕ) (count : ℕ) (words : Words) (views : List View) (j : ℕ) (v : View) (k : ℕ) (now : Map) → Good m base count words views → get_elem? views j ≡ some v → v.spent ≡ false
      → FindsCell (full_places words.cells) v.cells k (get_or words.cells k 0) now
      → Good m base count words (set views j (record v { cells = now; events = v.events ++ Loaded (Cell k) (get_or words.cells k 0) ∷ [] }))
  load_cell_keeps base count words views j v k now g at live finds =
      let f = g.fits j v at live in
      let n : ℕ = get_or words.cells k 0 in
      on_ids base count words words.ids views j v (Loaded (Cell k) n) now g at live refl g.memos (found (full_places words.cells) v.cells n k now f.cells f.closed finds.0 finds.1) refl refl

  pub put_id_keeps : (base : List ℕ) (count : ℕ) (words : Words) (views : List View) (j : ℕ) (v : View) (k word : ℕ) (now : Map) → Good m base count words views → get_elem? views j ≡ some v → v.spent ≡ false
      → MayPutId m v k word → FindsId (full_places words.cells) v.cells (get_or words.ids k 0) now
      → Good m base count (record words { ids = set words.ids k (put_found (get_or words.ids k 0) word) }) (set views j (record v { cells = now; events = v.events ++ TriedId k word (get_or words.ids k 0) ∷ [] }))
  put_id_keeps base count words views j v k word now g at live may finds =
      let f = g.fits j v at live in
      let n : ℕ = get_or words.ids k 0 in
      let t = f.keys k may.key may.has in
      let full = t.1 in
      let lifted : m.stand base g.log (full_places words.cells) may.key (id_of word) =
      laws.stays base v.log g.log v.cells (full_places words.cells) may.key (id_of word) f.seen f.cells (subst (λ (b : List ℕ). m.stand b v.log v.cells may.key (id_of word)) f.same_base may.together) in
      let new : IsIdAt m base g.log words (get_or words.keys k 0) word = record {
        is_id = may.is_id;
        key_full = λ z. full (sym t.0 ∙ z);
        together = subst (λ (z : ℕ). m.stand base g.log (full_places words.cells) z (id_of word)) (sym t.0) lifted;
      } in
      on_ids base count words (set words.ids k (put_found n word)) views j v (TriedId k word n) now g at live (length-set words.ids k (put_found n word))
      (memos_id m laws base g.log words k word new g.memos)
      (found (full_places words.cells) v.cells n (id_of n) now f.cells f.closed finds.0 finds.1)
      refl refl

  pub clear_id_keeps : (base : List ℕ) (count : ℕ) (words : Words) (views : List View) (j : ℕ) (v : View) (k old : ℕ) (now : Map) → Good m base count words views → get_elem? views j ≡ some v → v.spent ≡ false
      → (get_or words.ids k 0 ≡ old → now ≡ v.cells) → ((get_or words.ids k 0 ≡ old → ⊥) → FindsId (full_places words.cells) v.cells (get_or words.ids k 0) now)
      → Good m base count (record words { ids = set words.ids k (clear_found (get_or words.ids k 0) old) }) (set views j (record v { cells = now; events = v.events ++ TriedClear k old (get_or words.ids k 0) ∷ [] }))
  clear_id_keeps base count words views j v k old now g at live won lost =
      let f = g.fits j v at live in
      let n : ℕ = get_or words.ids k 0 in
      on_ids base count words (set words.ids k (clear_found n old)) views j v (TriedClear k old n) now g at live (length-set words.ids k (clear_found n old))
      (memos_clear m laws base g.log words k old g.memos)
      (⊎_elim
      (λ (e : n ≡ old). as_it_was (full_places words.cells) v.cells now f.cells f.closed (won e))
      (λ (ne : n ≡ old → ⊥). let finds = lost ne in found (full_places words.cells) v.cells n (id_of n) now f.cells f.closed finds.0 finds.1)
      (cases_eq n old))
      refl refl

  -- ---- puts of cells

  put_cell_keeps_won : (base : List ℕ) (count : ℕ) (words : Words) (views : List View) (j : ℕ) (v : View) (at word : ℕ) → Good m base count words views → get_elem? views j ≡ some v → v.spent ≡ false
      → at < length words.cells → MayPutCell (length words.cells) v at word → get_or words.cells at 0 ≡ 0
      → Good m base count (record words { cells = set words.cells at word }) (set views j (record v { cells = (at, word) ∷ v.cells; events = v.events ++ TriedCell at word 0 ∷ [] }))
  put_cell_keeps_won base count words views j v at word g here live room may none =
      let f = g.fits j v here live in
      let now : Map = (at, word) ∷ v.cells in
      let words' : Words = record words { cells = set words.cells at word } in
      let w : View = record v { cells = now; events = v.events ++ TriedCell at word 0 ∷ [] } in
      let size = g.sized.cells in
      let l = learned words.cells v.cells at word g.are_cells size room f.cells may.part.0 may.part.1 may.passed none in
      let real = filled_real words.cells v.cells at word g.are_cells size room f.cells may.part.0 may.part.1 may.passed none in
      let more = filled_stay words.cells v.cells at word g.are_cells size room f.cells may.part.0 may.part.1 may.passed none in
      let stay : Stay words words' = record { keys = λ k x e full. e; cells = more } in
      let better : Better (full_places words'.cells) v.cells now = record { keeps = l.0; known = l.1; closed = l.2 f.closed } in
      let one : Map = (at, word) ∷ [] in
      changes base count words words' views j w g.log g
      (record { log = g.sized.log; keys = g.sized.keys; ids = g.sized.ids; cells = subst IsSize (sym (length-set words.cells at word)) size })
      g.is_log
      (filled words.cells v.cells at word g.are_cells size room f.cells may.part.0 may.part.1 may.passed none)
      (memos_grow m laws base g.log g.log words words' (prefix_self g.log) refl refl more g.memos)
      stay (prefix_self g.log)
      (λ _. cells_fit base count g.log words' v (TriedCell at word 0) now (refit base count g.log g.log words words' v (prefix_self g.log) stay f) better)
      (won_quiet count g.log words words' views j v w (TriedCell at word 0) g.won here refl refl refl (λ p x h. may.author)
      (λ p x.
      let t = full_total (is_entry p x) 0 words.cells at word none room real in
      let e : entries p x (won_cell (TriedCell at word 0)) ≡ entries p x one = ap (entries p x) (cell_won at word 0 refl) in
      let place : 0 + at ≡ at = omega arith in
      let c : is_entry p x (0 + at, word) ≡ is_entry p x (at, word) = ap (λ (z : ℕ). is_entry p x (z, word)) place in
      omega arith))

  put_cell_keeps_lost : (base : List ℕ) (count : ℕ) (words : Words) (views : List View) (j : ℕ) (v : View) (at word n : ℕ) (now : Map) → Good m base count words views → get_elem? views j ≡ some v → v.spent ≡ false
      → (n ≡ 0 → ⊥) → Learns (full_places words.cells) v.cells at now
      → Good m base count words (set views j (record v { cells = now; events = v.events ++ TriedCell at word n ∷ [] }))
  put_cell_keeps_lost base count words views j v at word n now g here live full l =
      on_ids base count words words.ids views j v (TriedCell at word n) now g here live refl g.memos (record { keeps = l.keeps; known = l.known; closed = l.closed }) refl (cell_lost at word n full)

  pub put_cell_keeps : (base : List ℕ) (count : ℕ) (words : Words) (views : List View) (j : ℕ) (v : View) (at word : ℕ) (now : Map) → Good m base count words views → get_elem? views j ≡ some v → v.spent ≡ false
      → at < length words.cells → MayPutCell (length words.cells) v at word
      → (get_or words.cells at 0 ≡ 0 → now ≡ (at, word) ∷ v.cells) → ((get_or words.cells at 0 ≡ 0 → ⊥) → Learns (full_places words.cells) v.cells at now)
      → Good m base count (record words { cells = set words.cells at (put_found (get_or words.cells at 0) word) })
      (set views j (record v { cells = now; events = v.events ++ TriedCell at word (get_or words.cells at 0) ∷ [] }))
  put_cell_keeps base count words views j v at word now g here live room may won lost =
      let n : ℕ = get_or words.cells at 0 in
      ⊎_elim
      (λ (none : n ≡ 0).
      let is = put_won n word none in
      let e = won none in
      subst (λ (z : ℕ × ℕ × Map). Good m base count (record words { cells = set words.cells at z.0 }) (set views j (record v { cells = z.2; events = v.events ++ TriedCell at word z.1 ∷ [] }))) (λ i. (sym is i, sym none i, sym e i))
      (put_cell_keeps_won base count words views j v at word g here live room may none))
      (λ (full : n ≡ 0 → ⊥).
      let is = put_lost n word full in
      subst (λ (z : List ℕ). Good m base count (record words { cells = z }) (set views j (record v { cells = now; events = v.events ++ TriedCell at word n ∷ [] }))) (sym (ap (set words.cells at) is ∙ set-get_or words.cells at 0))
      (put_cell_keeps_lost base count words views j v at word n now g here live full (lost full)))
      (cases_eq n 0)

  -- ---- what a full id place gives to a view that has its key, and the key's version

  pub found_stands : (base : List ℕ) (count : ℕ) (words : Words) (views : List View) (j : ℕ) (v : View) (k key : ℕ) (now : Map) → Good m base count words views → get_elem? views j ≡ some v → v.spent ≡ false
      → Has v.keys k key → version_of key ≤ length v.log → (get_or words.ids k 0 ≡ 0 → ⊥) → Learns (full_places words.cells) v.cells (id_of (get_or words.ids k 0)) now
      → m.stand v.base v.log now key (id_of (get_or words.ids k 0))
  found_stands base count words views j v k key now g at live has holds full learns =
      let f = g.fits j v at live in
      let id : ℕ = id_of (get_or words.ids k 0) in
      let t = (g.memos.ids k full).together in
      let here : m.stand base g.log (full_places words.cells) key id = subst (λ (z : ℕ). m.stand base g.log (full_places words.cells) z id) (f.keys k key has).0 t in
      subst (λ (b : List ℕ). m.stand b v.log now key id) (sym f.same_base)
      (laws.shrinks base v.log g.log now (full_places words.cells) key id f.seen holds (full_map words.cells) learns.known learns.closed learns.has here)
