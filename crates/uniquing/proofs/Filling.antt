-- What a put of a cell fills.
use Rattle.std.proofs.Common.{◌≡◌, ◌≢◌, ℕ, List, [], ◌∷◌, refl, sym, subst, inl, ⊎_elim, Ok, Err}
use Rattle.std.proofs.lemmas.Bool.{cases_eq}
use Rattle.step_core.specs.declared.view.View.{View}
use Rattle.step_core.specs.declared.view.Access.{Access}
use Rattle.step_core.specs.declared.view.Access.TheVariants.{Loaded, TriedCell}
use Rattle.step_core.specs.declared.words.Place.TheVariants.{Cell}
use Rattle.step_core.specs.Accesses.{won_cell, won_cells}
use Rattle.step_core.specs.Answers.{put_found}
use Rattle.step_core.specs.Cells.{WordStands}
use Rattle.step_core.specs.Maps.{AllOf, Map, Has}
use Rattle.step_core.specs.Meaning.{Meaning}
use Rattle.step_core.specs.Parts.{Part, leaf, one, two, IsPartOf}
use Rattle.step_core.proofs.Lists.{all_append}
use Rattle.step_core.proofs.SameParts.{word_of}
use Rattle.step_core.proofs.Slots.{has_either, put_won}
use Rattle.step_core.proofs.Standing.{word_more, word_at}
use Rattle.step_core.proofs.Wins.{cell_won, cell_lost}
use Rattle.shared_table.specs.declared.answers.CellPut.{CellPut}
use Rattle.shared_table.specs.declared.answers.CellPut.TheVariants.{Home, Full}
use Rattle.shared_table.specs.declared.sizes.Sizes.{Sizes}
use Rattle.shared_table.specs.declared.sizes.SizedView.{SizedView}
use Rattle.shared_table.specs.CellPuts.{path_place, Visits, Passes, start, further, Probes, PutsAlong, AreOthers, GainsCells}
use Rattle.shared_table.specs.Known.{IsSeen}
use Rattle.shared_table.specs.Made.{Makes, MakesAll}
use Rattle.shared_table.proofs.Probing.{load_gains, put_gains, gains_both}
use Rattle.uniquing.specs.declared.interning.CellsFull.{CellsFull}
use Rattle.uniquing.specs.Interned.{FillsParts, Lacks, Interned}
use Rattle.uniquing.proofs.Seeing.{seen_map, seen_once, seen_inside}

-- a visit of a cell, or a try of this word there
pub data IsVisitOf (word : ℕ) : Access → Type 0 where
  loads : (at n : ℕ) → IsVisitOf word (Loaded (Cell at) n)
  tries : (at n : ℕ) → IsVisitOf word (TriedCell at word n)

visit_only : (at word now : ℕ) (es : List Access) → Visits at word now es → AllOf (IsVisitOf word) es
visit_only at word now es v = ⊎_elim
    (λ (t : (es ≡ Loaded (Cell at) now ∷ []) × (now ≢ 0)). subst (AllOf (IsVisitOf word)) (sym t.0) (loads at now, tt))
    (λ (t : (n : ℕ) × (es ≡ Loaded (Cell at) 0 ∷ TriedCell at word n ∷ []) × (now ≡ put_found n word)). subst (AllOf (IsVisitOf word)) (sym t.1) (loads at 0, (tries at t.0, tt)))
    v

passes_only : (size word k : ℕ) (es : List Access) → Passes size word k es → AllOf (IsVisitOf word) es
passes_only size word k es start = tt
passes_only size word k es (further n now before here p v ne) = all_append (IsVisitOf word) before here (passes_only size word n before p) (visit_only (path_place size word n) word now here v)

pub put_only : (size word : ℕ) (end : CellPut) (es : List Access) → Probes size word end es → AllOf (IsVisitOf word) es
put_only size word (Home id) es p = subst (AllOf (IsVisitOf word)) (sym p.all) (all_append (IsVisitOf word) p.before p.here (passes_only size word p.k p.before p.passed) (visit_only id word word p.here p.visit))
put_only size word Full es p = passes_only size word size es p

pub itself_part : (p : Part) → IsPartOf p p
itself_part (leaf n) = refl
itself_part (one tag a) = inl refl
itself_part (two a b) = inl refl

pub gains_none : (v : View) → GainsCells v v
gains_none v = record { rest = refl; cells = λ at x h. h }

-- the same with the sizes of the table
pub seen_for : (v : View) (y z : Sizes) → y ≡ z → IsSeen (record { view = v; sizes = y }) → IsSeen (record { view = v; sizes = z })
seen_for v y z e s = subst (λ (x : Sizes). IsSeen (record { view = v; sizes = x })) e s

module _ (m : Meaning) where
  one_gain : (word : ℕ) (u v : View) (e : Access) → IsVisitOf word e → Makes m u e v → GainsCells u v
  one_gain word u v e (loads at n) k = load_gains u v at n k
  one_gain word u v e (tries at n) k = put_gains u v word at n k

  pub visits_gain : (word : ℕ) (u w : View) (es : List Access) → MakesAll m u es w → AllOf (IsVisitOf word) es → GainsCells u w
  visits_gain word u w [] s o = subst (λ (z : View). GainsCells z w) s (gains_none w)
  visits_gain word u w (e ∷ es) s o = gains_both u s.0 w (one_gain word u s.0 e o.0 s.1) (visits_gain word s.0 w es s.2 o.1)

  -- a cell that was won has the word
  one_won : (word : ℕ) (u v : View) (e : Access) → IsVisitOf word e → Makes m u e v → (at x : ℕ) → Has (won_cell e) at x → Has v.cells at word
  one_won word u v e (loads i n) k at x h = absurd h
  one_won word u v e (tries i n) k at x h = ⊎_elim
      (λ (z : n ≡ 0).
      let here : Has v.cells i word = subst (λ (y : ℕ). Has v.cells i y) (put_won n word z) k.has in
      ⊎_elim
      (λ (t : (i ≡ at) × (word ≡ x)). subst (λ (j : ℕ). Has v.cells j word) t.0 here)
      (λ (t : Has [] at x). absurd t)
      (subst (λ (l : Map). Has l at x) (cell_won i word n z) h))
      (λ (ne : n ≡ 0 → ⊥). absurd (subst (λ (l : Map). Has l at x) (cell_lost i word n ne) h))
      (cases_eq n 0)

  pub put_fills : (word : ℕ) (part : Part) (u w : View) (es : List Access) → MakesAll m u es w → AllOf (IsVisitOf word) es → WordStands w.cells word part → FillsParts w part es
  put_fills word part u w [] s o ws = λ at x h. absurd h
  put_fills word part u w (e ∷ es) s o ws = λ at x h. ⊎_elim
      (λ (t : Has (won_cell e) at x).
      let here = one_won word u s.0 e o.0 s.1 at x t in
      let later = (visits_gain word s.0 w es s.2 o.1).cells at word here in
      (part, itself_part part, word_at w.cells at word part later ws))
      (λ (t : Has (won_cells es) at x). put_fills word part s.0 w es s.2 o.1 ws at x t)
      (has_either (won_cell e) (won_cells es) at x h)

  module _ (z : Sizes) (u w : View) (word : ℕ) (part : Part) (seen : IsSeen (record { view = w; sizes = z })) (ws : WordStands u.cells word part) (g : GainsCells u w) where
    later : WordStands w.cells word part
    later = word_more u.cells w.cells g.cells word part ws

    lacks : AreOthers z.cells w word → Lacks z.cells w.cells part
    lacks other = record {
      full = λ j lt. let o = other j lt in (o.0, o.1);
      part = part;
      is_part = itself_part part;
      nowhere = λ j s.
          let sized : SizedView = record { view = w; sizes = z } in
          let has : Has w.cells j word = word_of w.cells (seen_once sized seen) part word j later s in
          let o = other j (seen_inside sized seen j word has) in
          o.2 (seen_map sized seen j o.0 word o.1 has);
    }

    pub put_home : (id : ℕ) → Has w.cells id word → PutsAlong m z u word (Home id) w → Interned m z u part (Ok id) w
    put_home id has e = record {
      gains = g;
      events = e.0;
      makes = e.1;
      fills = put_fills word part u w e.0 e.1 (put_only z.cells word (Home id) e.0 e.2) later;
      ends = word_at w.cells id word part has later;
    }

    pub put_full : (f : CellsFull) → AreOthers z.cells w word → PutsAlong m z u word Full w → Interned m z u part (Err f) w
    put_full f other e = record {
      gains = g;
      events = e.0;
      makes = e.1;
      fills = put_fills word part u w e.0 e.1 (put_only z.cells word Full e.0 e.2) later;
      ends = (lacks other, record { part = part; is_part = itself_part part; word = word; stands = later; before = []; tries = e.0; all = refl; passes = e.2 });
    }
