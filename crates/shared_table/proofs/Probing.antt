-- A word along its path.
use Rattle.std.proofs.Common.{◌≡◌, ◌≢◌, ℕ, suc, ◌+◌, ◌-◌, ◌<◌, ◌≤◌, List, [], ◌∷◌, ◌++◌, length, sym, refl, ap, ◌∙◌, subst, ⊎_elim, inl, inr, arith}
use Rattle.std.proofs.lemmas.Bool.{cases_eq, cases_lt}
use Rattle.std.proofs.Math.Nat.{mod-lt}
use Rattle.step_core.specs.declared.view.View.{View}
use Rattle.step_core.specs.declared.view.Access.{Access}
use Rattle.step_core.specs.declared.view.Access.TheVariants.{Loaded, TriedCell}
use Rattle.step_core.specs.declared.words.Place.TheVariants.{Cell}
use Rattle.step_core.specs.Words.{IsSize}
use Rattle.step_core.specs.Maps.{Map, Has, Within}
use Rattle.step_core.specs.Meaning.{Meaning}
use Rattle.step_core.specs.Paths.{start_of, distance}
use Rattle.step_core.specs.Answers.{put_found}
use Rattle.step_core.specs.Events.{MayPutCell}
use Rattle.step_core.proofs.Hashing.{distance_is, distance_apart}
use Rattle.step_core.proofs.Standing.{word_more}
use Rattle.shared_table.specs.declared.sizes.Sizes.{Sizes}
use Rattle.shared_table.specs.declared.sizes.SizedView.{SizedView}
use Rattle.shared_table.specs.declared.answers.CellPut.TheVariants.{Home}
use Rattle.shared_table.specs.Known.{IsSeen}
use Rattle.shared_table.specs.Made.{MakesAll}
use Rattle.shared_table.specs.Steps.{LoadsCell, LearnsCell, PutsCell}
use Rattle.shared_table.specs.CellPuts.{path_place, IsCellWord, Visits, VisitsCell, Passes, further, PutsAlong, GainsCells}

pub seen_size : (z : SizedView) → IsSeen z → IsSize z.sizes.cells
seen_size z s = subst IsSize s.sized.1 s.good.sized.cells

pub distance_below : (size word j : ℕ) → IsSize size → distance size word j < size
distance_below size word j sized = let l = sized.least in mod-lt (j + (size - start_of word size)) {m = size} (omega arith)

-- ---- what a view learns

learn_within : (v w : View) (at n : ℕ) → LearnsCell v at n w → Within v.cells w.cells
learn_within v w at n l = ⊎_elim
    (λ (z : n ≡ 0). subst (λ (c : Map). Within v.cells c) (sym (l.2.0 z)) (λ i x h. h))
    (λ (ne : n ≡ 0 → ⊥). (l.2.1 ne).keeps)
    (cases_eq n 0)

pub load_gains : (v w : View) (at n : ℕ) → LoadsCell v at n w → GainsCells v w
load_gains v w at n l = record {
  rest = l.event ∙ ap (λ (es : List Access). record v { cells = w.cells; events = es }) (sym (ap (λ (z : View). z.events) l.event));
  cells = learn_within v w at n l.cells;
}

pub put_gains : (v w : View) (word at n : ℕ) → PutsCell word v at n w → GainsCells v w
put_gains v w word at n l = record {
  rest = l.event ∙ ap (λ (es : List Access). record v { cells = w.cells; events = es }) (sym (ap (λ (z : View). z.events) l.event));
  cells = ⊎_elim
      (λ (z : n ≡ 0). subst (λ (c : Map). Within v.cells c) (sym (l.cells.0 z)) (λ i x h. inr h))
      (λ (ne : n ≡ 0 → ⊥). learn_within v w at n (l.cells.1 ne))
      (cases_eq n 0);
}

pub gains_both : (u v w : View) → GainsCells u v → GainsCells v w → GainsCells u w
gains_both u v w a b = record {
  rest = b.rest ∙ ap (λ (z : View). record z { cells = w.cells; events = w.events }) a.rest;
  cells = λ at x h. b.cells at x (a.cells at x h);
}

gained_authors : (v w : View) → GainsCells v w → w.authors ≡ v.authors
gained_authors v w g = ap (λ (z : View). z.authors) g.rest

pub may_more : (size at word : ℕ) (v w : View) → GainsCells v w → MayPutCell size v at word → MayPutCell size w at word
may_more size at word v w g may = record {
  author = subst (λ (l : List ℕ). 0 < length l) (sym (gained_authors v w g)) may.author;
  part = (may.part.0, word_more v.cells w.cells g.cells word may.part.0 may.part.1);
  passed = λ j lt near. let s = may.passed j lt near in (s.0, g.cells j s.0 s.1, s.2);
}

-- ---- places of the path

module _ (size : ℕ) (sized : IsSize size) where
  -- the places before the k-th are known, full and different
  abbrev pub Before : View → ℕ → ℕ → Type 0
  Before v word k = (j : ℕ) → j < size → distance size word j < k → (x : ℕ) × Has v.cells j x × (x ≢ word)

  pub may_at : (u v : View) (word k at : ℕ) → k < size → at ≡ path_place size word k → GainsCells u v → 0 < length u.authors → IsCellWord u word → Before v word k → MayPutCell size v at word
  may_at u v word k at lt is g author part passed =
      let along : distance size word at ≡ k = ap (distance size word) is ∙ distance_is size word k sized lt in
      record {
        author = subst (λ (l : List ℕ). 0 < length l) (sym (gained_authors u v g)) author;
        part = (part.0, word_more u.cells v.cells g.cells word part.0 part.1);
        passed = λ j l near. passed j l (subst (λ (z : ℕ). distance size word j < z) along near);
      }

  pub one_further : (v w : View) (word k at x : ℕ) → k < size → at < size → at ≡ path_place size word k → GainsCells v w → Has w.cells at x → (x ≡ word → ⊥) → Before v word k → Before w word (k + 1)
  one_further v w word k at x lt inside is g has other passed j l near = ⊎_elim
      (λ (b : distance size word j < k). let s = passed j l b in (s.0, g.cells j s.0 s.1, s.2))
      (λ (ge : k ≤ distance size word j).
      let along : distance size word at ≡ k = ap (distance size word) is ∙ distance_is size word k sized lt in
      let here : j ≡ at = distance_apart size word j at sized l inside (omega arith) in
      (x, subst (λ (z : ℕ). Has w.cells z x) (sym here) has, other))
      (cases_lt (distance size word j) k)

-- ---- events in a row

module _ (m : Meaning) where
  pub makes_more : (u v w : View) (ds es : List Access) → MakesAll m u ds v → MakesAll m v es w → MakesAll m u (ds ++ es) w
  makes_more u v w [] es a b = subst (λ (z : View). MakesAll m z es w) a b
  makes_more u v w (d ∷ ds) es a b = (a.0, a.1, makes_more a.0 v w ds es a.2 b)

  pub visit_once : (v w : View) (at n word : ℕ) → LoadsCell v at n w → n ≢ 0 → VisitsCell m v at word n w
  visit_once v w at n word l full = (Loaded (Cell at) n ∷ [], (w, l, refl), inl (refl, full))

  pub visit_twice : (u v w : View) (at n other word now : ℕ) → LoadsCell u at n v → n ≡ 0 → PutsCell word v at other w → now ≡ put_found other word → VisitsCell m u at word now w
  visit_twice u v w at n other word now l none t is = (
    Loaded (Cell at) n ∷ TriedCell at word other ∷ [],
    (v, l, (w, t, refl)),
    inr (other, ap (λ (z : ℕ). Loaded (Cell at) z ∷ TriedCell at word other ∷ []) none, is),
  )

  module _ (z : Sizes) where
    pub probe_more : (u v w : View) (word k at now : ℕ) → at ≡ path_place z.cells word k → now ≢ word → (es : List Access) × MakesAll m u es v × Passes z.cells word k es → VisitsCell m v at word now w
        → (es : List Access) × MakesAll m u es w × Passes z.cells word (k + 1) es
    probe_more u v w word k at now is other before here = (
      before.0 ++ here.0,
      makes_more u v w before.0 here.0 before.1 here.1,
      let up : suc k ≡ k + 1 = omega arith in
          subst (λ (n : ℕ). Passes z.cells word n (before.0 ++ here.0)) up (further k now before.0 here.0 before.2 (subst (λ (n : ℕ). Visits n word now here.0) is here.2) other),
    )

    pub probe_last : (u v w : View) (word k at now : ℕ) → k < z.cells → at ≡ path_place z.cells word k → now ≡ word → (es : List Access) × MakesAll m u es v × Passes z.cells word k es → VisitsCell m v at word now w → PutsAlong m z u word (Home at) w
    probe_last u v w word k at now lt is same before here = (
      before.0 ++ here.0,
      makes_more u v w before.0 here.0 before.1 here.1,
      record { k = k; inside = lt; place = is; before = before.0; here = here.0; all = refl; passed = before.2; visit = subst (λ (n : ℕ). Visits at word n here.0) same here.2 },
    )
