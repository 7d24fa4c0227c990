-- What others asked for, one event after another.
use Rattle.std.proofs.Common.{◌≡◌, ◌⊎◌, ℕ, ◌<◌, List, [], ◌∷◌, ◌++◌, refl, sym, ap, ◌∙◌, subst, inl, inr, ⊎_elim, Result, Ok, Err}
use Rattle.std.proofs.lemmas.Bool.{cases_eq}
use mathlib.Core.List.{append_assoc, append-nil}
use Rattle.step_core.specs.declared.view.View.{View}
use Rattle.step_core.specs.declared.view.Access.{Access}
use Rattle.step_core.specs.declared.view.Access.TheVariants.{Loaded, TriedLog, TriedCell, TriedKey, TriedId, TriedClear, Noted, Met}
use Rattle.step_core.specs.declared.words.Place.TheVariants.{Log, Key, Id, Cell}
use Rattle.step_core.specs.Accesses.{won_cell, won_cells}
use Rattle.step_core.specs.Maps.{AllOf, Map, Has, IsMap, Within}
use Rattle.step_core.specs.Meaning.{Meaning}
use Rattle.step_core.specs.Parts.{Part, IsPartOf}
use Rattle.step_core.specs.Views.{noting}
use Rattle.step_core.proofs.Slots.{has_either, has_left, has_right}
use Rattle.step_core.proofs.Standing.{stands_more}
use Rattle.step_core.proofs.Wins.{gathered-append}
use Rattle.shared_table.specs.declared.answers.Node.{Node}
use Rattle.shared_table.specs.declared.sizes.SizedView.{SizedView}
use Rattle.shared_table.specs.Known.{IsSeen}
use Rattle.shared_table.specs.Made.{Makes, MakesAll}
use Rattle.shared_table.specs.Steps.{LearnsId}
use Rattle.shared_table.proofs.Probing.{load_gains, put_gains}
use Rattle.uniquing.specs.declared.interning.CellsFull.{CellsFull}
use Rattle.uniquing.specs.Closing.{IsAmong, Asked, asked_of, FillsFor, Told, IsHistory, Starts, Others, Looks, Forks, Joins}
use Rattle.uniquing.specs.Interned.{FillsParts, Lacks}
use Rattle.uniquing.specs.Reads.{IsCellLoad, loads}
use Rattle.uniquing.proofs.Seeing.{seen_map, seen_inside}

-- ---- lists

pub among_left : {A : Type 0} (a : A) (xs ys : List A) → IsAmong a xs → IsAmong a (xs ++ ys)
among_left a [] ys i = absurd i
among_left a (x ∷ xs) ys i = ⊎_elim (λ (e : a ≡ x). inl e) (λ (t : IsAmong a xs). inr (among_left a xs ys t)) i

pub among_right : {A : Type 0} (a : A) (xs ys : List A) → IsAmong a ys → IsAmong a (xs ++ ys)
among_right a [] ys i = i
among_right a (x ∷ xs) ys i = inr (among_right a xs ys i)

among_either : {A : Type 0} (a : A) (xs ys : List A) → IsAmong a (xs ++ ys) → IsAmong a xs ⊎ IsAmong a ys
among_either a [] ys i = inr i
among_either a (x ∷ xs) ys i = ⊎_elim
    (λ (e : a ≡ x). inl (inl e))
    (λ (t : IsAmong a (xs ++ ys)). ⊎_elim (λ (l : IsAmong a xs). inl (inr l)) (λ (r : IsAmong a ys). inr r) (among_either a xs ys t))
    i

-- ---- what events do to a view

learned : (v w : View) (n : ℕ) → LearnsId v n w → Within v.cells w.cells
learned v w n l = ⊎_elim
    (λ (z : n ≡ 0). subst (λ (c : Map). Within v.cells c) (sym (l.2.0 z)) (λ i x h. h))
    (λ (ne : n ≡ 0 → ⊥). (l.2.1 ne).keeps)
    (cases_eq n 0)

-- the view has one event more, and all its cells
record Adds (u : View) (e : Access) (v : View) : Type 0 where
  events : v.events ≡ u.events ++ e ∷ []
  cells : Within u.cells v.cells

same_cells : (u v : View) → v.cells ≡ u.cells → Within u.cells v.cells
same_cells u v e = subst (λ (c : Map). Within u.cells c) (sym e) (λ i x h. h)

adds : (m : Meaning) (u v : View) (e : Access) → Makes m u e v → Adds u e v
adds m u v (Loaded (Log at) n) k = record { events = ap (λ (z : View). z.events) k.event; cells = same_cells u v (ap (λ (z : View). z.cells) k.event) }
adds m u v (Loaded (Key at) n) k = record { events = ap (λ (z : View). z.events) k.event; cells = same_cells u v (ap (λ (z : View). z.cells) k.event) }
adds m u v (Loaded (Id at) n) k = record { events = ap (λ (z : View). z.events) k.event; cells = learned u v n k.cells }
adds m u v (Loaded (Cell at) n) k = record { events = ap (λ (z : View). z.events) k.event; cells = (load_gains u v at n k).cells }
adds m u v (TriedLog at word n) k = record { events = ap (λ (z : View). z.events) k.event; cells = same_cells u v (ap (λ (z : View). z.cells) k.event) }
adds m u v (TriedCell at word n) k = record { events = ap (λ (z : View). z.events) k.event; cells = (put_gains u v word at n k).cells }
adds m u v (TriedKey at word n) k = record { events = ap (λ (z : View). z.events) k.event; cells = same_cells u v (ap (λ (z : View). z.cells) k.event) }
adds m u v (TriedId at word n) k = record { events = ap (λ (z : View). z.events) k.event; cells = learned u v n k.cells }
adds m u v (TriedClear at old n) k = record {
  events = ap (λ (z : View). z.events) k.event;
  cells = ⊎_elim
      (λ (same : n ≡ old). same_cells u v (k.cells.0 same))
      (λ (ne : n ≡ old → ⊥). learned u v n (k.cells.1 ne))
      (cases_eq n old);
}
adds m u v Noted k = absurd k
adds m u v Met k = absurd k

pub makes_events : (m : Meaning) (u w : View) (es : List Access) → MakesAll m u es w → w.events ≡ u.events ++ es
makes_events m u w [] s = ap (λ (z : View). z.events) s ∙ sym (append-nil u.events)
makes_events m u w (e ∷ es) s = makes_events m s.0 w es s.2 ∙ (ap (λ (l : List Access). l ++ es) (adds m u s.0 e s.1).events ∙ append_assoc u.events (e ∷ []) es)

makes_within : (m : Meaning) (u w : View) (es : List Access) → MakesAll m u es w → Within u.cells w.cells
makes_within m u w [] s = same_cells u w (ap (λ (z : View). z.cells) s)
makes_within m u w (e ∷ es) s = λ at x h. makes_within m s.0 w es s.2 at x ((adds m u s.0 e s.1).cells at x h)

-- ---- histories

fills_more : (u w : View) (a b : List Asked) (es : List Access) → Within u.cells w.cells → ((z : Asked) → IsAmong z a → IsAmong z b) → FillsFor u a es → FillsFor w b es
fills_more u w a b es g m f = λ at x h. let t = f at x h in (t.0, (t.1.0, m t.1.0 t.1.1, t.1.2), stands_more u.cells w.cells g at t.0 t.2)

fills_append : (w : View) (a : List Asked) (ds es : List Access) → FillsFor w a ds → FillsFor w a es → FillsFor w a (ds ++ es)
fills_append w a ds es x y = λ at word h. ⊎_elim (x at word) (y at word) (has_either (won_cells ds) (won_cells es) at word (subst (λ (l : Map). Has l at word) (gathered-append won_cell ds es) h))

fills_none : (w : View) (a : List Asked) (es : List Access) → won_cells es ≡ [] → FillsFor w a es
fills_none w a es none = λ at x h. absurd (subst (λ (l : Map). Has l at x) none h)

-- what was lacking is lacking where more is known, since there is no more
pub lacks_wider : (size : ℕ) (xs ys : Map) (part : Part) → IsMap ys → ((id x : ℕ) → Has ys id x → id < size) → Within xs ys → Lacks size xs part → Lacks size ys part
lacks_wider size xs ys part map inside g l = record {
  full = λ j lt. let f = l.full j lt in (f.0, g j f.0 f.1);
  part = l.part;
  is_part = l.is_part;
  nowhere = λ j t. l.nowhere j (stands_more ys xs back j l.part t);
}
  where
    back : Within ys xs
    back id x h =
        let f = l.full id (inside id x h) in
        subst (λ (y : ℕ). Has xs id y) (map id f.0 x (g id f.0 f.1) h) f.1

module _ (z : SizedView) (s : IsSeen z) where
  lacks_later : (u : View) (part : Part) → Within u.cells z.view.cells → Lacks z.sizes.cells u.cells part → Lacks z.sizes.cells z.view.cells part
  lacks_later u part g l = lacks_wider z.sizes.cells u.cells z.view.cells part (seen_map z s) (seen_inside z s) g l

  told_later : (u : View) (a : Asked) → Within u.cells z.view.cells → Told z.sizes.cells u a → Told z.sizes.cells z.view a
  told_later u a g t = (λ e. (let h = t.0 e in (h.0, stands_more u.cells z.view.cells g h.0 a.whole h.1)), λ e. lacks_later u a.whole g (t.1 e))

  whole_of : (whole : Part) (r : Result Node CellsFull) → whole ≡ (asked_of whole r).whole
  whole_of whole (Ok n) = refl
  whole_of whole (Err f) = refl

  -- one whole more
  pub asks : (m : Meaning) (u : View) (asked : List Asked) (whole : Part) (r : Result Node CellsFull) (es : List Access) → MakesAll m u es z.view → FillsParts z.view whole es → Told z.sizes.cells z.view (asked_of whole r)
      → IsHistory z.sizes.cells u asked → IsHistory z.sizes.cells z.view (asked ++ asked_of whole r ∷ [])
  asks m u asked whole r es makes fills told h =
      let a : Asked = asked_of whole r in
      let g = makes_within m u z.view es makes in
      let last : IsAmong a (asked ++ a ∷ []) = among_right a asked (a ∷ []) (inl refl) in
      let old : FillsFor z.view (asked ++ a ∷ []) u.events = fills_more u z.view asked (asked ++ a ∷ []) u.events g (λ b i. among_left b asked (a ∷ []) i) h.fills in
      let new : FillsFor z.view (asked ++ a ∷ []) es = λ at x k. (let t = fills at x k in (t.0, (a, last, subst (λ (q : Part). IsPartOf t.0 q) (whole_of whole r) t.1), t.2)) in
      record {
        fills = subst (FillsFor z.view (asked ++ a ∷ [])) (sym (makes_events m u z.view es makes)) (fills_append z.view (asked ++ a ∷ []) u.events es old new);
        told = λ b i. ⊎_elim
            (λ (o : IsAmong b asked). told_later u b g (h.told b o))
            (λ (n : IsAmong b (a ∷ [])). ⊎_elim (λ (e : b ≡ a). subst (Told z.sizes.cells z.view) (sym e) told) (λ (n : ⊥). absurd n) n)
            (among_either b asked (a ∷ []) i);
      }

pub starts : Starts
starts size v none = record { fills = fills_none v [] v.events (ap won_cells none); told = λ a i. absurd i }

pub others : (m : Meaning) → Others m
others m u z es asked s makes none h =
    let g = makes_within m u z.view es makes in
    record {
      fills = subst (FillsFor z.view asked) (sym (makes_events m u z.view es makes)) (fills_append z.view asked u.events es (fills_more u z.view asked asked u.events g (λ a i. i) h.fills) (fills_none z.view asked es none));
      told = λ a i. told_later z s u a g (h.told a i);
    }

loads_win_none : (es : List Access) → AllOf IsCellLoad es → won_cells es ≡ []
loads_win_none [] o = refl
loads_win_none (e ∷ es) o = load_wins_none e o.0 (won_cells es) ∙ loads_win_none es o.1
  where
    load_wins_none : (e : Access) → IsCellLoad e → (l : Map) → won_cell e ++ l ≡ l
    load_wins_none e (loads at n) l = refl

pub looks : (m : Meaning) → Looks m
looks m u z es asked s makes o h = others m u z es asked s makes (loads_win_none es o) h

pub forks : Forks
forks size v asked h = (
  record { fills = fills_append (noting v) asked v.events (Noted ∷ []) h.fills (λ at x k. absurd k); told = h.told },
  record { fills = λ at x k. absurd k; told = λ a i. absurd i },
)

pub joins : Joins
joins v u z a b s t x y =
    let left : Within v.cells z.view.cells = λ at w h. subst (λ (k : View). Has k.cells at w) (sym t.1) (has_left v.cells u.cells at w h) in
    let right : Within u.cells z.view.cells = λ at w h. subst (λ (k : View). Has k.cells at w) (sym t.1) (has_right v.cells u.cells at w h) in
    let last : List Access = Loaded (Log 1) t.0 ∷ [] in
    let all : z.view.events ≡ (v.events ++ (u.events ++ Met ∷ [])) ++ last = ap (λ (k : View). k.events) t.1 in
    let one = fills_more v z.view a (a ++ b) v.events left (λ q i. among_left q a b i) x.fills in
    let two = fills_more u z.view b (a ++ b) u.events right (λ q i. among_right q a b i) y.fills in
    let both = fills_append z.view (a ++ b) v.events (u.events ++ Met ∷ []) one (fills_append z.view (a ++ b) u.events (Met ∷ []) two (λ at w k. absurd k)) in
    record {
      fills = subst (FillsFor z.view (a ++ b)) (sym all) (fills_append z.view (a ++ b) (v.events ++ (u.events ++ Met ∷ [])) last both (λ at w k. absurd k));
      told = λ q i. ⊎_elim (λ (l : IsAmong q a). told_later z s v q left (x.told q l)) (λ (r : IsAmong q b). told_later z s u q right (y.told q r)) (among_either q a b i);
    }
