-- Events replayed one by one.
use Rattle.std.proofs.Common.{◌≡◌, ℕ, suc, ◌+◌, ◌-◌, ◌≤◌, List, [], ◌∷◌, ◌++◌, length, drop, get_or, length-set, refl, sym, ap, ◌∙◌, subst, arith, append_assoc, length-append}
use Rattle.step_core.specs.declared.words.Words.{Words}
use Rattle.step_core.specs.declared.words.Place.{Place}
use Rattle.step_core.specs.declared.words.Place.TheVariants.{Log, Key, Id, Cell}
use Rattle.step_core.specs.declared.event.Event.{Event}
use Rattle.step_core.specs.declared.event.Event.TheVariants.{Load, PutLog, PutCell, PutKey, PutId, ClearId, Note, Meet}
use Rattle.step_core.specs.declared.event.Seen.{Seen}
use Rattle.step_core.specs.Maps.{AllOf}
use Rattle.step_core.specs.Answers.{IsPlace, IsAtPlace, put_found, clear_found, answer_of, answers_of, words_after, words_after_all}
use Rattle.step_core.proofs.Lists.{all_map}

-- the first events are replayed, from the words `first`
pub record IsReplayed (first w : Words) (all : List Event) (index : ℕ) (seen : List Seen) (cap : ℕ) : Type 0 where
  pub places : AllOf (IsAtPlace w) (drop index all)
  pub answers : seen ++ answers_of w (drop index all) ≡ answers_of first all
  pub words : words_after_all w (drop index all) ≡ words_after_all first all
  pub count : length seen ≡ index
  pub room : length all ≤ cap

-- ---- sizes stay

record SameSizes (w w' : Words) : Type 0 where
  log : length w'.log ≡ length w.log
  keys : length w'.keys ≡ length w.keys
  ids : length w'.ids ≡ length w.ids
  cells : length w'.cells ≡ length w.cells

sizes_stay : (w : Words) (e : Event) → SameSizes w (words_after w e)
sizes_stay w (Load seat at) = record { log = refl; keys = refl; ids = refl; cells = refl }
sizes_stay w (PutLog seat at word) = record { log = length-set w.log (at - 1) (put_found (get_or w.log (at - 1) 0) word); keys = refl; ids = refl; cells = refl }
sizes_stay w (PutCell seat at word) = record { log = refl; keys = refl; ids = refl; cells = length-set w.cells at (put_found (get_or w.cells at 0) word) }
sizes_stay w (PutKey seat at word) = record { log = refl; keys = length-set w.keys at (put_found (get_or w.keys at 0) word); ids = refl; cells = refl }
sizes_stay w (PutId seat at word) = record { log = refl; keys = refl; ids = length-set w.ids at (put_found (get_or w.ids at 0) word); cells = refl }
sizes_stay w (ClearId seat at old) = record { log = refl; keys = refl; ids = length-set w.ids at (clear_found (get_or w.ids at 0) old); cells = refl }
sizes_stay w (Note seat child) = record { log = refl; keys = refl; ids = refl; cells = refl }
sizes_stay w (Meet seat other) = record { log = refl; keys = refl; ids = refl; cells = refl }

place_stays : (w w' : Words) (p : Place) → SameSizes w w' → IsPlace w p → IsPlace w' p
place_stays w w' (Log k) s h = (h.0, let a = h.1 in let b = s.log in omega arith)
place_stays w w' (Key k) s h = let b = s.keys in omega arith
place_stays w w' (Id k) s h = let b = s.ids in omega arith
place_stays w w' (Cell k) s h = let b = s.cells in omega arith

event_stays : (w w' : Words) (e : Event) → SameSizes w w' → IsAtPlace w e → IsAtPlace w' e
event_stays w w' (Load seat at) s h = place_stays w w' at s h
event_stays w w' (PutLog seat at word) s h = place_stays w w' (Log at) s h
event_stays w w' (PutCell seat at word) s h = place_stays w w' (Cell at) s h
event_stays w w' (PutKey seat at word) s h = place_stays w w' (Key at) s h
event_stays w w' (PutId seat at word) s h = place_stays w w' (Id at) s h
event_stays w w' (ClearId seat at old) s h = place_stays w w' (Id at) s h
event_stays w w' (Note seat child) s h = tt
event_stays w w' (Meet seat other) s h = tt

pub events_stay : (w : Words) (e : Event) (es : List Event) → AllOf (IsAtPlace w) es → AllOf (IsAtPlace (words_after w e)) es
events_stay w e es all = all_map (IsAtPlace w) (IsAtPlace (words_after w e)) (λ d h. event_stays w (words_after w e) d (sizes_stay w e) h) es all

pub events_stayed : (w : Words) (e : Event) (es : List Event) → AllOf (IsAtPlace (words_after w e)) es → AllOf (IsAtPlace w) es
events_stayed w e es all =
    let s = sizes_stay w e in
    let back : SameSizes (words_after w e) w = record { log = sym s.log; keys = sym s.keys; ids = sym s.ids; cells = sym s.cells } in
    all_map (IsAtPlace (words_after w e)) (IsAtPlace w) (λ d h. event_stays (words_after w e) w d back h) es all

-- ---- one event more

pub begins : (first : Words) (all : List Event) (seen : List Seen) (cap : ℕ) → AllOf (IsAtPlace first) all → seen ≡ [] → length all ≤ cap → IsReplayed first first all 0 seen cap
begins first all seen cap places none room = record { places = places; answers = ap (λ (l : List Seen). l ++ answers_of first all) none; words = refl; count = ap length none; room = room }

pub next : (first w w' : Words) (all : List Event) (index : ℕ) (seen seen' : List Seen) (cap cap' : ℕ) (e : Event) (answer : Seen) → IsReplayed first w all index seen cap → drop index all ≡ e ∷ drop (suc index) all
    → answer ≡ answer_of w e → w' ≡ words_after w e → seen' ≡ seen ++ answer ∷ [] → cap' ≡ cap → IsReplayed first w' all (index + 1) seen' cap'
next first w w' all index seen seen' cap cap' e answer r here is written more same =
    let rest : List Event = drop (suc index) all in
    let up : suc index ≡ index + 1 = omega arith in
    let places : AllOf (IsAtPlace w) (e ∷ rest) = subst (AllOf (IsAtPlace w)) here r.places in
    let seen_is : seen' ≡ seen ++ answer_of w e ∷ [] = more ∙ ap (λ (z : Seen). seen ++ z ∷ []) is in
    let answers : seen' ++ answers_of (words_after w e) rest ≡ answers_of first all = ap (λ (l : List Seen). l ++ answers_of (words_after w e) rest) seen_is
    ∙ (append_assoc seen (answer_of w e ∷ []) (answers_of (words_after w e) rest) ∙ (ap (λ (l : List Event). seen ++ answers_of w l) (sym here) ∙ r.answers)) in
    let words : words_after_all (words_after w e) rest ≡ words_after_all first all = ap (words_after_all w) (sym here) ∙ r.words in
    let count = r.count in
    let room = r.room in
    subst (λ (z : ℕ × Words). IsReplayed first z.1 all z.0 seen' cap') (λ i. (up i, sym written i))
    (record {
      places = events_stay w e rest places.1;
      answers = answers;
      words = words;
      count = omega (arith, ap length more, length-append seen (answer ∷ []));
      room = omega arith;
    })
