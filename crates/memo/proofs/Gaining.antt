-- What a view gains by events on memos.
use Rattle.std.proofs.Common.{◌≡◌, ℕ, ◌^◌, ◌<◌, ◌≤◌, ◌==◌, List, [], ◌∷◌, ◌++◌, length, sym, refl, ap, ◌∙◌, subst, ⊎_elim, inl, arith, eqb-true}
use Rattle.std.proofs.lemmas.Bool.{cases_eq, cond_both}
use Rattle.step_core.specs.declared.view.View.{View}
use Rattle.step_core.specs.declared.view.Access.{Access}
use Rattle.step_core.specs.declared.view.Access.TheVariants.{Loaded, TriedKey, TriedId, TriedClear}
use Rattle.step_core.specs.declared.words.Place.TheVariants.{Key, Id}
use Rattle.step_core.specs.Answers.{put_found}
use Rattle.step_core.specs.Words.{version_of, id_of, IsIdWord, IsSize}
use Rattle.step_core.specs.Maps.{Map, Has, Within}
use Rattle.step_core.specs.Meaning.{Meaning, Laws}
use Rattle.step_core.specs.Events.{gained, view_after_load}
use Rattle.step_core.proofs.Fullness.{has_full, full_inside}
use Rattle.step_core.proofs.Lists.{prefix_self}
use Rattle.step_core.proofs.Slots.{gained_keeps}
use Rattle.shared_table.specs.declared.sizes.SizedView.{SizedView}
use Rattle.shared_table.specs.Known.{IsSeen}
use Rattle.shared_table.specs.Steps.{LearnsId, LearnsUncleared, IsIdLoaded, IsIdTried, IsClearTried, tried_key}
use Rattle.memo.specs.Keys.{key_of, word_of_id, GainsMemos}

pub seen_places : (z : SizedView) → IsSeen z → IsSize z.sizes.memo
seen_places z s = subst IsSize s.sized.0 s.good.sized.keys

pub version_is : (version label : ℕ) → version ≤ 4095 → label < 2 ^ 32 → version_of (key_of version label) ≡ version
version_is version label few short = omega arith

pub key_full : (version label : ℕ) → key_of version label ≡ 0 → ⊥
key_full version label e = omega arith

pub gains_both : (u v w : View) → GainsMemos u v → GainsMemos v w → GainsMemos u w
gains_both u v w a b = record {
  rest = b.rest ∙ ap (λ (z : View). record z { keys = w.keys; cells = w.cells; events = w.events }) a.rest;
  keys = λ at x h. b.keys at x (a.keys at x h);
  cells = λ at x h. b.cells at x (a.cells at x h);
}

gains_of : (v w : View) (keys cells : Map) (events : List Access) → w ≡ record v { keys = keys; cells = cells; events = events } → Within v.keys keys → Within v.cells cells → GainsMemos v w
gains_of v w keys cells events e k c = subst (λ (z : View). GainsMemos v z) (sym e) (record { rest = refl; keys = k; cells = c })

learn_within : (v w : View) (n : ℕ) → LearnsId v n w → Within v.cells w.cells
learn_within v w n l = ⊎_elim
    (λ (z : n ≡ 0). subst (λ (c : Map). Within v.cells c) (sym (l.2.0 z)) (λ i x h. h))
    (λ (ne : n ≡ 0 → ⊥). (l.2.1 ne).keeps)
    (cases_eq n 0)

pub load_key_gains : (v w : View) (at n : ℕ) → w ≡ view_after_load v (Key at) n [] → GainsMemos v w
load_key_gains v w at n e = gains_of v w (gained v.keys at n) v.cells (v.events ++ Loaded (Key at) n ∷ []) e (gained_keeps v.keys at n) (λ i x h. h)

pub load_id_gains : (v w : View) (at n : ℕ) → IsIdLoaded v at n w → LearnsId v n w → GainsMemos v w
load_id_gains v w at n e l = gains_of v w v.keys w.cells (v.events ++ Loaded (Id at) n ∷ []) e (λ i x h. h) (learn_within v w n l)

pub put_key_gains : (v w : View) (at word n : ℕ) → w ≡ tried_key v at word n → GainsMemos v w
put_key_gains v w at word n e = gains_of v w (gained v.keys at (put_found n word)) v.cells (v.events ++ TriedKey at word n ∷ []) e (gained_keeps v.keys at (put_found n word)) (λ i x h. h)

pub put_id_gains : (v w : View) (at word n : ℕ) → IsIdTried v at word n w → LearnsId v n w → GainsMemos v w
put_id_gains v w at word n e l = gains_of v w v.keys w.cells (v.events ++ TriedId at word n ∷ []) e (λ i x h. h) (learn_within v w n l)

pub clear_gains : (v w : View) (at old n : ℕ) → IsClearTried v at old n w → LearnsUncleared v old n w → GainsMemos v w
clear_gains v w at old n e l = gains_of v w v.keys w.cells (v.events ++ TriedClear at old n ∷ []) e (λ i x h. h)
    (⊎_elim
    (λ (same : n ≡ old). subst (λ (c : Map). Within v.cells c) (sym (l.0 same)) (λ i x h. h))
    (λ (ne : n ≡ old → ⊥). learn_within v w n (l.1 ne))
    (cases_eq n old))

pub same_log : (v w : View) → GainsMemos v w → w.log ≡ v.log
same_log v w g = ap (λ (z : View). z.log) g.rest

pub log_kept : (v w : View) (n : ℕ) → GainsMemos v w → n ≤ length v.log → n ≤ length w.log
log_kept v w n g le = subst (λ (l : List ℕ). n ≤ length l) (sym (same_log v w g)) le

-- an id word and its id
pub id_word_is : (id word : ℕ) → word ≡ word_of_id id → id < 2 ^ 20 → IsIdWord word
id_word_is id word e lt = record { marked = omega arith; least = omega arith; greatest = omega arith }

pub id_word_id : (id word : ℕ) → word ≡ word_of_id id → id < 2 ^ 20 → id_of word ≡ id
id_word_id id word e lt = omega arith

-- a key that is found or put is known
gained_here : (keys : Map) (at n : ℕ) → (n ≡ 0 → ⊥) → Has (gained keys at n) at n
gained_here keys at n full = cond_both (n == 0) keys ((at, n) ∷ keys) (λ l. Has l at n) (λ t. absurd (full (eqb-true n 0 t))) (λ _. inl (refl, refl))

pub loaded_key_known : (v w : View) (at n : ℕ) → w ≡ view_after_load v (Key at) n [] → (n ≡ 0 → ⊥) → Has w.keys at n
loaded_key_known v w at n e full = subst (λ (z : View). Has z.keys at n) (sym e) (gained_here v.keys at n full)

pub tried_key_known : (v w : View) (at word n : ℕ) → w ≡ tried_key v at word n → (put_found n word ≡ 0 → ⊥) → Has w.keys at (put_found n word)
tried_key_known v w at word n e full = subst (λ (z : View). Has z.keys at (put_found n word)) (sym e) (gained_here v.keys at (put_found n word) full)

module _ (m : Meaning) (laws : Laws m) where
  pub stand_more : (v w : View) (key id : ℕ) → GainsMemos v w → m.stand v.base v.log v.cells key id → m.stand w.base w.log w.cells key id
  stand_more v w key id g s = subst (λ (z : View). m.stand z.base z.log w.cells key id) (sym g.rest) (laws.stays v.base v.log v.log v.cells w.cells key id (prefix_self v.log) g.cells s)

  -- the id of a node is the number of a cell
  pub node_small : (z : SizedView) (key id : ℕ) → IsSeen z → m.stand z.view.base z.view.log z.view.cells key id → id < 2 ^ 20
  node_small z key id s t =
      let f = s.good.fits s.seat z.view s.live.at s.live.unspent in
      let h = laws.names z.view.base z.view.log z.view.cells key id t in
      let full = has_full s.words.cells id h.0 (f.cells id h.0 h.1) in
      let inside = full_inside s.words.cells id h.0 full.0 full.1 in
      let most = s.good.sized.cells.greatest in
      omega arith

  -- what stands for the view before an event, with the cells after it
  pub stand_here : (v w : View) (key id : ℕ) → GainsMemos v w → m.stand v.base v.log w.cells key id → m.stand w.base w.log w.cells key id
  stand_here v w key id g s = subst (λ (z : View). m.stand z.base z.log w.cells key id) (sym g.rest) s
