-- The table is opened, its authors are dealt, and it is closed.
use Rattle.std.proofs.Common.{◌≡◌, ℕ, zero, suc, ◌+◌, ◌<◌, ◌≤◌, false, List, [], ◌∷◌, ◌++◌, map, length, get_or, set, take, drop, replicate, get_or-drop, sym, refl, ap, ◌∙◌, subst, arith}
use Rattle.std.proofs.lemmas.List.{map-set, map-append, length-replicate}
use mathlib.Core.Option.{some}
use lib.ListN.{get_elem?}
use Rattle.atomic_table.specs.Table.{State, Splits, Final, Seen, opening}
use Rattle.atomic_table.proofs.Lists.{at_map, at_longer, at_last}
use Rattle.step_core.specs.declared.view.View.{View}
use Rattle.step_core.specs.Words.{IsSize, AreSized}
use Rattle.step_core.specs.Maps.{times}
use Rattle.step_core.specs.Meaning.{Meaning}
use Rattle.step_core.specs.Views.{dealer, dealt, first_view}
use Rattle.step_core.specs.Good.{Good, IsEmpty, IsEmptyTable}
use Rattle.step_core.proofs.Starting.{starts}
use Rattle.step_core.proofs.Splitting.{deal_keeps}
use Rattle.step_core.proofs.Closing.{alone_good}
use Rattle.shared_table.specs.declared.rule.About.{About}
use Rattle.shared_table.specs.declared.sizes.Sizes.{Sizes}
use Rattle.shared_table.specs.declared.sizes.SizedView.{SizedView}
use Rattle.shared_table.specs.Known.{any, AreSizedBy, IsSeen}
use Rattle.shared_table.specs.Rule.{block, words_of, word_count, viewed, Held, first, sized_dealer, sized_dealt}
use Rattle.shared_table.proofs.Blocks.{block_length, sized}
use Rattle.shared_table.proofs.Held.{set_here, seen_in}

abbrev pub blank : ℕ → List ℕ
blank n = replicate n 0

zeros : (n i : ℕ) → get_or (blank n) i 0 ≡ 0
zeros zero i = refl
zeros (suc n) zero = refl
zeros (suc n) (suc i) = zeros n i

take_zeros : (m : ℕ) (l : List ℕ) → ((i : ℕ) → get_or l i 0 ≡ 0) → (i : ℕ) → get_or (take m l) i 0 ≡ 0
take_zeros zero l all i = refl
take_zeros (suc m) [] all i = refl
take_zeros (suc m) (x ∷ xs) all zero = all 0
take_zeros (suc m) (x ∷ xs) all (suc i) = take_zeros m xs (λ j. all (suc j)) i

block_zeros : (from m n : ℕ) → IsEmpty (block from m (blank n))
block_zeros from m n = take_zeros m (drop from (blank n)) (λ j. get_or-drop from (blank n) j 0 ∙ zeros n (from + j))

module _ (m : Meaning) where
  pub begins : (about : About) (ws : List ℕ) (n : ℕ) → n ≡ word_count about.sizes → ws ≡ replicate n 0 → about.authors ≤ 16 → IsSize about.sizes.cells → IsSize about.sizes.memo → Held m about (opening ws [] (first about))
  begins about ws n count is few cells memo = subst (λ (l : List ℕ). Held m about (opening l [] (first about))) (sym is) (
      let z : Sizes = about.sizes in
      let zs : List ℕ = blank n in
      let long : length zs ≡ word_count z = length-replicate {A = ℕ} n 0 ∙ count in
      let keys : length (words_of z zs).keys ≡ z.memo = (sized z zs long).0 in
      let cells' : length (words_of z zs).cells ≡ z.cells = (sized z zs long).1 in
      let ids : length (words_of z zs).ids ≡ z.memo = block_length (4096 + z.memo) z.memo zs (omega arith) in
      let are : AreSized (words_of z zs) = record {
        log = block_length 1 4095 zs (omega arith);
        keys = subst IsSize (sym keys) memo;
        ids = ids ∙ sym keys;
        cells = subst IsSize (sym cells') cells;
      } in
      let none : IsEmptyTable (words_of z zs) = record { log = block_zeros 1 4095 n; keys = block_zeros 4096 z.memo n; ids = block_zeros (4096 + z.memo) z.memo n; cells = block_zeros (4096 + (z.memo + z.memo)) z.cells n } in
      record { long = long; good = starts m about.base.items about.authors (words_of z zs) are none few })

  pub first_seen : (about : About) (ws : List ℕ) → Held m about (opening ws [] (first about)) → IsSeen (first about)
  first_seen about ws h = seen_in m about.base.items about.authors (words_of about.sizes ws) (first_view about.base.items about.authors ∷ []) 0 (first about) h.good refl refl (sized about.sizes ws h.long)

  pub deals : (about : About) (id : ℕ) (z : SizedView) → z.view.spent ≡ false → z.view.events ≡ [] → Splits (Held m about) id z (sized_dealer z) (sized_dealt z)
  deals about id z live fresh s h at =
      let vs : List View = map viewed s.views in
      let e : map viewed (set s.views id (sized_dealer z) ++ sized_dealt z ∷ []) ≡ set vs id (dealer z.view) ++ dealt z.view ∷ [] =
      map-append viewed (set s.views id (sized_dealer z)) (sized_dealt z ∷ []) ∙ ap (λ (l : List View). l ++ dealt z.view ∷ []) (map-set viewed s.views id (sized_dealer z)) in
      let g = deal_keeps m about.base.items about.authors (words_of about.sizes s.words) vs id z.view h.good (at_map viewed s.views id z at) live fresh in
      record { long = h.long; good = subst (λ (l : List View). Good m about.base.items about.authors (words_of about.sizes s.words) l) (sym e) g }

  pub closes : (about : About) (id : ℕ) (z : SizedView) (ws xs : List ℕ) → z.view.spent ≡ false → ((a : ℕ) → a < z.view.count → 0 < times a z.view.authors) → Final (Seen (Held m about) id z) ws xs
      → Good m z.view.base z.view.count (words_of about.sizes ws) (z.view ∷ []) × AreSizedBy about.sizes (words_of about.sizes ws)
  closes about id z ws xs live all fin =
      let s : State ℕ SizedView = fin.0 in
      let held : Held m about s = fin.1.0 in
      let vs : List View = map viewed s.views in
      let at : get_elem? vs id ≡ some z.view = at_map viewed s.views id z fin.1.1 in
      let f = held.good.fits id z.view at live in
      let all' = subst (λ (n : ℕ). (a : ℕ) → a < n → 0 < times a z.view.authors) f.same_count all in
      let g = alone_good m about.base.items about.authors (words_of about.sizes s.words) vs id z.view held.good at all' in
      let g' = subst (λ (n : ℕ). Good m about.base.items n (words_of about.sizes s.words) (z.view ∷ [])) (sym f.same_count) g in
      let g'' = subst (λ (b : List ℕ). Good m b z.view.count (words_of about.sizes s.words) (z.view ∷ [])) (sym f.same_base) g' in
      subst (λ (l : List ℕ). Good m z.view.base z.view.count (words_of about.sizes l) (z.view ∷ []) × AreSizedBy about.sizes (words_of about.sizes l)) fin.2 (g'', sized about.sizes s.words held.long)

-- both views of a split are of a good state
pub dealer_seen : (z : SizedView) → IsSeen z → z.view.events ≡ [] → IsSeen (sized_dealer z)
dealer_seen z s fresh =
    let vs : List View = set s.views s.seat (dealer z.view) in record {
      words = s.words;
      views = vs ++ dealt z.view ∷ [];
      seat = s.seat;
      good = deal_keeps any z.view.base z.view.count s.words s.views s.seat z.view s.good s.live.at s.live.unspent fresh;
      live = record { at = at_longer vs (dealt z.view ∷ []) s.seat (dealer z.view) (set_here s.views s.seat z.view (dealer z.view) s.live.at); unspent = s.live.unspent };
      sized = s.sized;
    }

pub dealt_seen : (z : SizedView) → IsSeen z → z.view.events ≡ [] → IsSeen (sized_dealt z)
dealt_seen z s fresh =
    let vs : List View = set s.views s.seat (dealer z.view) in record {
      words = s.words;
      views = vs ++ dealt z.view ∷ [];
      seat = length vs;
      good = deal_keeps any z.view.base z.view.count s.words s.views s.seat z.view s.good s.live.at s.live.unspent fresh;
      live = record { at = at_last vs (dealt z.view) (length vs) refl; unspent = s.live.unspent };
      sized = s.sized;
    }
