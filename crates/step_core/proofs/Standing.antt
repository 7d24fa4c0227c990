-- What stands, stands where more is known, and where less is known that is closed.
use Rattle.std.proofs.Common.{◌≡◌, ℕ, ◌/◌, ◌%◌, ◌<◌, ◌≤◌, ◌⊎◌, inl, inr, List, [], ◌∷◌, ◌++◌, refl, sym, subst, ⊎_elim, arith}
use Rattle.step_core.specs.Maps.{Map, Has, Within, IsMap}
use Rattle.step_core.specs.Parts.{Part, leaf, one, two, leaf_word, one_word, two_word}
use Rattle.step_core.specs.Cells.{IsOver, large, last, ext, root, Stands, WordStands, IsIdIn, IsClosed, Under, itself, below, Learns}
use Rattle.step_core.specs.Meaning.{Laws, AreKept, by_part}
use Rattle.step_core.proofs.Lists.{prefix_length}
use Rattle.step_core.proofs.Slots.{has_either, has_left, has_right, closed_both}

-- what the numbers of tags tell
pub over_tag : (tag : ℕ) (a : Part) → IsOver tag a → (4398046511104 ≤ tag) × ((tag / 2199023255552 ≡ 3) → ⊥)
over_tag tag a (large high low e h l f n) = (omega arith, λ z. omega arith)
over_tag tag a (last e t) = (omega arith, λ z. omega arith)
over_tag tag a (ext label counter e l c t) = (omega arith, λ z. omega arith)
over_tag tag a (root width e l c t) = (omega arith, λ z. omega arith)

-- ---- ids in words

in_one : (tag i : ℕ) → i < 1048576 → 4398046511104 ≤ tag → IsIdIn i (one_word tag i)
in_one tag i lt high = ((λ e. omega arith), inl (omega arith))

in_two_first : (i j : ℕ) → i < 1048576 → j < 1048576 → IsIdIn i (two_word i j)
in_two_first i j lt lt' = ((λ e. omega arith), inl (omega arith))

in_two_second : (i j : ℕ) → i < 1048576 → j < 1048576 → IsIdIn j (two_word i j)
in_two_second i j lt lt' = ((λ e. omega arith), inr (omega arith, omega arith))

none_in_leaf : (n id : ℕ) → n < 72057594037927936 → IsIdIn id (leaf_word n) → ⊥
none_in_leaf n id lt is_in = is_in.0 (omega arith)

only_in_one : (tag i id : ℕ) → i < 1048576 → (tag / 2199023255552 ≡ 3 → ⊥) → IsIdIn id (one_word tag i) → id ≡ i
only_in_one tag i id lt ne is_in = ⊎_elim
    (λ (e : id ≡ one_word tag i % 1048576). omega arith)
    (λ (e : (one_word tag i / 2305843009213693952 ≡ 3) × (id ≡ one_word tag i / 1048576 % 1048576)). let f = e.0 in absurd (ne (omega arith)))
    is_in.1

only_in_two : (i j id : ℕ) → i < 1048576 → j < 1048576 → IsIdIn id (two_word i j) → (id ≡ i) ⊎ (id ≡ j)
only_in_two i j id lt lt' is_in = ⊎_elim
    (λ (e : id ≡ two_word i j % 1048576). inl (omega arith))
    (λ (e : (two_word i j / 2305843009213693952 ≡ 3) × (id ≡ two_word i j / 1048576 % 1048576)). let f = e.1 in inr (omega arith))
    is_in.1

-- ---- more is known

pub stands_more : (xs ys : Map) → Within xs ys → (id : ℕ) (p : Part) → Stands xs id p → Stands ys id p
stands_more xs ys more id (leaf n) s = (more id (leaf_word n) s.0, s.1)
stands_more xs ys more id (one tag a) s = (s.0, more id (one_word tag s.0) s.1, s.2, s.3, stands_more xs ys more s.0 a s.4)
stands_more xs ys more id (two a b) s = (s.0, s.1, more id (two_word s.0 s.1) s.2, s.3, s.4, s.5, s.6, stands_more xs ys more s.0 a s.7, stands_more xs ys more s.1 b s.8)

pub word_more : (xs ys : Map) → Within xs ys → (w : ℕ) (p : Part) → WordStands xs w p → WordStands ys w p
word_more xs ys more w (leaf n) s = s
word_more xs ys more w (one tag a) s = (s.0, s.1, s.2, s.3, stands_more xs ys more s.0 a s.4)
word_more xs ys more w (two a b) s = (s.0, s.1, s.2, s.3, s.4, s.5, s.6, stands_more xs ys more s.0 a s.7, stands_more xs ys more s.1 b s.8)

pub word_at : (xs : Map) (id w : ℕ) (p : Part) → Has xs id w → WordStands xs w p → Stands xs id p
word_at xs id w (leaf n) at s = (subst (λ (z : ℕ). Has xs id z) s.0 at, s.1)
word_at xs id w (one tag a) at s = (s.0, subst (λ (z : ℕ). Has xs id z) s.1 at, s.2, s.3, s.4)
word_at xs id w (two a b) at s = (s.0, s.1, subst (λ (z : ℕ). Has xs id z) s.2 at, s.3, s.4, s.5, s.6, s.7, s.8)

-- ---- less is known

pub stands_less : (xs ys : Map) → IsMap ys → Within xs ys → IsClosed xs → (id : ℕ) (p : Part) → (w : ℕ) × Has xs id w → Stands ys id p → Stands xs id p
stands_less xs ys map more closed id (leaf n) has s = (subst (λ (z : ℕ). Has xs id z) (map id has.0 (leaf_word n) (more id has.0 has.1) s.0) has.1, s.1)
stands_less xs ys map more closed id (one tag a) has s =
    let here : Has xs id (one_word tag s.0) = subst (λ (z : ℕ). Has xs id z) (map id has.0 (one_word tag s.0) (more id has.0 has.1) s.1) has.1 in
    (s.0, here, s.2, s.3, stands_less xs ys map more closed s.0 a (closed id (one_word tag s.0) s.0 here (in_one tag s.0 s.2 (over_tag tag a s.3).0)) s.4)
stands_less xs ys map more closed id (two a b) has s =
    let here : Has xs id (two_word s.0 s.1) = subst (λ (z : ℕ). Has xs id z) (map id has.0 (two_word s.0 s.1) (more id has.0 has.1) s.2) has.1 in (
      s.0,
      s.1,
      here,
      s.3,
      s.4,
      s.5,
      s.6,
      stands_less xs ys map more closed s.0 a (closed id (two_word s.0 s.1) s.0 here (in_two_first s.0 s.1 s.3 s.4)) s.7,
      stands_less xs ys map more closed s.1 b (closed id (two_word s.0 s.1) s.1 here (in_two_second s.0 s.1 s.3 s.4)) s.8,
    )

pub named : (xs : Map) (id : ℕ) (p : Part) → Stands xs id p → (w : ℕ) × Has xs id w
named xs id (leaf n) s = (leaf_word n, s.0)
named xs id (one tag a) s = (one_word tag s.0, s.1)
named xs id (two a b) s = (two_word s.0 s.1, s.2)

-- the ids in a word that stands for a part are known
pub ids_known : (xs : Map) (w : ℕ) (p : Part) (id : ℕ) → WordStands xs w p → IsIdIn id w → (x : ℕ) × Has xs id x
ids_known xs w (leaf n) id s is_in = absurd (none_in_leaf n id s.1 (subst (λ (z : ℕ). IsIdIn id z) s.0 is_in))
ids_known xs w (one tag a) id s is_in =
    let same = only_in_one tag s.0 id s.2 (over_tag tag a s.3).1 (subst (λ (z : ℕ). IsIdIn id z) s.1 is_in) in
    subst (λ (z : ℕ). (x : ℕ) × Has xs z x) (sym same) (named xs s.0 a s.4)
ids_known xs w (two a b) id s is_in = ⊎_elim
    (λ (e : id ≡ s.0). subst (λ (z : ℕ). (x : ℕ) × Has xs z x) (sym e) (named xs s.0 a s.7))
    (λ (e : id ≡ s.1). subst (λ (z : ℕ). (x : ℕ) × Has xs z x) (sym e) (named xs s.1 b s.8))
    (only_in_two s.0 s.1 id s.3 s.4 (subst (λ (z : ℕ). IsIdIn id z) s.2 is_in))

-- a word that stands for a part is not empty
pub word_full : (xs : Map) (w : ℕ) (p : Part) → WordStands xs w p → w ≡ 0 → ⊥
word_full xs w (leaf n) s z = let e = s.0 in omega arith
word_full xs w (one tag a) s z = let e = s.1 in let h = (over_tag tag a s.3).0 in omega arith
word_full xs w (two a b) s z = let e = s.2 in omega arith

-- ---- the cells under one

module _ (all : Map) where
  -- one cell above what is known
  above : (at word : ℕ) (more : Map) → Has all at word → Within more all → IsClosed more → ((id : ℕ) → IsIdIn id word → (w : ℕ) × Has more id w)
      → ((i x : ℕ) → Has more i x → Under all at i) → Learns all [] at ((at, word) ∷ more)
  above at word more here known closed named under = record {
    keeps = λ i x h. absurd h;
    known = λ i x h. ⊎_elim (λ (t : (at ≡ i) × (word ≡ x)). subst (λ (z : ℕ). Has all z x) t.0 (subst (λ (z : ℕ). Has all at z) t.1 here)) (λ (t : Has more i x). known i x t) h;
    closed = λ i x id h is_in. ⊎_elim
        (λ (t : (at ≡ i) × (word ≡ x)). let r = named id (subst (λ (z : ℕ). IsIdIn id z) (sym t.1) is_in) in (r.0, inr r.1))
        (λ (t : Has more i x). let r = closed i x id t is_in in (r.0, inr r.1)) h;
    has = (word, inl (refl, refl));
    only = λ i x h. inr (⊎_elim (λ (t : (at ≡ i) × (word ≡ x)). subst (λ (z : ℕ). Under all at z) t.0 (itself at)) (λ (t : Has more i x). under i x t) h);
  }

  nothing_else : (id : ℕ) (now : Map) → Learns all [] id now → (i x : ℕ) → Has now i x → Under all id i
  nothing_else id now l i x h = ⊎_elim (λ (t : Has [] i x). absurd t) (λ (t : Under all id i). t) (l.only i x h)

  under : (id : ℕ) (p : Part) → Stands all id p → (now : Map) × Learns all [] id now
  under id (leaf n) s = ((id, leaf_word n) ∷ [], above id (leaf_word n) [] s.0 (λ j x h. absurd h) (λ j x k h is_in. absurd h) (λ k is_in. absurd (none_in_leaf n k s.1 is_in)) (λ j x h. absurd h))
  under id (one tag a) s =
      let i : ℕ = s.0 in
      let l = under i a s.4 in
      let w : ℕ = one_word tag i in
      let over = over_tag tag a s.3 in (
        (id, w) ∷ l.0,
        above id w l.0 s.1 l.1.known l.1.closed
            (λ k is_in. subst (λ (z : ℕ). (x : ℕ) × Has l.0 z x) (sym (only_in_one tag i k s.2 over.1 is_in)) l.1.has)
            (λ j x h. below id w i j s.1 (in_one tag i s.2 over.0) (nothing_else i l.0 l.1 j x h)),
      )
  under id (two a b) s =
      let i : ℕ = s.0 in
      let k : ℕ = s.1 in
      let l = under i a s.7 in
      let r = under k b s.8 in
      let w : ℕ = two_word i k in
      let n : Map = l.0 ++ r.0 in (
        (id, w) ∷ n,
        above id w n s.2
            (λ j x h. ⊎_elim (l.1.known j x) (r.1.known j x) (has_either l.0 r.0 j x h))
            (closed_both l.0 r.0 l.1.closed r.1.closed)
            (λ q is_in. ⊎_elim
            (λ (e : q ≡ i). subst (λ (z : ℕ). (x : ℕ) × Has n z x) (sym e) (l.1.has.0, has_left l.0 r.0 i l.1.has.0 l.1.has.1))
            (λ (e : q ≡ k). subst (λ (z : ℕ). (x : ℕ) × Has n z x) (sym e) (r.1.has.0, has_right l.0 r.0 k r.1.has.0 r.1.has.1))
            (only_in_two i k q s.3 s.4 is_in))
            (λ j x h. ⊎_elim
            (λ (t : Has l.0 j x). below id w i j s.2 (in_two_first i k s.3 s.4) (nothing_else i l.0 l.1 j x t))
            (λ (t : Has r.0 j x). below id w k j s.2 (in_two_second i k s.3 s.4) (nothing_else k r.0 r.1 j x t))
            (has_either l.0 r.0 j x h)),
      )

  -- there are cells that a view learns with an id that stands for a part
  pub can_learn : (had : Map) (id : ℕ) (p : Part) → Within had all → IsClosed had → Stands all id p → (now : Map) × Learns all had id now
  can_learn had id p known closed s =
      let l = under id p s in
      let now : Map = had ++ l.0 in (
        now,
        record {
          keeps = has_left had l.0;
          known = λ i x h. ⊎_elim (known i x) (l.1.known i x) (has_either had l.0 i x h);
          closed = closed_both had l.0 closed l.1.closed;
          has = (l.1.has.0, has_right had l.0 id l.1.has.0 l.1.has.1);
          only = λ i x h. ⊎_elim (λ (t : Has had i x). inl t) (λ (t : Has l.0 i x). inr (nothing_else id l.0 l.1 i x t)) (has_either had l.0 i x h);
        },
      )

-- ---- the laws where ids stand for parts

pub part_laws : (valid : List ℕ → List ℕ → ℕ → Type 0) (part : List ℕ → List ℕ → ℕ → Part) → AreKept valid part → Laws (by_part valid part)
part_laws valid part kept = record {
  grows = kept.keys;
  names = λ base log cells key id s. named cells id (part base log key) s.1;
  stays = λ base log log' cells cells' key id p more s. let long = prefix_length log log' p in let v = s.0 in
      (omega arith, stands_more cells cells' more id (part base log' key) (subst (λ (q : Part). Stands cells id q) (kept.parts base log log' key p s.0) s.1));
  shrinks = λ base log log' cells cells' key id p le map more closed has s.
      (le, stands_less cells cells' map more closed id (part base log key) has (subst (λ (q : Part). Stands cells' id q) (sym (kept.parts base log log' key p le)) s.1));
}
