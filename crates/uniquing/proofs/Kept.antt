-- The full cells at close are the parts that were asked for.
use Rattle.std.proofs.Common.{◌≡◌, ◌⊎◌, ℕ, suc, ◌<◌, ◌≤◌, ◌==◌, ◌&&◌, Bool, true, false, List, [], ◌∷◌, length, get_or, refl, sym, ap, ◌∙◌, subst, inl, inr, ⊎_elim, min, arith, eq-eqb, ne_eqb}
use Rattle.std.proofs.lemmas.Bool.{cases_eq, cond-true, cond-false}
use Rattle.step_core.specs.Accesses.{won_cells, is_entry, entries}
use Rattle.step_core.specs.Cells.{Stands}
use Rattle.step_core.specs.Good.{AreCells}
use Rattle.step_core.specs.Maps.{Map, Has, Within, full_from, full_places}
use Rattle.step_core.specs.Meaning.{Meaning}
use Rattle.step_core.specs.Parts.{Part}
use Rattle.step_core.proofs.Fullness.{full_stands, full_map, has_full, full_inside}
use Rattle.step_core.proofs.SameParts.{same_place, same_part, parts_stand}
use Rattle.step_core.proofs.Standing.{named, stands_more}
use Rattle.uniquing.specs.Closing.{IsAmong, AreApart, Asked, IsAsked, HoldAsked, AreDistinct, Closes, Counts}
use Rattle.uniquing.proofs.Histories.{lacks_wider}

-- ---- entries of maps

has_entries : (xs : Map) (at word : ℕ) → Has xs at word → 1 ≤ entries at word xs
has_entries [] at word h = absurd h
has_entries (x ∷ xs) at word h = ⊎_elim
    (λ (t : (x.0 ≡ at) × (x.1 ≡ word)). let e : is_entry at word x ≡ 1 = entry_is x at word t.0 t.1 in omega arith)
    (λ (t : Has xs at word). let r = has_entries xs at word t in omega arith)
    h
  where
    entry_is : (x : ℕ × ℕ) (at word : ℕ) → x.0 ≡ at → x.1 ≡ word → is_entry at word x ≡ 1
    entry_is x at word e f = cond-true {A = ℕ} ((x.0 == at) && (x.1 == word)) 1 0 (rw (eq-eqb x.0 at e, eq-eqb x.1 word f) refl)

entries_have : (xs : Map) (at word : ℕ) → 1 ≤ entries at word xs → Has xs at word
entries_have [] at word h = absurd (omega arith)
entries_have (x ∷ xs) at word h = ⊎_elim
    (λ (e : x.0 ≡ at). ⊎_elim
    (λ (f : x.1 ≡ word). inl (e, f))
    (λ (ne : x.1 ≡ word → ⊥). let none : is_entry at word x ≡ 0 = other_word x at word ne in inr (entries_have xs at word (omega arith)))
    (cases_eq x.1 word))
    (λ (ne : x.0 ≡ at → ⊥). let none : is_entry at word x ≡ 0 = other_place x at word ne in inr (entries_have xs at word (omega arith)))
    (cases_eq x.0 at)
  where
    other_place : (x : ℕ × ℕ) (at word : ℕ) → (x.0 ≡ at → ⊥) → is_entry at word x ≡ 0
    other_place x at word ne = rw (ne_eqb x.0 at ne) refl

    both_false : (b : Bool) → (b && false) ≡ false
    both_false true = refl
    both_false false = refl

    other_word : (x : ℕ × ℕ) (at word : ℕ) → (x.1 ≡ word → ⊥) → is_entry at word x ≡ 0
    other_word x at word ne = cond-false {A = ℕ} ((x.0 == at) && (x.1 == word)) 1 0 (ap (λ (b : Bool). (x.0 == at) && b) (ne_eqb x.1 word ne) ∙ both_false (x.0 == at))

-- ---- the full places of a list

from_empty : (k w : ℕ) (ws : List ℕ) → w ≡ 0 → full_from k (w ∷ ws) ≡ full_from (suc k) ws
from_empty k w ws z = cond-true {A = Map} (w == 0) (full_from (suc k) ws) ((k, w) ∷ full_from (suc k) ws) (eq-eqb w 0 z)

from_full : (k w : ℕ) (ws : List ℕ) → (w ≡ 0 → ⊥) → full_from k (w ∷ ws) ≡ (k, w) ∷ full_from (suc k) ws
from_full k w ws ne = cond-false {A = Map} (w == 0) (full_from (suc k) ws) ((k, w) ∷ full_from (suc k) ws) (ne_eqb w 0 ne)

at_most : (k : ℕ) (ws : List ℕ) → length (full_from k ws) ≤ length ws
at_most k [] = omega arith
at_most k (w ∷ ws) =
    let r = at_most (suc k) ws in
    ⊎_elim
    (λ (z : w ≡ 0). let e = ap length (from_empty k w ws z) in omega arith)
    (λ (ne : w ≡ 0 → ⊥). let e = ap length (from_full k w ws ne) in omega arith)
    (cases_eq w 0)

all_full : (k : ℕ) (ws : List ℕ) → ((j : ℕ) → j < length ws → get_or ws j 0 ≡ 0 → ⊥) → length (full_from k ws) ≡ length ws
all_full k [] full = refl
all_full k (w ∷ ws) full = ap length (from_full k w ws (full 0 (omega arith))) ∙ ap suc (all_full (suc k) ws (λ j lt. full (suc j) (omega arith)))

-- ---- the parts of the cells

module _ (cells : List ℕ) (c : AreCells cells) where
  -- the parts that stand in these cells, each once
  pub record Kept (xs : Map) (kept : List Part) : Type 0 where
    apart : AreApart kept
    each : (q : Part) → IsAmong q kept → (id : ℕ) × (w : ℕ) × Has xs id w × Stands (full_places cells) id q
    every : (q : Part) (id w : ℕ) → Has xs id w → Stands (full_places cells) id q → IsAmong q kept
    count : length kept ≡ length xs

  one_more : (k w : ℕ) (ws : List ℕ) (kept : List Part) (p : Part) → Stands (full_places cells) k p → Kept (full_from (suc k) ws) kept → Kept ((k, w) ∷ full_from (suc k) ws) (p ∷ kept)
  one_more k w ws kept p s r = record {
    apart = (
      λ i.
          let t = r.each p i in
          let same = same_place (full_places cells) c.once p t.0 k t.3 s in
          let f = full_stands (suc k) ws t.0 t.1 t.2 in
          let at = f.1 in
          omega arith,
      r.apart,
    );
    each = λ q i. ⊎_elim
        (λ (e : q ≡ p). (k, w, inl (refl, refl), subst (λ (z : Part). Stands (full_places cells) k z) (sym e) s))
        (λ (t : IsAmong q kept). let u = r.each q t in (u.0, u.1, inr u.2, u.3))
        i;
    every = λ q id x h t. ⊎_elim
        (λ (e : (k ≡ id) × (w ≡ x)). inl (same_part (full_places cells) (full_map cells) q p k (subst (λ (z : ℕ). Stands (full_places cells) z q) (sym e.0) t) s))
        (λ (u : Has (full_from (suc k) ws) id x). inr (r.every q id x u t))
        h;
    count = ap suc r.count;
  }

  keeps : (k : ℕ) (ws : List ℕ) → Within (full_from k ws) (full_places cells) → (kept : List Part) × Kept (full_from k ws) kept
  keeps k [] g = ([], record { apart = tt; each = λ q i. absurd i; every = λ q id w h t. absurd h; count = refl })
  keeps k (w ∷ ws) g = ⊎_elim
      (λ (z : w ≡ 0).
      let e = from_empty k w ws z in
      let r = keeps (suc k) ws (λ at x h. g at x (subst (λ (l : Map). Has l at x) (sym e) h)) in
      (r.0, subst (λ (l : Map). Kept l r.0) (sym e) r.1))
      (λ (ne : w ≡ 0 → ⊥).
      let e = from_full k w ws ne in
      let r = keeps (suc k) ws (λ at x h. g at x (subst (λ (l : Map). Has l at x) (sym e) (inr h))) in
      let p = c.parts k w (g k w (subst (λ (l : Map). Has l k w) (sym e) (inl (refl, refl)))) in
      (p.0 ∷ r.0, subst (λ (l : Map). Kept l (p.0 ∷ r.0)) (sym e) (one_more k w ws r.0 p.0 p.1 r.1)))
      (cases_eq w 0)

  pub kept_all : (kept : List Part) × Kept (full_places cells) kept
  kept_all = keeps 0 cells (λ at x h. h)

-- ---- at close

inside : (cells : List ℕ) (id x : ℕ) → Has (full_places cells) id x → id < length cells
inside cells id x h = let f = has_full cells id x h in full_inside cells id x f.0 f.1

pub closes : (m : Meaning) → Closes m
closes m base count words w asked g live h =
    let all : Map = full_places words.cells in
    let known : Within w.cells all = (g.fits 0 w refl live).cells in
    record {
      each = λ id q s.
          let n = named all id q s in
          let sum = g.won.cells id n.0 in
          let some = has_entries all id n.0 n.1 in
          let won = entries_have (won_cells w.events) id n.0 (omega arith) in
          let f = h.fills id n.0 won in
          let same : f.0 ≡ q = same_part all (full_map words.cells) f.0 q id (stands_more w.cells all known id f.0 f.2) s in
          subst (λ (p : Part). IsAsked p asked) same f.1;
      answered = λ a i e q o.
          let s = (h.told a i).0 e in
          let p = parts_stand w.cells a.whole q s.0 s.1 o in
          (p.0, stands_more w.cells all known p.0 q p.1);
      lacking = λ a i e. lacks_wider (length words.cells) w.cells all a.whole (full_map words.cells) (inside words.cells) known ((h.told a i).1 e);
    }

-- ---- lists whose parts are apart are counted by what is among them

-- the list without the element at this place
abbrev without : (ys : List Part) (x : Part) → IsAmong x ys → List Part
without [] x i = []
without (y ∷ ys) x (inl e) = ys
without (y ∷ ys) x (inr i) = y ∷ without ys x i

shorter : (ys : List Part) (x : Part) (i : IsAmong x ys) → length ys ≡ suc (length (without ys x i))
shorter [] x i = absurd i
shorter (y ∷ ys) x (inl e) = refl
shorter (y ∷ ys) x (inr i) = ap suc (shorter ys x i)

still : (ys : List Part) (x z : Part) (i : IsAmong x ys) → IsAmong z ys → (z ≡ x → ⊥) → IsAmong z (without ys x i)
still [] x z i j ne = absurd i
still (y ∷ ys) x z (inl e) (inl f) ne = absurd (ne (f ∙ sym e))
still (y ∷ ys) x z (inl e) (inr j) ne = j
still (y ∷ ys) x z (inr i) (inl f) ne = inl f
still (y ∷ ys) x z (inr i) (inr j) ne = inr (still ys x z i j ne)

no_more : (xs ys : List Part) → AreApart xs → ((q : Part) → IsAmong q xs → IsAmong q ys) → length xs ≤ length ys
no_more [] ys a f = omega arith
no_more (x ∷ xs) ys a f =
    let i : IsAmong x ys = f x (inl refl) in
    let r = no_more xs (without ys x i) a.1 (λ q j. still ys x q i (f q (inr j)) (λ e. a.0 (subst (λ (z : Part). IsAmong z xs) e j))) in
    let s = shorter ys x i in
    omega arith

any_full : (asked : List Asked) → ((a : Asked) × IsAmong a asked × (a.full ≡ true)) ⊎ ((a : Asked) → IsAmong a asked → a.full ≡ false)
any_full [] = inr (λ a i. absurd i)
any_full (z ∷ asked) = pick z asked z.full refl (any_full asked)
  where
    pick : (z : Asked) (asked : List Asked) (b : Bool) → z.full ≡ b → ((a : Asked) × IsAmong a asked × (a.full ≡ true)) ⊎ ((a : Asked) → IsAmong a asked → a.full ≡ false)
        → ((a : Asked) × IsAmong a (z ∷ asked) × (a.full ≡ true)) ⊎ ((a : Asked) → IsAmong a (z ∷ asked) → a.full ≡ false)
    pick z asked true e r = inl (z, inl refl, e)
    pick z asked false e (inl t) = inl (t.0, inr t.1, t.2)
    pick z asked false e (inr n) = inr (λ a i. ⊎_elim (λ (s : a ≡ z). ap (λ (y : Asked). y.full) s ∙ e) (λ (t : IsAmong a asked). n a t) i)

module _ (cells : List ℕ) (c : AreCells cells) (asked : List Asked) (h : HoldAsked cells asked) (all : List Part) (d : AreDistinct all asked) where
  -- where all cells are full
  full_count : (a : Asked) → IsAmong a asked → a.full ≡ true → length (full_places cells) ≡ length cells
  full_count a i e = all_full 0 cells (λ j lt. let f = (h.lacking a i e).full j lt in let r = has_full cells j f.0 f.1 in λ z. r.1 (sym r.0 ∙ z))

  kept_asked : (q : Part) → IsAmong q (kept_all cells c).0 → IsAmong q all
  kept_asked q i = let t = (kept_all cells c).1.each q i in d.every q (h.each t.0 q t.3)

  less : length (full_places cells) ≤ length all
  less =
      let k = kept_all cells c in
      let l = no_more k.0 all k.1.apart kept_asked in
      let e = k.1.count in
      omega arith

  more : ((a : Asked) → IsAmong a asked → a.full ≡ false) → length all ≤ length (full_places cells)
  more none =
      let k = kept_all cells c in
      let l = no_more all k.0 d.apart (λ q i.
      let t = d.each q i in
      let s = h.answered t.0 t.1 (none t.0 t.1) q t.2 in
      let n = named (full_places cells) s.0 q s.1 in
      k.1.every q s.0 n.0 n.1 s.1) in
      let e = k.1.count in
      omega arith

  too_many : (a : Asked) → IsAmong a asked → a.full ≡ true → length all ≤ length cells → ⊥
  too_many a i e fits =
      let k = kept_all cells c in
      let l = h.lacking a i e in
      let apart : IsAmong l.part k.0 → ⊥ = λ j. (let t = k.1.each l.part j in l.nowhere t.0 t.3) in
      let r = no_more (l.part ∷ k.0) all (apart, k.1.apart) (λ q j. ⊎_elim (λ (s : q ≡ l.part). subst (λ (z : Part). IsAmong z all) (sym s) (d.every l.part (a, i, l.is_part))) (λ (t : IsAmong q k.0). kept_asked q t) j) in
      let n = full_count a i e in
      let e' = k.1.count in
      omega arith

  never : (a : Asked) → IsAmong a asked → length all ≤ length cells → (b : Bool) → a.full ≡ b → b ≡ false
  never a i fits false e = refl
  never a i fits true e = absurd (too_many a i e fits)

  pub counted : (length (full_places cells) ≡ min (length all) (length cells)) × (length all ≤ length cells → (a : Asked) → IsAmong a asked → a.full ≡ false)
  counted = (
    ⊎_elim
        (λ (t : (a : Asked) × IsAmong a asked × (a.full ≡ true)). let n = full_count t.0 t.1 t.2 in let l = less in omega arith)
        (λ (none : (a : Asked) → IsAmong a asked → a.full ≡ false). let l = less in let k = more none in let most = at_most 0 cells in omega arith)
        (any_full asked),
    λ fits a i. never a i fits a.full refl,
  )

pub counts : (m : Meaning) → Counts m
counts m base count words w asked all g live h d = counted words.cells g.are_cells asked (closes m base count words w asked g live h) all d
