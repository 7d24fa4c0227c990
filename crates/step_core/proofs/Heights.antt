-- No part is higher than there are cells, since the cells above one another are different.
use Rattle.std.proofs.Common.{◌≡◌, ℕ, suc, ◌<◌, ◌≤◌, ◌⊎◌, inl, inr, eqb, ◌||◌, Bool, true, false, List, [], ◌∷◌, length, refl, sym, ap, ◌∙◌, subst, ⊎_elim, arith, max, eqb-true, true≢false}
use Rattle.std.specs.List.{IsDistinct, AllByRecursion, list_any}
use Rattle.std.proofs.lemmas.Bool.{cases_lt}
use Rattle.std.proofs.lemmas.Map.Steps.{length-le_from_distinct_below}
use Rattle.step_core.specs.Maps.{Map, IsMap, full_places}
use Rattle.step_core.specs.Parts.{Part, leaf, one, two, height}
use Rattle.step_core.specs.Cells.{Stands}
use Rattle.step_core.proofs.Fullness.{full_map, has_full, full_inside}
use Rattle.step_core.proofs.Standing.{named}
use Rattle.step_core.proofs.SameParts.{same_part}

true_or_false : (b : Bool) → (b ≡ true) ⊎ (b ≡ false)
true_or_false true = inl refl
true_or_false false = inr refl

or_true : (a b : Bool) → (a || b) ≡ true → (a ≡ true) ⊎ (b ≡ true)
or_true true b e = inl refl
or_true false b e = inr e

all_apart : (id : ℕ) (l : List ℕ) → list_any (eqb id) l ≡ false → AllByRecursion (λ y. eqb id y ≡ false) l
all_apart id [] e = tt
all_apart id (x ∷ xs) e = ⊎_elim
    (λ (t : eqb id x ≡ true). absurd (true≢false (sym (ap (λ (b : Bool). b || list_any (eqb id) xs) t) ∙ e)))
    (λ (f : eqb id x ≡ false). (f, all_apart id xs (sym (ap (λ (b : Bool). b || list_any (eqb id) xs) f) ∙ e)))
    (true_or_false (eqb id x))

module _ (cells : Map) (map : IsMap cells) where
  -- different cells, as many as the height, which stand for parts of at most this height
  record Chain (h : ℕ) : Type 0 where
    ids : List ℕ
    long : length ids ≡ h
    apart : IsDistinct eqb ids
    lower : (q : ℕ) → list_any (eqb q) ids ≡ true → (p : Part) × Stands cells q p × (height p ≤ h)

  longer : (id : ℕ) (p : Part) (h : ℕ) → Stands cells id p → height p ≡ suc h → Chain h → Chain (suc h)
  unfolding IsDistinct
  longer id p h s e c = record {
    ids = id ∷ c.ids;
    long = ap suc c.long;
    apart = (
      all_apart id c.ids (⊎_elim
          (λ (t : list_any (eqb id) c.ids ≡ true). let r = c.lower id t in let le = r.2 in let same : height r.0 ≡ height p = ap height (same_part cells map r.0 p id r.1 s) in absurd (omega arith))
          (λ (f : list_any (eqb id) c.ids ≡ false). f)
          (true_or_false (list_any (eqb id) c.ids))),
      c.apart,
    );
    lower = λ q t. ⊎_elim
        (λ (u : eqb q id ≡ true). (p, subst (λ (z : ℕ). Stands cells z p) (sym (eqb-true q id u)) s, omega arith))
        (λ (u : list_any (eqb q) c.ids ≡ true). let r = c.lower q u in let le = r.2 in (r.0, r.1, omega arith))
        (or_true (eqb q id) (list_any (eqb q) c.ids) t);
  }

  chain : (p : Part) (id : ℕ) → Stands cells id p → Chain (height p)
  unfolding IsDistinct
  chain (leaf n) id s = longer id (leaf n) 0 s refl (record { ids = []; long = refl; apart = tt; lower = λ q t. absurd (true≢false (sym t)) })
  chain (one tag a) id s = longer id (one tag a) (height a) s refl (chain a s.0 s.4)
  chain (two a b) id s = longer id (two a b) (max (height a) (height b)) s refl (⊎_elim
      (λ (lt : height a < height b). let e : height b ≡ max (height a) (height b) = omega arith in subst Chain e (chain b s.1 s.8))
      (λ (ge : height b ≤ height a). let e : height a ≡ max (height a) (height b) = omega arith in subst Chain e (chain a s.0 s.7))
      (cases_lt (height a) (height b)))

pub low : (cells : List ℕ) (p : Part) (id : ℕ) → Stands (full_places cells) id p → height p ≤ length cells
low cells p id s =
    let c = chain (full_places cells) (full_map cells) p id s in
    let l = length-le_from_distinct_below c.ids (length cells) c.apart (λ q t.
    let r = c.lower q t in let w = named (full_places cells) q r.0 r.1 in let f = has_full cells q w.0 w.1 in full_inside cells q w.0 f.0 f.1) in
    let e = c.long in
    omega arith
